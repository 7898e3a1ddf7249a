-- The patched rows of an assignment, each with its value, in rising order.
use Rattle.std.specs.Prelude.{ℕ, zero, suc, ◌+◌, ◌-◌, List, [], ◌∷◌, map, Some, None}
use Rattle.patches.specs.declared.iter.PatchedRows.{PatchedRows}
use Rattle.patches.specs.declared.iter.Patches.{Patches}
use Rattle.patches.specs.Assignments.{Patch, Assignment}

-- a row with its value in front of others, where it has a patch
abbrev pub with_patch : {V : Type 0} → ℕ → Patch V → List (ℕ × V) → List (ℕ × V)
with_patch row None others = others
with_patch row (Some value) others = (row, value) ∷ others

-- those among n rows from one on
abbrev pub listed : {V : Type 0} → (ℕ → Patch V) → ℕ → ℕ → List (ℕ × V)
listed patch row zero = []
listed patch row (suc n) = with_patch row (patch row) (listed patch (row + 1) n)

-- those among all rows from one on
abbrev pub listed_from : {V : Type 0} → Assignment V → ℕ → List (ℕ × V)
listed_from m row = listed m.patch row (m.rows - row)

-- those that are still to come from an iterator over a set's patches, where sets have this meaning
abbrev pub to_come : {S V : Type 0} → (S → Assignment V) → Patches S → List (ℕ × V)
to_come meaning p = listed_from (meaning p.set.now) p.from

-- the row of a row with its value
abbrev pub row_of : {V : Type 0} → ℕ × V → ℕ
row_of item = item.0

-- the patched rows alone among all rows from one on
abbrev pub rows_listed_from : {V : Type 0} → Assignment V → ℕ → List ℕ
rows_listed_from m row = map row_of (listed_from m row)

-- those that are still to come from an iterator over a set's patched rows, where sets have this meaning
abbrev pub rows_to_come : {S V : Type 0} → (S → Assignment V) → PatchedRows S → List ℕ
rows_to_come meaning p = rows_listed_from (meaning p.set.now) p.from
