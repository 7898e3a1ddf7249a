-- The rows from a up to b of a patch set, as a patch set.
use Rattle.std.specs.Prelude.{ℕ, ◌+◌, ◌-◌, ◌≤◌, min, cond, Some, None, Option, nat_lt}
use Rattle.std.proofs.Common.{arith}
use Rattle.std.proofs.lemmas.Bool.{cond-false, le-ltb}
use Rattle.patches.specs.Assignments.{Patch, Assignment}
use Rattle.patches.specs.Chunks.{limit}

-- the ends after they are lowered: b to the rows, and then a to b
abbrev pub end_in : ℕ → ℕ → ℕ
end_in b rows = min b rows

abbrev pub start_in : ℕ → ℕ → ℕ → ℕ
start_in a b rows = min a (end_in b rows)

-- how many rows lie from a up to b
abbrev pub span_in : ℕ → ℕ → ℕ → ℕ
span_in a b rows = end_in b rows - start_in a b rows

-- the ends, in the set below, of the rows from a up to b of its rows from first up to end
abbrev pub narrowed_first : ℕ → ℕ → ℕ → ℕ → ℕ → ℕ
narrowed_first rows first end a b = start_in first end rows + start_in a b (span_in first end rows)

abbrev pub narrowed_end : ℕ → ℕ → ℕ → ℕ → ℕ
narrowed_end rows first end b = start_in first end rows + end_in b (span_in first end rows)

-- the row of the set below that row r of the rows from a up to b is, or none past the last
abbrev pub row_in : ℕ → ℕ → ℕ → ℕ → Option ℕ
row_in a b rows r = cond (nat_lt r (span_in a b rows)) (Some (start_in a b rows + r)) None

-- what n rows from a first one on have; past them there is nothing
abbrev pub part_of : {V : Type 0} → (ℕ → Patch V) → ℕ → ℕ → ℕ → Patch V
part_of patch first n r = cond (nat_lt r n) (patch (first + r)) None

-- a part of a set's rows is no more than the limit
pub span_few : (a b rows : ℕ) → rows ≤ limit → span_in a b rows ≤ limit
span_few a b rows few = omega (arith, few)

-- The rows from a up to b of an assignment: row k is its row a + k.
abbrev pub windowed : {V : Type 0} → Assignment V → ℕ → ℕ → Assignment V
windowed m a b = record {
  rows = span_in a b m.rows;
  patch = part_of m.patch (start_in a b m.rows) (span_in a b m.rows);
  few = span_few a b m.rows m.few;
  past = λ r h. cond-false (nat_lt r (span_in a b m.rows)) (m.patch (start_in a b m.rows + r)) None (le-ltb r (span_in a b m.rows) h);
}
