-- Narrowing a column: what the new column holds of the old.
use Rattle.std.proofs.Common.{◌≡◌, ℕ, ◌+◌, ◌-◌, ◌<◌, ◌≤◌, true, false, length, take, drop, eqb, ltb, Some, None, Option, sym, ap, ◌∙◌, subst, inl, inr, arith}
use Rattle.std.specs.Bool.{then_some}
use Rattle.std.proofs.lemmas.Bool.{cases_Bool, cases_lt, false≢true, cond-true, cond-false, lt-ltb, le-ltb, eq-eqb, ne_eqb}
use Rattle.search_sorted.specs.declared.packed.Packed.{Packed}
use Rattle.search_sorted.specs.Numbers.{count, number, PartOf}
use Rattle.patches.specs.declared.column.Column.{Column}
use Rattle.patches.specs.declared.table.ChunkOffsets.{ChunkOffsets}
use Rattle.patches.specs.Indices.{count_under, Inside, seek}
use Rattle.patches.specs.Tables.{has_table}
use Rattle.patches.specs.Columns.{patches, index, patch_at}
use Rattle.patches.specs.Lookups.{Places}
use Rattle.patches.specs.Narrows.{KeptTable, KeepsTable, remaining}
use Rattle.patches.proofs.Unders.{place_from, place_below, place_to, place_past}
use Rattle.patches.proofs.Kept.{Good, good_kept}
use Rattle.patches.proofs.Cuts.{cut_seek, cut_length}

-- what is known of the new chunk data where some patch remains, and where none does
abbrev pub Info : Option ChunkOffsets → Option ChunkOffsets → ℕ → ℕ → ℕ → ℕ → ℕ → Type 0
Info t u offset a b from to = has_table u ≡ true → (from < to) × (has_table t ≡ true) × KeptTable t u offset a b from

pub info_some : (t u r : Option ChunkOffsets) (offset a b from to : ℕ) → u ≡ r → from < to → KeepsTable t r offset a b from → Info t u offset a b from to
info_some t u r offset a b from to e lt keeps has =
    let k = subst (λ o. KeepsTable t o offset a b from) (sym e) keeps in
    (lt, sym k.0 ∙ has, k.1 has)

pub info_none : (t u : Option ChunkOffsets) (offset a b from to : ℕ) → u ≡ None → Info t u offset a b from to
info_none t u offset a b from to e has = absurd (false≢true (sym (ap has_table e) ∙ has))

-- a column's own facts on its chunk data
pub good_own : {V : Type 0} (c : Column V) → Good (index c) (patches c) c.chunks c.offset c.rows
good_own c = record { some = c.some; tabled = c.tabled; near = c.near; low = c.low; counted = c.counted }

module _ {V : Type 0} (c : Column V) (a b from to : ℕ) (ab : a ≤ b) (brows : b ≤ c.rows) (at : Places c (c.offset + a) (c.offset + b) from to) where
  module _ (q : Packed) (part : PartOf c.indices.numbers q from to) where
    pub part_count : count q ≡ to - from
    part_count = omega (arith, part.counted, at.within)

    -- the indices that remain lie among the rows that remain
    pub part_inside : Inside (number q) (count q) (c.offset + a) (b - a)
    part_inside i h =
        let place : from + i < patches c = omega (arith, part_count, at.within, at.order) in
        let low : c.offset + a ≤ index c (from + i) = place_from c _ _ from to at (from + i) (omega arith) place in
        let high : index c (from + i) < c.offset + b = place_to c _ _ from to at (from + i) (omega (arith, part_count)) in
        rw (part.each i h) (low, omega arith)

    pub part_paired : length (take (to - from) (drop from c.values.now)) ≡ count q
    part_paired = cut_length c.values.now (patches c) from to c.paired at.order at.within ∙ sym part_count

    pub part_good : (u : Option ChunkOffsets) → Info c.chunks u c.offset a b from to → Good (number q) (count q) u (c.offset + a) (b - a)
    part_good u info = good_kept (index c) (number q) (patches c) (count q) c.offset c.rows c.indices.up c.inside c.chunks (good_own c) a b from to brows ab at.from_is at.to_is part_count part.each u info

    -- a row that remains has the patch that it had
    pub part_patched : (k : ℕ) → k < b - a → seek (number q) (c.offset + a + k) 0 (take (to - from) (drop from c.values.now)) ≡ patch_at c (a + k)
    part_patched k h =
        let e : c.offset + a + k ≡ c.offset + (a + k) = omega arith in
        rw e
        (cut_seek (index c) (number q) c.values.now (patches c) from to (c.offset + (a + k)) c.paired at.order at.within
        (λ i l. part.each i (omega (arith, part_count)))
        (λ i l z. omega (arith, place_below c _ _ from to at i l))
        (λ i l m z. omega (arith, place_past c _ _ from to at i l m)))

    pub part_counted : count q ≡ count_under (index c) (patches c) (c.offset + b) - from
    part_counted = omega (arith, part_count, at.to_is)

    pub part_left : then_some (ltb from to) (to - from) ≡ remaining (count q)
    part_left =
        elim (cases_lt from to) [
          | inl lt ↦ rw (lt-ltb from to lt) (ap Some (sym part_count) ∙ sym (cond-false (eqb (count q) 0) None (Some (count q)) (ne_eqb (count q) 0 (λ e. omega (arith, part_count)))))
          | inr ge ↦ rw (le-ltb from to ge) (sym (cond-true (eqb (count q) 0) None (Some (count q)) (eq-eqb (count q) 0 (omega (arith, part_count)))))
        ]

    module _ (u : Option ChunkOffsets) (info : Info c.chunks u c.offset a b from to) where
      -- chunk data go with the last patch, and with no other
      pub table_gone : count q ≡ 0 → has_table u ≡ false
      table_gone none =
          elim (cases_Bool (has_table u)) [
            | inl has ↦ absurd (omega (arith, (info has).0, part_count))
            | inr has ↦ has
          ]

      pub table_stays : (from < to → has_table u ≡ has_table c.chunks) → 0 < count q → has_table u ≡ has_table c.chunks
      table_stays kept some = kept (omega (arith, part_count))
