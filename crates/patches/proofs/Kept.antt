-- Chunk data of a narrowed column.
use Rattle.std.proofs.Common.{◌≡◌, ℕ, ◌+◌, ◌-◌, ◌<◌, ◌≤◌, true, Some, None, Option, unwrap_or, sym, refl, ap, ◌∙◌, subst, inl, inr, arith}
use Rattle.std.proofs.lemmas.Bool.{cases_lt, false≢true}
use Rattle.search_sorted.specs.declared.packed.Packed.{Packed}
use Rattle.search_sorted.specs.Packed.{Ascending}
use Rattle.search_sorted.specs.Numbers.{count, number, got, PartOf}
use Rattle.patches.specs.declared.column.Column.{Column}
use Rattle.patches.specs.declared.table.ChunkOffsets.{ChunkOffsets}
use Rattle.patches.specs.Chunks.{phase, count_of_chunks, chunk_start}
use Rattle.patches.specs.Indices.{count_under, Inside}
use Rattle.patches.specs.Columns.{patches, index}
use Rattle.patches.specs.Tables.{has_table, count_of_entries, entry, within}
use Rattle.patches.specs.Narrows.{first_kept, end_kept, KeptTable, KeepsTable}
use Rattle.patches.proofs.Unders.{split_under, under_mono, under_le}
use Rattle.patches.proofs.Judges.{chunks_some, first_got}
use Rattle.patches.proofs.Entries.{under_first}
use Rattle.patches.proofs.Gaps.{under_gap, under_part}

module _ (f : ℕ → ℕ) (n offset rows : ℕ) (inside : Inside f n offset rows) (t : Option ChunkOffsets) (tabled : has_table t ≡ true → count_of_entries t ≡ count_of_chunks offset rows) (counted : (c : ℕ) → 1 ≤ c → c < count_of_entries t → entry t c ≡ entry t 0 + within t + count_under f n (chunk_start offset c)) (has : has_table t ≡ true) (a b : ℕ) (ab : a < b) (brows : b ≤ rows) where
  -- the chunks kept are among the chunks
  pub kept_end : end_kept offset b ≤ count_of_entries t
  kept_end = omega (arith, tabled has, chunks_some offset rows (omega arith))

  pub kept_some : first_kept offset a < end_kept offset b
  kept_some = omega arith

  -- the first entry kept is no more than what entry 0 and within and the dropped patches come to
  pub kept_low : entry t (first_kept offset a) ≤ entry t 0 + within t + count_under f n (offset + a)
  kept_low =
      elim (cases_lt 0 (first_kept offset a)) [
        | inl h ↦ omega (arith, counted (first_kept offset a) h (omega (arith, kept_end, kept_some)), under_mono f (chunk_start offset (first_kept offset a)) (offset + a) n (omega arith))
        | inr h ↦ (let e : first_kept offset a ≡ 0 = omega arith in rw e (omega arith))
      ]

-- the kept chunk data, from a part of the entries
module _ (t : ChunkOffsets) (q : Packed) (offset a b dropped first end base low : ℕ) (first-is : first ≡ first_kept offset a) (end_is : end ≡ end_kept offset b) (within_end : end ≤ count t.entries) (some : first < end) (part : PartOf t.entries q first end) (base-is : base ≡ number t.entries 0 + t.within + dropped) (low-is : low ≡ unwrap_or (got (number q) (count q) 0) 0) where
  pub kept_count : count q ≡ end - first
  kept_count = omega (arith, part.counted)

  pub kept_first : low ≡ number t.entries first
  kept_first =
      let pos : 0 < count q = omega (arith, kept_count) in
      let e : first + 0 ≡ first = omega arith in
      low-is ∙ first_got (number q) (count q) pos ∙ part.each 0 pos ∙ ap (number t.entries) e

  pub kept_table : low ≤ base → (chunks : Option ChunkOffsets) → chunks ≡ Some t → KeepsTable chunks (Some (record { entries = q; within = base - low })) offset a b dropped
  kept_table le chunks own =
      let pos : 0 < count q = omega (arith, kept_count) in
      let first_of : low ≡ number q 0 = low-is ∙ first_got (number q) (count q) pos in
      subst (λ o. KeepsTable o (Some (record { entries = q; within = base - low })) offset a b dropped) (sym own) (
        refl,
        (λ e. record {
          count = omega (arith, kept_count);
          entries = λ c h. part.each c h ∙ ap (λ k. number t.entries (k + c)) first-is;
          base = omega (arith, first_of, base-is);
        }),
      )

-- the same of a column's own chunk data, as narrowing finds them
module _ {V : Type 0} (c : Column V) (t : ChunkOffsets) (own : c.chunks ≡ Some t) (a b : ℕ) (ab : a < b) (brows : b ≤ c.rows) (q : Packed) (dropped first end base low : ℕ) (first-is : first ≡ first_kept c.offset a) (end_is : end ≡ end_kept c.offset b) (part : PartOf t.entries q first end) (base-is : base ≡ number t.entries 0 + t.within + dropped) (low-is : low ≡ unwrap_or (got (number q) (count q) 0) 0) where
  own_end : end ≤ count t.entries
  own_end = rw end_is (subst (λ o. end_kept c.offset b ≤ count_of_entries o) own (kept_end (index c) (patches c) c.offset c.rows c.inside c.chunks c.tabled c.counted (ap has_table own) a b ab brows))

  own_apart : first < end
  own_apart = omega (arith, first-is, end_is)

  -- the first entry kept is no more than what entry 0 and within and the dropped patches come to
  pub own_kept_low : dropped ≡ count_under (index c) (patches c) (c.offset + a) → low ≤ base
  own_kept_low place =
      let first_of : low ≡ number t.entries first = kept_first t q c.offset a b dropped first end base low first-is end_is own_end own_apart part base-is low-is in
      let entry_of : number t.entries (first_kept c.offset a) ≤ number t.entries 0 + t.within + count_under (index c) (patches c) (c.offset + a) =
      subst (λ o. entry o (first_kept c.offset a) ≤ entry o 0 + within o + count_under (index c) (patches c) (c.offset + a)) own
      (kept_low (index c) (patches c) c.offset c.rows c.inside c.chunks c.tabled c.counted (ap has_table own) a b ab brows) in
      omega (arith, first_of ∙ ap (number t.entries) first-is, entry_of, place, base-is)

  pub own_kept_table : dropped ≡ count_under (index c) (patches c) (c.offset + a) → KeepsTable c.chunks (Some (record { entries = q; within = base - low })) c.offset a b dropped
  own_kept_table place = kept_table t q c.offset a b dropped first end base low first-is end_is own_end own_apart part base-is low-is (own_kept_low place) c.chunks own

-- what the ghost fields of a column say of its chunk data
pub record Good (g : ℕ → ℕ) (m : ℕ) (u : Option ChunkOffsets) (offset rows : ℕ) : Type 0 where
  pub some : has_table u ≡ true → 0 < m
  pub tabled : has_table u ≡ true → count_of_entries u ≡ count_of_chunks offset rows
  pub near : within u ≤ phase offset
  pub low : entry u 0 + within u + m ≤ 8589934592
  pub counted : (c : ℕ) → 1 ≤ c → c < count_of_entries u → entry u c ≡ entry u 0 + within u + count_under g m (chunk_start offset c)

module _ (f g : ℕ → ℕ) (n m offset rows : ℕ) (up : Ascending f n) (inside : Inside f n offset rows) (t : Option ChunkOffsets) (good : Good f n t offset rows) (a b from to : ℕ) (brows : b ≤ rows) (ab : a ≤ b) (from_is : from ≡ count_under f n (offset + a)) (to_is : to ≡ count_under f n (offset + b)) (len : m ≡ to - from) (same : (i : ℕ) → i < m → g i ≡ f (from + i)) where
  top : to ≤ n
  top = omega (arith, under_le f (offset + b) n)

  order : from ≤ to
  order = omega (arith, under_mono f (offset + a) (offset + b) n (omega arith))

  apart : from < to → a < b
  apart lt = elim (cases_lt a b) [ inl h ↦ h | inr h ↦ (let e : a ≡ b = omega arith in absurd (omega (arith, from_is, to_is, ap (λ k. count_under f n (offset + k)) e))) ]

  module _ (u : Option ChunkOffsets) (has : has_table t ≡ true) (lt : from < to) (kept : KeptTable t u offset a b from) where
    first : ℕ
    first = first_kept offset a

    kept_tabled : count_of_entries u ≡ count_of_chunks (offset + a) (b - a)
    kept_tabled = omega (arith, kept.count, apart lt, chunks_some (offset + a) (b - a) (omega (arith, apart lt)))

    some_entry : 0 < count_of_entries u
    some_entry = omega (arith, kept.count, apart lt)

    zero_entry : entry u 0 ≡ entry t (first_kept offset a)
    zero_entry = let e : first_kept offset a + 0 ≡ first_kept offset a = omega arith in kept.entries 0 some_entry ∙ ap (entry t) e

    end_within : end_kept offset b ≤ count_of_entries t
    end_within = kept_end f n offset rows inside t good.tabled good.counted has a b (apart lt) brows

    kept_near : within u ≤ phase (offset + a)
    kept_near =
        elim (cases_lt 0 (first_kept offset a)) [
          | inl h ↦
              omega (arith, kept.base, zero_entry, apart lt, end_within, good.counted (first_kept offset a) h (omega (arith, end_within, apart lt)), under_gap f n up (chunk_start offset (first_kept offset a)) (offset + a) (omega arith), from_is)
          | inr h ↦
              (let e : first_kept offset a ≡ 0 = omega arith in
              let z : entry u 0 ≡ entry t 0 = zero_entry ∙ ap (entry t) e in
              let none : count_under f n (chunk_start offset 0) ≡ 0 = under_first f n offset rows inside 0 refl in
              omega (arith, kept.base, z, good.near, from_is, near_zero))
        ]
      where
        -- no index is below the offset, so few are below offset + a
        near_zero : count_under f n (offset + a) ≤ a
        near_zero =
            let none : count_under f n offset ≡ 0 = split_none in
            omega (arith, under_gap f n up offset (offset + a) (omega arith), none)
          where
            split_none : count_under f n offset ≡ 0
            split_none = split_under f offset n 0 (record { within = omega arith; before = λ k h. absurd (omega arith); after = λ k h l. (inside k l).0 })

    kept_counted : (c : ℕ) → 1 ≤ c → c < count_of_entries u → entry u c ≡ entry u 0 + within u + count_under g m (chunk_start (offset + a) c)
    kept_counted c h l =
        let start : chunk_start (offset + a) c ≡ chunk_start offset (first_kept offset a + c) = omega arith in
        let x = chunk_start offset (first_kept offset a + c) in
        let low : from ≤ count_under f n x = omega (arith, from_is, under_mono f (offset + a) x n (omega arith)) in
        let high : count_under f n x ≤ to = omega (arith, to_is, under_mono f x (offset + b) n (omega (arith, kept.count))) in
        let part : from + count_under g m x ≡ count_under f n x = under_part f g n m from to x up len top same low high in
        let here : entry t (first_kept offset a + c) ≡ entry t 0 + within t + count_under f n x = good.counted (first_kept offset a + c) (omega arith) (omega (arith, kept.count, end_within)) in
        let e : count_under g m (chunk_start (offset + a) c) ≡ count_under g m x = ap (count_under g m) start in
        omega (arith, kept.entries c l, here, part, e, kept.base)

  -- the narrowed column's chunk data are as good as the column's own
  pub good_kept : (u : Option ChunkOffsets) → (has_table u ≡ true → (from < to) × (has_table t ≡ true) × KeptTable t u offset a b from) → Good g m u (offset + a) (b - a)
  good_kept None kept = record {
    some = λ e. absurd (false≢true e);
    tabled = λ e. absurd (false≢true e);
    near = omega arith;
    low = omega (arith, good.low, top);
    counted = λ c h l. absurd (omega arith);
  }
  good_kept (Some s) kept =
      let k = kept refl in
      record {
        some = λ e. omega (arith, k.0);
        tabled = λ e. kept_tabled (Some s) k.1 k.0 k.2;
        near = kept_near (Some s) k.1 k.0 k.2;
        low = omega (arith, k.2.base, good.low, top, order);
        counted = kept_counted (Some s) k.1 k.0 k.2;
      }
