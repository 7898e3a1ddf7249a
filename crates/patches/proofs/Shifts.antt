-- A search in one chunk's part of the indices.
use Rattle.std.proofs.Common.{◌≡◌, ℕ, ◌+◌, ◌-◌, ◌/◌, ◌<◌, ◌≤◌, sym, ap, ◌∙◌, inl, inr, arith}
use Rattle.std.proofs.lemmas.Bool.{cases_lt}
use Rattle.search_sorted.specs.declared.search.SearchResult.{SearchResult}
use Rattle.search_sorted.specs.declared.search.SearchResult.TheVariants.{Found, NotFound}
use Rattle.search_sorted.proofs.Lefts.{Split, Finds}
use Rattle.search_sorted.specs.declared.packed.Packed.{Packed}
use Rattle.search_sorted.specs.Numbers.{count, number, PartOf}
use Rattle.patches.specs.Chunks.{phase, chunk_start}
use Rattle.patches.specs.declared.column.Column.{Column}
use Rattle.patches.specs.Columns.{index, patches}
use Rattle.patches.specs.Lookups.{Places, shifted}
use Rattle.patches.proofs.Unders.{place_below, place_past}

module _ (f g : ℕ → ℕ) (n m x lo hi : ℕ) (count : m ≡ hi - lo) (top : hi ≤ n) (order : lo ≤ hi) (same : (i : ℕ) → i < m → g i ≡ f (lo + i)) (below : (k : ℕ) → k < lo → f k < x) (above : (k : ℕ) → hi ≤ k → k < n → x < f k) where
  pub shift_split : (i : ℕ) → Split g m x i → Split f n x (lo + i)
  shift_split i s = record {
    within = omega (arith, s.within);
    before = λ k h.
        elim (cases_lt k lo) [
          | inl l ↦ below k l
          | inr l ↦
              let back : lo + (k - lo) ≡ k = omega arith in
              let here : g (k - lo) ≡ f k = same (k - lo) (omega (arith, s.within)) ∙ ap f back in
              omega (arith, s.before (k - lo) (omega arith), here)
        ];
    after = λ k h l.
        elim (cases_lt k hi) [
          | inl q ↦
              let back : lo + (k - lo) ≡ k = omega arith in
              let here : g (k - lo) ≡ f k = same (k - lo) (omega arith) ∙ ap f back in
              omega (arith, s.after (k - lo) (omega arith) (omega arith), here)
          | inr q ↦ omega (arith, above k q l)
        ];
  }

  absent : ((k : ℕ) → k < m → g k ≡ x → ⊥) → (k : ℕ) → k < n → f k ≡ x → ⊥
  absent none k h e =
      elim (cases_lt k lo) [
        | inl l ↦ omega (arith, below k l)
        | inr l ↦
            elim (cases_lt k hi) [
              | inl q ↦
                  let back : lo + (k - lo) ≡ k = omega arith in
                  none (k - lo) (omega arith) (same (k - lo) (omega arith) ∙ ap f back ∙ e)
              | inr q ↦ omega (arith, above k q h)
            ]
      ]

  -- the answer among the whole is the answer in the part, counted from where the part begins
  pub shift_finds : (r : SearchResult) → Finds g m x r → Finds f n x (shifted lo r)
  shift_finds (Found i) a = (omega (arith, a.0), sym (same i a.0) ∙ a.1, shift_split i a.2)
  shift_finds (NotFound i) a = (absent a.0, shift_split i a.1)

-- the answer in the chunk of a row
module _ {V : Type 0} (c : Column V) (q : Packed) (row chunk lo hi : ℕ) (is : chunk ≡ (phase c.offset + row) / 1024) (at : Places c (chunk_start c.offset chunk) (chunk_start c.offset (chunk + 1)) lo hi) (part : PartOf c.indices.numbers q lo hi) where
  pub part_count : count q ≡ hi - lo
  part_count = omega (arith, part.counted, at.within)

  pub part_within : (i : ℕ) → i ≤ count q → lo + i ≤ patches c
  part_within i h = omega (arith, part_count, at.within, at.order)

  pub chunk_finds : (r : SearchResult) → Finds (number q) (count q) (c.offset + row) r → Finds (index c) (patches c) (c.offset + row) (shifted lo r)
  chunk_finds =
      shift_finds (index c) (number q) (patches c) (count q) (c.offset + row) lo hi part_count at.within at.order part.each
      (λ k h. omega (arith, place_below c _ _ lo hi at k h))
      (λ k h l. omega (arith, place_past c _ _ lo hi at k h l))
