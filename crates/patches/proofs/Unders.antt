-- How many rising indices are below a bound.
use Rattle.std.proofs.Common.{◌≡◌, ℕ, zero, suc, ◌+◌, ◌-◌, ◌<◌, ◌≤◌, Bool, true, false, cond, ltb, Decides, sym, ◌∙◌, inl, inr, arith}
use Rattle.std.proofs.lemmas.Bool.{false≢true, cases_lt, cond-true, cond-false, lt-ltb, le-ltb}
use Rattle.search_sorted.specs.Packed.{Ascending}
use Rattle.search_sorted.proofs.Lefts.{Split}
use Rattle.patches.specs.declared.column.Column.{Column}
use Rattle.patches.specs.Indices.{count_under}
use Rattle.patches.specs.Columns.{index, patches}
use Rattle.patches.specs.Lookups.{Places}

module _ (f : ℕ → ℕ) (x : ℕ) where
  one_below : (n : ℕ) → f n < x → ◌≡◌ {A = ℕ} (cond (ltb (f n) x) 1 0) 1
  one_below n h = cond-true (ltb (f n) x) 1 0 (lt-ltb (f n) x h)

  one_above : (n : ℕ) → x ≤ f n → ◌≡◌ {A = ℕ} (cond (ltb (f n) x) 1 0) 0
  one_above n h = cond-false (ltb (f n) x) 1 0 (le-ltb (f n) x h)

  -- the place that parts the indices is the number of those below
  pub split_under : (n m : ℕ) → Split f n x m → count_under f n x ≡ m
  split_under zero m s = omega (arith, s.within)
  split_under (suc n) m s =
      elim (cases_lt n m) [
        | inl lt ↦
            let e : m ≡ suc n = omega (arith, s.within) in
            let rest : count_under f n x ≡ n = split_under n n (record { within = omega arith; before = λ k h. s.before k (omega arith); after = λ k h l. absurd (omega arith) }) in
            omega (arith, rest, one_below n (s.before n lt))
        | inr ge ↦
            let rest : count_under f n x ≡ m = split_under n m (record { within = ge; before = s.before; after = λ k h l. s.after k h (omega arith) }) in
            omega (arith, rest, one_above n (s.after n ge (omega arith)))
      ]

  -- among rising indices the number of those below is the place that parts them
  pub under_split : (n : ℕ) → Ascending f n → Split f n x (count_under f n x)
  under_split zero up = record { within = omega arith; before = λ k h. absurd (omega arith); after = λ k h l. absurd (omega arith) }
  under_split (suc n) up =
      elim (cases_lt (f n) x) [
        | inl lt ↦
            let all : Split f (suc n) x (suc n) = record {
              within = omega arith;
              before = λ k h. elim (cases_lt k n) [ inl l ↦ omega (arith, up k n l (omega arith)) | inr l ↦ (let e : k ≡ n = omega arith in rw e lt) ];
              after = λ k h l. absurd (omega arith);
            } in
            rw (split_under (suc n) (suc n) all) all
        | inr ge ↦
            let s = under_split n (λ i j lt h. up i j lt (omega arith)) in
            let part : Split f (suc n) x (count_under f n x) = record {
              within = omega (arith, s.within);
              before = s.before;
              after = λ k h l. elim (cases_lt k n) [ inl q ↦ s.after k h q | inr q ↦ (let e : k ≡ n = omega arith in rw e ge) ];
            } in
            rw (split_under (suc n) (count_under f n x) part) part
      ]

  -- it is enough to look at the index before a place and at the one there
  pub ends_split : (n m : ℕ) → Ascending f n → m ≤ n → ((k : ℕ) → k + 1 ≡ m → f k < x) → (m < n → x ≤ f m) → Split f n x m
  ends_split n m up le before after = record {
    within = le;
    before = λ k h. elim (cases_lt (k + 1) m) [ inl l ↦ omega (arith, up k (m - 1) (omega arith) (omega arith), before (m - 1) (omega arith)) | inr l ↦ before k (omega arith) ];
    after = λ k h l. elim (cases_lt m k) [ inl q ↦ omega (arith, up m k q l, after (omega arith)) | inr q ↦ (let e : k ≡ m = omega arith in rw e (after (omega arith))) ];
  }

  -- a smaller bound has no more indices below it
  pub under_mono : (y n : ℕ) → x ≤ y → count_under f n x ≤ count_under f n y
  under_mono y zero h = omega arith
  under_mono y (suc n) h =
      elim (cases_lt (f n) x) [
        | inl lt ↦ omega (arith, under_mono y n h, one_below n lt, cond-true {A = ℕ} (ltb (f n) y) 1 0 (lt-ltb (f n) y (omega arith)))
        | inr ge ↦ omega (arith, under_mono y n h, one_above n ge)
      ]

  pub under_le : (n : ℕ) → count_under f n x ≤ n
  under_le zero = omega arith
  under_le (suc n) = elim (cases_lt (f n) x) [ inl lt ↦ omega (arith, under_le n, one_below n lt) | inr ge ↦ omega (arith, under_le n, one_above n ge) ]

  -- two tests, of the index before a place and of the one there, decide whether the place is the number of those below
  module _ (n m : ℕ) (up : Ascending f n) (le : m ≤ n) where
    counted_split : count_under f n x ≡ m → Split f n x m
    counted_split e = rw e at (under_split n up)

    pub count_by_both : (a b : Bool) → Decides a ((k : ℕ) → k + 1 ≡ m → f k < x) → Decides b (m < n → x ≤ f m) → a ≡ true → Decides b (count_under f n x ≡ m)
    count_by_both a b low high t = (
      (λ u. split_under n m (ends_split n m up le (low.0 t) (high.0 u))),
      (λ e. let s = counted_split e in high.1 (λ h. s.after m (omega arith) h)),
    )

    pub count_by_first : (a : Bool) → Decides a ((k : ℕ) → k + 1 ≡ m → f k < x) → a ≡ false → Decides a (count_under f n x ≡ m)
    count_by_first a low t = (
      (λ u. absurd (false≢true (sym t ∙ u))),
      (λ e. let s = counted_split e in low.1 (λ k q. s.before k (omega arith))),
    )

  pub count_not_past : (n m : ℕ) → n < m → Decides false (count_under f n x ≡ m)
  count_not_past n m lt = ((λ u. absurd (false≢true u)), (λ e. absurd (omega (arith, under_le n))))

-- the places between two bounds
pub places_made : {V : Type 0} (c : Column V) (x y from to : ℕ) → x ≤ y → from ≡ count_under (index c) (patches c) x → to ≡ count_under (index c) (patches c) y → Places c x y from to
places_made c x y from to le low high = record {
  from_is = low;
  to_is = high;
  order = omega (arith, low, high, under_mono (index c) x y (patches c) le);
  within = omega (arith, high, under_le (index c) y (patches c));
}

-- the indices at those places lie from x up to y, and no other does
module _ {V : Type 0} (c : Column V) (x y from to : ℕ) (at : Places c x y from to) where
  pub place_from : (i : ℕ) → from ≤ i → i < patches c → x ≤ index c i
  place_from i h = (under_split (index c) x (patches c) c.indices.up).after i (omega (arith, at.from_is))

  pub place_below : (i : ℕ) → i < from → index c i < x
  place_below i h = (under_split (index c) x (patches c) c.indices.up).before i (omega (arith, at.from_is))

  pub place_to : (i : ℕ) → i < to → index c i < y
  place_to i h = (under_split (index c) y (patches c) c.indices.up).before i (omega (arith, at.to_is))

  pub place_past : (i : ℕ) → to ≤ i → i < patches c → y ≤ index c i
  place_past i h = (under_split (index c) y (patches c) c.indices.up).after i (omega (arith, at.to_is))
