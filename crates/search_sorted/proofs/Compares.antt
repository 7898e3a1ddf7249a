-- How listed numbers compare with a needle.
use Rattle.std.proofs.Common.{◌≡◌, ℕ, zero, suc, ◌+◌, ◌<◌, ◌≤◌, map, Some, None, sym, refl, ap, ◌∙◌, inl, inr, arith}
use Rattle.std.specs.List.{range_with_len}
use Rattle.std.specs.Ordering.{nat_cmp}
use Rattle.std.specs.Option.{option_map}
use Rattle.std.specs.Prelude.{nat_lt}
use Rattle.std.proofs.lemmas.Bool.{cases_lt, lt-ltb, le-ltb, cond-true, cond-false}
use Rattle.search_sorted.specs.Numbers.{got}
use Rattle.search_sorted.specs.Order.{compare_at}
use Rattle.search_sorted.specs.Naturals.{natural}
use Rattle.search_sorted.specs.Packed.{listed}

compare_from : (f : ℕ → ℕ) (a n i x : ℕ) → i < n → compare_at natural (map f (range_with_len a n)) i x ≡ Some (nat_cmp (f (a + i)) x)
compare_from f a zero i x h = absurd (omega arith)
compare_from f a (suc n) zero x h = let e : a ≡ a + 0 = omega arith in ap (λ k. Some (nat_cmp (f k) x)) e
compare_from f a (suc n) (suc i) x h =
    let e : a + 1 + i ≡ a + suc i = omega arith in
    compare_from f (a + 1) n i x (omega arith) ∙ ap (λ k. Some (nat_cmp (f k) x)) e

past_from : (f : ℕ → ℕ) (a n i x : ℕ) → n ≤ i → compare_at natural (map f (range_with_len a n)) i x ≡ None
past_from f a zero i x h = refl
past_from f a (suc n) zero x h = absurd (omega arith)
past_from f a (suc n) (suc i) x h = past_from f (a + 1) n i x (omega arith)

pub compare_listed : (f : ℕ → ℕ) (n i x : ℕ) → i < n → compare_at natural (listed f n) i x ≡ Some (nat_cmp (f i) x)
compare_listed f n i x h = let e : 0 + i ≡ i = omega arith in compare_from f 0 n i x h ∙ ap (λ k. Some (nat_cmp (f k) x)) e

pub past_listed : (f : ℕ → ℕ) (n i x : ℕ) → n ≤ i → compare_at natural (listed f n) i x ≡ None
past_listed f n i x h = past_from f 0 n i x h

-- the number that stands at a place, or none, compares as the listed one
pub compared_got : (f : ℕ → ℕ) (n i x : ℕ) → option_map (λ y. nat_cmp y x) (got f n i) ≡ compare_at natural (listed f n) i x
compared_got f n i x =
    elim (cases_lt i n) [
      | inl lt ↦ ap (option_map (λ y. nat_cmp y x)) (cond-true (nat_lt i n) (Some (f i)) None (lt-ltb i n lt)) ∙ sym (compare_listed f n i x lt)
      | inr ge ↦ ap (option_map (λ y. nat_cmp y x)) (cond-false (nat_lt i n) (Some (f i)) None (le-ltb i n ge)) ∙ sym (past_listed f n i x ge)
    ]
