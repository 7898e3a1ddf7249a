-- The one answer of a left search among rising numbers.
use Rattle.std.proofs.Common.{◌≡◌, ℕ, ◌+◌, ◌<◌, sym, ap, ◌∙◌, inl, inr, arith}
use Rattle.std.proofs.lemmas.Bool.{cases_lt}
use Rattle.search_sorted.specs.declared.search.SearchResult.{SearchResult}
use Rattle.search_sorted.specs.declared.search.SearchResult.TheVariants.{Found, NotFound}
use Rattle.search_sorted.specs.Packed.{Ascending}
use Rattle.search_sorted.proofs.Lefts.{Split, Finds}
use Rattle.patches.proofs.Unders.{split_under, ends_split}

module _ (f : ℕ → ℕ) (n x : ℕ) (up : Ascending f n) where
  same_place : (i j : ℕ) → i < n → j < n → f i ≡ x → f j ≡ x → i ≡ j
  same_place i j h k p q =
      elim (cases_lt i j) [
        | inl lt ↦ absurd (omega (arith, up i j lt k))
        | inr ge ↦ elim (cases_lt j i) [ inl gt ↦ absurd (omega (arith, up j i gt h)) | inr le ↦ omega arith ]
      ]

  -- a number that stands at a place is found there
  pub found_at : (i : ℕ) → i < n → f i ≡ x → (r : SearchResult) → Finds f n x r → r ≡ Found i
  found_at i h e (Found j) a = ap Found (same_place j i a.0 h a.1 e)
  found_at i h e (NotFound j) a = absurd (a.0 i h e)

  between_split : (m : ℕ) → m + 1 < n → f m < x → x < f (m + 1) → Split f n x (m + 1)
  between_split m h low high =
      ends_split f x n (m + 1) up (omega arith) (λ k e. let same : k ≡ m = omega arith in rw same low) (λ l. omega arith)

  between_none : (m : ℕ) → m + 1 < n → f m < x → x < f (m + 1) → (k : ℕ) → k < n → f k ≡ x → ⊥
  between_none m h low high k within e =
      let s = between_split m h low high in
      elim (cases_lt k (m + 1)) [
        | inl lt ↦ omega (arith, s.before k lt)
        | inr ge ↦ elim (cases_lt (m + 1) k) [ inl gt ↦ omega (arith, up (m + 1) k gt within) | inr le ↦ (let same : k ≡ m + 1 = omega arith in omega (arith, ap f same)) ]
      ]

  -- a number between two that stand side by side would stand at the second
  pub missed_at : (m : ℕ) → m + 1 < n → f m < x → x < f (m + 1) → (r : SearchResult) → Finds f n x r → r ≡ NotFound (m + 1)
  missed_at m h low high (Found j) a = absurd (between_none m h low high j a.0 a.1)
  missed_at m h low high (NotFound j) a =
      ap NotFound (sym (split_under f x n j a.1) ∙ split_under f x n (m + 1) (between_split m h low high))
