-- Remainders and quotients by a divisor that is no literal.
use Rattle.std.proofs.Common.{◌≡◌, ℕ, suc, ◌+◌, ◌-◌, ◌*◌, ◌/◌, ◌%◌, ◌<◌, ◌≤◌, ◌⊎◌, sym, ap, ◌∙◌, inl, inr, mod-lt, mod-eq_of_lt, mul_comm, mul-one, mul-add, arith}
use native.Mathlib.Nat.{mod-eq-sub-mod, mod-add-mod, mod-add-div}
use lib.Arith.{digits_div, digits_mod}
use Rattle.std.proofs.lemmas.Bool.{cases_lt}

module _ (s : ℕ) (pos : 0 < s) where
  -- the remainder of a row a little further on
  pub mod_near : (r j : ℕ) → j < s → ((r % s + j < s) × ((r + j) % s ≡ r % s + j)) ⊎ ((s ≤ r % s + j) × ((r + j) % s ≡ r % s + j - s))
  mod_near r j h =
      let low : r % s < s = mod-lt r pos in
      elim (cases_lt (r % s + j) s) [
        | inl lt ↦ inl (lt, sym (mod-add-mod r s j) ∙ mod-eq_of_lt lt)
        | inr ge ↦ (let small : r % s + j - s < s = omega arith in inr (ge, sym (mod-add-mod r s j) ∙ mod-eq-sub-mod ge ∙ mod-eq_of_lt small))
      ]

  -- one row more: the remainder rises by one, or the quotient does and the remainder is 0
  pub step_on : (m : ℕ) → ((suc m / s ≡ m / s) × (suc m % s ≡ m % s + 1)) ⊎ ((m % s + 1 ≡ s) × (suc m / s ≡ m / s + 1) × (suc m % s ≡ 0))
  step_on m =
      let low : m % s < s = mod-lt m pos in
      let whole : m ≡ m / s * s + m % s = omega (arith, mod-add-div m s, mul_comm s (m / s)) in
      elim (cases_lt (m % s + 1) s) [
        | inl lt ↦
            (let e : suc m ≡ m / s * s + (m % s + 1) = omega arith in
            inl (ap (λ n. n / s) e ∙ digits_div (m / s) lt, ap (λ n. n % s) e ∙ digits_mod (m / s) lt))
        | inr ge ↦
            (let e : suc m ≡ (m / s + 1) * s + 0 = omega (arith, mul_comm (m / s + 1) s, mul-add s (m / s) 1, mul-one s, mul_comm s (m / s)) in
            inr (omega arith, ap (λ n. n / s) e ∙ digits_div (m / s + 1) pos, ap (λ n. n % s) e ∙ digits_mod (m / s + 1) pos))
      ]
