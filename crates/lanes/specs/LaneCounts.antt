-- Lane counts: a number is one in one way only.
use Rattle.std.specs.Prelude.{◌≡◌, ℕ, ◌^◌, ◌≤◌}
use Rattle.std.specs.Coded.{le_prop}
use mathlib.Core.HLevel.{is_prop→PathP}
use native.Mathlib.Nat.{ℕ_set}
use Rattle.std.proofs.Common.{sym, ◌∙◌, inl, inr, arith}
use Rattle.std.proofs.lemmas.Bool.{cases_lt}
use Rattle.std.proofs.lemmas.Nat.{pow_below}
use Rattle.lanes.specs.LaneRules.{IsLaneCount}

-- equal powers of two have equal exponents
power_once : (i j : ℕ) → 2 ^ i ≡ 2 ^ j → i ≡ j
power_once i j e =
    elim (cases_lt i j) [
      | inl l ↦ absurd (omega (arith, pow_below i j l))
      | inr l ↦ elim (cases_lt j i) [ inl m ↦ absurd (omega (arith, pow_below j i m)) | inr m ↦ omega arith ]
    ]

pub lane_count_prop : (n : ℕ) → IsProp (IsLaneCount n)
lane_count_prop n a b =
    let e : a.0 ≡ b.0 = power_once a.0 b.0 (sym a.2 ∙ b.2) in
    λ i. (e i, is_prop→PathP (λ j. e j ≤ 10) (λ j. le_prop) a.1 b.1 i, is_prop→PathP (λ j. n ≡ 2 ^ e j) (λ j. ℕ_set n (2 ^ e j)) a.2 b.2 i)
