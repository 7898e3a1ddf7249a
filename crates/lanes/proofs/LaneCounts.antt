-- Lane counts by the tests of a number, and how many chunks there are.
use Rattle.std.proofs.Common.{◌≡◌, ℕ, zero, suc, ◌+◌, ◌/◌, ◌%◌, ◌^◌, ◌≤◌, true, eqb, count_ones, sym, ap, ◌∙◌, inl, inr, arith}
use lib.Count.{ones_step}
use native.Mathlib.Nat.{pow-suc}
use Rattle.std.specs.Int.{is_power_of_two}
use Rattle.std.proofs.lemmas.Bool.{cases_eq, cases_lt, cond-true, cond-false, eq-eqb, ne_eqb, eqb-true}
use Rattle.std.proofs.lemmas.Nat.{pow_below, ones-le, zero_from_ones}
use Rattle.patches.specs.Chunks.{count_of_chunks}
use Rattle.lanes.specs.LaneRules.{IsLaneCount}
use Rattle.lanes.proofs.Laning.{lanes_few}

-- a power of two has one bit that is set
power_ones : (k : ℕ) → count_ones (2 ^ k) ≡ 1
power_ones zero = omega (arith, ones_step 1, ones-le 0 0 (omega arith))
power_ones (suc k) =
    let half : 2 ^ suc k / 2 ≡ 2 ^ k = omega (arith, pow-suc 2 k) in
    ones_step (2 ^ suc k) ∙ omega (arith, pow-suc 2 k, ap count_ones half, power_ones k)

-- a number with one bit that is set is a power of two
ones_power : (d n : ℕ) → n ≤ d → count_ones n ≡ 1 → (k : ℕ) × (n ≡ 2 ^ k)
ones_power zero n h e = let z : n ≡ 0 = omega arith in absurd (omega (arith, ones-le 0 n (omega arith)))
ones_power (suc d) n h e =
    let s = ones_step n in
    elim (cases_eq (n % 2) 0) [
      | inl even ↦ (let w = ones_power d (n / 2) (omega arith) (omega arith) in (suc w.0, omega (arith, w.1, pow-suc 2 w.0)))
      | inr odd ↦ (0, omega (arith, zero_from_ones (n / 2) (omega arith)))
    ]

module _ (n : ℕ) where
  -- a power of two up to 1024 is a lane count
  pub count_from_tests : is_power_of_two n ≡ true → n ≤ 1024 → IsLaneCount n
  count_from_tests one le =
      let w = ones_power n n (omega arith) (eqb-true (count_ones n) 1 one) in
      elim (cases_lt 10 w.0) [
        | inl l ↦ absurd (omega (arith, w.1, pow_below 10 w.0 l))
        | inr l ↦ (w.0, l, w.1)
      ]

  -- and a lane count is one
  pub tests_from_count : IsLaneCount n → (is_power_of_two n ≡ true) × (n ≤ 1024)
  tests_from_count is =
      (eq-eqb (count_ones n) 1 (ap count_ones is.2 ∙ power_ones is.0), lanes_few n is)

-- how many chunks there are
pub chunks_none : (rows : ℕ) → rows ≡ 0 → count_of_chunks 0 rows ≡ 0
chunks_none rows e = cond-true (eqb rows 0) 0 ((0 + rows + 1023) / 1024) (eq-eqb rows 0 e)

pub chunks_are : (rows : ℕ) → count_of_chunks 0 rows ≡ (rows + 1023) / 1024
chunks_are rows =
    elim (cases_eq rows 0) [
      | inl e ↦ (let z : (rows + 1023) / 1024 ≡ 0 = omega arith in chunks_none rows e ∙ sym z)
      | inr other ↦ (let z : (0 + rows + 1023) / 1024 ≡ (rows + 1023) / 1024 = omega arith in cond-false (eqb rows 0) 0 ((0 + rows + 1023) / 1024) (ne_eqb rows 0 other) ∙ z)
    ]
