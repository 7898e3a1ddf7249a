-- How many rows below one leave the first row, and which is the next.
use Rattle.std.proofs.Common.{◌≡◌, ℕ, zero, suc, ◌+◌, ◌-◌, ◌%◌, ◌<◌, ◌≤◌, min, cond, eqb, ltb, is_some, Some, None, sym, ap, ◌∙◌, subst, inl, inr, mod-lt, arith}
use native.Mathlib.Nat.{zero-mod, zero-div}
use Rattle.std.specs.Bool.{then_some}
use Rattle.std.proofs.lemmas.Bool.{cases_lt, cases_eq, cond-true, cond-false, lt-ltb, le-ltb, eq-eqb, ne_eqb}
use Rattle.std.proofs.lemmas.Bool.Decides.{nat_tests}
use Rattle.patches.specs.Assignments.{one, patches_below, Next}
use Rattle.patches.proofs.Counts.{count_past, count_same}
use Rattle.foreign.specs.Everies.{every_at, every_in, count_to, gap_from}
use Rattle.foreign.specs.Marks.{mark_of}
use Rattle.foreign.proofs.Remainders.{mod_near, step_on}

module _ (rows s f : ℕ) (pos : f < s) where
  pub at_there : (r : ℕ) → r % s ≡ f → every_at s f r ≡ Some (mark_of r)
  at_there r e = cond-true (eqb (r % s) f) (Some (mark_of r)) None (eq-eqb (r % s) f e)

  pub at_none : (r : ℕ) → (r % s ≡ f → ⊥) → every_at s f r ≡ None
  at_none r e = cond-false (eqb (r % s) f) (Some (mark_of r)) None (ne_eqb (r % s) f e)

  pub in_rows : (r : ℕ) → r < rows → every_in rows s f r ≡ every_at s f r
  in_rows r h = cond-true (ltb r rows) (every_at s f r) None (lt-ltb r rows h)

  pub past_rows : (r : ℕ) → rows ≤ r → every_in rows s f r ≡ None
  past_rows r h = cond-false (ltb r rows) (every_at s f r) None (le-ltb r rows h)

  -- the count by division
  pub count_at : (m : ℕ) → patches_below (every_at s f) m ≡ count_to s f m
  count_at zero = rw (zero-div s, zero-mod s) (grind (arith, nat_tests))
  count_at (suc m) =
      let ih = count_at m in
      let low : m % s < s = mod-lt m (omega arith) in
      let unit : one (every_at s f m) ≡ cond (eqb (m % s) f) 1 0 = elim (cases_eq (m % s) f) [
        | inl e ↦ ap one (at_there m e) ∙ sym (cond-true (eqb (m % s) f) 1 0 (eq-eqb (m % s) f e))
        | inr e ↦ ap one (at_none m e) ∙ sym (cond-false (eqb (m % s) f) 1 0 (ne_eqb (m % s) f e))
      ] in
      elim (step_on s (omega arith) m) [
        | inl h ↦ (let a = h.0 in let b = h.1 in rw (a, b) (grind (arith, nat_tests, ih, unit)))
        | inr h ↦ (let a = h.1 in let b = h.2 in let d = h.0 in rw (a, b) (grind (arith, nat_tests, ih, unit)))
      ]

  pub count_in : (r : ℕ) → patches_below (every_in rows s f) r ≡ count_to s f (min r rows)
  count_in r =
      elim (cases_lt r rows) [
        | inl lt ↦
            (let e : r ≡ min r rows = omega arith in
            count_same (every_in rows s f) (every_at s f) r (λ k h. in_rows k (omega arith)) ∙ count_at r ∙ ap (count_to s f) e)
        | inr ge ↦
            (let e : rows ≡ min r rows = omega arith in
            count_past (every_in rows s f) rows r past_rows ge ∙ count_same (every_in rows s f) (every_at s f) rows (λ k h. in_rows k h) ∙ count_at rows ∙ ap (count_to s f) e)
      ]

  -- the gap is below the step
  gap_lt : (r : ℕ) → gap_from s f (r % s) < s
  gap_lt r = let low : r % s < s = mod-lt r (omega arith) in grind (arith, nat_tests)

  -- the row after the gap leaves the first row
  gap_there : (r : ℕ) → (r + gap_from s f (r % s)) % s ≡ f
  gap_there r =
      let low : r % s < s = mod-lt r (omega arith) in
      elim (mod_near s (omega arith) r (gap_from s f (r % s)) (gap_lt r)) [
        | inl h ↦ h.1 ∙ (let a : r % s + gap_from s f (r % s) < s = h.0 in grind (arith, nat_tests))
        | inr h ↦ h.1 ∙ (let a : s ≤ r % s + gap_from s f (r % s) = h.0 in grind (arith, nat_tests))
      ]

  -- no row within the gap does
  gap_none : (r k : ℕ) → r ≤ k → k < r + gap_from s f (r % s) → k % s ≡ f → ⊥
  gap_none r k low high is =
      let small : r % s < s = mod-lt r (omega arith) in
      let short : k - r < s = omega (arith, gap_lt r) in
      let e : r + (k - r) ≡ k = omega arith in
      let there : (r + (k - r)) % s ≡ f = ap (λ n. n % s) e ∙ is in
      let under : k - r < gap_from s f (r % s) = omega arith in
      elim (mod_near s (omega arith) r (k - r) short) [
        | inl h ↦ (let a : r % s + (k - r) ≡ f = sym h.1 ∙ there in grind (arith, nat_tests))
        | inr h ↦ (let a : r % s + (k - r) - s ≡ f = sym h.1 ∙ there in let b : s ≤ r % s + (k - r) = h.0 in grind (arith, nat_tests))
      ]

  none_in : (r k : ℕ) → r ≤ k → k < r + gap_from s f (r % s) → every_in rows s f k ≡ None
  none_in r k low high =
      elim (cases_lt k rows) [
        | inl lt ↦ in_rows k lt ∙ at_none k (gap_none r k low high)
        | inr ge ↦ past_rows k ge
      ]

  next_some : (r : ℕ) → r + gap_from s f (r % s) < rows → Next (every_in rows s f) r (Some (r + gap_from s f (r % s)))
  next_some r h =
      (omega arith, ap is_some (in_rows (r + gap_from s f (r % s)) h ∙ at_there (r + gap_from s f (r % s)) (gap_there r)), none_in r)

  next_none : (r : ℕ) → rows ≤ r + gap_from s f (r % s) → Next (every_in rows s f) r None
  next_none r h k low =
      elim (cases_lt k rows) [
        | inl lt ↦ none_in r k low (omega arith)
        | inr ge ↦ past_rows k ge
      ]

  -- the next patched row is the one after the gap, if it is among the rows
  pub next_at : (r : ℕ) → Next (every_in rows s f) r (then_some (ltb (r + gap_from s f (r % s)) rows) (r + gap_from s f (r % s)))
  next_at r =
      let row : ℕ = r + gap_from s f (r % s) in
      elim (cases_lt row rows) [
        | inl lt ↦ subst (λ b. Next (every_in rows s f) r (then_some b row)) (sym (lt-ltb row rows lt)) (next_some r lt)
        | inr ge ↦ subst (λ b. Next (every_in rows s f) r (then_some b row)) (sym (le-ltb row rows ge)) (next_none r ge)
      ]
