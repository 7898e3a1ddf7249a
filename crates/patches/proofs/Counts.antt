-- How many rows have a patch.
use Rattle.std.proofs.Common.{◌≡◌, ℕ, zero, suc, ◌+◌, ◌<◌, ◌≤◌, min, true, ltb, is_some, Some, None, sym, refl, ap, ◌∙◌, inl, inr, add-one, arith}
use Rattle.std.proofs.lemmas.Bool.{false≢true, cases_lt, cond-true, cond-false, lt-ltb, le-ltb}
use Rattle.patches.specs.Assignments.{Patch, one, patches_below, NoneFrom}
use Rattle.patches.specs.Windows.{part_of}

pub one_le : {V : Type 0} (o : Patch V) → one o ≤ 1
one_le None = omega arith
one_le (Some v) = omega arith

pub one_some : {V : Type 0} (o : Patch V) → is_some o ≡ true → one o ≡ 1
one_some None e = absurd (let z : ◌≡◌ {A = ℕ} 0 1 = cc in omega arith)
one_some (Some v) e = refl

pub one_none : {V : Type 0} (o : Patch V) → o ≡ None → one o ≡ 0
one_none o e = ap one e

module _ {V : Type 0} (p : ℕ → Patch V) where
  pub count_more : (r : ℕ) → patches_below p (r + 1) ≡ patches_below p r + one (p r)
  count_more r = rw (add-one r)

  pub count_le : (r : ℕ) → patches_below p r ≤ r
  count_le zero = omega arith
  count_le (suc r) = omega (arith, count_le r, one_le (p r))

  pub count_mono : (r q : ℕ) → r ≤ q → patches_below p r ≤ patches_below p q
  count_mono r zero h = let e : r ≡ 0 = omega arith in rw e (omega arith)
  count_mono r (suc q) h =
      elim (cases_lt r (suc q)) [
        | inl lt ↦ omega (arith, count_mono r q (omega arith))
        | inr ge ↦ (let e : r ≡ suc q = omega arith in rw e (omega arith))
      ]

  -- rows with no patch add nothing
  pub count_skip : (r q : ℕ) → r ≤ q → NoneFrom p r q → patches_below p q ≡ patches_below p r
  count_skip r zero h none = let e : 0 ≡ r = omega arith in ap (patches_below p) e
  count_skip r (suc q) h none =
      elim (cases_lt r (suc q)) [
        | inl lt ↦ omega (arith, count_skip r q (omega arith) (λ k a b. none k a (omega arith)), one_none (p q) (none q (omega arith) (omega arith)))
        | inr ge ↦ (let e : suc q ≡ r = omega arith in ap (patches_below p) e)
      ]

  -- past the last row nothing is counted
  pub count_past : (n r : ℕ) → ((k : ℕ) → n ≤ k → p k ≡ None) → n ≤ r → patches_below p r ≡ patches_below p n
  count_past n r none h = count_skip n r h (λ k a b. none k a)

  -- a row that has a patch is one of the rows
  pub row_within : (n q : ℕ) → ((r : ℕ) → n ≤ r → p r ≡ None) → is_some (p q) ≡ true → q < n
  row_within n q none some =
      elim (cases_lt q n) [
        | inl lt ↦ lt
        | inr ge ↦ absurd (false≢true (sym (ap is_some (none q ge)) ∙ some))
      ]

  -- the rows that a part has before one of its rows, and those before the part
  pub count_part : (a m r : ℕ) → patches_below p a + patches_below (part_of p a m) r ≡ patches_below p (a + min r m)
  count_part a m zero = let e : a + min 0 m ≡ a = omega arith in rw e (omega arith)
  count_part a m (suc r) =
      elim (cases_lt r m) [
        | inl lt ↦
            let here : part_of p a m r ≡ p (a + r) = cond-true (ltb r m) (p (a + r)) None (lt-ltb r m lt) in
            let e : a + min (suc r) m ≡ suc (a + r) = omega arith in
            let d : a + min r m ≡ a + r = omega arith in
            let rest : patches_below p a + patches_below (part_of p a m) r ≡ patches_below p (a + r) = count_part a m r ∙ ap (patches_below p) d in
            rw (e, here) (omega (arith, rest))
        | inr ge ↦
            let here : part_of p a m r ≡ None = cond-false (ltb r m) (p (a + r)) None (le-ltb r m ge) in
            let e : a + min (suc r) m ≡ a + min r m = omega arith in
            rw (e, here) (omega (arith, count_part a m r))
      ]

-- equal patches are counted alike
pub count_same : {V : Type 0} (p q : ℕ → Patch V) (n : ℕ) → ((k : ℕ) → k < n → p k ≡ q k) → patches_below p n ≡ patches_below q n
count_same p q zero same = refl
count_same p q (suc n) same = omega (arith, count_same p q n (λ k h. same k (omega arith)), ap one (same n (omega arith)))
