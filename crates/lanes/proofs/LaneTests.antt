-- How many of some numbers are below a bound, as the bound grows by one; and what stands beside an index.
use Rattle.std.proofs.Common.{◌≡◌, ℕ, zero, suc, ◌+◌, ◌<◌, ◌≤◌, true, cond, eqb, ltb, ◌⊎◌, List, [], ◌∷◌, length, get_or, take, count_by, is_some, Some, sym, refl, ap, ◌∙◌, inl, inr, arith}
use Rattle.std.proofs.lemmas.Bool.{cases_eq, cases_lt, cond-true, cond-false, lt-ltb, le-ltb, eq-eqb, ne_eqb}
use Rattle.std.proofs.lemmas.List.Sums.{sum_by_more}
use Rattle.std.proofs.Math.Seq.{take-length}
use Rattle.patches.specs.Indices.{count_under, seek}

-- numbers of which no two are equal
abbrev pub Distinct : (ℕ → ℕ) → ℕ → Type 0
Distinct f n = (i j : ℕ) → i < j → j < n → f i ≡ f j → ⊥

module _ (f : ℕ → ℕ) where
  below_one : (n m : ℕ) → f n < m → ◌≡◌ {A = ℕ} (cond (ltb (f n) m) 1 0) 1
  below_one n m h = cond-true (ltb (f n) m) 1 0 (lt-ltb (f n) m h)

  below_none : (n m : ℕ) → m ≤ f n → ◌≡◌ {A = ℕ} (cond (ltb (f n) m) 1 0) 0
  below_none n m h = cond-false (ltb (f n) m) 1 0 (le-ltb (f n) m h)

  -- a number that is not m is below m + 1 only if it is below m
  same_test : (n m : ℕ) → (f n ≡ m → ⊥) → ◌≡◌ {A = ℕ} (cond (ltb (f n) (suc m)) 1 0) (cond (ltb (f n) m) 1 0)
  same_test n m other =
      elim (cases_lt (f n) m) [
        | inl l ↦ below_one n (suc m) (omega arith) ∙ sym (below_one n m l)
        | inr l ↦ below_none n (suc m) (omega arith) ∙ sym (below_none n m l)
      ]

  -- where none is m, as many are below m + 1 as below m
  pub under_miss : (n m : ℕ) → ((i : ℕ) → i < n → f i ≡ m → ⊥) → count_under f n (suc m) ≡ count_under f n m
  under_miss zero m non = refl
  under_miss (suc n) m non = omega (arith, under_miss n m (λ i h. non i (omega arith)), same_test n m (non n (omega arith)))

  -- where one is m, one more
  pub under_hit : (n m i : ℕ) → Distinct f n → i < n → f i ≡ m → count_under f n (suc m) ≡ count_under f n m + 1
  under_hit zero m i once h e = absurd (omega arith)
  under_hit (suc n) m i once h e =
      elim (cases_lt i n) [
        | inl l ↦ omega (arith, under_hit n m i (λ a b p q. once a b p (omega arith)) l e, same_test n m (λ q. once i n l (omega arith) (e ∙ sym q)))
        | inr l ↦
            let same : i ≡ n = omega arith in
            let here : f n ≡ m = ap f (sym same) ∙ e in
            omega (arith, under_miss n m (λ a p q. once a n p (omega arith) (q ∙ sym here)), below_one n (suc m) (omega arith), below_none n m (omega arith))
      ]

  pub under_none : (n : ℕ) → count_under f n 0 ≡ 0
  under_none zero = refl
  under_none (suc n) = omega (arith, under_none n, below_none n 0 (omega arith))

  pub under_all : (n m : ℕ) → ((i : ℕ) → i < n → f i < m) → count_under f n m ≡ n
  under_all zero m all = refl
  under_all (suc n) m all = omega (arith, under_all n m (λ i h. all i (omega arith)), below_one n m (all n (omega arith)))

  -- one of the numbers is m, or none
  pub one_is : (n m : ℕ) → ((i : ℕ) × (i < n) × (f i ≡ m)) ⊎ ((i : ℕ) → i < n → f i ≡ m → ⊥)
  one_is zero m = inr (λ i h e. omega arith)
  one_is (suc n) m =
      elim (one_is n m) [
        | inl w ↦ inl (w.0, omega (arith, w.1), w.2)
        | inr non ↦
            elim (cases_eq (f n) m) [
              | inl e ↦ inl (n, omega arith, e)
              | inr other ↦ inr (λ i h e. elim (cases_lt i n) [ inl l ↦ non i l e | inr l ↦ (let same : i ≡ n = omega arith in other (ap f (sym same) ∙ e)) ])
            ]
      ]

-- how many of a list's numbers are below a bound
under_first : (m n : ℕ) (xs : List ℕ) → n ≤ length xs → count_by (λ x. ltb x m) (take n xs) ≡ count_under (λ i. get_or xs i 0) n m
under_first m zero xs h = refl
under_first m (suc n) xs h =
    let e : suc n ≡ n + 1 = omega arith in
    ap (λ k. count_by (λ x. ltb x m) (take k xs)) e ∙ omega (arith, sum_by_more (λ x. cond (ltb x m) 1 0) xs n 0 (omega arith), under_first m n xs (omega arith))

pub under_is : (m : ℕ) (xs : List ℕ) → count_by (λ x. ltb x m) xs ≡ count_under (λ i. get_or xs i 0) (length xs) m
under_is m xs = ap (count_by (λ x. ltb x m)) (sym (take-length xs)) ∙ under_first m (length xs) xs (omega arith)

module _ {V : Type 0} (f : ℕ → ℕ) (x : ℕ) where
  -- an index that stands at a place, and not before, has that place's value beside it
  pub seek_first : (i j : ℕ) (vs : List V) (v : V) → j < length vs → f (i + j) ≡ x → ((k : ℕ) → i ≤ k → k < i + j → f k ≡ x → ⊥) → v ≡ get_or vs j v → seek f x i vs ≡ Some v
  seek_first i j [] v h e non is = absurd (omega arith)
  seek_first i zero (u ∷ vs) v h e non is =
      let z : i + 0 ≡ i = omega arith in
      cond-true (eqb (f i) x) (Some u) _ (eq-eqb (f i) x (rw z at e)) ∙ ap Some (sym is)
  seek_first i (suc j) (u ∷ vs) v h e non is =
      let z : i + suc j ≡ suc i + j = omega arith in
      cond-false (eqb (f i) x) (Some u) _ (ne_eqb (f i) x (non i (omega arith) (omega arith)))
      ∙ seek_first (suc i) j vs v (omega arith) (rw z at e) (λ k a b. non k (omega arith) (omega arith)) is

  -- an index that stands at some place has something beside it
  pub seek_some : (i j : ℕ) (vs : List V) → j < length vs → f (i + j) ≡ x → is_some (seek f x i vs) ≡ true
  seek_some i j [] h e = absurd (omega arith)
  seek_some i zero (u ∷ vs) h e =
      let z : i + 0 ≡ i = omega arith in
      ap is_some (cond-true (eqb (f i) x) (Some u) _ (eq-eqb (f i) x (rw z at e)))
  seek_some i (suc j) (u ∷ vs) h e =
      let z : i + suc j ≡ suc i + j = omega arith in
      let rest : is_some (seek f x (suc i) vs) ≡ true = seek_some (suc i) j vs (omega arith) (rw z at e) in
      elim (cases_eq (f i) x) [
        | inl q ↦ ap is_some (cond-true (eqb (f i) x) (Some u) _ (eq-eqb (f i) x q))
        | inr q ↦ ap is_some (cond-false (eqb (f i) x) (Some u) (seek f x (suc i) vs) (ne_eqb (f i) x q)) ∙ rest
      ]
