-- What stands beside an index: laws that the meaning of a column rests on.
use Rattle.std.specs.Prelude.{◌≡◌, ℕ, zero, suc, ◌+◌, ◌<◌, ◌≤◌, true, List, [], ◌∷◌, length, is_some, Some, None, ◌==◌, ◌≢◌, slice_index_or, refl}
use Rattle.std.proofs.Common.{sym, ap, ◌∙◌, inl, inr, arith}
use Rattle.std.proofs.lemmas.Bool.{cases_eq, cond-true, cond-false, eq-eqb, ne_eqb}
use Rattle.patches.specs.Indices.{seek, Inside}

module _ {V : Type 0} (f : ℕ → ℕ) (x : ℕ) where
  pub seek_none_from : (i : ℕ) (vs : List V) → ((k : ℕ) → i ≤ k → k < i + length vs → f k ≢ x) → seek f x i vs ≡ None
  seek_none_from i [] non = refl
  seek_none_from i (v ∷ vs) non =
      cond-false (f i == x) (Some v) _ (ne_eqb (f i) x (non i (omega arith) (omega arith)))
      ∙ seek_none_from (suc i) vs (λ k h l. non k (omega arith) (omega arith))

  seek_some_from : (i j : ℕ) (vs : List V) (v : V) → j < length vs → f (i + j) ≡ x → ((k : ℕ) → i ≤ k → k < i + j → f k ≢ x) → v ≡ slice_index_or vs j v → seek f x i vs ≡ Some v
  seek_some_from i j [] v h e non is = absurd (omega arith)
  seek_some_from i zero (u ∷ vs) v h e non is =
      let z : i + 0 ≡ i = omega arith in
      cond-true (f i == x) (Some u) _ (eq-eqb (f i) x (rw z at e)) ∙ ap Some (sym is)
  seek_some_from i (suc j) (u ∷ vs) v h e non is =
      let z : i + suc j ≡ suc i + j = omega arith in
      cond-false (f i == x) (Some u) _ (ne_eqb (f i) x (non i (omega arith) (omega arith)))
      ∙ seek_some_from (suc i) j vs v (omega arith) (rw z at e) (λ k a b. non k (omega arith) (omega arith)) is

  -- an index that stands nowhere has nothing beside it
  pub seek_none : (vs : List V) → ((k : ℕ) → k < length vs → f k ≢ x) → seek f x 0 vs ≡ None
  seek_none vs non = seek_none_from 0 vs (λ k h l. non k (omega arith))

  -- an index that stands at a place, and not before, has that place's value beside it
  pub seek_some : (j : ℕ) (vs : List V) (v : V) → j < length vs → f j ≡ x → ((k : ℕ) → k < j → f k ≢ x) → v ≡ slice_index_or vs j v → seek f x 0 vs ≡ Some v
  seek_some j vs v h e non is =
      let z : 0 + j ≡ j = omega arith in
      seek_some_from 0 j vs v h (rw z e) (λ k a b. non k (omega arith)) is

-- nothing is patched past the last row
pub seek_past : {V : Type 0} (f : ℕ → ℕ) (vs : List V) (n offset rows row : ℕ) → length vs ≡ n → Inside f n offset rows → rows ≤ row → seek f (offset + row) 0 vs ≡ None
seek_past f vs n offset rows row e inside h = seek_none f (offset + row) vs (λ k l q. omega (arith, inside k (omega arith)))

-- an index that stands at some place has something beside it
seek_there_from : {V : Type 0} (f : ℕ → ℕ) (x i j : ℕ) (vs : List V) → j < length vs → f (i + j) ≡ x → is_some (seek f x i vs) ≡ true
seek_there_from f x i j [] h e = absurd (omega arith)
seek_there_from f x i zero (u ∷ vs) h e =
    let z : i + 0 ≡ i = omega arith in
    ap is_some (cond-true (f i == x) (Some u) _ (eq-eqb (f i) x (rw z at e)))
seek_there_from f x i (suc j) (u ∷ vs) h e =
    let z : i + suc j ≡ suc i + j = omega arith in
    let rest : is_some (seek f x (suc i) vs) ≡ true = seek_there_from f x (suc i) j vs (omega arith) (rw z at e) in
    elim (cases_eq (f i) x) [
      | inl q ↦ ap is_some (cond-true (f i == x) (Some u) _ (eq-eqb (f i) x q))
      | inr q ↦ ap is_some (cond-false (f i == x) (Some u) (seek f x (suc i) vs) (ne_eqb (f i) x q)) ∙ rest
    ]

pub seek_there : {V : Type 0} (f : ℕ → ℕ) (x j : ℕ) (vs : List V) → j < length vs → f j ≡ x → is_some (seek f x 0 vs) ≡ true
seek_there f x j vs h e = let z : 0 + j ≡ j = omega arith in seek_there_from f x 0 j vs h (rw z e)
