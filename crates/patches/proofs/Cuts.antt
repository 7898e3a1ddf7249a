-- A part of the indices and the values beside them.
use Rattle.std.proofs.Common.{◌≡◌, ℕ, zero, suc, ◌+◌, ◌-◌, ◌<◌, ◌≤◌, cond, eqb, List, [], ◌∷◌, length, take, drop, Some, sym, refl, ap, ◌∙◌, arith, length-drop, length-take}
use Rattle.std.proofs.lemmas.Bool.{cond-false, ne_eqb}
use Rattle.patches.specs.Indices.{seek}
use Rattle.patches.specs.SeekLaws.{seek_none_from}

module _ {V : Type 0} (x : ℕ) where
  -- equal indices find the same
  seek_same : (f g : ℕ → ℕ) (i j : ℕ) (vs : List V) → ((k : ℕ) → k < length vs → f (i + k) ≡ g (j + k)) → seek f x i vs ≡ seek g x j vs
  seek_same f g i j [] same = refl
  seek_same f g i j (v ∷ vs) same =
      let here : f i ≡ g j = ap f (let z : i ≡ i + 0 = omega arith in z) ∙ same 0 (omega arith) ∙ ap g (let z : j + 0 ≡ j = omega arith in z) in
      let rest : seek f x (suc i) vs ≡ seek g x (suc j) vs = seek_same f g (suc i) (suc j) vs (λ k h. ap f (let z : suc i + k ≡ i + (k + 1) = omega arith in z) ∙ same (k + 1) (omega arith) ∙ ap g (let z : j + (k + 1) ≡ suc j + k = omega arith in z)) in
      ap (λ y. cond (eqb y x) (Some v) (seek f x (suc i) vs)) here ∙ ap (λ o. cond (eqb (g j) x) (Some v) o) rest

  -- what lies before a part, and past it, is not x
  seek_drop : (f : ℕ → ℕ) (i n : ℕ) (vs : List V) → ((k : ℕ) → i ≤ k → k < i + n → f k ≡ x → ⊥) → seek f x i vs ≡ seek f x (i + n) (drop n vs)
  seek_drop f i zero vs non = ap (λ j. seek f x j vs) (let z : i ≡ i + 0 = omega arith in z)
  seek_drop f i (suc n) [] non = refl
  seek_drop f i (suc n) (v ∷ vs) non =
      cond-false (eqb (f i) x) (Some v) _ (ne_eqb (f i) x (non i (omega arith) (omega arith)))
      ∙ seek_drop f (suc i) n vs (λ k a b. non k (omega arith) (omega arith))
      ∙ ap (λ j. seek f x j (drop n vs)) (let z : suc i + n ≡ i + suc n = omega arith in z)

  seek_take : (f : ℕ → ℕ) (i n : ℕ) (vs : List V) → ((k : ℕ) → i + n ≤ k → k < i + length vs → f k ≡ x → ⊥) → seek f x i vs ≡ seek f x i (take n vs)
  seek_take f i zero vs non = seek_none_from f x i vs (λ k a b. non k (omega arith) b)
  seek_take f i (suc n) [] non = refl
  seek_take f i (suc n) (v ∷ vs) non =
      ap (λ o. cond (eqb (f i) x) (Some v) o) (seek_take f (suc i) n vs (λ k a b. non k (omega arith) (omega arith)))

-- how many values a part has
pub cut_length : {V : Type 0} (vs : List V) (n lo hi : ℕ) → length vs ≡ n → lo ≤ hi → hi ≤ n → length (take (hi - lo) (drop lo vs)) ≡ hi - lo
cut_length vs n lo hi e order top = simp (length-take, length-drop) (omega arith)

-- a part finds what the whole finds, of an index that is not before it and not past it
pub cut_seek : {V : Type 0} (f g : ℕ → ℕ) (vs : List V) (n lo hi x : ℕ) → length vs ≡ n → lo ≤ hi → hi ≤ n → ((i : ℕ) → i < hi - lo → g i ≡ f (lo + i)) → ((k : ℕ) → k < lo → f k ≡ x → ⊥) → ((k : ℕ) → hi ≤ k → k < n → f k ≡ x → ⊥) → seek g x 0 (take (hi - lo) (drop lo vs)) ≡ seek f x 0 vs
cut_seek f g vs n lo hi x e order top same before after =
    let z : 0 + lo ≡ lo = omega arith in
    let part = take (hi - lo) (drop lo vs) in
    let one : seek f x 0 vs ≡ seek f x (0 + lo) (drop lo vs) = seek_drop x f 0 lo vs (λ k a b q. before k (omega arith) q) in
    let two : seek f x (0 + lo) (drop lo vs) ≡ seek f x (0 + lo) part = seek_take x f (0 + lo) (hi - lo) (drop lo vs) (λ k a b q. after k (omega arith) (omega (arith, length-drop lo vs)) q) in
    let three : seek g x 0 part ≡ seek f x (0 + lo) part = seek_same x g f 0 (0 + lo) part (λ k h. let q : 0 + k ≡ k = omega arith in rw (q, z) (same k (omega (arith, cut_length vs n lo hi e order top)))) in
    three ∙ sym (one ∙ two)
