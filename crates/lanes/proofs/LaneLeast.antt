-- The least of the entries that are not below a bound, by the entries themselves.
use Rattle.std.proofs.Common.{◌≡◌, ℕ, zero, suc, ◌<◌, ◌≤◌, Bool, true, false, cond, List, [], ◌∷◌, length, get_or, filter, leb, Some, None, refl, ◌∙◌, arith}
use Rattle.std.proofs.lemmas.List.{get_or_default}
use Rattle.std.proofs.lemmas.Bool.{le-leb, leb-true}
use Rattle.lanes.specs.LaneMeaning.{entries_from, Least}

module _ (p : ℕ → Bool) where
  -- an element that passes a test is among those that do
  passes_in : (xs : List ℕ) (j : ℕ) → j < length xs → p (get_or xs j 0) ≡ true → (k : ℕ) × (k < length (filter p xs)) × (get_or (filter p xs) k 0 ≡ get_or xs j 0)
  passes_in [] j h e = absurd (omega arith)
  passes_in (x ∷ xs) zero h e = rw e (0, omega arith, refl)
  passes_in (x ∷ xs) (suc j) h e = kept (p x) (passes_in xs j (omega arith) e)
    where
      kept : (b : Bool) → (k : ℕ) × (k < length (filter p xs)) × (get_or (filter p xs) k 0 ≡ get_or xs j 0) → (k : ℕ) × (k < length (cond b (x ∷ filter p xs) (filter p xs))) × (get_or (cond b (x ∷ filter p xs) (filter p xs)) k 0 ≡ get_or xs j 0)
      kept true w = (suc w.0, omega (arith, w.1), w.2)
      kept false w = w

  -- and those that do are elements that pass it
  passes_out : (xs : List ℕ) (k : ℕ) → k < length (filter p xs) → (j : ℕ) × (j < length xs) × (get_or xs j 0 ≡ get_or (filter p xs) k 0) × (p (get_or xs j 0) ≡ true)
  passes_out [] k h = absurd (omega arith)
  passes_out (x ∷ xs) k h = at (p x) refl k h (passes_out xs)
    where
      at : (b : Bool) → p x ≡ b → (i : ℕ) → i < length (cond b (x ∷ filter p xs) (filter p xs)) → ((i : ℕ) → i < length (filter p xs) → (j : ℕ) × (j < length xs) × (get_or xs j 0 ≡ get_or (filter p xs) i 0) × (p (get_or xs j 0) ≡ true)) → (j : ℕ) × (j < length (x ∷ xs)) × (get_or (x ∷ xs) j 0 ≡ get_or (cond b (x ∷ filter p xs) (filter p xs)) i 0) × (p (get_or (x ∷ xs) j 0) ≡ true)
      at true e zero l rest = (0, omega arith, refl, e)
      at true e (suc i) l rest = let w = rest i (omega arith) in (suc w.0, omega (arith, w.1), w.2, w.3)
      at false e i l rest = let w = rest i l in (suc w.0, omega (arith, w.1), w.2, w.3)

-- a least entry
pub record LeastIs (entries : List ℕ) (bound least : ℕ) : Type 0 where
  pub place : ℕ
  pub within : place < length entries
  pub is : get_or entries place 0 ≡ least
  pub high : bound ≤ least
  pub low : (j : ℕ) → j < length entries → bound ≤ get_or entries j 0 → least ≤ get_or entries j 0

module _ (entries : List ℕ) (bound : ℕ) where
  pub least_none : Least entries bound None → (j : ℕ) → j < length entries → bound ≤ get_or entries j 0 → ⊥
  least_none none j h up = let w = passes_in (λ x. leb bound x) entries j h (le-leb bound (get_or entries j 0) up) in omega (arith, none, w.1)

  pub least_some : (least : ℕ) → Least entries bound (Some least) → LeastIs entries bound least
  least_some least some =
      let k : ℕ = some.0.0 in
      let w = passes_out (λ x. leb bound x) entries k some.0.1 in
      let e : get_or entries w.0 0 ≡ least = w.2 ∙ get_or_default (entries_from bound entries) k 0 least some.0.1 ∙ some.0.2 in
      record {
        place = w.0;
        within = w.1;
        is = e;
        high = omega (arith, e, leb-true bound (get_or entries w.0 0) w.3);
        low = λ j h up. let v = passes_in (λ x. leb bound x) entries j h (le-leb bound (get_or entries j 0) up) in omega (arith, v.2, some.1 v.0 v.1);
      }
