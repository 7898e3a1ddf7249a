-- Stored indices and what stands beside them.
use Rattle.std.specs.Prelude.{ℕ, zero, suc, ◌+◌, ◌<◌, ◌≤◌, cond, List, [], ◌∷◌, Some, None, Option, ◌==◌, nat_lt}

-- how many of the first n indices are below x
abbrev pub count_under : (ℕ → ℕ) → ℕ → ℕ → ℕ
count_under index zero x = 0
count_under index (suc n) x = count_under index n x + cond (nat_lt (index n) x) 1 0

-- each of the first n indices lies from the offset up to below offset + rows
abbrev pub Inside : (ℕ → ℕ) → ℕ → ℕ → ℕ → Type 0
Inside index n offset rows = (i : ℕ) → i < n → (offset ≤ index i) × (index i < offset + rows)

-- the value beside the first index that is x, where the first value stands beside index i
abbrev pub seek : {V : Type 0} → (ℕ → ℕ) → ℕ → ℕ → List V → Option V
seek index x i [] = None
seek index x i (value ∷ values) = cond (index i == x) (Some value) (seek index x (suc i) values)
