-- What a patch set means: a number of rows, and a patch for some of them.
use Rattle.std.specs.Prelude.{◌≡◌, ℕ, zero, suc, ◌+◌, ◌<◌, ◌≤◌, true, is_some, Some, None, Option}
use Rattle.patches.specs.Chunks.{limit}

-- what a row has: the value of its patch, or none
abbrev pub Patch : Type 0 → Type 0
Patch V = Option V

-- so many rows, no more than the limit, and what each row has; at or past the last row there is nothing
pub record Assignment (V : Type 0) : Type 0 where
  pub rows : ℕ
  pub patch : ℕ → Patch V
  pub few : rows ≤ limit
  pub past : (r : ℕ) → rows ≤ r → patch r ≡ None

-- 1 where a row has a patch, else 0
abbrev pub one : {V : Type 0} → Patch V → ℕ
one None = 0
one (Some value) = 1

-- how many rows below r have a patch
abbrev pub patches_below : {V : Type 0} → (ℕ → Patch V) → ℕ → ℕ
patches_below patch zero = 0
patches_below patch (suc r) = patches_below patch r + one (patch r)

-- no row from r up to q has a patch
abbrev pub NoneFrom : {V : Type 0} → (ℕ → Patch V) → ℕ → ℕ → Type 0
NoneFrom patch r q = (k : ℕ) → r ≤ k → k < q → patch k ≡ None

-- the least row at or after r that has a patch, or none where no such row has one
abbrev pub Next : {V : Type 0} → (ℕ → Patch V) → ℕ → Option ℕ → Type 0
Next patch r None = (k : ℕ) → r ≤ k → patch k ≡ None
Next patch r (Some q) = (r ≤ q) × (is_some (patch q) ≡ true) × NoneFrom patch r q

-- two assignments with the same rows, each with the same patch or none
pub record SameAssignment {V : Type 0} (m n : Assignment V) : Type 0 where
  pub rows : m.rows ≡ n.rows
  pub patch : (r : ℕ) → m.patch r ≡ n.patch r
