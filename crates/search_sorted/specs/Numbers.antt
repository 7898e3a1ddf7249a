-- What packed numbers are as a list of numbers.
use Rattle.std.specs.Prelude.{◌≡◌, ℕ, ◌+◌, ◌-◌, ◌/◌, ◌<◌, ◌≤◌, min, cond, List, length, Some, None, Option, nat_lt}
use Rattle.search_sorted.specs.declared.packed.Packed.{Packed}
use Rattle.search_sorted.specs.Packed.{size, number_at, Ascending, listed}

-- how many whole numbers there are
abbrev pub count : Packed → ℕ
count p = length p.bytes.now / size p.width

-- the number at a place
abbrev pub number : Packed → ℕ → ℕ
number p place = number_at p.bytes.now (size p.width) place

-- the numbers as a list
abbrev pub numbers_of : Packed → List ℕ
numbers_of p = listed (number p) (count p)

-- what stands at a place below n, or none past the end
abbrev pub got : (ℕ → ℕ) → ℕ → ℕ → Option ℕ
got f n place = cond (nat_lt place n) (Some (f place)) None

-- q holds the numbers of p from one place up to another, after the end was lowered to p's and the start to that
pub record PartOf (p q : Packed) (from to : ℕ) : Type 0 where
  pub counted : count q ≡ min to (count p) - from
  pub each : (i : ℕ) → i < count q → number q i ≡ number p (from + i)

-- the numbers below a place rise, and the one there is not above the one before it
pub record FallsFirst (f : ℕ → ℕ) (n place : ℕ) : Type 0 where
  pub within : place < n
  pub later : 0 < place
  pub before : Ascending f place
  pub falls : f place ≤ f (place - 1)

-- the first place whose number is not above the one before, or none where all rise
abbrev pub FirstFall : (ℕ → ℕ) → ℕ → Option ℕ → Type 0
FirstFall f n None = Ascending f n
FirstFall f n (Some place) = FallsFirst f n place
