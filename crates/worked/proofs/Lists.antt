-- Numbers that are given as a list.
use Rattle.std.proofs.Common.{◌≡◌, ℕ, zero, suc, ◌+◌, ◌-◌, ◌<◌, ◌≤◌, List, map, length, get_or, sym, refl, ap, ◌∙◌, arith}
use Rattle.std.specs.List.{range_with_len}
use Rattle.search_sorted.specs.Packed.{listed}
use Rattle.search_sorted.specs.Listed.{length_listed, get_d_listed}
use Rattle.patches.specs.Indices.{count_under}

module _ (f g : ℕ → ℕ) where
  same_from : (a n : ℕ) → ((i : ℕ) → a ≤ i → i < a + n → f i ≡ g i) → map f (range_with_len a n) ≡ map g (range_with_len a n)
  same_from a zero same = refl
  same_from a (suc n) same =
      let here : f a ≡ g a = same a (omega arith) (omega arith) in
      let rest : map f (range_with_len (a + 1) n) ≡ map g (range_with_len (a + 1) n) = same_from (a + 1) n (λ i h l. same i (omega arith) (omega arith)) in
      cc

  -- the same numbers are the same list
  pub listed_same : (n m : ℕ) → n ≡ m → ((i : ℕ) → i < m → f i ≡ g i) → listed f n ≡ listed g m
  listed_same n m e same = ap (λ k. map f (range_with_len 0 k)) e ∙ same_from 0 m (λ i h l. same i (omega arith))

  -- of the same numbers as many are below a bound
  pub under_same : (n x : ℕ) → ((i : ℕ) → i < n → f i ≡ g i) → count_under f n x ≡ count_under g n x
  under_same zero x same = refl
  under_same (suc n) x same =
      let here : f n ≡ g n = same n (omega arith) in
      let rest : count_under f n x ≡ count_under g n x = under_same n x (λ i h. same i (omega arith)) in
      cc

-- how many numbers of a list are below a bound
abbrev pub under : List ℕ → ℕ → ℕ
under l x = count_under (λ i. get_or l i 0) (length l) x

-- the numbers of a list from one place up to another
abbrev pub part : List ℕ → ℕ → ℕ → List ℕ
part l from to = listed (λ i. get_or l (from + i) 0) (to - from)

-- what a list says of the numbers that it lists
module _ (f : ℕ → ℕ) (n : ℕ) (l : List ℕ) (is : listed f n ≡ l) where
  pub list_count : n ≡ length l
  list_count = sym (length_listed f n) ∙ ap length is

  pub list_at : (i : ℕ) → i < n → f i ≡ get_or l i 0
  list_at i h = sym (get_d_listed f n i 0 h) ∙ ap (λ (s : List ℕ). get_or s i 0) is

  pub list_under : (x : ℕ) → count_under f n x ≡ under l x
  list_under x = under_same f (λ i. get_or l i 0) n x list_at ∙ ap (λ m. count_under (λ i. get_or l i 0) m x) list_count
