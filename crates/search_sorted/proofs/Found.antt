-- Where keys equal the needle, by the partition points on the two sides.
use Rattle.std.proofs.Common.{◌≡◌, ℕ, ◌-◌, ◌<◌, true, List, refl, ap, ⊎_elim, arith}
use Rattle.std.specs.Ordering.{is_lt, is_le, is_some_and}
use Rattle.std.proofs.lemmas.Bool.{both_ways, cases_lt, false≢true}
use Rattle.search_sorted.specs.declared.search.SearchResult.{SearchResult}
use Rattle.search_sorted.specs.declared.search.SearchResult.TheVariants.{Found, NotFound}
use Rattle.search_sorted.specs.declared.search.SearchSortedSide.{SearchSortedSide}
use Rattle.search_sorted.specs.declared.search.SearchSortedSide.TheVariants.{Left, Right}
use Rattle.search_sorted.specs.Order.{TotalOrder, NeverDescends, compare_at}
use Rattle.search_sorted.specs.Search.{smaller, not_larger, EqualAt, SidePoint, Answers, FindsEqual}
use Rattle.search_sorted.proofs.Orders.{lt_or_equal, not_lt, passed_within, side_before}

module _ {K : Type 0} (order : TotalOrder K) (keys : List K) (needle : K) where
  -- an equal key is not smaller, and not larger
  equal_not_smaller : (k : ℕ) → EqualAt order keys needle k → smaller order keys needle k ≡ true → ⊥
  equal_not_smaller k e h = both_ways (smaller order keys needle k) (ap (is_some_and is_lt) e) h

  equal_not_larger : (k : ℕ) → EqualAt order keys needle k → not_larger order keys needle k ≡ true
  equal_not_larger k e = ap (is_some_and is_le) e

  -- where no key is equal, the place on the right is that on the left
  pub right_is_left : (i : ℕ) → ((k : ℕ) → EqualAt order keys needle k → ⊥) → SidePoint order keys needle Right i → SidePoint order keys needle Left i
  right_is_left i none p =
      record {
        within = p.within;
        before = λ k lt. ⊎_elim (λ s. s) (λ e. absurd (none k e)) (lt_or_equal (compare_at order keys k needle) (p.before k lt));
        after = λ k ge lt. not_lt (compare_at order keys k needle) (p.after k ge lt);
      }

  -- the key nearest to a place, on a side, is not equal
  abbrev pub NoneNear : SearchSortedSide → ℕ → Type 0
  NoneNear Left i = EqualAt order keys needle i → ⊥
  NoneNear Right i = 0 < i → EqualAt order keys needle (i - 1) → ⊥

  -- what an answer says of equal keys
  pub finds_from_answer : (side : SearchSortedSide) (r : SearchResult) → Answers order keys needle side r → FindsEqual order keys needle r
  finds_from_answer Left (Found i) h = (λ _. (i, h.0), λ _. refl)
  finds_from_answer Right (Found i) h = (λ _. (h.0, h.2), λ _. refl)
  finds_from_answer Left (NotFound i) h = (λ e. absurd (false≢true e), λ p. absurd (h.0 p.0 p.1))
  finds_from_answer Right (NotFound i) h = (λ e. absurd (false≢true e), λ p. absurd (h.0 p.0 p.1))

module _ {K : Type 0} (order : TotalOrder K) (keys : List K) (needle : K) (rising : NeverDescends order keys) where
  -- where the key at the left place is not equal, none is
  pub none_left : (i : ℕ) → SidePoint order keys needle Left i → (EqualAt order keys needle i → ⊥) → (k : ℕ) → EqualAt order keys needle k → ⊥
  none_left i p here k e =
      ⊎_elim
      (λ lt. equal_not_smaller order keys needle k e (p.before k lt))
      (λ ge.
      let upto : not_larger order keys needle i ≡ true = side_before order keys needle Right rising i k ge (equal_not_larger order keys needle k e) in
      ⊎_elim
      (λ s. both_ways _ (p.after i (omega arith) (passed_within order keys needle is_le i upto)) s)
      here
      (lt_or_equal (compare_at order keys i needle) upto))
      (cases_lt k i)

  -- where the key before the right place is not equal, none is
  pub none_right : (i : ℕ) → SidePoint order keys needle Right i → (0 < i → EqualAt order keys needle (i - 1) → ⊥) → (k : ℕ) → EqualAt order keys needle k → ⊥
  none_right i p last k e =
      ⊎_elim
      (λ lt.
      ⊎_elim
      (λ s. equal_not_smaller order keys needle k e (side_before order keys needle Left rising k (i - 1) (omega arith) s))
      (last (omega arith))
      (lt_or_equal (compare_at order keys (i - 1) needle) (p.before (i - 1) (omega arith))))
      (λ ge.
      let upto : not_larger order keys needle k ≡ true = equal_not_larger order keys needle k e in
      both_ways _ (p.after k ge (passed_within order keys needle is_le k upto)) upto)
      (cases_lt k i)

  -- where it is not, at the partition point, the answer is NotFound
  pub not_found : (side : SearchSortedSide) (i : ℕ) → SidePoint order keys needle side i → NoneNear order keys needle side i → Answers order keys needle side (NotFound i)
  not_found Left i p near = (none_left i p near, p)
  not_found Right i p near = let none : (k : ℕ) → EqualAt order keys needle k → ⊥ = none_right i p near in (none, right_is_left order keys needle i none p)
