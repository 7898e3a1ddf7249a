-- Keys that never descend: what is asked of them on a side holds up to a place, and of none from there on.
use Rattle.std.proofs.Common.{◌≡◌, ℕ, zero, suc, ◌<◌, ◌≤◌, Bool, true, false, ◌⊎◌, List, [], ◌∷◌, length, get_or, Some, None, Option, Ordering, Less, Equal, Greater, sym, refl, ap, ◌∙◌, inl, inr, ⊎_elim, arith}
use Rattle.std.specs.Ordering.{is_lt, is_le, is_some_and, ordering_reverse}
use Rattle.std.proofs.lemmas.Bool.{both_ways, cases_lt, false≢true}
use Rattle.search_sorted.specs.declared.search.SearchSortedSide.{SearchSortedSide}
use Rattle.search_sorted.specs.declared.search.SearchSortedSide.TheVariants.{Left, Right}
use Rattle.search_sorted.specs.Order.{TotalOrder, NeverDescends, compare_at}
use Rattle.search_sorted.specs.Search.{side_test}

-- What an answer passes, where there may be none.
pub le_from_lt : (o : Option Ordering) → is_some_and is_lt o ≡ true → is_some_and is_le o ≡ true
le_from_lt None h = h
le_from_lt (Some Less) h = refl
le_from_lt (Some Equal) h = refl
le_from_lt (Some Greater) h = h

pub lt_or_equal : (o : Option Ordering) → is_some_and is_le o ≡ true → (is_some_and is_lt o ≡ true) ⊎ (o ≡ Some Equal)
lt_or_equal None h = inl h
lt_or_equal (Some Less) h = inl refl
lt_or_equal (Some Equal) h = inr refl
lt_or_equal (Some Greater) h = inl h

pub not_lt : (o : Option Ordering) → is_some_and is_le o ≡ false → is_some_and is_lt o ≡ false
not_lt None h = refl
not_lt (Some Less) h = h
not_lt (Some Equal) h = refl
not_lt (Some Greater) h = refl

-- an answer turned round
pub turned_lt : (o : Ordering) → is_lt o ≡ true → is_le (ordering_reverse o) ≡ false
turned_lt Less h = refl
turned_lt Equal h = sym h
turned_lt Greater h = sym h

module _ {K : Type 0} (order : TotalOrder K) where
  -- a key before one that is smaller than the needle is smaller than the needle
  before_smaller : (x y needle : K) → is_le (order.compare x y) ≡ true → is_lt (order.compare y needle) ≡ true → is_lt (order.compare x needle) ≡ true
  before_smaller x y needle xy yn =
      ⊎_elim
      (λ lt. lt)
      (λ e.
      let same : order.compare x needle ≡ Equal = cc in
      let nx : is_le (order.compare needle x) ≡ true = ap is_le (order.flipped x needle ∙ ap ordering_reverse same) in
      let ny : is_le (order.compare needle y) ≡ true = order.transitive needle x y nx xy in
      let yn-turned : is_le (order.compare needle y) ≡ false = ap is_le (order.flipped y needle) ∙ turned_lt (order.compare y needle) yn in
      absurd (both_ways _ yn-turned ny))
      (lt_or_equal
      (Some (order.compare x needle))
      (order.transitive x y needle xy (le_from_lt (Some (order.compare y needle)) yn)))

  -- a place within the keys has an answer, and a place past them has none
  pub compare_within : (keys : List K) (i : ℕ) (needle d : K) → i < length keys → compare_at order keys i needle ≡ Some (order.compare (get_or keys i d) needle)
  compare_within [] i needle d h = absurd (omega arith)
  compare_within (key ∷ keys) zero needle d h = refl
  compare_within (key ∷ keys) (suc i) needle d h = compare_within keys i needle d (omega arith)

  pub compare_past : (keys : List K) (i : ℕ) (needle : K) → length keys ≤ i → compare_at order keys i needle ≡ None
  compare_past [] i needle h = refl
  compare_past (key ∷ keys) zero needle h = absurd (omega arith)
  compare_past (key ∷ keys) (suc i) needle h = compare_past keys i needle (omega arith)

module _ {K : Type 0} (order : TotalOrder K) (keys : List K) (needle : K) where
  -- what passes a test stands within the keys
  pub passed_within : (test : Ordering → Bool) (i : ℕ) → is_some_and test (compare_at order keys i needle) ≡ true → i < length keys
  passed_within test i h = ⊎_elim (λ lt. lt) (λ past. absurd (false≢true (sym (ap (is_some_and test) (compare_past order keys i needle past)) ∙ h))) (cases_lt i (length keys))

  -- a test of the keys that holds of each key before one of which it holds
  passed_before : (test : Ordering → Bool) → ((x y : K) → is_le (order.compare x y) ≡ true → test (order.compare y needle) ≡ true → test (order.compare x needle) ≡ true) → NeverDescends order keys → (i j : ℕ) → i ≤ j → is_some_and test (compare_at order keys j needle) ≡ true → is_some_and test (compare_at order keys i needle) ≡ true
  passed_before test back rising i j le h =
      ⊎_elim
      (λ lt.
      let end : j < length keys = passed_within test j h in
      let at_i : compare_at order keys i needle ≡ Some (order.compare (get_or keys i needle) needle) = compare_within order keys i needle needle (omega arith) in
      let at_j : compare_at order keys j needle ≡ Some (order.compare (get_or keys j needle) needle) = compare_within order keys j needle needle end in
      ap (is_some_and test) at_i ∙ back _ _ (rising i j needle lt end) (sym (ap (is_some_and test) at_j) ∙ h))
      (λ ge. let e : i ≡ j = omega arith in rw e h)
      (cases_lt i j)

  pub side_before : (side : SearchSortedSide) → NeverDescends order keys → (i j : ℕ) → i ≤ j → side_test order keys needle side j ≡ true → side_test order keys needle side i ≡ true
  side_before Left = passed_before is_lt (λ x y. before_smaller order x y needle)
  side_before Right = passed_before is_le (λ x y. order.transitive x y needle)
