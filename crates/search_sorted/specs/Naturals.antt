-- The natural numbers in their usual order.
use Rattle.std.specs.Prelude.{◌≡◌, ℕ, ◌<◌, ◌≤◌, true, refl}
use Rattle.std.specs.declared.cmp.Ordering.TheVariants.{Less, Equal, Greater}
use Rattle.std.specs.declared.cmp.Ordering.{Ordering}
use Rattle.std.proofs.Common.{sym, arith}
use Rattle.std.proofs.lemmas.Bool.{false≢true}
use Rattle.std.specs.Cmp.{ranks, nat_cmp_total, nat_cmp_is}
use Rattle.std.specs.Ordering.{is_le, MatchOrdering, nat_cmp}
use Rattle.search_sorted.specs.Order.{TotalOrder}

-- what ranks two numbers as their order does is their rank
pub rank_is : (x y : ℕ) (r : Ordering) → MatchOrdering r (x < y) (x ≡ y) (y < x) → nat_cmp x y ≡ r
rank_is x y r h = sym (nat_cmp_is x y r h)

le_by : (x y : ℕ) (r : Ordering) → MatchOrdering r (x < y) (x ≡ y) (y < x) → is_le r ≡ true → x ≤ y
le_by x y Less h t = omega arith
le_by x y Equal h t = omega arith
le_by x y Greater h t = absurd (false≢true t)

by_le : (x y : ℕ) (r : Ordering) → MatchOrdering r (x < y) (x ≡ y) (y < x) → x ≤ y → is_le r ≡ true
by_le x y Less h k = refl
by_le x y Equal h k = refl
by_le x y Greater h k = absurd (omega arith)

-- a number ranks at most another exactly where it is at most that
pub rank_le : (x y : ℕ) → is_le (nat_cmp x y) ≡ true → x ≤ y
rank_le x y t = le_by x y (nat_cmp x y) (ranks x y) t

pub le_rank : (x y : ℕ) → x ≤ y → is_le (nat_cmp x y) ≡ true
le_rank x y h = by_le x y (nat_cmp x y) (ranks x y) h

-- one after another
pub rank_trans : (x y z : ℕ) → is_le (nat_cmp x y) ≡ true → is_le (nat_cmp y z) ≡ true → is_le (nat_cmp x z) ≡ true
rank_trans x y z p q =
    let h : x ≤ y = rank_le x y p in
    let k : y ≤ z = rank_le y z q in
    le_rank x z (omega arith)

-- the numbers in their order
abbrev pub natural : TotalOrder ℕ
natural = record {
  compare = nat_cmp;
  reflexive = λ x. rank_is x x Equal refl;
  flipped = λ x y. nat_cmp_total.antisymm y x;
  transitive = rank_trans;
}
