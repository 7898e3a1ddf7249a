-- Numbers counted down, under the order in which larger numbers go first.
use Rattle.std.specs.Prelude.{ℕ, ◌-◌, ◌<◌}
use Rattle.std.proofs.Common.{arith}
use Rattle.search_sorted.specs.Order.{TotalOrder, NeverDescends}
use Rattle.search_sorted.specs.Naturals.{natural, le_rank}
use Rattle.search_sorted.specs.Packed.{listed}
use Rattle.search_sorted.specs.Listed.{length_listed, get_d_listed}

-- larger numbers go first
abbrev pub downward : TotalOrder ℕ
downward = record {
  compare = λ x y. natural.compare y x;
  reflexive = natural.reflexive;
  flipped = λ x y. natural.flipped y x;
  transitive = λ x y z p q. natural.transitive z y x q p;
}

-- the number so many places below a top
abbrev pub below : ℕ → ℕ → ℕ
below top place = top - place

pub falls : (top : ℕ) → NeverDescends downward (listed (below top) top)
falls top i j d lt within =
    let h : j < top = omega (arith, length_listed (below top) top) in
    let l : i < top = omega arith in
    rw (get_d_listed (below top) top i d l, get_d_listed (below top) top j d h) (le_rank (below top j) (below top i) (omega arith))
