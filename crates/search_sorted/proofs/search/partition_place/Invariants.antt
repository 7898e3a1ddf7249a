use Rattle.std.proofs.Common.{◌^◌, ◌<◌, length}
use Rattle.search_sorted.specs.Search.{side_test}
use Rattle.search_sorted.proofs.Quarters.{Narrowed, Counted}
use Rattle.search_sorted.proofs.search.partition_place.Given as goal

abbrev pub invariant-loop-left : goal.invariant-loop-left
invariant-loop-left g l =
    (length (g.S.IndexOrd.keys l.sequence) < 2 ^ 64)
    × Narrowed (side_test g.S.IndexOrd.order (g.S.IndexOrd.keys l.sequence) l.needle l.side) (length (g.S.IndexOrd.keys l.sequence)) l.place l.left

abbrev pub decreases-loop-left : goal.decreases-loop-left
decreases-loop-left g l = l.left

abbrev pub invariant-loop-k : goal.invariant-loop-k
invariant-loop-k g l = Counted (side_test g.S.IndexOrd.order (g.S.IndexOrd.keys l.sequence) l.needle l.side) l.place l.k l.count
