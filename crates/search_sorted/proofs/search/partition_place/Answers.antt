use Rattle.std.proofs.Common.{◌/◌, arith}
use Rattle.search_sorted.proofs.Orders.{side_before}
use Rattle.search_sorted.proofs.Quarters.{narrowed_quarter, counted_next}
use Rattle.search_sorted.proofs.search.partition_place.Goals as goal

pub loop-left-preserved : goal.loop-left-preserved
loop-left-preserved g c = (
  c.loop-left.invariant.0,
  narrowed_quarter
      _
      (side_before g.S.IndexOrd.order _ _ c.args.side (g.S.IndexOrd.rising c.args.sequence.now))
      _
      c.loop-left.place
      c.loop-left.left
      (c.loop-left.left / 4)
      c.goes_before-first.result
      c.goes_before-second.result
      c.goes_before-third.result
      (omega arith)
      c.goes_before-first.ensures
      c.goes_before-second.ensures
      c.goes_before-third.ensures
      c.loop-left.invariant.1,
)

pub loop-k-preserved : goal.loop-k-preserved
loop-k-preserved g c =
    counted_next
    _
    (side_before g.S.IndexOrd.order _ _ c.args.side (g.S.IndexOrd.rising c.args.sequence.now))
    c.loop-left.place
    c.loop-k.k
    c.loop-k.count
    c.goes_before.result
    c.goes_before.ensures
    c.loop-k.invariant
