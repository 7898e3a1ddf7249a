use Rattle.std.proofs.Common.{arith}
use Rattle.patches.proofs.Counts.{count_le}
use Rattle.month_stream.proofs.stream.Stream.say_cells.Goals as goal

pub loop-cell-init : goal.loop-cell-init
loop-cell-init g c = omega (arith, c.below-place.ensures, count_le (g.S.PatchSet.meaning c.args.self.now.set.now).patch c.args.part.now.first)
