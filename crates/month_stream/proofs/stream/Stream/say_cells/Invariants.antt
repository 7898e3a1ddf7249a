use Rattle.std.proofs.Common.{◌+◌, ◌-◌, ◌≤◌, length}
use Rattle.month_stream.proofs.stream.Stream.say_cells.Given as goal

abbrev pub invariant-loop-cell : goal.invariant-loop-cell
invariant-loop-cell g l = l.place ≤ l.row

abbrev pub decreases-loop-cell : goal.decreases-loop-cell
decreases-loop-cell g l = l.part.first + length l.part.before.items - l.row
