use Rattle.std.proofs.Common.{length}
use Rattle.std.specs.Slice.Iter.{iter_rest}
use Rattle.month_stream.proofs.history.History.from_row.Given as goal

abbrev pub decreases-loop-history : goal.decreases-loop-history
decreases-loop-history l = length (iter_rest l.history.files)
