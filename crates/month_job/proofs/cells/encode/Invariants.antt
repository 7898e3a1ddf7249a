use Rattle.std.proofs.Common.{◌≡◌, ◌*◌, vec_items, vec_len}
use Rattle.month_job.specs.Cells.{CellsFrom}
use Rattle.month_job.proofs.cells.encode.Given as goal

abbrev pub invariant-loop-amount : goal.invariant-loop-amount
invariant-loop-amount l =
    (vec_len l.bytes ≡ 8 * l.amount-index)
    × CellsFrom 0 l.amount-index l.cells (vec_items l.bytes)
