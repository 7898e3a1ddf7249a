use Rattle.std.proofs.Common.{◌≡◌, ◌+◌, vec_items, vec_len}
use Rattle.month_job.specs.Cells.{CellsFrom, SameBelow}
use Rattle.month_job.proofs.cells.append.Given as goal

abbrev pub invariant-loop-part : goal.invariant-loop-part
invariant-loop-part l =
    (vec_len l.cells ≡ vec_len l.initial.cells + l.part-index)
    × CellsFrom (vec_len l.initial.cells) l.part-index (vec_items l.cells) l.bytes
    × SameBelow (vec_len l.initial.cells) (vec_items l.cells) (vec_items l.initial.cells)
