use Rattle.search_sorted.specs.Numbers.{number}
use Rattle.patches.specs.Cells.{Written}
use Rattle.patches.proofs.column.cells.write_cells.Given as goal

abbrev pub invariant-loop-place : goal.invariant-loop-place
invariant-loop-place g l = Written (number l.indices.numbers) l.base 0 l.place l.values l.initial.cells l.cells
