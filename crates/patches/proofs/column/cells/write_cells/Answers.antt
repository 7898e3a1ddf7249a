use Rattle.std.proofs.Common.{arith}
use Rattle.search_sorted.specs.Numbers.{count, number}
use Rattle.patches.proofs.Entries.{got_some, got_none}
use Rattle.patches.proofs.ChunkCells.{written_more}
use Rattle.patches.proofs.column.cells.write_cells.Goals as goal
use Rattle.patches.proofs.column.cells.write_cells.Goals.{in-Some, in_default}

pub loop-place-preserved : goal.loop-place-preserved
loop-place-preserved g c =
    let a = c.args in
    let p = a.indices.now in
    let l = c.loop-place in
    elim c.match-get.branch [
      | in-Some w ↦
          let at = got_some (number p.numbers) (count p.numbers) l.place w.in-Some.index (rw c.numbers-numbers.ensures at w.in-Some.ensures) in
          rw w.cells-is (written_more (number p.numbers) a.base 0 (count p.numbers) a.values.now a.cells.now (count p.numbers) l.place w.in-Some.index l.cells c.index-values-place.result p.up (omega arith) (omega arith) c.requires.among (omega arith) (omega arith) (omega arith) at.1 c.index-values-place.is l.invariant)
      | in_default w ↦ absurd (omega (arith, got_none (number p.numbers) (count p.numbers) l.place (rw c.numbers-numbers.ensures at w.in_default.ensures)))
    ]
