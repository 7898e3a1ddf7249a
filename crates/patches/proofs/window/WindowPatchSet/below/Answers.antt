use Rattle.std.proofs.Common.{arith}
use Rattle.std.proofs.lemmas.Grind.{common_steps}
use Rattle.patches.specs.Windows.{start_in, span_in}
use Rattle.patches.proofs.Counts.{count_part}
use Rattle.patches.proofs.window.WindowPatchSet.below.Goals as goal

pub overflow_sub-result : goal.overflow_sub-result
overflow_sub-result g c =
    let w = c.args.self.now in
    let m = g.S.PatchSet.meaning w.set.now in
    grind (arith, common_steps, count_part m.patch (start_in w.first w.end m.rows) (span_in w.first w.end m.rows) c.args.r)

pub returns : goal.returns
returns g c =
    let w = c.args.self.now in
    let m = g.S.PatchSet.meaning w.set.now in
    grind (arith, common_steps, count_part m.patch (start_in w.first w.end m.rows) (span_in w.first w.end m.rows) c.args.r)
