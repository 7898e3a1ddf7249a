use Rattle.std.proofs.Common.{arith}
use Rattle.std.proofs.lemmas.Grind.{common_steps}
use Rattle.patches.specs.Windows.{windowed}
use Rattle.runs.proofs.Leading.{lead_part}
use Rattle.runs.proofs.attempts.try_step.Goals as goal

pub returns : goal.returns
returns g c =
    let m = g.S.PatchSet.meaning c.args.set.now in
    let w = c.new-part.result in
    let h = c.step.ensures in
    lead_part m (windowed (g.S.PatchSet.meaning w.set.now) w.first w.end) c.args.set_rows c.new-part.ensures.shows c.args.run.now _ c.args.cells.now _ c.step.result h.judged h.stepped _ (grind (arith, common_steps))
