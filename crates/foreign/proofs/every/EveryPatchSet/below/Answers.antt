use Rattle.std.proofs.Common.{sym, ap, ◌∙◌}
use Rattle.foreign.specs.Everies.{count_to}
use Rattle.foreign.proofs.EveryCounts.{count_in}
use Rattle.foreign.proofs.every.EveryPatchSet.below.Goals as goal

pub returns : goal.returns
returns c =
    let s = c.args.self.now in
    c.count_to.ensures ∙ ap (count_to s.step s.first) c.min.ensures ∙ sym (count_in s.rows s.step s.first s.among c.args.r)
