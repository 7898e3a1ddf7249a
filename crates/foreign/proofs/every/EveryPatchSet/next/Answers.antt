use Rattle.std.proofs.Common.{ℕ, ◌+◌, ltb, sym, subst, ◌∙◌, ap}
use Rattle.std.specs.Bool.{then_some}
use Rattle.patches.specs.Assignments.{Next}
use Rattle.foreign.specs.Everies.{every_in}
use Rattle.foreign.proofs.EveryCounts.{next_at}
use Rattle.foreign.proofs.every.EveryPatchSet.next.Goals as goal

pub returns : goal.returns
returns c =
    let s = c.args.self.now in
    let r = c.args.r in
    let there = next_at s.rows s.step s.first s.among r in
    subst (Next (every_in s.rows s.step s.first) r) (sym c.then_some.ensures)
    (subst (λ (n : ℕ). Next (every_in s.rows s.step s.first) r (then_some (ltb (r + n) s.rows) (r + n))) (sym c.gap.ensures) there)
