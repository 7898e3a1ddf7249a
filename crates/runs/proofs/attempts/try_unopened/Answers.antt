use Rattle.runs.proofs.Leading.{lead_opened, lead_not_opened, unopened_aside}
use Rattle.runs.proofs.attempts.try_unopened.Goals as goal

pub returns-in-Ok : goal.returns-in-Ok
returns-in-Ok g c =
    let h = c.in-Ok.ensures in
    rw c.in-Open.is (λ cells. lead_opened (g.S.PatchSet.meaning c.args.set.now) c.in-Open.rows c.in-Open.phase c.in-Ok.run' h.judged h.begun)

pub returns-in-Err : goal.returns-in-Err
returns-in-Err g c =
    rw c.in-Open.is (λ cells. lead_not_opened (g.S.PatchSet.meaning c.args.set.now) c.in-Open.rows c.in-Open.phase c.in-Err.refusal c.in-Err.ensures.judged)

pub returns-in_default : goal.returns-in_default
returns-in_default g c = unopened_aside (g.S.PatchSet.meaning c.args.set.now) c.args.attempt c.in_default.not-Open
