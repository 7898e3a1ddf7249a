use Rattle.runs.proofs.Leading.{lead_closed, lead_not_closed}
use Rattle.runs.proofs.attempts.try_close.Goals as goal

pub returns-in-Ok : goal.returns-in-Ok
returns-in-Ok g c =
    let h = c.in-Ok.ensures in
    lead_closed (g.S.PatchSet.meaning c.args.set.now) c.args.run c.in-Ok.closed h.0 h.1 h.2

pub returns-in-Err : goal.returns-in-Err
returns-in-Err g c =
    let h = c.in-Err.ensures in
    rw h.1 (lead_not_closed (g.S.PatchSet.meaning c.args.set.now) c.args.run c.in-Err.field-0.refusal h.0)
