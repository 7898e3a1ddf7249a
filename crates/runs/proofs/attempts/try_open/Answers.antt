use Rattle.runs.proofs.Leading.{second_opening, lead_abandoned}
use Rattle.runs.proofs.attempts.try_open.Goals as goal

pub returns-in-Open : goal.returns-in-Open
returns-in-Open g c = rw c.in-Open.is (second_opening (g.S.PatchSet.meaning c.args.set.now) c.args.run _ _)

pub returns-in-Abandon : goal.returns-in-Abandon
returns-in-Abandon g c = rw c.in-Abandon.is (lead_abandoned (g.S.PatchSet.meaning c.args.set.now) c.args.run)
