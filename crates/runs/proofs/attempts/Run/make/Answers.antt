use Rattle.runs.proofs.Leading.{closed_stays, abandoned_stays}
use Rattle.runs.proofs.attempts.Run.make.Goals as goal

pub returns-in-Open : goal.returns-in-Open
returns-in-Open g c = rw c.in-Open.is c.try_open.ensures

pub returns-in-Closed : goal.returns-in-Closed
returns-in-Closed g c = rw c.in-Closed.is (closed_stays (g.S.PatchSet.meaning c.args.set.now) c.in-Closed.closed c.args.attempt c.args.cells.now)

pub returns-in-Abandoned : goal.returns-in-Abandoned
returns-in-Abandoned g c = rw c.in-Abandoned.is (abandoned_stays (g.S.PatchSet.meaning c.args.set.now) c.args.attempt c.args.cells.now)
