use Rattle.runs.proofs.Dealing.{Dealt}
use Rattle.runs.proofs.attempts.Run.attempt_all.Given as goal

abbrev pub invariant-loop-entry : goal.invariant-loop-entry
invariant-loop-entry g l = Dealt (g.S.PatchSet.meaning l.set) l.initial.run l.run l.initial.entries l.entries l.initial.cells l.cells l.entry-index l.at
