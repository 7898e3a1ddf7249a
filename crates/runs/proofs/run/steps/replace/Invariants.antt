use Rattle.std.proofs.Common.{◌≡◌, ℕ, ◌≤◌}
use Rattle.patches.specs.Listed.{rows_listed_from, rows_to_come}
use Rattle.runs.proofs.Partly.{Partly}
use Rattle.runs.proofs.run.steps.replace.Given as goal

-- the rows below one are gone through, and the patched rows from it on are still to come
abbrev pub invariant-loop-row : goal.invariant-loop-row
invariant-loop-row g l =
    let m = g.S.PatchSet.meaning l.set in
    (row : ℕ)
    × (l.start ≤ row)
    × (row ≤ l.end)
    × (rows_to_come g.S.PatchSet.meaning l.row-iterator ≡ rows_listed_from m row)
    × Partly m.patch l.start l.initial.cells row l.cells l.count
