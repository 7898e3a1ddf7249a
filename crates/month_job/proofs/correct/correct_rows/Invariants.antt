use Rattle.std.proofs.Common.{◌≡◌, ℕ, ◌+◌, ◌<◌, ◌≤◌, get_or, pos}
use Rattle.month_job.specs.Corrected.{amount_after}
use Rattle.month_job.proofs.correct.correct_rows.Given as goal

abbrev pub invariant-loop-k : goal.invariant-loop-k
invariant-loop-k l =
    ((k : ℕ) → k < l.k → get_or l.cells k (pos 0) ≡ amount_after l.column (l.first + k) (get_or l.initial.cells k (pos 0)))
    × ((k : ℕ) → l.k ≤ k → get_or l.cells k (pos 0) ≡ get_or l.initial.cells k (pos 0))
