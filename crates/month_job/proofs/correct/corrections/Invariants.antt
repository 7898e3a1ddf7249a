use Rattle.std.proofs.Common.{◌≡◌, ℕ, ◌<◌, get_or, vec_items, vec_len}
use Rattle.month_job.specs.declared.correct.Correction.{Correction}
use Rattle.month_job.specs.Corrected.{IsCorrection}
use Rattle.month_job.proofs.correct.corrections.Given as goal

abbrev pub invariant-loop-place : goal.invariant-loop-place
invariant-loop-place l =
    (vec_len l.list ≡ l.place)
    × ((place : ℕ) (d : Correction) → place < l.place → IsCorrection l.column l.cells place (get_or (vec_items l.list) place d))
