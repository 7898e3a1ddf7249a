-- What is printed of an attempt that was not accepted.
use Rattle.std.specs.Prelude.{ℕ, List, Some, None, Option, codes}
use Rattle.runs.specs.declared.attempts.AttemptError.{AttemptError}
use Rattle.runs.specs.declared.attempts.AttemptError.TheVariants.{NotMade, Refused}

-- the sentence where there was no run; of a refusal, whose own text it is, nothing is said here
abbrev pub attempt_error_text : AttemptError → Option (List ℕ)
attempt_error_text NotMade = Some (codes "there is no open run")
attempt_error_text (Refused refusal) = None
