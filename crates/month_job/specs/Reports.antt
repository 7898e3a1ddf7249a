-- What a report says. Assumes nothing.
use Rattle.std.specs.Prelude.{ℕ, ◌-◌, cond, List, ◌++◌, codes, decimal, ◌==◌, nat_lt}
use Rattle.std.specs.Fmt.{signed_decimal}
use Rattle.month_job.specs.declared.correct.Answer.{Answer}
use Rattle.month_job.specs.declared.correct.Answer.TheVariants.{NoSuchRow, NotCorrected, Corrected}
use Rattle.month_job.specs.declared.report.Fold.{Fold}
use Rattle.month_job.specs.declared.report.Shown.{Shown}
use Rattle.month_job.specs.declared.report.Shown.TheVariants.{Line, LeftOut, Nothing}

-- the line for a look-up's answer
abbrev pub lookup_text : ℕ → Answer → List ℕ
lookup_text row NoSuchRow = codes "lookup row " ++ (decimal row ++ codes ": the history has no such row")
lookup_text row (NotCorrected amount) = codes "lookup row " ++ (decimal row ++ (codes ": not corrected, amount " ++ signed_decimal amount))
lookup_text row (Corrected before after) =
    codes "lookup row " ++ (decimal row ++ (codes ": before " ++ (signed_decimal before ++ (codes ", after " ++ signed_decimal after))))

-- what is shown for the line at a place: the line below the fold's head and from its tail on; between them, at the first,
-- how many they are
abbrev pub shown_at : Fold → ℕ → Shown
shown_at f place =
    cond (nat_lt place f.head) Line (cond (nat_lt place f.tail) (cond (place == f.head) (LeftOut (f.tail - f.head)) Nothing) Line)
