use Rattle.std.proofs.Common.{◌≡◌, IfOk, string_bytes, sym, subst, w64, SFits, rules}
use Rattle.std.proofs.lemmas.Int.{to_z-of_z}
use Rattle.month_job.specs.Reports.{lookup_text}
use Rattle.month_job.proofs.report.lookup_line.Goals as goal

pub returns-in-NotCorrected : goal.returns-in-NotCorrected
returns-in-NotCorrected c =
    let f : SFits w64 c.in-NotCorrected.amount = search rules in
    subst
    (λ a. IfOk c.format-in-NotCorrected.result (λ s. string_bytes s ≡ lookup_text c.args.row a))
    (sym c.in-NotCorrected.is)
    (simp to_z-of_z at c.format-in-NotCorrected.ensures.ok)
