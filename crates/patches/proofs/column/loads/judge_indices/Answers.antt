use Rattle.std.proofs.Common.{inr}
use Rattle.std.proofs.lemmas.Result.{err_from_is_err_and}
use Rattle.patches.proofs.column.loads.judge_indices.Goals as goal

pub returns-in_err-chunks-clause-judged : goal.returns-in_err-chunks-clause-judged
returns-in_err-chunks-clause-judged c =
    let e = err_from_is_err_and c.from_residual-in_err-chunks.result c.from_residual-in_err-chunks.ensures.1 in
    let same = c.in_ok-indices.ensures.holds in
    rw (e.1, e.2) (inr (c.in_ok-indices.ensures.judged.0, inr (rw same at c.in_ok-judge_range.ensures.judged.0, rw same at c.in_err-chunks.ensures.judged)))
