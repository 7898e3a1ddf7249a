use Rattle.std.proofs.Common.{◌+◌, ◌%◌, ltb, count_by, sym, ap, ◌∙◌, ap₂}
use Rattle.lanes.proofs.LaneAnswers.{count_row, count_all}
use Rattle.lanes.proofs.lanes.sets.LanesPatchSet.below.Goals as goal

pub returns-then-r-self : goal.returns-then-r-self
returns-then-r-self g c = sym (count_all c.args.self.now c.args.r c.if-r-self.true)

pub returns : goal.returns
returns g c =
    let s = c.args.self.now in
    let r = c.args.r in
    ap₂ (λ f n. f + n) c.chunk_begin.ensures (c.count_below.ensures ∙ ap (count_by (λ entry. ltb entry (r % 1024))) c.chunk_entries.ensures) ∙ sym (count_row s r c.if-r-self.false)
