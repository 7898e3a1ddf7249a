use Rattle.std.proofs.Common.{◌+◌, sym, ap, is_some, ◌∙◌, arith}
use Rattle.std.proofs.lemmas.Bool.{false≢true}
use Rattle.patches.specs.Listed.{rows_to_come}
use Rattle.patches.proofs.Counts.{count_le}
use Rattle.patches.proofs.Listing.{RowFirst, rows_first, rows_empty}
use Rattle.runs.proofs.Partly.{partly_next, partly_all, partly_replaced}
use Rattle.runs.proofs.run.steps.replace.Given.{Over}
use Rattle.runs.proofs.run.steps.replace.Goals.{In-Some}
use Rattle.runs.proofs.run.steps.replace.Goals as goal

-- what is known of the patched row that comes next
first : (g : Over) (c : In-Some g) → RowFirst (g.S.PatchSet.meaning c.args.set.now) c.loop-row.invariant.0 c.in-Some.row (rows_to_come g.S.PatchSet.meaning c.next.new.self)
first g c = rows_first (g.S.PatchSet.meaning c.args.set.now) c.loop-row.invariant.0 c.loop-row.invariant.3 c.in-Some.ensures.steps

pub overflow_sub-value : goal.overflow_sub-value
overflow_sub-value g c = omega (arith, (first g (goal.at.overflow_sub-value g c).In-Some).low)

pub bounds-cells-row : goal.bounds-cells-row
bounds-cells-row g c = omega (arith, (first g (goal.at.bounds-cells-row g c).In-Some).low)

pub overflow_add-count : goal.overflow_add-count
overflow_add-count g c =
    let m = g.S.PatchSet.meaning c.args.set.now in
    omega (arith, c.loop-row.invariant.4.counted, count_le m.patch c.loop-row.invariant.0, m.few)

pub loop-row-preserved-in-Some-find : goal.loop-row-preserved-in-Some-find
loop-row-preserved-in-Some-find g c =
    let i = c.loop-row.invariant in
    let next = first g (goal.at.loop-row-preserved-in-Some-find g c).In-Some in
    (c.in-Some.row + 1, omega (arith, next.low), omega arith, next.rest, partly_next _ _ _ _ _ _ _ _ i.1 next.low (omega arith) next.none (sym c.find.ensures ∙ c.in-Some-find.is) i.4)

pub loop-row-preserved : goal.loop-row-preserved
loop-row-preserved g c =
    let next = first g (goal.at.loop-row-preserved g c).In-Some in
    absurd (false≢true (sym (ap is_some (sym c.find.ensures ∙ c.in_default.is)) ∙ next.patched))

pub returns-then-row-end : goal.returns-then-row-end
returns-then-row-end g c =
    let i = c.loop-row.invariant in
    let next = first g (goal.at.returns-then-row-end g c).In-Some in
    let all = partly_all _ _ _ _ _ _ i.2 (λ k a b. next.none k a (omega arith)) i.4 in
    record { cells = partly_replaced _ _ _ _ _ all; count = all.counted }

pub returns-in-None : goal.returns-in-None
returns-in-None g c =
    let i = c.loop-row.invariant in
    let none = rows_empty (g.S.PatchSet.meaning c.args.set.now) i.0 i.3 c.in-None.ensures.steps.0 in
    let all = partly_all _ _ _ _ _ _ i.2 (λ k a b. none k a) i.4 in
    record { cells = partly_replaced _ _ _ _ _ all; count = all.counted }
