use Rattle.std.proofs.Common.{ap, arith}
use Rattle.search_sorted.specs.Numbers.{count, number}
use Rattle.patches.proofs.Unders.{count_by_both, count_by_first, count_not_past}
use Rattle.patches.proofs.column.loads.is_count_under.Goals as goal

pub returns-then-place-len : goal.returns-then-place-len
returns-then-place-len c =
    let p = c.args.indices.now.numbers in
    let same = c.numbers-numbers.ensures in
    count_not_past (number p) c.args.bound (count p) c.args.place (omega (arith, ap count same))

pub returns-then-below_before : goal.returns-then-below_before
returns-then-below_before c =
    let p = c.args.indices.now.numbers in
    let same = c.numbers-numbers.ensures in
    count_by_both (number p) c.args.bound (count p) c.args.place c.args.indices.now.up (omega (arith, ap count same)) c.below_before.result c.not_below_at.result (rw same at c.below_before.ensures) (rw same at c.not_below_at.ensures) c.if-below_before.true

pub returns-else-below_before : goal.returns-else-below_before
returns-else-below_before c =
    let p = c.args.indices.now.numbers in
    let same = c.numbers-numbers.ensures in
    count_by_first (number p) c.args.bound (count p) c.args.place c.args.indices.now.up (omega (arith, ap count same)) c.below_before.result (rw same at c.below_before.ensures) c.if-below_before.false
