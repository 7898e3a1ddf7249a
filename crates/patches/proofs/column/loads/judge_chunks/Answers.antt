use Rattle.std.proofs.Common.{inl}
use Rattle.search_sorted.specs.Numbers.{count, number}
use Rattle.patches.proofs.Judges.{table_wrong, names_wrong}
use Rattle.patches.proofs.column.loads.judge_chunks.Goals as goal

pub returns-in-Some-first_wrong-clause-judged : goal.returns-in-Some-first_wrong-clause-judged
returns-in-Some-first_wrong-clause-judged c =
    let p = c.args.indices.now.numbers in
    let t = c.in-Some.table in
    let s = c.args.span in
    let by = c.by-in-Some-first_wrong.ensures in
    let whole = c.in-Some-whole_table.ensures in
    inl (names_wrong (number p) (count p) s.offset s.rows c.in-Some-first_wrong.chunk t c.args.table c.by-in-Some-first_wrong.result c.in-Some.is by.reason by.part by.place whole.0
    (table_wrong t s.offset s.rows c.in-Some-whole_table.offsets whole (number p) (count p) c.in-Some-first_wrong.chunk c.in-Some-first_wrong.ensures))
