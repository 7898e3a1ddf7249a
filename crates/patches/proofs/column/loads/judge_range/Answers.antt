use Rattle.std.proofs.Common.{rules}
use Rattle.search_sorted.specs.Numbers.{count, number}
use Rattle.patches.proofs.Judges.{inside_ends}
use Rattle.patches.proofs.column.loads.judge_range.Goals as goal

pub returns-clause-inside : goal.returns-clause-inside
returns-clause-inside c =
    let p = c.args.indices.now in
    inside_ends (number p.numbers) (count p.numbers) c.args.span.offset c.args.span.rows c.requires.some p.up (search rules)
