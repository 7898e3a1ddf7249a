use Rattle.std.proofs.Common.{◌+◌, unwrap_or, ap, ◌∙◌, arith}
use Rattle.patches.specs.Columns.{index, patches}
use Rattle.patches.proofs.Unders.{under_le}
use Rattle.patches.proofs.Entries.{own_low}
use Rattle.patches.proofs.Kept.{own_kept_low, own_kept_table}
use Rattle.patches.proofs.column.Column.kept_chunks.Goals as goal

pub overflow_add-base : goal.overflow_add-base
overflow_add-base g c =
    let s = c.args.self.now in
    omega (arith, own_low s c.in_ok-table.table c.in_ok-table.was, c.requires.place, under_le (index s) (s.offset + c.args.a) (patches s))

pub overflow_sub-result : goal.overflow_sub-result
overflow_sub-result g c =
    let s = c.args.self.now in
    own_kept_low s c.in_ok-table.table c.in_ok-table.was c.args.a c.args.b c.requires.some c.requires.rows c.part-entries.result c.args.dropped _ _ _ _ (omega arith) (omega arith) c.part-entries.ensures (omega arith) (c.unwrap_or.ensures ∙ ap (λ o. unwrap_or o 0) c.get.ensures) c.requires.place

pub returns : goal.returns
returns g c =
    let s = c.args.self.now in
    own_kept_table s c.in_ok-table.table c.in_ok-table.was c.args.a c.args.b c.requires.some c.requires.rows c.part-entries.result c.args.dropped _ _ _ _ (omega arith) (omega arith) c.part-entries.ensures (omega arith) (c.unwrap_or.ensures ∙ ap (λ o. unwrap_or o 0) c.get.ensures) c.requires.place
