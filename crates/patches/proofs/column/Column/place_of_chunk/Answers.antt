use Rattle.std.proofs.Common.{sym, ◌∙◌, arith}
use Rattle.search_sorted.specs.Numbers.{count, number}
use Rattle.patches.specs.Columns.{index, patches}
use Rattle.patches.proofs.Entries.{got_none, under_first, under_last, own_count, own_found}
use Rattle.patches.proofs.column.Column.place_of_chunk.Goals as goal

pub returns-then-chunk-eq0 : goal.returns-then-chunk-eq0
returns-then-chunk-eq0 g c =
    let s = c.args.self.now in
    sym (under_first (index s) (patches s) s.offset s.rows s.inside c.args.chunk c.if-chunk-eq0.true)

pub overflow_sub-result : goal.overflow_sub-result
overflow_sub-result g c =
    let s = c.args.self.now in
    omega (arith, own_found s c.args.table c.requires.own c.args.chunk c.in-Some.entry (omega arith) c.in-Some.ensures)

pub returns-in-Some : goal.returns-in-Some
returns-in-Some g c =
    let s = c.args.self.now in
    omega (arith, own_found s c.args.table c.requires.own c.args.chunk c.in-Some.entry (omega arith) c.in-Some.ensures)

pub returns-in-None : goal.returns-in-None
returns-in-None g c =
    let s = c.args.self.now in
    let t = c.args.table in
    s.paired ∙ sym (under_last (index s) (patches s) s.offset s.rows s.inside c.args.chunk (omega (arith, own_count s t c.requires.own, got_none (number t.entries) (count t.entries) c.args.chunk c.in-None.ensures)))
