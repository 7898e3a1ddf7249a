use Rattle.std.proofs.Common.{◌≡◌, sym, ◌∙◌, arith}
use Rattle.std.proofs.lemmas.Map.Lookups.{exact_unsigned}
use Rattle.search_sorted.proofs.RowMaskPlaces.{row_past, row_equal, row_unset, row_ranked}
use Rattle.search_sorted.proofs.row_mask.SetRowsIndexOrd.index_cmp.Goals as goal

pub returns-then-place-true_count : goal.returns-then-place-true_count
returns-then-place-true_count c =
    let mask = c.args.self.now.mask in
    sym (row_past mask.bytes.now mask.rows c.args.place c.args.needle.now c.true_count.result c.true_count.ensures c.if-place-true_count.true)

pub returns-in-Equal : goal.returns-in-Equal
returns-in-Equal c =
    let mask = c.args.self.now.mask in
    let same : c.args.place ≡ c.rank-before.result = exact_unsigned _ _ (sym c.cmp.ensures ∙ c.in-Equal.is) in
    sym (row_equal mask.bytes.now mask.rows c.args.place c.args.needle.now c.true_count.result c.true_count.ensures c.if-place-true_count.false
    c.rank-before.result c.rank-before.ensures same c.contains.result c.contains.ensures c.if-contains.true)

pub returns-in-Equal-2 : goal.returns-in-Equal-2
returns-in-Equal-2 c =
    let mask = c.args.self.now.mask in
    let same : c.args.place ≡ c.rank-before.result = exact_unsigned _ _ (sym c.cmp.ensures ∙ c.in-Equal.is) in
    sym (row_unset mask.bytes.now mask.rows c.args.place c.args.needle.now c.true_count.result c.true_count.ensures c.if-place-true_count.false
    c.rank-before.result c.rank-before.ensures (omega arith) c.contains.result c.contains.ensures c.if-contains.false)

pub returns-in_default : goal.returns-in_default
returns-in_default c =
    let mask = c.args.self.now.mask in
    sym (row_ranked mask.bytes.now mask.rows c.args.place c.args.needle.now c.true_count.result c.true_count.ensures c.if-place-true_count.false
    c.rank-before.result c.rank-before.ensures c.cmp.result c.cmp.ensures c.in_default.not-Equal)
