use Rattle.std.proofs.Common.{sym, ◌∙◌}
use Rattle.search_sorted.specs.RowMaskLaws.{rows_length}
use Rattle.search_sorted.proofs.row_mask.SetRowsIndexOrd.index_len.Goals as goal

pub returns : goal.returns
returns c =
    let mask = c.args.self.now.mask in
    c.true_count.ensures ∙ sym (rows_length mask.bytes.now mask.rows)
