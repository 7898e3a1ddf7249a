use Rattle.std.proofs.Common.{ap, ◌∙◌, ◌+◌, ◌*◌, ◌/◌}
use Rattle.search_sorted.specs.RowMasks.{set_below}
use Rattle.search_sorted.proofs.RowMaskBits.{below_masked}
use Rattle.search_sorted.proofs.row_mask.count_in_byte.Goals as goal

pub returns : goal.returns
returns c = ap (λ n. set_below c.args.bytes.now (8 * (c.args.row / 8)) + n) c.from.ensures ∙ below_masked c.args.bytes.now c.args.row c.byte_at.result c.byte_at.ensures
