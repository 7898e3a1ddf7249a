use Rattle.std.proofs.Common.{◌*◌, ◌/◌, arith}
use Rattle.search_sorted.specs.RowMaskLaws.{below_le}
use Rattle.search_sorted.proofs.RowMaskBits.{ones_below}
use Rattle.search_sorted.proofs.row_mask.count_below.Goals as goal

pub overflow_add-result : goal.overflow_add-result
overflow_add-result c = let bytes = c.args.bytes.now in omega (arith, ones_below bytes (c.args.row / 8) (omega arith) c.type_inv.bytes, below_le bytes c.args.row)

pub returns : goal.returns
returns c = omega (arith, ones_below c.args.bytes.now (c.args.row / 8) (omega arith) c.type_inv.bytes)

pub count_ones-requires : goal.count_ones-requires
count_ones-requires c = let bytes = c.args.bytes.now in omega (arith, ones_below bytes (c.args.row / 8) (omega arith) c.type_inv.bytes, below_le bytes (8 * (c.args.row / 8)))
