use Rattle.std.proofs.Common.{◌∙◌, arith, ap}
use Rattle.std.specs.Int.{w64, to_le_bytes}
use Rattle.search_sorted.proofs.Weights.{written}
use Rattle.search_sorted.proofs.writes.write_number.Goals as goal

pub returns : goal.returns
returns c =
    written c.args.out.now c.copy_from_slice.new.self c.args.place c.args.number _ (omega arith) (omega arith) c.ranges.number.fits
    (c.copy_from_slice.ensures.after ∙ c.to_le_bytes.ensures ∙ ap (to_le_bytes w64) (omega arith))
