use Rattle.std.proofs.Common.{refl, arith}
use Rattle.search_sorted.proofs.Parts.{part_of}
use Rattle.search_sorted.proofs.packed.Packed.part.Goals as goal

pub returns : goal.returns
returns c = part_of c.args.self.now _ _ _ _ c.args.from c.args.to c.bytes-size.ensures refl refl (omega arith) c.min-from.ensures
