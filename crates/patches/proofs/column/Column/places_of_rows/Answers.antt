use Rattle.std.proofs.Common.{arith}
use Rattle.patches.proofs.Unders.{places_made}
use Rattle.patches.proofs.column.Column.places_of_rows.Goals as goal

pub returns : goal.returns
returns g c = places_made c.args.self.now _ _ _ _ (omega arith) c.place_of_row.ensures c.place_of_row-2.ensures
