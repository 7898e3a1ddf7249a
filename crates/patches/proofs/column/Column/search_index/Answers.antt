use Rattle.std.proofs.Common.{◌+◌, ◌≤◌, arith}
use Rattle.search_sorted.specs.Search.{place_of}
use Rattle.search_sorted.specs.Listed.{length_listed}
use Rattle.search_sorted.specs.Numbers.{count, number}
use Rattle.search_sorted.proofs.Lefts.{finds_from, finds_to}
use Rattle.patches.specs.Columns.{index, patches}
use Rattle.patches.proofs.Shifts.{part_within, chunk_finds}
use Rattle.patches.proofs.column.Column.search_index.Goals as goal

pub counted_from-requires : goal.counted_from-requires
counted_from-requires g c =
    let s = c.args.self.now in
    let q = c.part-part.result.numbers in
    let place = place_of c.search_sorted-found.result in
    let within : place ≤ count q = omega (arith, c.search_sorted-found.ensures.partition.within, length_listed (number q) (count q)) in
    omega (arith, s.low, part_within s q c.args.row _ _ _ (omega arith) c.places_of_chunk-places.ensures c.part-part.ensures place within)

pub returns : goal.returns
returns g c =
    let s = c.args.self.now in
    let q = c.part-part.result.numbers in
    let x = s.offset + c.args.row in
    let found = c.search_sorted-found.result in
    let whole = finds_to (index s) (patches s) x _ (chunk_finds s q c.args.row _ _ _ (omega arith) c.places_of_chunk-places.ensures c.part-part.ensures found (finds_from (number q) (count q) x found c.search_sorted-found.ensures.answer)) in
    rw c.counted_from.ensures (record {
      among = λ h. whole;
      past = λ h. absurd (omega arith);
    })
