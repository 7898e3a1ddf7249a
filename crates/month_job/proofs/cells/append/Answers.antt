use Rattle.std.proofs.Common.{◌≡◌, ◌<◌, ◌/◌, length, w64, SFits, arith, rules, []}
use Rattle.std.proofs.lemmas.Int.{to_z-of_z}
use Rattle.std.proofs.lemmas.List.{get_or-take, get_or-drop}
use Rattle.std.proofs.lemmas.Grind.{common_steps}
use Rattle.month_job.specs.Cells.{cell}
use Rattle.month_job.proofs.Parts.{cell_of_item}
use Rattle.month_job.proofs.cells.append.Goals as goal

-- that each item is the part at its place is searched for, so that it is found where the loop goes over a slice of all parts, too
pub loop-part-preserved : goal.loop-part-preserved
loop-part-preserved c =
    let i = c.loop-part.part-index in
    let n = length c.args.bytes.now / 8 in
    let lt : i < n = grind (arith, common_steps) in
    let f : SFits w64 c.from_le_bytes.result = search rules in
    let is : c.from_le_bytes.result ≡ cell c.args.bytes.now i =
    cell_of_item _ n c.args.bytes.now c.as_chunks.result.0.now i [] c.from_le_bytes.ensures
    (search (rules, get_or-take, get_or-drop)) c.as_chunks.ensures.front lt in
    let put = to_z-of_z w64 c.from_le_bytes.result f in
    (search rules, grind (arith, common_steps), search rules)
