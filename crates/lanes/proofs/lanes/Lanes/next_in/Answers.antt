use Rattle.std.proofs.Common.{◌+◌, ◌*◌, Some, None, sym, subst, arith}
use Rattle.lanes.specs.LaneMeaning.{Least, NextUnder, patch_in}
use Rattle.lanes.proofs.LaneCounts.{chunks_are}
use Rattle.lanes.proofs.LaneAnswers.{next_none_in, next_some_in, least_low}
use Rattle.lanes.proofs.lanes.Lanes.next_in.Goals as goal

pub overflow_add-result : goal.overflow_add-result
overflow_add-result g c =
    let s = c.args.self.now in
    let some = subst (λ xs. Least xs c.args.least (Some c.in_ok-entry.entry)) c.chunk_entries.ensures c.in_ok-entry.ensures in
    omega (arith, s.places.few, chunks_are s.places.rows, c.requires.chunk, least_low s c.args.chunk c.requires.chunk c.args.least c.in_ok-entry.entry some)

pub returns-in_err-entry : goal.returns-in_err-entry
returns-in_err-entry g c =
    let s = c.args.self.now in
    let none = subst (λ xs. Least xs c.args.least None) c.chunk_entries.ensures c.in_err-entry.ensures in
    subst (NextUnder (patch_in s) (1024 * c.args.chunk + c.args.least) (1024 * (c.args.chunk + 1))) (sym c.from_residual.ensures) (next_none_in s c.args.chunk c.requires.chunk c.args.least none)

pub returns : goal.returns
returns g c =
    let s = c.args.self.now in
    next_some_in s c.args.chunk c.requires.chunk c.args.least c.in_ok-entry.entry (subst (λ xs. Least xs c.args.least (Some c.in_ok-entry.entry)) c.chunk_entries.ensures c.in_ok-entry.ensures)
