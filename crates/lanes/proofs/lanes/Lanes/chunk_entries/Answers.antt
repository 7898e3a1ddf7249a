use Rattle.std.proofs.Common.{◌+◌, ◌≤◌, length, arith, rules}
use Rattle.lanes.proofs.LaneAnswers.{chunk_mono, chunk_top}
use Rattle.lanes.proofs.lanes.Lanes.chunk_entries.Goals as goal

pub offset_bounds-self-from : goal.offset_bounds-self-from
offset_bounds-self-from g c =
    let s = c.args.self.now in
    let h : c.chunk_begin-from.result ≤ length s.places.entries.now = omega (arith, c.chunk_begin-from.ensures, chunk_top s c.args.chunk (omega (arith, c.requires))) in
    search rules

pub slice_bounds-result-count : goal.slice_bounds-result-count
slice_bounds-result-count g c =
    let s = c.args.self.now in
    let n = c.args.chunk in
    omega (arith, c.chunk_begin-from.ensures, c.chunk_begin-to.ensures, chunk_mono s n (n + 1) (omega arith) (omega (arith, c.requires)))

pub slice_bounds-result-start : goal.slice_bounds-result-start
slice_bounds-result-start g c =
    let s = c.args.self.now in
    let n = c.args.chunk in
    let h : c.chunk_begin-from.result ≤ c.chunk_begin-to.result = omega (arith, c.chunk_begin-from.ensures, c.chunk_begin-to.ensures, chunk_mono s n (n + 1) (omega arith) (omega (arith, c.requires))) in
    search rules

pub slice_bounds-result-end : goal.slice_bounds-result-end
slice_bounds-result-end g c =
    let s = c.args.self.now in
    omega (arith, c.chunk_begin-to.ensures, chunk_top s (c.args.chunk + 1) (omega (arith, c.requires)))
