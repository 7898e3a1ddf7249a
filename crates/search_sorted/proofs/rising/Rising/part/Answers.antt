use Rattle.std.proofs.Common.{◌+◌, arith}
use Rattle.search_sorted.proofs.rising.Rising.part.Goals as goal

pub invariant_of-result : goal.invariant_of-result
invariant_of-result c =
    let p = c.part.ensures in
    let s = c.args.self.now in
    record { up = λ i j lt h. rw (p.each i (omega arith), p.each j h) (s.up (c.args.from + i) (c.args.from + j) (omega arith) (omega (arith, p.counted))) }
