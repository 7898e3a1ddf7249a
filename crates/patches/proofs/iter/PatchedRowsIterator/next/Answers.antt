use Rattle.std.proofs.Common.{length, ap, arith}
use Rattle.patches.proofs.Listing.{rows_none, rows_some}
use Rattle.patches.proofs.iter.PatchedRowsIterator.next.Goals as goal

pub returns-in_err-next-clause-steps : goal.returns-in_err-next-clause-steps
returns-in_err-next-clause-steps g c =
    let p = c.args.self.now in
    let none = rows_none (g.S.PatchSet.meaning p.set.now) p.from c.in_err-next.ensures in
    rw c.from_residual.ensures (none, none)

pub returns : goal.returns
returns g c =
    let p = c.args.self.now in
    let next = c.in_ok-next.ensures in
    let comes = rows_some (g.S.PatchSet.meaning p.set.now) p.from c.in_ok-next.next next.0 next.2 next.1 in
    record { steps = comes; goes = record { on = λ ends. (tt, tt, omega (arith, ap length comes)); keeps = tt; rests = λ ends. tt } }
