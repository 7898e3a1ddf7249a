use Rattle.std.proofs.Common.{length, sym, ap, ◌∙◌, arith}
use Rattle.patches.proofs.Listing.{listed_none, listed_some}
use Rattle.patches.proofs.iter.PatchesIterator.next.Goals as goal

pub returns-in_err-row-clause-steps : goal.returns-in_err-row-clause-steps
returns-in_err-row-clause-steps g c =
    let p = c.args.self.now in
    let none = listed_none (g.S.PatchSet.meaning p.set.now) p.from c.in_err-row.ensures in
    rw c.from_residual.ensures (none, none)

pub returns : goal.returns
returns g c =
    let p = c.args.self.now in
    let next = c.in_ok-row.ensures in
    let comes = listed_some (g.S.PatchSet.meaning p.set.now) p.from c.in_ok-row.row c.in_ok-value.value next.0 next.2 (sym c.find.ensures ∙ c.in_ok-value.was) in
    record { steps = comes; goes = record { on = λ ends. (tt, tt, omega (arith, ap length comes)); keeps = tt; rests = λ ends. tt } }
