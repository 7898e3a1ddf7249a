use Rattle.std.proofs.Common.{◌≡◌, ◌-◌, ◌+◌, ◌<◌, inl, inr, ap, ◌∙◌, arith, rules}
use Rattle.std.proofs.lemmas.Bool.{cases_lt}
use Rattle.search_sorted.specs.Packed.{Ascending}
use Rattle.search_sorted.specs.Numbers.{number}
use Rattle.search_sorted.proofs.Places.{rises_on}
use Rattle.search_sorted.proofs.fixed.Fixed.first_fall.Goals as goal

pub loop-place-preserved : goal.loop-place-preserved
loop-place-preserved g c =
    let f = number c.args.self.now.numbers in
    let place = c.loop-place.place in (
      (c.at-number.ensures ∙ ap f (omega arith)),
      rises_on f place c.loop-place.before (omega arith) c.loop-place.invariant.0 c.loop-place.invariant.1 (omega (arith, c.at-number.ensures)),
    )
