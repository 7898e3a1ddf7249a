use Rattle.std.proofs.Common.{ℕ, length, rules}
use borrow.Author.Tests.{tests}
use Rattle.std.proofs.lemmas.Iterator.{first_from_Range}
use Rattle.lanes.specs.LaneRules.{WrongOffset}
use Rattle.lanes.proofs.LaneOffsets.{first_among}
use Rattle.lanes.proofs.lanes.places.Places.first_wrong_offset.Goals as goal

pub returns : goal.returns
returns c =
    let p = c.args.self.now in
    let P : ℕ → Type 0 = WrongOffset p.offsets.now p.entries.now in
    first_among (length p.offsets.now) P c.find.result (λ k w. w.0)
    (first_from_Range (record { start = 0; end = length p.offsets.now }) c.find.new.self _ c.find.result P (λ k. P k → ⊥) c.find.ensures.ran (λ x q k. search (rules, tests)) (λ x q k. search (rules, tests)))
