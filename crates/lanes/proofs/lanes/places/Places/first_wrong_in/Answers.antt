use Rattle.std.proofs.Common.{ℕ, ◌+◌, rules}
use borrow.Author.Tests.{tests}
use Rattle.std.proofs.lemmas.Iterator.{first_from_Range}
use Rattle.lanes.specs.LaneRules.{begin_of, BreaksIn}
use Rattle.lanes.proofs.LaneOffsets.{first_within}
use Rattle.lanes.proofs.lanes.places.Places.first_wrong_in.Goals as goal

pub returns : goal.returns
returns c =
    let p = c.args.self.now in
    let lane = c.args.lane in
    let P : ℕ → Type 0 = λ k. BreaksIn p.offsets.now p.entries.now p.rows p.lanes.number lane k in
    first_within c.of_lane.result.start c.of_lane.result.end (begin_of p.offsets.now p.entries.now lane) (begin_of p.offsets.now p.entries.now (lane + 1)) P c.find.result c.of_lane.ensures.start c.of_lane.ensures.end
    (first_from_Range c.of_lane.result c.find.new.self _ c.find.result P (λ k. P k → ⊥) c.find.ensures.ran (λ x q k. search (rules, tests)) (λ x q k. search (rules, tests)))
