use Rattle.std.proofs.Common.{◌∙◌, arith}
use Rattle.std.proofs.lemmas.Bool.{both_ways}
use Rattle.search_sorted.specs.declared.search.SearchResult.TheVariants.{NotFound}
use Rattle.search_sorted.specs.Search.{Answers}
use Rattle.search_sorted.proofs.Found.{NoneNear, not_found, finds_from_answer}
use Rattle.search_sorted.proofs.search.search_sorted.Goals as goal
use Rattle.search_sorted.proofs.search.search_sorted.Goals.{in-Left, in-Right+then-place-gt0, in-Right+else-place-gt0}

pub returns-else-found : goal.returns-else-found
returns-else-found g c =
    let near : NoneNear g.S.IndexOrd.order (g.S.IndexOrd.keys c.args.sequence.now) c.args.needle.now c.args.side c.partition_place-place.result =
    elim c.match-side.branch [
      | in-Left w ↦ rw w.in-Left.is (λ e. both_ways c.match-side.found c.if-found.false (w.found-is ∙ w.is_equal-found.ensures.1 e))
      | in-Right+then-place-gt0 w ↦ rw w.in-Right.is (λ _ e. both_ways c.match-side.found c.if-found.false (w.found-is ∙ w.is_equal.ensures.1 e))
      | in-Right+else-place-gt0 w ↦ rw w.in-Right.is (λ gt _. omega arith)
    ]
    in
    let answer : Answers g.S.IndexOrd.order (g.S.IndexOrd.keys c.args.sequence.now) c.args.needle.now c.args.side (NotFound c.partition_place-place.result) =
    not_found g.S.IndexOrd.order _ _ (g.S.IndexOrd.rising c.args.sequence.now) _ _ c.partition_place-place.ensures near
    in
    record {
      answer = answer;
      partition = c.partition_place-place.ensures;
      found = finds_from_answer g.S.IndexOrd.order _ _ c.args.side _ answer;
    }
