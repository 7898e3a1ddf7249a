use Rattle.std.proofs.Common.{◌≡◌, ◌+◌, ◌≤◌, ap, ◌∙◌, arith, rules}
use Rattle.std.specs.Iterator.Adapters.{enumerate_source, enumerate_count}
use Rattle.std.specs.Str.Iter.{lines_rest}
use Rattle.month_job.specs.Jobs.{newlines}
use Rattle.month_job.proofs.LineCount.{ahead_more, ahead_none}
use Rattle.month_job.proofs.job.parse.Goals as goal

pub loop-index-init : goal.loop-index-init
loop-index-init c =
    let same = c.into_iter-index-iterator.ensures.into_iter_gives in
    record {
      can_next = search rules;
      finite = search rules;
      ahead = ahead_none _ _ _ (ap (λ i. lines_rest (enumerate_source i)) same ∙ (ap lines_rest c.enumerate-index-items.ensures.source ∙ c.lines.ensures.rest)) (ap enumerate_count same ∙ c.enumerate-index-items.ensures.count);
      placed = search rules;
      form = search rules;
    }

pub loop-index-preserved : goal.loop-index-preserved
loop-index-preserved c =
    let steps = c.in-Some.ensures.steps in
    let here : c.in-Some.index ≡ enumerate_count c.loop-index.index-iterator = steps.1 in
    let within : enumerate_count c.loop-index.index-iterator + newlines (lines_rest (enumerate_source c.loop-index.index-iterator)) ≤ newlines c.args.text.now =
    c.loop-index.invariant.ahead.before steps.0.0.0 in
    record {
      can_next = search rules;
      finite = search rules;
      ahead = ahead_more _ _ _ _ _ _ (search rules) steps.0.0.2 steps.2 c.loop-index.invariant.ahead;
      placed = c.in_ok-read.ensures.placed (newlines c.args.text.now + 1) (omega arith) (omega arith) c.loop-index.invariant.placed;
      form = λ whole. c.in_ok-read.ensures.form whole (c.loop-index.invariant.form whole);
    }
