use Rattle.std.proofs.Common.{sym, ◌∙◌, inl, inr, arith}
use Rattle.std.proofs.lemmas.Bool.{false≢true}
use Rattle.lanes.proofs.LaneCounts.{count_from_tests, tests_from_count}
use Rattle.lanes.proofs.lane_count.LaneCount.new.Goals as goal

pub invariant_of-result : goal.invariant_of-result
invariant_of-result c =
    record { counted = count_from_tests c.args.number (sym c.is_power_of_two.ensures ∙ c.if-is_power_of_two.true) c.if-number-le1024.true }

pub returns-else-is_power_of_two-clause-judged : goal.returns-else-is_power_of_two-clause-judged
returns-else-is_power_of_two-clause-judged c =
    inl (record {
      why = c.by.ensures.reason;
      who = c.by.ensures.part;
      where_it_is = (
        c.by.ensures.place,
        (λ is. let t = tests_from_count c.args.number is in
            elim c.else-is_power_of_two.either [
              | inl large ↦ omega (arith, large, t.1)
              | inr other ↦ false≢true (sym other ∙ c.is_power_of_two.ensures ∙ t.0)
            ]),
      );
    })
