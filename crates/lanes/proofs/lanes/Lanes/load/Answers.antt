use Rattle.std.proofs.Common.{◌≡◌, ◌+◌, length, sym, refl, ap, ◌∙◌, subst, inl, inr, arith}
use Rattle.lanes.specs.LaneRules.{IsLaneCount, lane_total, WrongPlace, WrongTable, RightEntries}
use Rattle.lanes.proofs.LaneOffsets.{wrong_table, right_table}
use Rattle.lanes.proofs.lanes.Lanes.load.Goals as goal

pub returns-in-Some-clause-judged : goal.returns-in-Some-clause-judged
returns-in-Some-clause-judged g c =
    let t = c.args.tables.now in
    let lanes = c.in_ok-lanes.lanes in
    let by = c.wrong_table-in-Some.ensures in
    let same : lanes.number ≡ t.lanes = c.in_ok-lanes.ensures.same in
    let long : length t.offsets.now ≡ lane_total t.lanes t.rows + 1 = c.if-tables-offset_count.false ∙ ap (λ n. n + 1) (c.total-offset_count.ensures.is ∙ ap (λ n. lane_total n t.rows) same) in
    let wrong = subst (λ n. WrongPlace t.offsets.now t.entries.now t.rows n c.in-Some.place) same c.in-Some.ensures in
    inr (
      (λ place h. omega (arith, h.1)),
      inr (
        (λ place h. h.1 (subst IsLaneCount same lanes.counted)),
        inl (record {
          why = by.reason;
          who = by.part;
          where_it_is = subst (WrongTable t.offsets.now t.entries.now t.rows t.lanes (length t.values.now)) (sym by.place) (wrong_table t.offsets.now t.entries.now t.rows t.lanes (length t.values.now) long c.if-tables.false c.in-Some.place wrong);
        }),
      ),
    )

pub returns : goal.returns
returns g c =
    let t = c.args.tables.now in
    let lanes = c.in_ok-lanes.lanes in
    let same : lanes.number ≡ t.lanes = c.in_ok-lanes.ensures.same in
    let long : length t.offsets.now ≡ lane_total t.lanes t.rows + 1 = c.if-tables-offset_count.false ∙ ap (λ n. n + 1) (c.total-offset_count.ensures.is ∙ ap (λ n. lane_total n t.rows) same) in
    let right = subst (RightEntries t.offsets.now t.entries.now t.rows) same c.in_default.ensures.1 in
    record {
      judged = (
        (λ place h. omega (arith, h.1)),
        ((λ place h. h.1 (subst IsLaneCount same lanes.counted)), (right_table t.offsets.now t.entries.now t.rows t.lanes (length t.values.now) long c.if-tables.false c.in_default.ensures.0 right, tt)),
      );
      holds = record { rows = refl; lanes = same; offsets = refl; entries = refl; values = refl };
    }
