use Rattle.std.proofs.Common.{◌≡◌, ◌<◌, refl, ap, ◌∙◌, arith}
use Rattle.patches.specs.Tables.{has_table}
use Rattle.patches.proofs.Narrowing.{Info, info_some, info_none, part_inside, part_paired, part_good, part_patched, part_counted, part_left, table_gone, table_stays}
use Rattle.patches.proofs.column.Column.narrow.Goals as goal
use Rattle.patches.proofs.column.Column.narrow.Goals.{then-start-end, else-start-end}

pub invariant_of-self : goal.invariant_of-self
invariant_of-self g c =
    let s = c.args.self.now in
    let a = c.args.a in
    let b = c.args.b in
    let from = c.places_of_rows-start.result.start in
    let to = c.places_of_rows-start.result.end in
    let at = c.places_of_rows-start.ensures in
    let q = c.part-indices.result.numbers in
    let p = c.part-indices.ensures in
    let u = c.if-start-end.chunks in
    let info : Info s.chunks u s.offset a b from to = elim c.if-start-end.branch [
      | then-start-end w ↦ info_some s.chunks u _ s.offset a b from to w.chunks-is w.if-start-end.true w.kept_chunks-chunks.ensures
      | else-start-end w ↦ info_none s.chunks u s.offset a b from to w.chunks-is
    ] in
    let good = part_good s a b from to c.if-a-b.false c.if-b-self.false at q p u info in
    record {
      short = omega (arith, s.short);
      paired = part_paired s a b from to c.if-a-b.false c.if-b-self.false at q p;
      inside = part_inside s a b from to c.if-a-b.false c.if-b-self.false at q p;
      some = good.some;
      tabled = good.tabled;
      near = good.near;
      low = good.low;
      counted = good.counted;
    }

pub returns-clause-narrowed : goal.returns-clause-narrowed
returns-clause-narrowed g c =
    let s = c.args.self.now in
    let a = c.args.a in
    let b = c.args.b in
    let ab = c.if-a-b.false in
    let br = c.if-b-self.false in
    let from = c.places_of_rows-start.result.start in
    let to = c.places_of_rows-start.result.end in
    let at = c.places_of_rows-start.ensures in
    let q = c.part-indices.result.numbers in
    let p = c.part-indices.ensures in
    let u = c.if-start-end.chunks in
    let info : Info s.chunks u s.offset a b from to = elim c.if-start-end.branch [
      | then-start-end w ↦ info_some s.chunks u _ s.offset a b from to w.chunks-is w.if-start-end.true w.kept_chunks-chunks.ensures
      | else-start-end w ↦ info_none s.chunks u s.offset a b from to w.chunks-is
    ] in
    let kept : from < to → has_table u ≡ has_table s.chunks = λ lt. elim c.if-start-end.branch [
      | then-start-end w ↦ ap has_table w.chunks-is ∙ w.kept_chunks-chunks.ensures.0
      | else-start-end w ↦ absurd (omega (arith, w.if-start-end.false))
    ] in (
      record {
        dropped = from;
        dropped_is = at.from_is;
        rows = refl;
        offset = refl;
        patched = part_patched s a b from to ab br at q p;
        count = part_counted s a b from to ab br at q p;
        indices = p.each;
        no_table = table_gone s a b from to ab br at q p u info;
        some_table = table_stays s a b from to ab br at q p u info kept;
        table = λ has. (info has).2;
      },
      c.then_some.ensures ∙ part_left s a b from to ab br at q p,
    )
