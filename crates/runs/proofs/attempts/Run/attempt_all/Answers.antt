use Rattle.std.proofs.Common.{◌+◌, ◌-◌, ◌≤◌, length, drop, refl, ◌∙◌, arith, length-drop}
use borrow.Rule.Slice.PartMut.{same_len_mid}
use Rattle.std.proofs.lemmas.List.{length-take-le}
use Rattle.runs.proofs.Dealing.{dealt_more, all_leads, all_listed, all_rest}
use Rattle.runs.proofs.attempts.Run.attempt_all.Goals as goal

pub loop-entry-preserved : goal.loop-entry-preserved
loop-entry-preserved g c =
    let s = c.loop-entry.invariant in
    let inside : c.loop-entry.at ≤ length c.loop-entry.cells = omega (arith, s.place) in
    let short : c.loop-entry.at + c.min-n.result - c.loop-entry.at ≤ length (drop c.loop-entry.at c.loop-entry.cells) = simp length-drop (omega arith) in
    dealt_more _ c.make.result.1 c.make.new.cells s (omega (arith, s.as_many)) refl
    (omega (arith, c.cells.ensures)) (omega arith) (c.make.auto.cells ∙ length-take-le _ _ short) refl (same_len_mid _ _ _ _ c.make.auto.cells) refl c.make.ensures

pub returns : goal.returns
returns g c =
    let s = c.loop-entry.invariant in
    record {
      attempts = s.attempts;
      rest = all_rest s (omega arith);
      leads = all_leads s (omega arith);
      every_list = all_listed s (omega arith);
    }
