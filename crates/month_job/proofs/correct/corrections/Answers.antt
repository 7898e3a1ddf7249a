use Rattle.std.proofs.Common.{◌≡◌, ltb, length, get_or, pos, vec_items, sym, ◌∙◌, refl, subst, arith, w64, SFits, rules, below_more}
use Rattle.std.proofs.lemmas.Int.{to_z-of_z}
use Rattle.patches.specs.Columns.{patch_at, patches, row_at}
use Rattle.month_job.specs.declared.correct.Correction.{Correction}
use Rattle.month_job.specs.Corrected.{IsCorrection}
use Rattle.month_job.proofs.Walks.{told_back, got_back}
use Rattle.month_job.proofs.correct.corrections.Goals as goal

pub loop-place-preserved : goal.loop-place-preserved
loop-place-preserved c =
    let column = c.args.column.now in
    let cells = c.args.cells.now in
    let here = c.loop-place.place in
    let row = c.unwrap-row.result in
    let before = c.in-Corrected.before in
    let after = c.in-Corrected.after in
    let c₀ : Correction = record { row = row; before = before; after = after } in
    let places = c.in_ok-push.ensures.by_index in
    let long = c.loop-place.invariant.0 in
    let row_is : row ≡ row_at column here = (got_back (ltb here (patches column)) row (row_at column here) (sym c.unwrap-row.ensures ∙ c.patched_row.ensures)).1 in
    let back = told_back (patch_at column row) (ltb row (length cells)) (get_or cells row (pos 0)) before after c.in-Corrected.ensures in
    let new : IsCorrection column cells here c₀ = record { row_is = row_is; before_is = back.0; after_is = back.1 } in
    let before-fits : SFits w64 before = search rules in
    let after-fits : SFits w64 after = search rules in
    let before_is = to_z-of_z w64 before before-fits in
    let after_is = to_z-of_z w64 after after-fits in
    let put : (x : Correction) → get_or (vec_items c.push.new.self) here x ≡ c₀ = λ x. let pushed = places.1 x refl in cc in (
      search rules,
      λ place d lt.
          below_more
          (λ k. (x : Correction) → IsCorrection column cells k (get_or (vec_items c.push.new.self) k x))
          here
          (λ k below x. subst (IsCorrection column cells k) (sym (places.0 k x (omega arith))) (c.loop-place.invariant.1 k x below))
          (λ x. subst (IsCorrection column cells here) (sym (put x)) new)
          place
          lt
          d,
    )
