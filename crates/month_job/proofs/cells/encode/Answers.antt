use Rattle.std.proofs.Common.{◌≡◌, ◌++◌, get_or, ℤ, pos, vec_items, refl, ap, ◌∙◌, w64, SFits, of_z, rules}
use Rattle.std.proofs.lemmas.Int.{to_z-of_z}
use Rattle.std.specs.Int.{to_le_bytes}
use Rattle.month_job.proofs.Encoding.{encoded_more}
use Rattle.month_job.proofs.cells.encode.Goals as goal

pub loop-amount-preserved : goal.loop-amount-preserved
loop-amount-preserved c =
    let z : ℤ = get_or c.args.cells.now c.loop-amount.amount-index (pos 0) in
    let f : SFits w64 z = search rules in
    let put : vec_items c.extend_from_slice.new.self ≡ vec_items c.loop-amount.bytes ++ to_le_bytes w64 (of_z w64 z) =
    c.in_ok-extend_from_slice.ensures.items
    ∙ (ap (λ l. vec_items c.loop-amount.bytes ++ l) c.to_le_bytes.ensures
    ∙ ap (λ y. vec_items c.loop-amount.bytes ++ to_le_bytes w64 (of_z w64 y)) (to_z-of_z w64 z f)) in
    (search rules, encoded_more (vec_items c.loop-amount.bytes) _ _ _ z f (search rules) put refl c.loop-amount.invariant.1)
