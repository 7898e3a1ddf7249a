use Rattle.std.proofs.Common.{ℕ, ◌+◌, ◌<◌, rules, tests}
use Rattle.std.proofs.lemmas.Iterator.{first_from_Range}
use Rattle.search_sorted.specs.Numbers.{count, number}
use Rattle.patches.specs.Loads.{RightEntry}
use Rattle.patches.proofs.Judges.{wrong_found}
use Rattle.patches.proofs.column.loads.first_wrong.Goals as goal

pub returns : goal.returns
returns c =
    let f : ℕ → ℕ = number c.args.indices.now.numbers in
    let n : ℕ = count c.args.indices.now.numbers in
    let t = c.args.table.now in
    wrong_found f n (number t.entries) (number t.entries 0 + t.within) c.args.span.offset (count t.entries) c.find.result
    (rw c.len.ensures at (first_from_Range _ _ _ c.find.result (λ k. (k < count t.entries → RightEntry f n (number t.entries) (number t.entries 0 + t.within) c.args.span.offset k) → ⊥) (λ k. k < count t.entries → RightEntry f n (number t.entries) (number t.entries 0 + t.within) c.args.span.offset k) c.find.ensures.ran
    (λ x q k. search (rules, tests))
    (λ x q k. search (rules, tests))))
