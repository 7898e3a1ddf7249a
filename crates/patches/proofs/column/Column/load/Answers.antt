use Rattle.std.proofs.Common.{◌≡◌, ◌+◌, ◌/◌, ◌≤◌, length, sym, ap, ◌∙◌, subst, arith}
use Rattle.std.proofs.lemmas.Result.{err_from_is_err_and}
use Rattle.search_sorted.specs.Packed.{number_at}
use Rattle.search_sorted.specs.Numbers.{count, number}
use Rattle.patches.specs.declared.refusal.Part.TheVariants.{Column}
use Rattle.patches.specs.Refusals.{AllKept, NamesFirst}
use Rattle.patches.specs.Chunks.{limit}
use Rattle.patches.specs.Loads.{shape_rules, index_rules}
use Rattle.patches.proofs.Judges.{first_after_kept, kept_both}
use Rattle.patches.proofs.Files.{file_some, file_values, file_rules, count_rows}
use Rattle.patches.proofs.column.Column.load.Goals as goal

pub returns-in_err-indices-clause-judged : goal.returns-in_err-indices-clause-judged
returns-in_err-indices-clause-judged g c =
    let f = c.args.file.now in
    let is = c.in_ok-numbers.ensures in
    let e = err_from_is_err_and c.from_residual-in_err-indices.result c.from_residual-in_err-indices.ensures.1 in
    rw (e.1, e.2) (first_after_kept Column (shape_rules f.width f.indices.now (length f.values.now) f.rows f.offset) (index_rules (number_at f.indices.now f.width) (length f.indices.now / f.width) f.chunks f.offset f.rows) _ is.judged
    (subst (λ r. NamesFirst Column r c.in_err-indices.field-0.0) (file_rules f c.in_ok-numbers.numbers c.in_ok-numbers.span is.judged is.shaped) c.in_err-indices.ensures.judged))

pub invariant_of-self : goal.invariant_of-self
invariant_of-self g c =
    let f = c.args.file.now in
    let s = c.in_ok-numbers.span in
    let is = c.in_ok-numbers.ensures in
    let p = c.in_ok-indices.indices.numbers in
    let sound = c.in_ok-indices.ensures.holds in
    let counts : count p ≡ count c.in_ok-numbers.numbers = ap count sound.numbers in
    let inside = rw (is.shaped.offset, is.shaped.rows) at sound.inside in
    let fits = rw (is.shaped.offset, is.shaped.rows) at sound.fits in
    let short : f.offset + f.rows ≤ limit = omega (arith, s.short, is.shaped) in
    let few : count p ≤ f.rows = count_rows (number p) (count p) f.offset f.rows c.in_ok-indices.indices.up inside in
    record {
      short = short;
      paired = file_values f c.in_ok-numbers.numbers s is.judged is.shaped ∙ sym counts;
      inside = inside;
      some = λ e. omega (arith, counts, file_some f c.in_ok-numbers.numbers s is.judged is.shaped);
      tabled = fits.tabled;
      near = fits.near;
      low = omega (arith, fits.base, fits.near, few, short);
      counted = fits.counted;
    }

pub returns-clause-judged : goal.returns-clause-judged
returns-clause-judged g c =
    let f = c.args.file.now in
    let is = c.in_ok-numbers.ensures in
    kept_both (shape_rules f.width f.indices.now (length f.values.now) f.rows f.offset) (index_rules (number_at f.indices.now f.width) (length f.indices.now / f.width) f.chunks f.offset f.rows) is.judged
    (subst AllKept (file_rules f c.in_ok-numbers.numbers c.in_ok-numbers.span is.judged is.shaped) c.in_ok-indices.ensures.judged)
