use Rattle.std.proofs.Common.{sym, ◌∙◌, arith}
use Rattle.patches.proofs.Rows.{found_within, found_patch, missed_patch}
use Rattle.patches.proofs.column.Column.get_patched.Goals as goal

pub returns-in_err-place : goal.returns-in_err-place
returns-in_err-place g c = cc (missed_patch c.args.self.now c.args.row c.search_index.result c.search_index.ensures (sym c.in_err-place.was ∙ c.to_found.ensures))

pub offset_bounds-values-place : goal.offset_bounds-values-place
offset_bounds-values-place g c =
    let s = c.args.self.now in
    omega (arith, s.paired, found_within s c.args.row c.search_index.result c.in_ok-place.place c.search_index.ensures (sym c.in_ok-place.was ∙ c.to_found.ensures))

pub bounds-values-place : goal.bounds-values-place
bounds-values-place g c =
    let s = c.args.self.now in
    omega (arith, s.paired, found_within s c.args.row c.search_index.result c.in_ok-place.place c.search_index.ensures (sym c.in_ok-place.was ∙ c.to_found.ensures))

pub returns : goal.returns
returns g c =
    found_patch c.args.self.now c.args.row c.search_index.result c.in_ok-place.place c.index-values-place.result c.search_index.ensures (sym c.in_ok-place.was ∙ c.to_found.ensures) c.index-values-place.is
