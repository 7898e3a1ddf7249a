use Rattle.std.proofs.Common.{◌≡◌, rules, ap, ◌∙◌}
use Rattle.std.specs.Option.{option_map}
use Rattle.std.specs.Ordering.{nat_cmp}
use Rattle.search_sorted.specs.Naturals.{natural}
use Rattle.search_sorted.specs.Numbers.{numbers_of}
use Rattle.search_sorted.specs.Order.{compare_at}
use Rattle.search_sorted.proofs.Compares.{compared_got}
use Rattle.search_sorted.proofs.keys.KeysIndexOrd.index_cmp.Goals as goal

pub returns : goal.returns
returns g c =
    let needle = c.args.needle.now in
    let e : c.map.result ≡ option_map (λ y. nat_cmp y needle) c.get.result = search rules in
    e
    ∙ ap (option_map (λ y. nat_cmp y needle)) c.get.ensures
    ∙ compared_got _ _ _ _
    ∙ ap (λ p. compare_at natural (numbers_of p) c.args.place needle) c.numbers.ensures
