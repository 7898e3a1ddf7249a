use Rattle.std.proofs.Common.{◌<◌, ◌≤◌, length, Some, sym, ap, ◌∙◌, arith}
use Rattle.search_sorted.specs.Listed.{length_listed, get_d_listed}
use Rattle.search_sorted.specs.Naturals.{natural}
use Rattle.search_sorted.specs.Packed.{listed}
use Rattle.search_sorted.proofs.Orders.{compare_within, compare_past}
use Rattle.search_tests.specs.Countdowns.{below, downward}
use Rattle.search_tests.proofs.countdown.CountdownIndexOrd.index_cmp.Goals as goal

pub returns-then-place-self : goal.returns-then-place-self
returns-then-place-self c =
    let top = c.args.self.now.top in
    let place = c.args.place in
    let needle = c.args.needle.now in
    let within : place < length (listed (below top) top) = omega (arith, length_listed (below top) top) in
    sym (compare_within downward (listed (below top) top) place needle 0 within
    ∙ ap (λ key. Some (natural.compare needle key)) (get_d_listed (below top) top place 0 (omega arith))
    ∙ ap Some (sym c.cmp.ensures))

pub returns-else-place-self : goal.returns-else-place-self
returns-else-place-self c =
    let top = c.args.self.now.top in
    let past : length (listed (below top) top) ≤ c.args.place = omega (arith, length_listed (below top) top) in
    sym (compare_past downward (listed (below top) top) c.args.place c.args.needle.now past)
