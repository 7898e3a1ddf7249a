use Rattle.std.proofs.Common.{◌≡◌, length, sym, ap, ◌∙◌, arith}
use Rattle.search_sorted.specs.Listed.{length_listed}
use Rattle.search_sorted.specs.Numbers.{count, numbers_of}
use Rattle.search_sorted.proofs.keys.KeysIndexOrd.index_len.Goals as goal

pub returns : goal.returns
returns g c =
    let is : c.len.result ≡ length (numbers_of c.args.self.now.rising.numbers) =
    c.len.ensures ∙ ap count c.numbers.ensures ∙ sym (length_listed _ _) in
    grind (arith, is)
