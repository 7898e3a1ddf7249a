use Rattle.std.proofs.Common.{sym}
use Rattle.search_sorted.specs.Listed.{length_listed}
use Rattle.search_tests.proofs.countdown.CountdownIndexOrd.index_len.Goals as goal

pub returns : goal.returns
returns c = sym (length_listed _ _)
