use Rattle.std.proofs.Common.{◌≡◌, ◌-◌}
use Rattle.search_sorted.specs.Packed.{Ascending}
use Rattle.search_sorted.specs.Numbers.{number}
use Rattle.search_sorted.proofs.fixed.Fixed.first_fall.Given as goal

abbrev pub invariant-loop-place : goal.invariant-loop-place
invariant-loop-place g l = (l.before ≡ number l.self.numbers (l.place - 1)) × Ascending (number l.self.numbers) l.place
