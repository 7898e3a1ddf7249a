use Rattle.std.proofs.Common.{◌≡◌, take, ltb}
use Rattle.std.specs.List.{count_by}
use Rattle.lanes.proofs.lanes.sets.count_below.Given as goal

-- the entries gone through are counted
abbrev pub invariant-loop-entry : goal.invariant-loop-entry
invariant-loop-entry l = l.count ≡ count_by (λ entry. ltb entry l.bound) (take l.entry-index l.entries)
