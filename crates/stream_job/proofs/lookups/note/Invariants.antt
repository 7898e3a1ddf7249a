use Rattle.std.proofs.Common.{◌≡◌, ℕ, ◌<◌, length, get_or, take, fold}
use Rattle.stream_job.specs.declared.lookups.Wanted.{Wanted}
use Rattle.stream_job.specs.Lookups.{noted, InBlock}
use Rattle.stream_job.proofs.lookups.note.Given as goal

abbrev pub invariant-loop-k : goal.invariant-loop-k
invariant-loop-k l =
    ((k : ℕ) (d : Wanted) → k < l.k → InBlock l.first (length l.cells) (get_or l.wanted k d))
    × (l.amounts ≡ fold (noted l.first l.cells) l.initial.amounts (take l.k l.wanted))
