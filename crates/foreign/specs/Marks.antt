-- The mark of a row.
use Rattle.std.specs.Prelude.{ℕ, ◌*◌, ◌%◌, pos, ◌-ℤ◌}
use Rattle.foreign.specs.declared.mark.Mark.{Mark}

-- the amount falls by 3 with each row, the day and the source go round
abbrev pub mark_of : ℕ → Mark
mark_of row = record { amount = pos 1000 -ℤ pos (3 * row); day = row % 10000; source = row % 7 }
