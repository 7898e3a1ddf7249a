-- Every so manyth row has a patch.
use Rattle.std.specs.Prelude.{ℕ, ◌+◌, ◌-◌, ◌/◌, ◌%◌, ◌≤◌, cond, Some, None, ◌==◌, nat_lt}
use Rattle.std.proofs.lemmas.Bool.{cond-false, le-ltb}
use Rattle.patches.specs.Chunks.{limit}
use Rattle.patches.specs.Assignments.{Patch, Assignment}
use Rattle.foreign.specs.declared.mark.Mark.{Mark}
use Rattle.foreign.specs.Marks.{mark_of}

-- the patch of a row: its mark, where the row divided by the step leaves the first row
abbrev pub every_at : ℕ → ℕ → ℕ → Patch Mark
every_at step first row = cond (row % step == first) (Some (mark_of row)) None

-- the same below the rows; past them there is nothing
abbrev pub every_in : ℕ → ℕ → ℕ → ℕ → Patch Mark
every_in rows step first row = cond (nat_lt row rows) (every_at step first row) None

-- the rows, with the patches of every so manyth row from the first on
abbrev pub every : (rows step first : ℕ) → rows ≤ limit → Assignment Mark
every rows step first few = record {
  rows = rows;
  patch = every_in rows step first;
  few = few;
  past = λ row h. cond-false (nat_lt row rows) (every_at step first row) None (le-ltb row rows h);
}

-- how many numbers below n leave the first row when divided by the step: the whole rounds, and one more where the last
-- round has come past the first row
abbrev pub count_to : ℕ → ℕ → ℕ → ℕ
count_to step first n = n / step + cond (nat_lt first (n % step)) 1 0

-- how far a row with a remainder lies before the next one that leaves the first row
abbrev pub gap_from : ℕ → ℕ → ℕ → ℕ
gap_from step first at = cond (nat_lt first at) (step - at + first) (first - at)
