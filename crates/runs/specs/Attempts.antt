-- Every list of attempts with one run: which are made, accepted or refused, and what the run has then done.
use Rattle.std.specs.Prelude.{◌≡◌, ℕ, ◌%◌, ◌<◌, ◌≤◌, min, List, [], ◌∷◌, ◌++◌, length, Some, None, Ok, Err, Option}
use Rattle.patches.specs.declared.refusal.Part.TheVariants.{Run as RunPart}
use Rattle.patches.specs.Refusals.{Rule, AllKept, NamesFirst}
use Rattle.patches.specs.Chunks.{first_row_of}
use Rattle.patches.specs.Assignments.{Patch, Assignment, patches_below}
use Rattle.runs.specs.declared.run.OpenRun.{OpenRun}
use Rattle.runs.specs.declared.run.ClosedRun.{ClosedRun}
use Rattle.runs.specs.declared.attempts.Attempt.{Attempt}
use Rattle.runs.specs.declared.attempts.AttemptError.TheVariants.{NotMade, Refused}
use Rattle.runs.specs.declared.attempts.Run.{Run}
use Rattle.runs.specs.declared.attempts.Run.TheVariants.{Unopened, Open, Closed, Abandoned}
use Rattle.runs.specs.Steps.{open_rules, step_rules, close_rules, Replaced}
use Rattle.runs.specs.Events.{Outcome, Event, event_of, opened, stepped, closed, abandoned, Opening, opening_in, open_after, steps_in, ends_in, handed_in, back_in}

-- an attempt that is made is accepted exactly when its rules are kept, and else refused by the first that is broken
abbrev pub Answered : List Rule → Outcome → Type 0
Answered rules (Ok _) = AllKept rules
Answered rules (Err NotMade) = ⊥
Answered rules (Err (Refused refusal)) = NamesFirst RunPart rules refusal

-- a run is opened once: after an accepted opening no other is made
abbrev pub RightOpening : Option Opening → ℕ → Outcome → Type 0
RightOpening None rows outcome = Answered (open_rules rows) outcome
RightOpening (Some opening) rows outcome = outcome ≡ Err NotMade

-- a step of the open run: its chunk is the number of steps accepted before
abbrev pub RightStep : Option Opening → ℕ → ℕ → ℕ → Outcome → Type 0
RightStep None chunk n rows_of_set outcome = outcome ≡ Err NotMade
RightStep (Some run) chunk n rows_of_set outcome = Answered (step_rules run.rows (run.phase % 1024) chunk n rows_of_set) outcome

-- the cells of a step: an accepted one replaces those of patched rows, any other leaves them
abbrev pub RightCells : {V : Type 0} → (ℕ → Patch V) → Option Opening → ℕ → Outcome → List V → List V → Type 0
RightCells patch None chunk outcome handed back = back ≡ handed
RightCells patch (Some run) chunk (Ok _) handed back = Replaced patch (first_row_of chunk (run.phase % 1024) run.rows) handed back
RightCells patch (Some run) chunk (Err _) handed back = back ≡ handed

abbrev pub RightClosing : Option Opening → ℕ → Outcome → Type 0
RightClosing None chunk outcome = outcome ≡ Err NotMade
RightClosing (Some run) chunk outcome = Answered (close_rules run.rows (run.phase % 1024) chunk) outcome

abbrev pub RightAbandoning : Option Opening → Outcome → Type 0
RightAbandoning None outcome = outcome ≡ Err NotMade
RightAbandoning (Some run) outcome = outcome ≡ Ok tt

-- An event is as the rules say, after the events of the past. A step is handed the first so many rows of the set, or all
-- of them where it has no more.
abbrev pub Right : {V : Type 0} → Assignment V → List (Event V) → Event V → Type 0
Right m past (opened rows phase outcome) = RightOpening (opening_in past) rows outcome
Right m past (stepped rows_of_set outcome handed back) =
    RightStep (open_after past) (steps_in past) (length handed) (min rows_of_set m.rows) outcome
    × RightCells m.patch (open_after past) (steps_in past) outcome handed back
Right m past (closed outcome) = RightClosing (open_after past) (steps_in past) outcome
Right m past (abandoned outcome) = RightAbandoning (open_after past) outcome

-- each event of a list is right after those before it
abbrev pub AllRight : {V : Type 0} → Assignment V → List (Event V) → List (Event V) → Type 0
AllRight m past [] = Unit {0}
AllRight m past (e ∷ events) = Right m past e × AllRight m (past ++ e ∷ []) events

-- The run was opened for these rows, in this phase mod 1024.
pub record OpenedFor {V : Type 0} (past : List (Event V)) (rows phase : ℕ) : Type 0 where
  pub opening : Opening
  pub is : opening_in past ≡ Some opening
  pub rows_are : opening.rows ≡ rows
  pub phase_is : opening.phase % 1024 ≡ phase

-- The accepted steps went through the rows below n: joined, the cells that came back are those handed in, with exactly
-- the set's patched rows set to their values; and the count is the number of those rows.
pub record WentThrough {V : Type 0} (m : Assignment V) (past : List (Event V)) (n count : ℕ) : Type 0 where
  pub all_rows : length (handed_in past) ≡ n
  pub replaced : Replaced m.patch 0 (handed_in past) (back_in past)
  pub counted : count ≡ patches_below m.patch n

-- no run was opened yet
pub record NotOpened {V : Type 0} (past : List (Event V)) : Type 0 where
  pub not_opened : opening_in past ≡ None
  pub no_steps : steps_in past ≡ 0
  pub not_ended : ends_in past ≡ 0
  pub nothing_handed : handed_in past ≡ []
  pub nothing_back : back_in past ≡ []

-- an open run: it has gone through the chunks of its accepted steps, of a set with its rows
pub record Underway {V : Type 0} (m : Assignment V) (past : List (Event V)) (run : OpenRun) : Type 0 where
  pub opened_for : OpenedFor past run.rows run.phase
  pub not_ended : ends_in past ≡ 0
  pub steps : steps_in past ≡ run.chunk
  pub rows_of_set : 0 < run.chunk → run.rows ≤ m.rows
  pub done : WentThrough m past (first_row_of run.chunk run.phase run.rows) run.count

-- a closed run: it has gone through all the rows it was opened for
pub record WasClosed {V : Type 0} (m : Assignment V) (past : List (Event V)) (run : ClosedRun) : Type 0 where
  pub phase : ℕ
  pub opened_for : OpenedFor past run.rows phase
  pub ended : ends_in past ≡ 1
  pub rows_of_set : run.rows ≤ m.rows
  pub done : WentThrough m past run.rows run.count

pub record WasAbandoned {V : Type 0} (past : List (Event V)) : Type 0 where
  pub rows : ℕ
  pub phase : ℕ
  pub opened_for : OpenedFor past rows phase
  pub ended : ends_in past ≡ 1

-- the run is what these events made of it
abbrev pub Stands : {V : Type 0} → Assignment V → List (Event V) → Run → Type 0
Stands m past Unopened = NotOpened past
Stands m past (Open run) = Underway m past run
Stands m past (Closed run) = WasClosed m past run
Stands m past Abandoned = WasAbandoned past

-- Events that lead from one run to another: whatever past made the run what it was, each of the events is right after
-- that past and those before it, and the run is then what past and events made of it.
abbrev pub Leads : {V : Type 0} → Assignment V → Run → List (Event V) → Run → Type 0
Leads {V} m run events next = (past : List (Event V)) → Stands m past run → AllRight m past events × Stands m (past ++ events) next

-- the same of one attempt that leaves the cells alone, whichever they are
abbrev pub LeadsAside : {V : Type 0} → Assignment V → Run → Attempt → Outcome → Run → Type 0
LeadsAside {V} m run attempt outcome next = (cells : List V) → Leads m run (event_of attempt outcome cells cells ∷ []) next

-- The same where nothing came before: a list of attempts from the very beginning.
abbrev pub EveryList : {V : Type 0} → Assignment V → Run → List (Event V) → Run → Type 0
EveryList m run events next = run ≡ Unopened → AllRight m [] events × Stands m events next
