-- What was attempted with a run, and what came of it.
use Rattle.std.specs.Prelude.{ℕ, cond, map, List, [], ◌∷◌, take, drop, Some, None, Option, Ok, Err, Result, ◌==◌}
use Rattle.std.specs.List.{flat_map, sum_by}
use Rattle.std.specs.Option.{option_or}
use Rattle.runs.specs.declared.attempts.Attempt.{Attempt}
use Rattle.runs.specs.declared.attempts.Attempt.TheVariants.{Open, Step, Close, Abandon}
use Rattle.runs.specs.declared.attempts.AttemptError.{AttemptError}
use Rattle.runs.specs.declared.attempts.Entry.{Entry}

-- what came of an attempt
abbrev pub Outcome : Type 0
Outcome = Result Unit AttemptError

-- An attempt with its outcome: to open a run for rows in a phase; to step, with a set of so many rows, the cells that
-- were handed in and what they held afterwards; to close; to abandon.
pub data Event (V : Type 0) : Type 0 where
  opened : (rows phase : ℕ) → Outcome → Event V
  stepped : (rows_of_set : ℕ) → Outcome → (handed back : List V) → Event V
  closed : Outcome → Event V
  abandoned : Outcome → Event V

-- how many cells an attempt asks for
abbrev pub cells_of : Attempt → ℕ
cells_of (Open rows phase) = 0
cells_of (Step cells rows) = cells
cells_of Close = 0
cells_of Abandon = 0

-- the attempt of an entry
abbrev pub attempt_of : Entry → Attempt
attempt_of e = e.attempt

-- how many cells the entries of a list ask for
abbrev pub cells_in : List Entry → ℕ
cells_in entries = sum_by cells_of (map attempt_of entries)

abbrev pub event_of : {V : Type 0} → Attempt → Outcome → List V → List V → Event V
event_of (Open rows phase) outcome handed back = opened rows phase outcome
event_of (Step cells rows) outcome handed back = stepped rows outcome handed back
event_of Close outcome handed back = closed outcome
event_of Abandon outcome handed back = abandoned outcome

-- The events of a list of entries. The cells are dealt out from the first on, to each step as many as it asks for; where
-- fewer are left, those.
abbrev pub events_of : {V : Type 0} → List Entry → List V → List V → List (Event V)
events_of [] before after = []
events_of (e ∷ entries) before after =
    event_of e.attempt e.outcome (take (cells_of e.attempt) before) (take (cells_of e.attempt) after)
    ∷ events_of entries (drop (cells_of e.attempt) before) (drop (cells_of e.attempt) after)

-- x for an accepted attempt, and nothing for any other
abbrev pub if_accepted : {A : Type 0} → Outcome → A → A → A
if_accepted (Ok _) x nothing = x
if_accepted (Err _) x nothing = nothing

-- what a run was opened for
pub record Opening : Type 0 where
  pub rows : ℕ
  pub phase : ℕ

abbrev pub opening_of : {V : Type 0} → Event V → Option Opening
opening_of (opened rows phase outcome) = if_accepted outcome (Some (record { rows = rows; phase = phase })) None
opening_of (stepped rows_of_set outcome handed back) = None
opening_of (closed outcome) = None
opening_of (abandoned outcome) = None

-- what the run was opened for, by the first opening that was accepted
abbrev pub opening_in : {V : Type 0} → List (Event V) → Option Opening
opening_in [] = None
opening_in (e ∷ events) = option_or (opening_of e) (opening_in events)

-- how many steps were accepted
abbrev pub step_of : {V : Type 0} → Event V → ℕ
step_of (opened rows phase outcome) = 0
step_of (stepped rows_of_set outcome handed back) = if_accepted outcome 1 0
step_of (closed outcome) = 0
step_of (abandoned outcome) = 0

abbrev pub steps_in : {V : Type 0} → List (Event V) → ℕ
steps_in events = sum_by step_of events

-- how many accepted attempts ended the run
abbrev pub end_of : {V : Type 0} → Event V → ℕ
end_of (opened rows phase outcome) = 0
end_of (stepped rows_of_set outcome handed back) = 0
end_of (closed outcome) = if_accepted outcome 1 0
end_of (abandoned outcome) = if_accepted outcome 1 0

abbrev pub ends_in : {V : Type 0} → List (Event V) → ℕ
ends_in events = sum_by end_of events

-- what the run that is open after these events was opened for, or none where there is no open run
abbrev pub open_after : {V : Type 0} → List (Event V) → Option Opening
open_after events = cond (ends_in events == 0) (opening_in events) None

-- the cells that accepted steps were handed, and what came back
abbrev pub handed_of : {V : Type 0} → Event V → List V
handed_of (opened rows phase outcome) = []
handed_of (stepped rows_of_set outcome handed back) = if_accepted outcome handed []
handed_of (closed outcome) = []
handed_of (abandoned outcome) = []

abbrev pub back_of : {V : Type 0} → Event V → List V
back_of (opened rows phase outcome) = []
back_of (stepped rows_of_set outcome handed back) = if_accepted outcome back []
back_of (closed outcome) = []
back_of (abandoned outcome) = []

-- the same of all accepted steps, joined in their order
abbrev pub handed_in : {V : Type 0} → List (Event V) → List V
handed_in events = flat_map handed_of events

abbrev pub back_in : {V : Type 0} → List (Event V) → List V
back_in events = flat_map back_of events
