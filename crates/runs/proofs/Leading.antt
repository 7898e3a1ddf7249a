-- What each attempt makes of a run.
use Rattle.std.proofs.Common.{◌≡◌, ℕ, ◌+◌, ◌-◌, ◌<◌, ◌≤◌, ◌≢◌, min, ltb, List, [], ◌∷◌, ◌++◌, length, Some, None, Ok, Err, Option, Result, sym, refl, ap, ◌∙◌, inl, inr, arith, length-append}
use Rattle.std.proofs.lemmas.Bool.{cases_lt, cases_eq, cond-true, lt-ltb}
use Rattle.std.proofs.lemmas.List.{append_assoc, append-nil}
use Rattle.std.proofs.lemmas.Bool.Decides.{nat_tests}
use Rattle.patches.specs.declared.refusal.Refusal.{Refusal}
use Rattle.patches.specs.declared.refusal.Part.TheVariants.{Run as RunPart}
use Rattle.patches.specs.Refusals.{AllKept, NamesFirst, Judged}
use Rattle.patches.specs.Chunks.{count_of_chunks, first_row_of, end_row_of}
use Rattle.patches.specs.Windows.{windowed, start_in, span_in}
use Rattle.patches.specs.Assignments.{Assignment, SameAssignment, patches_below}
use Rattle.patches.proofs.Counts.{count_same}
use Rattle.runs.specs.declared.run.OpenRun.{OpenRun}
use Rattle.runs.specs.declared.run.ClosedRun.{ClosedRun}
use Rattle.runs.specs.declared.attempts.Attempt.{Attempt}
use Rattle.runs.specs.declared.attempts.Attempt.TheVariants.{Open as Open', Step, Close, Abandon}
use Rattle.runs.specs.declared.attempts.AttemptError.{AttemptError}
use Rattle.runs.specs.declared.attempts.AttemptError.TheVariants.{NotMade, Refused}
use Rattle.runs.specs.declared.attempts.Run.{Run}
use Rattle.runs.specs.declared.attempts.Run.TheVariants.{Unopened, Open, Closed, Abandoned}
use Rattle.runs.specs.Steps.{open_rules, step_rules, close_rules, Replaced, Begun, Advanced, Stepped}
use Rattle.runs.specs.Events.{Outcome, Event, event_of, opened, stepped, closed, abandoned, Opening, opening_in, open_after, steps_in, ends_in, handed_in, back_in}
use Rattle.runs.specs.Attempts.{Answered, RightOpening, RightStep, RightCells, RightClosing, Right, AllRight, OpenedFor, WentThrough, NotOpened, Stands, Leads, LeadsAside}
use Rattle.runs.proofs.Joins.{replaced_none, replaced_join, replaced_same}
use Rattle.runs.proofs.Pasts.{Idle, not_accepted, opening_push, steps_push, ends_push, handed_push, back_push, opening_stays, opening_idle, steps_idle, ends_idle, handed_idle, back_idle}

-- two numbers that are not unlike are the same
same_by : (a b : ℕ) → (a ≢ b → ⊥) → a ≡ b
same_by a b h = elim (cases_eq a b) [ inl e ↦ e | inr n ↦ absurd (h n) ]

-- the outcome of a step, from its answer
abbrev pub outcome_of : Result Unit Refusal → Outcome
outcome_of (Ok u) = Ok u
outcome_of (Err f) = Err (Refused f)

module _ {V : Type 0} (past : List (Event V)) where
  -- which run is open after the past
  open_now : (o : Option Opening) → opening_in past ≡ o → ends_in past ≡ 0 → open_after past ≡ o
  open_now o is none = rw none is

  ended_now : ends_in past ≡ 1 → open_after past ≡ None
  ended_now one = rw one refl

module _ {V : Type 0} (m : Assignment V) (past : List (Event V)) (e : Event V) where
  opened_more : (rows phase : ℕ) → OpenedFor past rows phase → OpenedFor (past ++ e ∷ []) rows phase
  opened_more rows phase o = record { opening = o.opening; is = opening_stays past e o.opening o.is; rows_are = o.rows_are; phase_is = o.phase_is }

  -- an attempt that was not accepted leaves the run what it was
  module _ (idle : Idle e) where
    went_idle : (n count : ℕ) → WentThrough m past n count → WentThrough m (past ++ e ∷ []) n count
    went_idle n count w = record {
      all_rows = ap length (handed_idle past e idle) ∙ w.all_rows;
      replaced = rw (handed_idle past e idle, back_idle past e idle) w.replaced;
      counted = w.counted;
    }

    stands_idle : (run : Run) → Stands m past run → Stands m (past ++ e ∷ []) run
    stands_idle Unopened s = record {
      not_opened = opening_idle past e idle ∙ s.not_opened;
      no_steps = steps_idle past e idle ∙ s.no_steps;
      not_ended = ends_idle past e idle ∙ s.not_ended;
      nothing_handed = handed_idle past e idle ∙ s.nothing_handed;
      nothing_back = back_idle past e idle ∙ s.nothing_back;
    }
    stands_idle (Open run) s = record {
      opened_for = opened_more run.rows run.phase s.opened_for;
      not_ended = ends_idle past e idle ∙ s.not_ended;
      steps = steps_idle past e idle ∙ s.steps;
      rows_of_set = s.rows_of_set;
      done = went_idle _ _ s.done;
    }
    stands_idle (Closed run) s = record {
      phase = s.phase;
      opened_for = opened_more run.rows s.phase s.opened_for;
      ended = ends_idle past e idle ∙ s.ended;
      rows_of_set = s.rows_of_set;
      done = went_idle _ _ s.done;
    }
    stands_idle Abandoned s = record {
      rows = s.rows;
      phase = s.phase;
      opened_for = opened_more s.rows s.phase s.opened_for;
      ended = ends_idle past e idle ∙ s.ended;
    }

  went_more : (n count n' count' : ℕ) (before after : List V) → handed_in (past ++ e ∷ []) ≡ handed_in past ++ before → back_in (past ++ e ∷ []) ≡ back_in past ++ after
      → n' ≡ n + length before → count' + patches_below m.patch n ≡ count + patches_below m.patch n' → Replaced m.patch n before after → WentThrough m past n count → WentThrough m (past ++ e ∷ []) n' count'
  went_more n count n' count' before after eh eb up sum here w = record {
    all_rows = ap length eh ∙ length-append (handed_in past) before ∙ omega (arith, w.all_rows);
    replaced = rw (eh, eb) (replaced_join m.patch 0 n (handed_in past) (back_in past) before after (omega (arith, w.all_rows)) w.replaced here);
    counted = omega (arith, w.counted);
  }

module _ {V : Type 0} (m : Assignment V) where
  -- an attempt for which there is no run, or which is refused, leads from a run to the same
  idle_leads : (run : Run) (a : Attempt) (why : AttemptError) (handed back : List V) → ((past : List (Event V)) → Stands m past run → Right m past (event_of a (Err why) handed back))
      → Leads m run (event_of a (Err why) handed back ∷ []) run
  idle_leads run a why handed back right past s = ((right past s, tt), stands_idle m past (event_of a (Err why) handed back) (not_accepted a why handed back) run s)

  -- opening
  pub lead_opened : (rows phase : ℕ) (run : OpenRun) → AllKept (open_rules rows) → Begun rows phase run → Leads m Unopened (opened rows phase (Ok tt) ∷ []) (Open run)
  lead_opened rows phase run kept begun past s =
      let e : Event V = opened rows phase (Ok tt) in
      let opening : Opening = record { rows = rows; phase = phase } in
      let first : first_row_of run.chunk run.phase run.rows ≡ 0 = omega (arith, begun.first_chunk) in
      let eh : handed_in (past ++ e ∷ []) ≡ [] = handed_push past e ∙ append-nil (handed_in past) ∙ s.nothing_handed in
      let eb : back_in (past ++ e ∷ []) ≡ [] = back_push past e ∙ append-nil (back_in past) ∙ s.nothing_back in (
        (rw s.not_opened kept, tt),
        record {
          opened_for = record { opening = opening; is = opening_push past e ∙ rw s.not_opened refl; rows_are = sym begun.rows_are; phase_is = sym begun.phase_is };
          not_ended = omega (arith, ends_push past e, s.not_ended);
          steps = omega (arith, steps_push past e, s.no_steps, begun.first_chunk);
          rows_of_set = λ h. absurd (omega (arith, begun.first_chunk));
          done = record {
            all_rows = ap length eh ∙ sym first;
            replaced = rw (eh, eb) (replaced_none m.patch 0);
            counted = begun.no_count ∙ ap (patches_below m.patch) (sym first);
          };
        },
      )

  pub lead_not_opened : (rows phase : ℕ) (f : Refusal) → NamesFirst RunPart (open_rules rows) f → Leads m Unopened (opened rows phase (Err (Refused f)) ∷ []) Unopened
  lead_not_opened rows phase f why = idle_leads Unopened (Open' rows phase) (Refused f) [] [] (λ past s. rw s.not_opened why)

  -- where no run is open, no attempt but an opening is made
  right_aside : (past : List (Event V)) (a : Attempt) (cells : List V) → open_after past ≡ None → ((rows phase : ℕ) → a ≡ Open' rows phase → RightOpening (opening_in past) rows (Err NotMade)) → Right m past (event_of a (Err NotMade) cells cells)
  right_aside past (Open' rows phase) cells none opening = opening rows phase refl
  right_aside past (Step n rows_of_set) cells none opening = rw none (refl, refl)
  right_aside past Close cells none opening = rw none refl
  right_aside past Abandon cells none opening = rw none refl

  -- before a run is opened only an opening is made
  pub unopened_aside : (a : Attempt) → ((rows phase : ℕ) → a ≡ Open' rows phase → ⊥) → LeadsAside m Unopened a (Err NotMade) Unopened
  unopened_aside a not-open cells =
      idle_leads Unopened a NotMade cells cells (λ past s. right_aside past a cells (open_now past None s.not_opened s.not_ended) (λ rows phase is. absurd (not-open rows phase is)))

  -- a run that was opened is not opened again, and one that has ended is not there to step, to close or to abandon
  pub second_opening : (run : OpenRun) (rows phase : ℕ) → Leads m (Open run) (opened rows phase (Err NotMade) ∷ []) (Open run)
  second_opening run rows phase = idle_leads (Open run) (Open' rows phase) NotMade [] [] (λ past s. rw s.opened_for.is refl)

  pub closed_stays : (run : ClosedRun) (a : Attempt) (cells : List V) → Leads m (Closed run) (event_of a (Err NotMade) cells cells ∷ []) (Closed run)
  closed_stays run a cells =
      idle_leads (Closed run) a NotMade cells cells (λ past s. right_aside past a cells (ended_now past s.ended) (λ rows phase is. rw s.opened_for.is refl))

  pub abandoned_stays : (a : Attempt) (cells : List V) → Leads m Abandoned (event_of a (Err NotMade) cells cells ∷ []) Abandoned
  abandoned_stays a cells =
      idle_leads Abandoned a NotMade cells cells (λ past s. right_aside past a cells (ended_now past s.ended) (λ rows phase is. rw s.opened_for.is refl))

  -- what is open after the past of an open run
  module _ (run : OpenRun) (past : List (Event V)) (s : Stands m past (Open run)) where
    open_here : open_after past ≡ Some s.opened_for.opening
    open_here = open_now past (Some s.opened_for.opening) s.opened_for.is s.not_ended

    -- the rules at the chunk of the past are those at the run's chunk
    step_at : (n rows_of_set : ℕ) (outcome : Outcome) → Answered (step_rules run.rows run.phase run.chunk n rows_of_set) outcome → RightStep (open_after past) (steps_in past) n rows_of_set outcome
    step_at n rows_of_set outcome h = rw (open_here, s.opened_for.rows_are, s.opened_for.phase_is, s.steps) h

    close_at : (outcome : Outcome) → Answered (close_rules run.rows run.phase run.chunk) outcome → RightClosing (open_after past) (steps_in past) outcome
    close_at outcome h = rw (open_here, s.opened_for.rows_are, s.opened_for.phase_is, s.steps) h

    cells_at : (before after : List V) → Replaced m.patch (first_row_of run.chunk run.phase run.rows) before after → RightCells m.patch (open_after past) (steps_in past) (Ok tt) before after
    cells_at before after h = rw (open_here, s.opened_for.rows_are, s.opened_for.phase_is, s.steps) h

    cells_kept : (f : Refusal) (cells : List V) → RightCells m.patch (open_after past) (steps_in past) (Err (Refused f)) cells cells
    cells_kept f cells = rw open_here refl

  -- a refused step
  lead_refused : (run : OpenRun) (rows_of_set : ℕ) (f : Refusal) (cells : List V) → NamesFirst RunPart (step_rules run.rows run.phase run.chunk (length cells) (min rows_of_set m.rows)) f → Leads m (Open run) (stepped rows_of_set (Err (Refused f)) cells cells ∷ []) (Open run)
  lead_refused run rows_of_set f cells why =
      idle_leads (Open run) (Step 0 rows_of_set) (Refused f) cells cells
      (λ past s. (step_at run past s (length cells) (min rows_of_set m.rows) (Err (Refused f)) why, cells_kept run past s f cells))

  -- an accepted step
  lead_stepped : (run next : OpenRun) (rows_of_set : ℕ) (before after : List V) → AllKept (step_rules run.rows run.phase run.chunk (length before) (min rows_of_set m.rows)) → Advanced m.patch run next before after
      → Leads m (Open run) (stepped rows_of_set (Ok tt) before after ∷ []) (Open next)
  lead_stepped run next rows_of_set before after kept adv past s =
      let e : Event V = stepped rows_of_set (Ok tt) before after in
      let past_all : count_of_chunks run.phase run.rows ≤ run.chunk → ⊥ = λ h. kept.0 run.chunk (refl, h) in
      let there : run.chunk < count_of_chunks run.phase run.rows = omega arith in
      let long : length before ≡ end_row_of run.chunk run.phase run.rows - first_row_of run.chunk run.phase run.rows = same_by _ _ (λ h. kept.1.0 0 (refl, h)) in
      let rows : min rows_of_set m.rows ≡ run.rows = same_by _ _ (λ h. kept.1.1.0 0 (refl, h)) in
      let to : first_row_of next.chunk next.phase next.rows ≡ end_row_of run.chunk run.phase run.rows = rw (adv.next_chunk, adv.phase_stays, adv.rows_stay) refl in
      let up : end_row_of run.chunk run.phase run.rows ≡ first_row_of run.chunk run.phase run.rows + length before = omega arith in (
        ((step_at run past s (length before) (min rows_of_set m.rows) (Ok tt) kept, cells_at run past s before after adv.replaced), tt),
        record {
          opened_for = record { opening = s.opened_for.opening; is = opening_stays past e s.opened_for.opening s.opened_for.is; rows_are = s.opened_for.rows_are ∙ sym adv.rows_stay; phase_is = s.opened_for.phase_is ∙ sym adv.phase_stays };
          not_ended = omega (arith, ends_push past e, s.not_ended);
          steps = omega (arith, steps_push past e, s.steps, adv.next_chunk);
          rows_of_set = λ h. omega (arith, adv.rows_stay, rows);
          done = rw to (went_more m past e _ run.count _ next.count before after (handed_push past e) (back_push past e) up adv.counted adv.replaced s.done);
        },
      )

  -- closing
  pub lead_closed : (run : OpenRun) (end : ClosedRun) → AllKept (close_rules run.rows run.phase run.chunk) → end.rows ≡ run.rows → end.count ≡ run.count → Leads m (Open run) (closed (Ok tt) ∷ []) (Closed end)
  lead_closed run end kept rows_are count_is past s =
      let e : Event V = closed (Ok tt) in
      let left : run.chunk < count_of_chunks run.phase run.rows → ⊥ = λ h. kept.0 0 (refl, h) in
      let past_all : count_of_chunks run.phase run.rows ≤ run.chunk = omega arith in
      let all : first_row_of run.chunk run.phase run.rows ≡ end.rows = all_rows run.chunk run.phase run.rows run.small past_all ∙ sym rows_are in
      let eh : handed_in (past ++ e ∷ []) ≡ handed_in past = handed_push past e ∙ append-nil (handed_in past) in
      let eb : back_in (past ++ e ∷ []) ≡ back_in past = back_push past e ∙ append-nil (back_in past) in (
        (close_at run past s (Ok tt) kept, tt),
        record {
          phase = run.phase;
          opened_for = record { opening = s.opened_for.opening; is = opening_stays past e s.opened_for.opening s.opened_for.is; rows_are = s.opened_for.rows_are ∙ sym rows_are; phase_is = s.opened_for.phase_is };
          ended = omega (arith, ends_push past e, s.not_ended);
          rows_of_set = elim (cases_lt 0 run.chunk) [ inl h ↦ omega (arith, s.rows_of_set h) | inr h ↦ omega (arith, no_rows run.chunk run.phase run.rows past_all h) ];
          done = record {
            all_rows = ap length eh ∙ s.done.all_rows ∙ all;
            replaced = rw (eh, eb) s.done.replaced;
            counted = count_is ∙ s.done.counted ∙ ap (patches_below m.patch) all;
          };
        },
      )
    where
      -- past the last chunk there is no row
      all_rows : (chunk phase rows : ℕ) → phase < 1024 → count_of_chunks phase rows ≤ chunk → first_row_of chunk phase rows ≡ rows
      all_rows chunk phase rows small h = grind (arith, nat_tests)

      no_rows : (chunk phase rows : ℕ) → count_of_chunks phase rows ≤ chunk → chunk ≤ 0 → rows ≡ 0
      no_rows chunk phase rows h z = grind (arith, nat_tests)

  pub lead_not_closed : (run : OpenRun) (f : Refusal) → NamesFirst RunPart (close_rules run.rows run.phase run.chunk) f → Leads m (Open run) (closed (Err (Refused f)) ∷ []) (Open run)
  lead_not_closed run f why = idle_leads (Open run) Close (Refused f) [] [] (λ past s. close_at run past s (Err (Refused f)) why)

  -- abandoning
  pub lead_abandoned : (run : OpenRun) → Leads m (Open run) (abandoned (Ok tt) ∷ []) Abandoned
  lead_abandoned run past s =
      let e : Event V = abandoned (Ok tt) in (
        (rw (open_here run past s) refl, tt),
        record {
          rows = run.rows;
          phase = run.phase;
          opened_for = opened_more m past e run.rows run.phase s.opened_for;
          ended = omega (arith, ends_push past e, s.not_ended);
        },
      )

  -- A step with the first so many rows of the set, as the set w that has them: it is judged by their number, and an
  -- accepted one replaces what the set itself would.
  module _ (w : Assignment V) (rows_of_set : ℕ) (same : SameAssignment w (windowed m 0 rows_of_set)) (run next : OpenRun) (before after : List V) where
    part_rows : w.rows ≡ min rows_of_set m.rows
    part_rows = same.rows ∙ omega arith

    part_patch : (r : ℕ) → r < w.rows → w.patch r ≡ m.patch r
    part_patch r h =
        let span : ℕ = span_in 0 rows_of_set m.rows in
        let first : start_in 0 rows_of_set m.rows + r ≡ r = omega arith in
        same.patch r ∙ cond-true (ltb r span) (m.patch (start_in 0 rows_of_set m.rows + r)) None (lt-ltb r span (omega (arith, same.rows))) ∙ ap m.patch first

    pub lead_part : (r : Result Unit Refusal) → Judged RunPart (step_rules run.rows run.phase run.chunk (length before) w.rows) r → Stepped w.patch run next before after r
        → (o : Outcome) → o ≡ outcome_of r → Leads m (Open run) (stepped rows_of_set o before after ∷ []) (Open next)
    lead_part (Ok u) judged adv o is =
        let kept : AllKept (step_rules run.rows run.phase run.chunk (length before) (min rows_of_set m.rows)) = rw part_rows at judged in
        let long : length before ≡ end_row_of run.chunk run.phase run.rows - first_row_of run.chunk run.phase run.rows = same_by _ _ (λ h. judged.1.0 0 (refl, h)) in
        let rows : w.rows ≡ run.rows = same_by _ _ (λ h. judged.1.1.0 0 (refl, h)) in
        let counts : (n : ℕ) → n ≤ run.rows → patches_below w.patch n ≡ patches_below m.patch n = λ n h. count_same w.patch m.patch n (λ k l. part_patch k (omega arith)) in
        let mine : Advanced m.patch run next before after = record {
          rows_stay = adv.rows_stay;
          phase_stays = adv.phase_stays;
          next_chunk = adv.next_chunk;
          counted = omega (arith, adv.counted, counts (first_row_of run.chunk run.phase run.rows) (omega arith), counts (end_row_of run.chunk run.phase run.rows) (omega arith));
          replaced = replaced_same m.patch w.patch (first_row_of run.chunk run.phase run.rows) before after (λ k h. part_patch (first_row_of run.chunk run.phase run.rows + k) (omega arith)) adv.replaced;
        } in
        rw is (lead_stepped run next rows_of_set before after kept mine)
    lead_part (Err f) judged left o is =
        let why : NamesFirst RunPart (step_rules run.rows run.phase run.chunk (length before) (min rows_of_set m.rows)) f = rw part_rows at judged in
        rw (is, left.1, left.0) (lead_refused run rows_of_set f before why)

  -- one list of events after another
  right_append : (past es fs : List (Event V)) → AllRight m past es → AllRight m (past ++ es) fs → AllRight m past (es ++ fs)
  right_append past [] fs a b = rw append-nil at b
  right_append past (e ∷ es) fs a b = (a.0, right_append (past ++ e ∷ []) es fs a.1 (rw append_assoc b))

  pub leads_then : (run mid next : Run) (es fs : List (Event V)) → Leads m run es mid → Leads m mid fs next → Leads m run (es ++ fs) next
  leads_then run mid next es fs a b past s =
      let first = a past s in
      let then = b (past ++ es) first.1 in
      (right_append past es fs first.0 then.0, rw append_assoc at then.1)

  -- from the very beginning
  begins : NotOpened {V = V} []
  begins = record { not_opened = refl; no_steps = refl; not_ended = refl; nothing_handed = refl; nothing_back = refl }

  pub every_list_lem : (run next : Run) (es : List (Event V)) → Leads m run es next → run ≡ Unopened → AllRight m [] es × Stands m es next
  every_list_lem run next es leads is = leads [] (rw is begins)
