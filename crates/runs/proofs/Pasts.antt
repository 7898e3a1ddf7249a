-- What one more event adds to the past.
use Rattle.std.proofs.Common.{◌≡◌, ◌+◌, List, [], ◌∷◌, ◌++◌, Some, None, Err, Option, sym, refl, ap, ◌∙◌, arith}
use Rattle.std.specs.Option.{option_or}
use Rattle.std.proofs.lemmas.List.{flat_map_more, append-nil}
use Rattle.std.proofs.lemmas.List.Sums.{sum_by_push}
use Rattle.runs.specs.declared.attempts.Attempt.{Attempt}
use Rattle.runs.specs.declared.attempts.Attempt.TheVariants.{Open, Step, Close, Abandon}
use Rattle.runs.specs.declared.attempts.AttemptError.{AttemptError}
use Rattle.runs.specs.Events.{Event, event_of, Opening, opening_of, opening_in, step_of, steps_in, end_of, ends_in, handed_of, handed_in, back_of, back_in}

or_none : {A : Type 0} (a : Option A) → option_or a None ≡ a
or_none None = refl
or_none (Some x) = refl

or_assoc : {A : Type 0} (a b c : Option A) → option_or a (option_or b c) ≡ option_or (option_or a b) c
or_assoc None b c = refl
or_assoc (Some x) b c = refl

module _ {V : Type 0} where
  pub opening_push : (past : List (Event V)) (e : Event V) → opening_in (past ++ e ∷ []) ≡ option_or (opening_in past) (opening_of e)
  opening_push [] e = or_none (opening_of e)
  opening_push (x ∷ past) e = ap (option_or (opening_of x)) (opening_push past e) ∙ or_assoc (opening_of x) (opening_in past) (opening_of e)

  -- an event that changes nothing: it was not accepted
  pub record Idle (e : Event V) : Type 0 where
    pub no_opening : opening_of e ≡ None
    pub no_step : step_of e ≡ 0
    pub no_end : end_of e ≡ 0
    pub none_handed : handed_of e ≡ []
    pub none_back : back_of e ≡ []

  pub not_accepted : (a : Attempt) (why : AttemptError) (handed back : List V) → Idle (event_of a (Err why) handed back)
  not_accepted (Open rows phase) why handed back = record { no_opening = refl; no_step = refl; no_end = refl; none_handed = refl; none_back = refl }
  not_accepted (Step cells rows) why handed back = record { no_opening = refl; no_step = refl; no_end = refl; none_handed = refl; none_back = refl }
  not_accepted Close why handed back = record { no_opening = refl; no_step = refl; no_end = refl; none_handed = refl; none_back = refl }
  not_accepted Abandon why handed back = record { no_opening = refl; no_step = refl; no_end = refl; none_handed = refl; none_back = refl }

  module _ (past : List (Event V)) (e : Event V) where
    pub steps_push : steps_in (past ++ e ∷ []) ≡ steps_in past + step_of e
    steps_push = sum_by_push step_of past e

    pub ends_push : ends_in (past ++ e ∷ []) ≡ ends_in past + end_of e
    ends_push = sum_by_push end_of past e

    pub handed_push : handed_in (past ++ e ∷ []) ≡ handed_in past ++ handed_of e
    handed_push = sym (flat_map_more handed_of [] past e)

    pub back_push : back_in (past ++ e ∷ []) ≡ back_in past ++ back_of e
    back_push = sym (flat_map_more back_of [] past e)

    -- an opening stays what it was
    pub opening_stays : (o : Opening) → opening_in past ≡ Some o → opening_in (past ++ e ∷ []) ≡ Some o
    opening_stays o is = opening_push past e ∙ ap (λ a. option_or a (opening_of e)) is

    module _ (idle : Idle e) where
      pub opening_idle : opening_in (past ++ e ∷ []) ≡ opening_in past
      opening_idle = opening_push past e ∙ ap (option_or (opening_in past)) idle.no_opening ∙ or_none (opening_in past)

      pub steps_idle : steps_in (past ++ e ∷ []) ≡ steps_in past
      steps_idle = omega (arith, steps_push, idle.no_step)

      pub ends_idle : ends_in (past ++ e ∷ []) ≡ ends_in past
      ends_idle = omega (arith, ends_push, idle.no_end)

      pub handed_idle : handed_in (past ++ e ∷ []) ≡ handed_in past
      handed_idle = handed_push ∙ ap (λ l. handed_in past ++ l) idle.none_handed ∙ append-nil (handed_in past)

      pub back_idle : back_in (past ++ e ∷ []) ≡ back_in past
      back_idle = back_push ∙ ap (λ l. back_in past ++ l) idle.none_back ∙ append-nil (back_in past)
