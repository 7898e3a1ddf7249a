-- Attempts made one after another, with cells that are dealt out from the first on.
use Rattle.std.proofs.Common.{◌≡◌, ℕ, ◌+◌, ◌-◌, ◌<◌, ◌≤◌, min, List, [], ◌∷◌, ◌++◌, map, length, get_or, take, drop, set, sym, refl, ap, ◌∙◌, arith, length-drop, length-set}
use Rattle.std.specs.List.{sum_by}
use borrow.Rule.Slice.PartMut.{put_mid}
use Rattle.std.proofs.Math.Seq.{map-set_same}
use Rattle.std.proofs.lemmas.List.{take_min, drop_min, take_all, drop-drop, take_more_set, take-take, drop-take, map-append}
use Rattle.std.proofs.lemmas.List.Sums.{sum_by-cons, sum_by_push}
use Rattle.std.proofs.lemmas.Slice.{take-put_mid_below, drop-put_mid, between-put_mid}
use Rattle.patches.specs.Assignments.{Assignment}
use Rattle.runs.specs.declared.attempts.Attempt.{Attempt}
use Rattle.runs.specs.declared.attempts.Entry.{Entry}
use Rattle.runs.specs.declared.attempts.Run.{Run}
use Rattle.runs.specs.declared.attempts.Run.TheVariants.{Unopened}
use Rattle.runs.specs.Events.{Outcome, cells_of, cells_in, attempt_of, event_of, events_of}
use Rattle.runs.specs.Attempts.{AllRight, Stands, Leads}
use Rattle.runs.proofs.Leading.{leads_then, every_list_lem}

cells_cons : (e : Entry) (es : List Entry) → cells_in (e ∷ es) ≡ cells_of e.attempt + cells_in es
cells_cons e es = sum_by-cons cells_of e.attempt (map attempt_of es)

cells_push : (es : List Entry) (e : Entry) → cells_in (es ++ e ∷ []) ≡ cells_in es + cells_of e.attempt
cells_push es e = ap (sum_by cells_of) (map-append attempt_of es (e ∷ [])) ∙ sum_by_push cells_of (map attempt_of es) e.attempt

module _ {V : Type 0} where
  -- one more entry is one more event
  events_push : (es : List Entry) (e : Entry) (before after : List V)
      → events_of (es ++ e ∷ []) before after ≡ events_of es before after ++ event_of e.attempt e.outcome (take (cells_of e.attempt) (drop (cells_in es) before)) (take (cells_of e.attempt) (drop (cells_in es) after)) ∷ []
  events_push [] e before after = refl
  events_push (x ∷ es) e before after =
      let n : ℕ = cells_of x.attempt in
      let m : ℕ = cells_in es in
      rw (cells_cons x es, ← drop-drop m n before, ← drop-drop m n after, events_push es e (drop n before) (drop n after)) refl

  -- events before a place hang on the cells before it
  events_same : (es : List Entry) (before a b : List V) → take (cells_in es) a ≡ take (cells_in es) b → events_of es before a ≡ events_of es before b
  events_same [] before a b e = refl
  events_same (x ∷ es) before a b e =
      let n : ℕ = cells_of x.attempt in
      let m : ℕ = cells_in es in
      let all : take (n + m) a ≡ take (n + m) b = rw (cells_cons x es) at e in
      let le : n ≤ n + m = omega arith in
      let front : take n a ≡ take n b = sym (take-take n (n + m) a le) ∙ ap (take n) all ∙ take-take n (n + m) b le in
      let back : take m (drop n a) ≡ take m (drop n b) = sym (drop-take n m a) ∙ ap (drop n) all ∙ drop-take n m b in
      rw (front, events_same es (drop n before) (drop n a) (drop n b) back) refl

  -- the first i attempts are made, and the cells before a place dealt out
  pub record Dealt (m : Assignment V) (start run : Run) (listed entries : List Entry) (before cells : List V) (i at : ℕ) : Type 0 where
    pub place : at ≡ min (cells_in (take i entries)) (length cells)
    pub as_long : length cells ≡ length before
    pub as_many : length entries ≡ length listed
    pub attempts : map attempt_of entries ≡ map attempt_of listed
    pub rest : drop at cells ≡ drop at before
    pub leads : Leads m start (events_of (take i entries) before cells) run

  module _ {m : Assignment V} {start : Run} {listed : List Entry} {before : List V} where
    pub dealt_more : {run next : Run} {entries entries' : List Entry} {cells cells' : List V} {i at at' n : ℕ} {a : Attempt} (d : Entry) (o : Outcome) (ys : List V)
        → Dealt m start run listed entries before cells i at → i < length entries → (get_or entries i d).attempt ≡ a → n ≡ min (cells_of a) (length cells - at) → at' ≡ at + n
        → length ys ≡ n → cells' ≡ put_mid at n cells ys → length cells' ≡ length cells → entries' ≡ set entries i (record { attempt = a; outcome = o })
        → Leads m run (event_of a o (take n (drop at cells)) ys ∷ []) next → Dealt m start next listed entries' before cells' (i + 1) at'
    dealt_more {run} {next} {entries} {entries'} {cells} {cells'} {i} {at} {at'} {n} {a} d o ys s lt is size to long put same put-entry one =
        let e : Entry = record { attempt = a; outcome = o } in
        let done : List Entry = take i entries in
        let inside : at ≤ length cells = omega (arith, s.place) in
        let taken : take (i + 1) entries' ≡ done ++ e ∷ [] = rw put-entry (take_more_set entries i e lt) in
        let asked : cells_in (take (i + 1) entries') ≡ cells_in done + cells_of a = ap cells_in taken ∙ cells_push done e in
        let low : (xs : List V) → length xs ≡ length cells → drop (cells_in done) xs ≡ drop at xs = λ xs q. rw (s.place, ← q) (sym (drop_min (cells_in done) xs)) in
        let front : (xs : List V) → length xs ≡ length cells → take (cells_in done) xs ≡ take at xs = λ xs q. rw (s.place, ← q) (sym (take_min (cells_in done) xs)) in
        let piece : (xs : List V) → length xs ≡ length cells → take (cells_of a) (drop at xs) ≡ take n (drop at xs) =
        λ xs q. let few : n ≡ min (cells_of a) (length (drop at xs)) = omega (arith, length-drop at xs) in rw few (sym (take_min (cells_of a) (drop at xs))) in
        let unmoved : take at cells' ≡ take at cells = rw put (take-put_mid_below at n cells ys at (omega arith) inside) in
        let handed : take (cells_of a) (drop (cells_in done) before) ≡ take n (drop at cells) = ap (take (cells_of a)) (low before (sym s.as_long) ∙ sym s.rest) ∙ piece cells refl in
        let here : at + n - at ≡ n = omega arith in
        let back : take (cells_of a) (drop (cells_in done) cells') ≡ ys = ap (take (cells_of a)) (low cells' same) ∙ piece cells' same ∙ ap (λ k. take k (drop at cells')) (sym here) ∙ ap (λ l. take (at + n - at) (drop at l)) put ∙ between-put_mid at n cells ys (at + n) inside (long ∙ sym here) in
        let events : events_of (take (i + 1) entries') before cells' ≡ events_of done before cells ++ event_of a o (take n (drop at cells)) ys ∷ [] =
        rw (taken, events_push done e before cells', events_same done before cells' cells (front cells' same ∙ unmoved ∙ sym (front cells refl)), handed, back) refl in
        record {
          place = omega (arith, s.place, asked);
          as_long = same ∙ s.as_long;
          as_many = ap length put-entry ∙ length-set entries i e ∙ s.as_many;
          attempts = ap (map attempt_of) put-entry ∙ map-set_same attempt_of entries i e d (sym is) ∙ s.attempts;
          rest = ap (λ k. drop k cells') to ∙ ap (drop (at + n)) put ∙ drop-put_mid at n cells ys (at + n) (omega arith) inside long ∙ sym (drop-drop n at cells) ∙ ap (drop n) s.rest ∙ drop-drop n at before ∙ ap (λ k. drop k before) (sym to);
          leads = rw events (leads_then m start run next (events_of done before cells) (event_of a o (take n (drop at cells)) ys ∷ []) s.leads one);
        }

    module _ {run : Run} {entries : List Entry} {cells : List V} {i at : ℕ} (s : Dealt m start run listed entries before cells i at) (all : length entries ≤ i) where
      whole : take i entries ≡ entries
      whole = take_all i entries all

      pub all_leads : Leads m start (events_of entries before cells) run
      all_leads = rw whole at s.leads

      pub all_listed : start ≡ Unopened → AllRight m [] (events_of entries before cells) × Stands m (events_of entries before cells) run
      all_listed is = every_list_lem m start run (events_of entries before cells) all_leads is

      pub all_rest : drop (cells_in listed) cells ≡ drop (cells_in listed) before
      all_rest =
          let same : cells_in (take i entries) ≡ cells_in listed = ap cells_in whole ∙ ap (sum_by cells_of) s.attempts in
          let low : (xs : List V) → length xs ≡ length cells → drop at xs ≡ drop (cells_in listed) xs = λ xs q. rw (s.place, same, ← q) (drop_min (cells_in listed) xs) in
          sym (low cells refl) ∙ s.rest ∙ low before (sym s.as_long)
