-- One stretch of replaced cells after another, and cells replaced by equal patches.
use Rattle.std.proofs.Common.{◌≡◌, ℕ, ◌+◌, ◌-◌, ◌<◌, List, [], ◌++◌, length, get_or, unwrap_or, sym, refl, ap, ◌∙◌, inl, inr, arith, length-append}
use Rattle.std.proofs.lemmas.List.{get_or_append_left, get_or-append_right}
use Rattle.std.proofs.lemmas.Bool.{cases_lt}
use Rattle.patches.specs.Assignments.{Patch}
use Rattle.runs.specs.Steps.{Replaced}

module _ {V : Type 0} (p : ℕ → Patch V) where
  pub replaced_none : (first : ℕ) → Replaced {V = V} p first [] []
  replaced_none first = record { as_long = refl; cells = λ k d h. absurd (omega arith) }

  pub replaced_join : (first next : ℕ) (xs xs' ys ys' : List V) → next ≡ first + length xs → Replaced p first xs xs' → Replaced p next ys ys' → Replaced p first (xs ++ ys) (xs' ++ ys')
  replaced_join first next xs xs' ys ys' at a b = record {
    as_long = length-append xs' ys' ∙ omega (arith, a.as_long, b.as_long, length-append xs ys);
    cells = λ k d l. elim (cases_lt k (length xs)) [
      | inl h ↦
          let h' : k < length xs' = omega (arith, a.as_long) in
          get_or_append_left xs' ys' d k h' ∙ a.cells k d h ∙ ap (unwrap_or (p (first + k))) (sym (get_or_append_left xs ys d k h))
      | inr h ↦
          let i : k - length xs < length ys = omega (arith, length-append xs ys) in
          let q : next + (k - length xs) ≡ first + k = omega arith in
          get_or-append_right xs' ys' (length xs) k d a.as_long h
          ∙ b.cells (k - length xs) d i
          ∙ ap (λ j. unwrap_or (p j) (get_or ys (k - length xs) d)) q
          ∙ ap (unwrap_or (p (first + k))) (sym (get_or-append_right xs ys (length xs) k d refl h))
    ];
  }

  pub replaced_same : (q : ℕ → Patch V) (first : ℕ) (before after : List V) → ((k : ℕ) → k < length before → q (first + k) ≡ p (first + k)) → Replaced q first before after → Replaced p first before after
  replaced_same q first before after same r = record {
    as_long = r.as_long;
    cells = λ k d h. r.cells k d h ∙ ap (λ o. unwrap_or o (get_or before k d)) (same k h);
  }
