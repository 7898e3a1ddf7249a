-- From the rules that a file keeps to what a column holds.
use Rattle.std.proofs.Common.{◌≡◌, ℕ, zero, suc, ◌+◌, ◌*◌, ◌/◌, ◌%◌, ◌<◌, ◌≤◌, length, sym, refl, ap, ◌∙◌, ap₂, inl, inr, div-add-mod', zero-mul, arith}
use Rattle.std.proofs.lemmas.Bool.{cases_eq, cases_lt}
use Rattle.search_sorted.specs.declared.packed.Packed.{Packed}
use Rattle.search_sorted.specs.Packed.{number_at, Ascending}
use Rattle.search_sorted.specs.Numbers.{count, number}
use Rattle.patches.specs.declared.corrections.Corrections.{Corrections}
use Rattle.patches.specs.declared.span.Span.{Span}
use Rattle.patches.specs.Refusals.{AllKept}
use Rattle.patches.specs.Indices.{Inside}
use Rattle.patches.proofs.Gaps.{climbs_from}
use Rattle.patches.specs.Loads.{shape_rules, index_rules, Shaped}

module _ {V : Type 0} (f : Corrections V) (p : Packed) (s : Span) (kept : AllKept (shape_rules f.width f.indices.now (length f.values.now) f.rows f.offset)) (shaped : Shaped f p s) where
  pub file_count : count p ≡ length f.indices.now / f.width
  file_count = ap₂ (λ b w. length b / w) shaped.bytes shaped.width

  -- a file that keeps the rules of shape has an index, and a value for each
  pub file_some : 0 < count p
  file_some =
      elim (cases_lt 0 (length f.indices.now / f.width)) [
        | inl h ↦ omega (arith, file_count)
        | inr h ↦
            let none : length f.indices.now / f.width ≡ 0 = omega arith in
            let product : length f.indices.now / f.width * f.width ≡ 0 = ap (λ k. k * f.width) none ∙ zero-mul f.width in
            let whole : length f.indices.now % f.width ≡ 0 = elim (cases_eq (length f.indices.now % f.width) 0) [ inl e ↦ e | inr other ↦ absurd (kept.1.0 0 (refl, other)) ] in
            absurd (kept.1.1.0 0 (refl, omega (arith, div-add-mod' (length f.indices.now) f.width, whole, product)))
      ]

  pub file_values : length f.values.now ≡ count p
  file_values = elim (cases_eq (length f.values.now) (length f.indices.now / f.width)) [ inl e ↦ e ∙ sym file_count | inr other ↦ absurd (kept.1.1.1.0 0 (refl, other)) ]

  -- the rules on the numbers are those on the file's indices
  pub file_rules : index_rules (number p) (count p) f.chunks s.offset s.rows ≡ index_rules (number_at f.indices.now f.width) (length f.indices.now / f.width) f.chunks f.offset f.rows
  file_rules =
      ap₂ (λ b w. index_rules (number_at b w) (length b / w) f.chunks s.offset s.rows) shaped.bytes shaped.width
      ∙ ap₂ (λ o r. index_rules (number_at f.indices.now f.width) (length f.indices.now / f.width) f.chunks o r) shaped.offset shaped.rows

-- there are no more rising indices than rows to lie among
pub count_rows : (f : ℕ → ℕ) (n offset rows : ℕ) → Ascending f n → Inside f n offset rows → n ≤ rows
count_rows f zero offset rows up inside = omega arith
count_rows f (suc n) offset rows up inside =
    let e : 0 + n ≡ n = omega arith in
    omega (arith, rw e at (climbs_from f (suc n) up 0 n (omega arith)), (inside 0 (omega arith)).0, (inside n (omega arith)).1)
