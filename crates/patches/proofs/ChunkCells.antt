-- Writing a chunk's patches into its cells.
use Rattle.std.proofs.Common.{◌≡◌, ℕ, ◌+◌, ◌-◌, ◌/◌, ◌<◌, ◌≤◌, eqb, ◌≢◌, List, length, get_or, set, take, drop, unwrap_or, sym, refl, ap, ◌∙◌, inl, inr, arith}
use Rattle.std.proofs.lemmas.List.{get_or-set_same, get_or-set_other, get_or_default, get_or_read, get_or-take, get_or-drop}
use Rattle.std.proofs.lemmas.Bool.{cases_lt, cases_eq, cases_order, cond-true, eq-eqb}
use Rattle.search_sorted.specs.Packed.{Ascending}
use Rattle.search_sorted.proofs.Lefts.{Split}
use Rattle.search_sorted.specs.declared.packed.Packed.{Packed}
use Rattle.search_sorted.specs.Numbers.{count, number, PartOf}
use Rattle.patches.specs.declared.column.Column.{Column}
use Rattle.patches.specs.Columns.{index, patches, patch_at}
use Rattle.patches.specs.Lookups.{Places}
use Rattle.patches.specs.Refusals.{Kept}
use Rattle.patches.specs.Chunks.{phase, count_of_chunks, chunk_start, first_row_of, end_row_of, chunk_rule}
use Rattle.patches.specs.Indices.{count_under, seek}
use Rattle.patches.specs.Cells.{Written, Among, Corrected}
use Rattle.patches.proofs.Unders.{under_split, place_from, place_below, place_to, place_past}
use Rattle.patches.proofs.Judges.{chunks_some}
use Rattle.patches.specs.SeekLaws.{seek_none, seek_some}

module _ {V : Type 0} (f : ℕ → ℕ) (base from to : ℕ) (values before : List V) where
  -- one more value is written
  pub written_more : (n p index : ℕ) (cells : List V) (v : V) → Ascending f n → to ≤ n → to ≤ length values → Among f base (length before) from to → length cells ≡ length before → from ≤ p → p < to → index ≡ f p → v ≡ get_or values p v → Written f base from p values before cells → Written f base from (p + 1) values before (set cells (index - base) v)
  written_more n p index cells v up low long among same h l is read w = record {
    holds = λ i d a b.
        elim (cases_lt i p) [
          | inl lt ↦
              let ne : f i - base ≢ index - base = λ e. omega (arith, up i p lt (omega arith), among i a (omega arith), among p h l) in
              get_or-set_other cells (index - base) (f i - base) v d ne ∙ w.holds i d a lt
          | inr ge ↦
              let at : i ≡ p = omega arith in
              let there : f i - base ≡ index - base = ap (λ k. f k - base) at ∙ ap (λ k. k - base) (sym is) in
              ap (λ k. get_or (set cells (index - base) v) k d) there
              ∙ get_or-set_same cells (index - base) v d (omega (arith, among p h l))
              ∙ get_or_read values p v (omega arith) read d
              ∙ ap (λ k. get_or values k d) (sym at)
        ];
    keeps = λ k d non.
        let ne : k ≢ index - base = λ e. non p h (omega arith) (omega (arith, among p h l)) in
        get_or-set_other cells (index - base) k v d ne ∙ w.keeps k d (λ i a b. non i a (omega arith));
  }

-- the same of a part of the indices and the values beside them
module _ (p q : Packed) (from to : ℕ) (part : PartOf p q from to) (order : from ≤ to) (top : to ≤ count p) where
  part_size : count q ≡ to - from
  part_size = omega (arith, part.counted)

  pub among_part : (base cells : ℕ) → Among (number p) base cells from to → Among (number q) base cells 0 (count q)
  among_part base cells among i h l = rw (part.each i l) (among (from + i) (omega arith) (omega (arith, part_size)))

  pub written_part : {V : Type 0} (base : ℕ) (values before after : List V) → length values ≡ count p → Written (number q) base 0 (count q) (take (to - from) (drop from values)) before after → Written (number p) base from to values before after
  written_part base values before after paired w = record {
    holds = λ i d a b.
        let back : from + (i - from) ≡ i = omega arith in
        let here : i - from < count q = omega (arith, part_size) in
        ap (λ k. get_or after (k - base) d) (ap (number p) (sym back) ∙ sym (part.each (i - from) here))
        ∙ w.holds (i - from) d (omega arith) here
        ∙ get_or-take (to - from) (drop from values) (i - from) d (omega arith)
        ∙ get_or-drop from values (i - from) d
        ∙ ap (λ k. get_or values k d) back;
    keeps = λ k d non. w.keeps k d (λ i a b e. non (from + i) (omega arith) (omega (arith, part_size)) (sym (part.each i b) ∙ e));
  }

-- a chunk that keeps its rule is one of the chunks
pub chunk_there : (chunk offset rows : ℕ) → Kept (chunk_rule chunk (count_of_chunks offset rows)) → chunk < count_of_chunks offset rows
chunk_there chunk offset rows kept = elim (cases_lt chunk (count_of_chunks offset rows)) [ inl h ↦ h | inr h ↦ absurd (kept chunk (refl, h)) ]

-- so there is a row
chunk_has_rows : (chunk offset rows : ℕ) → chunk < count_of_chunks offset rows → 0 < rows
chunk_has_rows chunk offset rows h =
    elim (cases_eq rows 0) [
      | inl e ↦ absurd (omega (arith, cond-true {A = ℕ} (eqb rows 0) 0 ((phase offset + rows + 1023) / 1024) (eq-eqb rows 0 e)))
      | inr other ↦ (elim (cases_lt 0 rows) [ inl l ↦ l | inr l ↦ absurd (other (omega arith)) ])
    ]

-- the places of a chunk's indices
module _ {V : Type 0} (c : Column V) (chunk from to : ℕ) (there : chunk < count_of_chunks c.offset c.rows) (at : Places c (chunk_start c.offset chunk) (chunk_start c.offset (chunk + 1)) from to) where
  some : 0 < c.rows
  some = chunk_has_rows chunk c.offset c.rows there

  -- the chunk's indices are those of its rows
  pub chunk_among : (base cells : ℕ) → base ≡ c.offset + first_row_of chunk c.offset c.rows → cells ≡ end_row_of chunk c.offset c.rows - first_row_of chunk c.offset c.rows → Among (index c) base cells from to
  chunk_among base cells start size i h l =
      let within : i < patches c = omega (arith, at.within) in
      let here = c.inside i within in
      let after = place_from c _ _ from to at i h within in
      let before = place_to c _ _ from to at i l in
      (omega (arith, here, after, before, chunks_some c.offset c.rows some), omega (arith, here, after, before, chunks_some c.offset c.rows some))

  -- an index that lies in the chunk stands at one of the chunk's places
  chunk_place : (x m : ℕ) → chunk_start c.offset chunk ≤ x → x < chunk_start c.offset (chunk + 1) → m < patches c → index c m ≡ x → (from ≤ m) × (m < to)
  chunk_place x m above below h e = (
    (elim (cases_lt m from) [ inl l ↦ absurd (omega (arith, place_below c _ _ from to at m l)) | inr l ↦ l ]),
    (elim (cases_lt m to) [ inl l ↦ l | inr l ↦ absurd (omega (arith, place_past c _ _ from to at m l h)) ]),
  )

  -- the cells of the chunk's rows are corrected once its values are written
  pub chunk_corrected : (base : ℕ) (before after : List V) → base ≡ c.offset + first_row_of chunk c.offset c.rows → length before ≡ end_row_of chunk c.offset c.rows - first_row_of chunk c.offset c.rows → Written (index c) base from to c.values.now before after → Corrected (patch_at c) (first_row_of chunk c.offset c.rows) before after
  chunk_corrected base before after start size w k d h =
      let f : ℕ → ℕ = index c in
      let n : ℕ = patches c in
      let values : List V = c.values.now in
      let paired : length values ≡ n = c.paired in
      let x : ℕ = c.offset + (first_row_of chunk c.offset c.rows + k) in
      let same : x ≡ base + k = omega arith in
      let above : chunk_start c.offset chunk ≤ x = omega (arith, chunks_some c.offset c.rows some) in
      let below : x < chunk_start c.offset (chunk + 1) = omega (arith, chunks_some c.offset c.rows some) in
      let m : ℕ = count_under f n x in
      let split : Split f n x m = under_split f x n c.indices.up in
      let absent : ((i : ℕ) → i < n → f i ≡ x → ⊥) → get_or after k d ≡ unwrap_or (seek f x 0 values) (get_or before k d) = λ non.
      w.keeps k d (λ i a b e. non i (omega (arith, at.within)) (e ∙ sym same))
      ∙ ap (λ o. unwrap_or o (get_or before k d)) (sym (seek_none f x values (λ i l e. non i (omega arith) e))) in
      elim (cases_lt m n) [
        | inl lt ↦
            elim (cases_eq (f m) x) [
              | inl e ↦
                  let place = chunk_place x m above below lt e in
                  let there : f m - base ≡ k = omega arith in
                  ap (λ j. get_or after j d) (sym there)
                  ∙ w.holds m d place.0 place.1
                  ∙ ap (λ o. unwrap_or o (get_or before k d)) (sym (seek_some f x m values (get_or values m d) (omega arith) e (λ j l q. omega (arith, split.before j l)) (get_or_default values m d (get_or values m d) (omega arith))))
              | inr other ↦ absent (λ i l e. elim (cases_order i m) [ inl q ↦ other (ap f (sym q) ∙ e) | inr q ↦ elim q [ inl u ↦ omega (arith, split.before i u) | inr u ↦ omega (arith, split.after m (omega arith) lt, c.indices.up m i u l) ] ])
            ]
        | inr ge ↦ absent (λ i l e. omega (arith, split.before i (omega arith)))
      ]
