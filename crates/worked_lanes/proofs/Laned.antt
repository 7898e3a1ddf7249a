-- The tables in two lanes of a column that holds Q.
use Rattle.std.proofs.Common.{◌≡◌, ℕ, zero, suc, ◌+◌, ◌%◌, ◌<◌, ltb, List, [], ◌∷◌, None, Option, sym, refl, ap, ◌∙◌, inl, inr, arith}
use Rattle.std.proofs.lemmas.Bool.{cases_lt, cond-false, le-ltb}
use Rattle.search_sorted.specs.Packed.{size, number_at}
use Rattle.patches.specs.declared.column.Column.{Column}
use Rattle.patches.specs.Indices.{seek}
use Rattle.patches.specs.Columns.{patch_at, column_meaning}
use Rattle.lanes.specs.LaneRules.{lane_of, RightOffsets, RightEntries}
use Rattle.lanes.specs.LaneSets.{in_lane, lane_patch, SoundTables, TablesOf}
use Rattle.worked_lanes.specs.LaneCases.{HoldsQ}

-- the tables
abbrev offs : List ℕ
offs = 0 ∷ 2 ∷ 3 ∷ []

abbrev ents : List ℕ
ents = 2 ∷ 6 ∷ 5 ∷ []

abbrev vals : List ℕ
vals = 7 ∷ 9 ∷ 8 ∷ []

right_offsets : RightOffsets offs ents
right_offsets zero w = omega arith
right_offsets (suc zero) w = omega arith
right_offsets (suc (suc zero)) w = omega arith
right_offsets (suc (suc (suc i))) w = omega arith

right_entries : RightEntries offs ents 8 2
right_entries zero (zero, lies, breaks) = omega arith
right_entries (suc zero) (zero, lies, breaks) = omega arith
right_entries (suc (suc j)) (zero, lies, breaks) = omega arith
right_entries zero (suc zero, lies, breaks) = omega arith
right_entries (suc zero) (suc zero, lies, breaks) = omega arith
right_entries (suc (suc zero)) (suc zero, lies, breaks) = omega arith
right_entries (suc (suc (suc j))) (suc zero, lies, breaks) = omega arith
right_entries j (suc (suc lane), lies, breaks) = omega arith

sound : SoundTables 8 2 offs ents vals
sound = record {
  few = omega arith;
  count = (1, omega arith, refl);
  offsets_length = refl;
  values_length = refl;
  right_offsets = right_offsets;
  right_entries = right_entries;
}

-- the patch of a row by Q's indices and values
abbrev in_q : ℕ → Option ℕ
in_q r = seek (number_at (2 ∷ 5 ∷ 6 ∷ []) 1) (0 + r) 0 (7 ∷ 8 ∷ 9 ∷ [])

-- each row below 8 has its patch in the tables
same_low : (r : ℕ) → r < 8 → lane_patch 8 2 offs ents vals r ≡ in_q r
same_low zero h = refl
same_low (suc zero) h = refl
same_low (suc (suc zero)) h = refl
same_low (suc (suc (suc zero))) h = refl
same_low (suc (suc (suc (suc zero)))) h = refl
same_low (suc (suc (suc (suc (suc zero))))) h = refl
same_low (suc (suc (suc (suc (suc (suc zero)))))) h = refl
same_low (suc (suc (suc (suc (suc (suc (suc zero))))))) h = refl
same_low (suc (suc (suc (suc (suc (suc (suc (suc r)))))))) h = absurd (omega arith)

-- what stands beside an index, by the bytes, their width, the offset and the values
beside : (bytes given : List ℕ) (w v offset o : ℕ) (values vs : List ℕ) (r : ℕ) → bytes ≡ given → w ≡ v → offset ≡ o → values ≡ vs → seek (number_at bytes w) (offset + r) 0 values ≡ seek (number_at given v) (o + r) 0 vs
beside bytes given w v offset o values vs r b e f g =
    ap (λ s. seek (number_at s w) (offset + r) 0 values) b
    ∙ ap (λ k. seek (number_at given k) (offset + r) 0 values) e
    ∙ ap (λ k. seek (number_at given v) (k + r) 0 values) f
    ∙ ap (λ s. seek (number_at given v) (o + r) 0 s) g

module _ (c : Column ℕ) (q : HoldsQ c) where
  rows_are : c.rows ≡ 8
  rows_are = q.holds.rows ∙ q.given.rows

  patch_is : (r : ℕ) → patch_at c r ≡ in_q r
  patch_is r =
      beside c.indices.numbers.bytes.now (2 ∷ 5 ∷ 6 ∷ []) (size c.indices.numbers.width) 1 c.offset 0 c.values.now (7 ∷ 8 ∷ 9 ∷ []) r
      (q.holds.indices ∙ q.given.indices)
      (q.holds.width ∙ q.given.width)
      (q.holds.offset ∙ q.given.offset)
      (q.holds.values ∙ q.given.values)

  same_patch : (r : ℕ) → lane_patch 8 2 offs ents vals r ≡ patch_at c r
  same_patch r =
      elim (cases_lt r 8) [
        | inl h ↦ same_low r h ∙ sym (patch_is r)
        | inr h ↦ cond-false (ltb r 8) (in_lane offs ents vals (lane_of 2 r) (r % 1024)) None (le-ltb r 8 h) ∙ sym ((column_meaning c).past r (omega (arith, rows_are)))
      ]

  pub tables_of_q : TablesOf (column_meaning c) 2 (0 ∷ 2 ∷ 3 ∷ []) (2 ∷ 6 ∷ 5 ∷ []) (7 ∷ 9 ∷ 8 ∷ [])
  tables_of_q = record {
    sound = rw rows_are sound;
    same = λ r. ap (λ n. lane_patch n 2 offs ents vals r) rows_are ∙ same_patch r;
  }
