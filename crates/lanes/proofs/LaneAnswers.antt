-- The four questions over sound tables: which value a row has, how many patched rows lie before it, and which is next.
use Rattle.std.proofs.Common.{◌≡◌, ℕ, zero, suc, ◌+◌, ◌-◌, ◌*◌, ◌/◌, ◌%◌, ◌<◌, ◌≤◌, true, ltb, length, get_or, take, drop, is_some, Some, None, Option, count_by, sym, ap, ◌∙◌, subst, inl, inr, mul-le-mul_right, mod-lt, zero-mul, arith}
use Rattle.std.proofs.lemmas.List.{length-take, length-drop, get_or-take, get_or-drop}
use Rattle.std.proofs.lemmas.Bool.{cases_lt, cond-true, lt-ltb, false≢true}
use Rattle.patches.specs.Assignments.{patches_below, Next}
use Rattle.patches.specs.Chunks.{count_of_chunks}
use Rattle.patches.specs.Indices.{count_under}
use Rattle.patches.specs.SeekLaws.{seek_none_from}
use Rattle.patches.proofs.Counts.{one_some, one_none, count_past}
use Rattle.lanes.specs.declared.lanes.Lanes.{Lanes}
use Rattle.lanes.specs.LaneRules.{lane_of, begin_of}
use Rattle.lanes.specs.LaneSets.{in_lane}
use Rattle.lanes.specs.LaneLoads.{First}
use Rattle.lanes.specs.LaneMeaning.{patch_in, lane_meaning, begin_of_chunk, entries_of_chunk, IsAt, Least, NextUnder}
use Rattle.lanes.proofs.Laning.{lanes_some}
use Rattle.lanes.proofs.LaneCounts.{chunks_are}
use Rattle.lanes.proofs.LaneOffsets.{begin_first, begin_last, begin_mono, begin_top}
use Rattle.lanes.proofs.LaneLeast.{least_none, least_some}
use Rattle.lanes.proofs.LaneTests.{Distinct, under_miss, under_hit, under_none, under_all, under_is, one_is, seek_first}
use Rattle.lanes.proofs.LaneRows.{Table, lane_within, chunk_within, chunk_low as chunk_entry_low, chunk_once, lane_length, entry_patched as chunk_patched, row_unpatched as chunk_unpatched}

-- the tables of lanes are sound
pub table_of : {V : Type 0} (l : Lanes V) → Table l.places.offsets.now l.places.entries.now l.places.rows l.places.lanes.number
table_of l = record {
  few = l.places.few;
  counted = l.places.lanes.counted;
  long = l.places.offset_count;
  right_offsets = l.right_offsets;
  right_entries = l.right_entries;
}

module _ {V : Type 0} (l : Lanes V) where
  -- a row lies in one of the lanes
  pub lane_there : (r : ℕ) → r < l.places.rows → lane_of l.places.lanes.number r + 1 < length l.places.offsets.now
  lane_there r h =
      lane_within l.places.offsets.now l.places.entries.now l.places.rows l.places.lanes.number (table_of l) (r / 1024) (r % l.places.lanes.number) (omega (arith, chunks_are l.places.rows)) (mod-lt r (lanes_some l.places.lanes.number l.places.lanes.counted))

  pub begin_within : (i : ℕ) → i < length l.places.offsets.now → begin_of l.places.offsets.now l.places.entries.now i ≤ length l.places.entries.now
  begin_within = begin_top l.places.offsets.now l.places.entries.now l.right_offsets

  -- the value of a row's first place in its lane
  pub found_patch : (r j : ℕ) (v : V) → r < l.places.rows → First (IsAt l.places.offsets.now l.places.entries.now (lane_of l.places.lanes.number r) (r % 1024)) (Some j) → v ≡ get_or l.values.now j v → Some v ≡ patch_in l r
  found_patch r j v h found is =
      let g : ℕ = lane_of l.places.lanes.number r in
      let b : ℕ = begin_of l.places.offsets.now l.places.entries.now g in
      let n : ℕ = begin_of l.places.offsets.now l.places.entries.now (g + 1) - b in
      let at : b + (j - b) ≡ j = omega (arith, found.0.0) in
      let read : get_or (take n (drop b l.values.now)) (j - b) v ≡ get_or l.values.now j v = get_or-take n (drop b l.values.now) (j - b) v (omega (arith, found.0)) ∙ get_or-drop b l.values.now (j - b) v ∙ ap (λ k. get_or l.values.now k v) at in
      sym (cond-true (ltb r l.places.rows) (in_lane l.places.offsets.now l.places.entries.now l.values.now g (r % 1024)) None (lt-ltb r l.places.rows h)
      ∙ seek_first (λ k. get_or l.places.entries.now k 0) (r % 1024) b (j - b) (take n (drop b l.values.now)) v
      (omega (arith, lane_length l.places.offsets.now l.places.entries.now l.places.rows l.places.lanes.number (table_of l) l.values.now l.value_count g (lane_there r h), found.0))
      (ap (λ k. get_or l.places.entries.now k 0) at ∙ found.0.2)
      (λ k a q e. found.1 k (omega arith) (a, omega (arith, found.0), e))
      (is ∙ sym read))

  -- a row that stands at no place of its lane has no patch
  pub missed_patch : (r : ℕ) → r < l.places.rows → First (IsAt l.places.offsets.now l.places.entries.now (lane_of l.places.lanes.number r) (r % 1024)) None → None ≡ patch_in l r
  missed_patch r h non =
      let g : ℕ = lane_of l.places.lanes.number r in
      let b : ℕ = begin_of l.places.offsets.now l.places.entries.now g in
      sym (cond-true (ltb r l.places.rows) (in_lane l.places.offsets.now l.places.entries.now l.values.now g (r % 1024)) None (lt-ltb r l.places.rows h)
      ∙ seek_none_from (λ k. get_or l.places.entries.now k 0) (r % 1024) b _ (λ k a q e. non k (a, omega (arith, lane_length l.places.offsets.now l.places.entries.now l.places.rows l.places.lanes.number (table_of l) l.values.now l.value_count g (lane_there r h)), e)))

  pub past_patch : (r : ℕ) → l.places.rows ≤ r → None ≡ patch_in l r
  past_patch r h = sym ((lane_meaning l).past r h)

  -- the offsets of the chunks: they never fall, and end at the number of entries
  pub chunk_fits : (c : ℕ) → c ≤ count_of_chunks 0 l.places.rows → c * l.places.lanes.number < length l.places.offsets.now
  chunk_fits = chunk_within l.places.offsets.now l.places.entries.now l.places.rows l.places.lanes.number (table_of l)

  pub chunk_mono : (c d : ℕ) → c ≤ d → d ≤ count_of_chunks 0 l.places.rows → begin_of_chunk l c ≤ begin_of_chunk l d
  chunk_mono c d h k = begin_mono l.places.offsets.now l.places.entries.now l.right_offsets (c * l.places.lanes.number) (d * l.places.lanes.number) (mul-le-mul_right l.places.lanes.number h) (chunk_fits d k)

  pub chunk_top : (c : ℕ) → c ≤ count_of_chunks 0 l.places.rows → begin_of_chunk l c ≤ length l.places.entries.now
  chunk_top c h = begin_within (c * l.places.lanes.number) (chunk_fits c h)

  pub chunk_last : begin_of_chunk l (count_of_chunks 0 l.places.rows) ≡ length l.places.entries.now
  chunk_last = begin_last l.places.offsets.now l.places.entries.now l.right_offsets (count_of_chunks 0 l.places.rows * l.places.lanes.number) (sym l.places.offset_count)

  -- the row of a chunk's entry has a patch
  pub place_patched : (c j : ℕ) → c < count_of_chunks 0 l.places.rows → begin_of_chunk l c ≤ j → j < begin_of_chunk l (c + 1) → is_some (patch_in l (1024 * c + get_or l.places.entries.now j 0)) ≡ true
  place_patched = chunk_patched l.places.offsets.now l.places.entries.now l.places.rows l.places.lanes.number (table_of l) l.values.now l.value_count

  -- a row of a chunk has none where no entry of the chunk is the row's
  pub place_unpatched : (c x : ℕ) → x < 1024 → ((j : ℕ) → begin_of_chunk l c ≤ j → j < begin_of_chunk l (c + 1) → get_or l.places.entries.now j 0 ≡ x → ⊥) → patch_in l (1024 * c + x) ≡ None
  place_unpatched = chunk_unpatched l.places.offsets.now l.places.entries.now l.places.rows l.places.lanes.number (table_of l) l.values.now l.value_count

  pub place_low : (c j : ℕ) → c < count_of_chunks 0 l.places.rows → begin_of_chunk l c ≤ j → j < begin_of_chunk l (c + 1) → get_or l.places.entries.now j 0 < 1024
  place_low c j h = chunk_entry_low l.places.offsets.now l.places.entries.now l.places.rows l.places.lanes.number (table_of l) c h j

  -- the entries of a chunk
  module _ (c : ℕ) (h : c < count_of_chunks 0 l.places.rows) where
    pub chunk_length : length (entries_of_chunk l c) ≡ begin_of_chunk l (c + 1) - begin_of_chunk l c
    chunk_length = simp (length-take, length-drop) (omega (arith, chunk_mono c (c + 1) (omega arith) (omega arith), chunk_top (c + 1) (omega arith)))

    chunk_entry : (i : ℕ) → i < length (entries_of_chunk l c) → get_or (entries_of_chunk l c) i 0 ≡ get_or l.places.entries.now (begin_of_chunk l c + i) 0
    chunk_entry i q = get_or-take (begin_of_chunk l (c + 1) - begin_of_chunk l c) (drop (begin_of_chunk l c) l.places.entries.now) i 0 (omega (arith, chunk_length)) ∙ get_or-drop (begin_of_chunk l c) l.places.entries.now i 0

    -- all are below 1024
    pub entry_low : (i : ℕ) → i < length (entries_of_chunk l c) → get_or (entries_of_chunk l c) i 0 < 1024
    entry_low i q = omega (arith, chunk_entry i q, place_low c (begin_of_chunk l c + i) h (omega arith) (omega (arith, chunk_length)))

    -- no two are equal
    entries_distinct : Distinct (λ i. get_or (entries_of_chunk l c) i 0) (length (entries_of_chunk l c))
    entries_distinct i j lt le e =
        chunk_once l.places.offsets.now l.places.entries.now l.places.rows l.places.lanes.number (table_of l) c h (begin_of_chunk l c + i) (begin_of_chunk l c + j) (omega arith) (omega arith) (omega (arith, chunk_length)) (sym (chunk_entry i (omega arith)) ∙ e ∙ chunk_entry j le)

    -- the row of each has a patch
    entry_patched : (i : ℕ) → i < length (entries_of_chunk l c) → is_some (patch_in l (1024 * c + get_or (entries_of_chunk l c) i 0)) ≡ true
    entry_patched i q =
        ap (λ x. is_some (patch_in l (1024 * c + x))) (chunk_entry i q) ∙ place_patched c (begin_of_chunk l c + i) h (omega arith) (omega (arith, chunk_length))

    -- and no other row of the chunk has one
    row_unpatched : (x : ℕ) → x < 1024 → ((i : ℕ) → i < length (entries_of_chunk l c) → get_or (entries_of_chunk l c) i 0 ≡ x → ⊥) → patch_in l (1024 * c + x) ≡ None
    row_unpatched x low non =
        place_unpatched c x low (λ j a b e.
        let at : begin_of_chunk l c + (j - begin_of_chunk l c) ≡ j = omega arith in
        let in-chunk : j - begin_of_chunk l c < length (entries_of_chunk l c) = omega (arith, chunk_length) in
        non (j - begin_of_chunk l c) in-chunk (chunk_entry (j - begin_of_chunk l c) in-chunk ∙ ap (λ i. get_or l.places.entries.now i 0) at ∙ e))

    -- the patched rows of a chunk below a place in it are as many as the chunk's entries below that
    pub count_in : (m : ℕ) → m ≤ 1024 → patches_below (patch_in l) (1024 * c + m) ≡ patches_below (patch_in l) (1024 * c) + count_under (λ i. get_or (entries_of_chunk l c) i 0) (length (entries_of_chunk l c)) m
    count_in zero le =
        let z : 1024 * c + 0 ≡ 1024 * c = omega arith in
        ap (patches_below (patch_in l)) z ∙ omega (arith, under_none (λ i. get_or (entries_of_chunk l c) i 0) (length (entries_of_chunk l c)))
    count_in (suc m) le =
        let f : ℕ → ℕ = λ i. get_or (entries_of_chunk l c) i 0 in
        let k : ℕ = length (entries_of_chunk l c) in
        let e : 1024 * c + suc m ≡ suc (1024 * c + m) = omega arith in
        let rest = count_in m (omega arith) in
        ap (patches_below (patch_in l)) e
        ∙ elim (one_is f k m) [
          | inl w ↦
              let there : is_some (patch_in l (1024 * c + m)) ≡ true = subst (λ x. is_some (patch_in l (1024 * c + x)) ≡ true) w.2 (entry_patched w.0 w.1) in
              omega (arith, rest, one_some (patch_in l (1024 * c + m)) there, under_hit f k m w.0 entries_distinct w.1 w.2)
          | inr non ↦ omega (arith, rest, one_none (patch_in l (1024 * c + m)) (row_unpatched m (omega arith) non), under_miss f k m non)
        ]

    -- the next patched row of a chunk by the least entry
    pub next_none_in : (bound : ℕ) → Least (entries_of_chunk l c) bound None → NextUnder (patch_in l) (1024 * c + bound) (1024 * (c + 1)) None
    next_none_in bound least k a b =
        let z : 1024 * c + (k - 1024 * c) ≡ k = omega arith in
        ap (patch_in l) (sym z) ∙ row_unpatched (k - 1024 * c) (omega arith) (λ i q e. least_none (entries_of_chunk l c) bound least i q (omega (arith, e)))

    pub next_some_in : (bound y : ℕ) → Least (entries_of_chunk l c) bound (Some y) → NextUnder (patch_in l) (1024 * c + bound) (1024 * (c + 1)) (Some (1024 * c + y))
    next_some_in bound y some =
        let least = least_some (entries_of_chunk l c) bound y some in (
          omega (arith, least.high),
          subst (λ x. is_some (patch_in l (1024 * c + x)) ≡ true) least.is (entry_patched least.place least.within),
          (λ k a b.
              let z : 1024 * c + (k - 1024 * c) ≡ k = omega arith in
              ap (patch_in l) (sym z)
              ∙ row_unpatched (k - 1024 * c) (omega (arith, entry_low least.place least.within, least.is)) (λ i q e. omega (arith, e, least.low i q (omega (arith, e))))),
        )

    -- and it is one of the rows
    pub least_low : (bound y : ℕ) → Least (entries_of_chunk l c) bound (Some y) → y < 1024
    least_low bound y some = let least = least_some (entries_of_chunk l c) bound y some in omega (arith, entry_low least.place least.within, least.is)

  -- the patched rows before a chunk are as many as the places before it
  pub count_chunks : (c : ℕ) → c ≤ count_of_chunks 0 l.places.rows → patches_below (patch_in l) (1024 * c) ≡ begin_of_chunk l c
  count_chunks zero h =
      let z : 0 * l.places.lanes.number ≡ 0 = zero-mul l.places.lanes.number in
      sym (ap (begin_of l.places.offsets.now l.places.entries.now) z ∙ begin_first l.places.offsets.now l.places.entries.now l.right_offsets (omega (arith, l.places.offset_count)))
  count_chunks (suc c) h =
      let e : suc c ≡ c + 1 = omega arith in
      let z : 1024 * suc c ≡ 1024 * c + 1024 = omega arith in
      let all = under_all (λ i. get_or (entries_of_chunk l c) i 0) (length (entries_of_chunk l c)) 1024 (entry_low c (omega arith)) in
      let sum : patches_below (patch_in l) (1024 * c + 1024) ≡ begin_of_chunk l (c + 1) = omega (arith, count_in c (omega arith) 1024 (omega arith), all, chunk_length c (omega arith), count_chunks c (omega arith), chunk_mono c (c + 1) (omega arith) (omega arith)) in
      ap (patches_below (patch_in l)) z ∙ sum ∙ ap (begin_of_chunk l) (sym e)

  pub row_in : (r : ℕ) → r < l.places.rows → r / 1024 < count_of_chunks 0 l.places.rows
  row_in r h = omega (arith, chunks_are l.places.rows)

  pub count_row : (r : ℕ) → r < l.places.rows → patches_below (patch_in l) r ≡ begin_of_chunk l (r / 1024) + count_by (λ entry. ltb entry (r % 1024)) (entries_of_chunk l (r / 1024))
  count_row r h =
      let z : r ≡ 1024 * (r / 1024) + r % 1024 = omega arith in
      ap (patches_below (patch_in l)) z
      ∙ omega (arith, count_in (r / 1024) (row_in r h) (r % 1024) (omega arith), count_chunks (r / 1024) (omega (arith, row_in r h)), under_is (r % 1024) (entries_of_chunk l (r / 1024)))

  pub count_all : (r : ℕ) → l.places.rows ≤ r → patches_below (patch_in l) r ≡ length l.places.entries.now
  count_all r h =
      count_past (patch_in l) l.places.rows r (lane_meaning l).past h
      ∙ sym (count_past (patch_in l) l.places.rows (1024 * count_of_chunks 0 l.places.rows) (lane_meaning l).past (omega (arith, chunks_are l.places.rows)))
      ∙ count_chunks (count_of_chunks 0 l.places.rows) (omega arith)
      ∙ chunk_last

  -- no row of a chunk with no entries has a patch
  empty_chunk : (k : ℕ) → begin_of_chunk l (k / 1024 + 1) ≤ begin_of_chunk l (k / 1024) → patch_in l k ≡ None
  empty_chunk k h =
      let z : 1024 * (k / 1024) + k % 1024 ≡ k = omega arith in
      ap (patch_in l) (sym z) ∙ place_unpatched (k / 1024) (k % 1024) (omega arith) (λ j f t e. omega arith)

  module _ (r : ℕ) (within : r < l.places.rows) (none : NextUnder (patch_in l) (1024 * (r / 1024) + r % 1024) (1024 * (r / 1024 + 1)) None) where
    -- no later row has a patch where no entry stands after the row's chunk
    pub next_none : length l.places.entries.now ≤ begin_of_chunk l (r / 1024 + 1) → Next (patch_in l) r None
    next_none h k a =
        elim (cases_lt k (1024 * (r / 1024 + 1))) [
          | inl lt ↦ none k (omega arith) lt
          | inr ge ↦
              elim (cases_lt k l.places.rows) [
                | inl q ↦ empty_chunk k (omega (arith, chunk_top (k / 1024 + 1) (omega (arith, row_in k q)), chunk_mono (r / 1024 + 1) (k / 1024) (omega arith) (omega (arith, row_in k q))))
                | inr q ↦ (lane_meaning l).past k q
              ]
        ]

    -- the next is in the first later chunk that has an entry
    module _ (place d : ℕ) (is : place ≡ begin_of_chunk l (r / 1024 + 1)) (first : r / 1024 + 1 ≤ d) (chunk : d < count_of_chunks 0 l.places.rows) (low : begin_of_chunk l d ≤ place) (high : place < begin_of_chunk l (d + 1)) where
      pub next_later : (q : Option ℕ) → NextUnder (patch_in l) (1024 * d + 0) (1024 * (d + 1)) q → Next (patch_in l) r q
      next_later None non =
          let at = place_patched d place chunk low high in
          absurd (false≢true (sym (ap is_some (non (1024 * d + get_or l.places.entries.now place 0) (omega arith) (omega (arith, place_low d place chunk low high)))) ∙ at))
      next_later (Some q) w = (
        omega (arith, w.0),
        w.1,
        (λ k a b.
            elim (cases_lt k (1024 * (r / 1024 + 1))) [
              | inl lt ↦ none k (omega arith) lt
              | inr ge ↦
                  elim (cases_lt k (1024 * d)) [
                    | inl lt ↦ empty_chunk k (omega (arith, chunk_mono (k / 1024 + 1) d (omega arith) (omega arith), chunk_mono (r / 1024 + 1) (k / 1024) (omega arith) (omega arith)))
                    | inr up ↦ w.2 k (omega arith) b
                  ]
            ]),
      )
