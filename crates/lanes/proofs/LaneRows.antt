-- Sound tables by their chunks: the entries of a chunk are its patched rows, each once.
use Rattle.std.proofs.Common.{◌≡◌, ℕ, zero, suc, ◌+◌, ◌-◌, ◌*◌, ◌/◌, ◌%◌, ◌<◌, ◌≤◌, true, ltb, List, length, get_or, take, drop, is_some, None, sym, ap, ◌∙◌, subst, inl, inr, mul-le-mul_right, mod-lt, add-mul, arith}
use Rattle.std.proofs.lemmas.Nat.{div-mul-add, mod-mul-add}
use Rattle.std.proofs.lemmas.List.{length-take, length-drop}
use Rattle.std.proofs.lemmas.Bool.{cases_eq, cases_lt, cond-true, cond-false, lt-ltb, le-ltb}
use Rattle.patches.specs.Chunks.{limit, count_of_chunks}
use Rattle.patches.specs.SeekLaws.{seek_none_from}
use Rattle.lanes.specs.LaneRules.{IsLaneCount, lane_total, lane_of, row_in, begin_of, LiesIn, RightOffsets, RightEntries}
use Rattle.lanes.specs.LaneSets.{in_lane, lane_patch}
use Rattle.lanes.proofs.Laning.{lanes_some, lanes_mod}
use Rattle.lanes.proofs.LaneCounts.{chunks_are}
use Rattle.lanes.proofs.LaneOffsets.{begin_mono, begin_top}
use Rattle.lanes.proofs.LaneTests.{seek_some}

-- tables in which nothing breaks a rule, apart from their values
pub record Table (offsets entries : List ℕ) (rows lanes : ℕ) : Type 0 where
  pub few : rows ≤ limit
  pub counted : IsLaneCount lanes
  pub long : length offsets ≡ lane_total lanes rows + 1
  pub right_offsets : RightOffsets offsets entries
  pub right_entries : RightEntries offsets entries rows lanes

module _ (offsets entries : List ℕ) (rows lanes : ℕ) (t : Table offsets entries rows lanes) where
  -- an entry of a lane
  module _ (g j : ℕ) (lies : LiesIn offsets entries g j) where
    pub entry_low : get_or entries j 0 < 1024
    entry_low = elim (cases_lt (get_or entries j 0) 1024) [ inl h ↦ h | inr h ↦ absurd (t.right_entries j (g, lies, inl h)) ]

    pub entry_lane : get_or entries j 0 % lanes ≡ g % lanes
    entry_lane = elim (cases_eq (get_or entries j 0 % lanes) (g % lanes)) [ inl e ↦ e | inr other ↦ absurd (t.right_entries j (g, lies, inr (inl other))) ]

    pub entry_row : row_in lanes g (get_or entries j 0) < rows
    entry_row = elim (cases_lt (row_in lanes g (get_or entries j 0)) rows) [ inl h ↦ h | inr h ↦ absurd (t.right_entries j (g, lies, inr (inr (inl h)))) ]

    pub entry_rise : begin_of offsets entries g < j → get_or entries (j - 1) 0 < get_or entries j 0
    entry_rise h = elim (cases_lt (get_or entries (j - 1) 0) (get_or entries j 0)) [ inl l ↦ l | inr l ↦ absurd (t.right_entries j (g, lies, inr (inr (inr (h, l))))) ]

  -- the entries of a lane rise
  pub lane_rises : (g i j : ℕ) → LiesIn offsets entries g i → LiesIn offsets entries g j → i < j → get_or entries i 0 < get_or entries j 0
  lane_rises g i zero a b h = absurd (omega arith)
  lane_rises g i (suc j) a b h =
      let back : suc j - 1 ≡ j = omega arith in
      let step : get_or entries j 0 < get_or entries (suc j) 0 = rw back at (entry_rise g (suc j) b (omega (arith, a.1))) in
      elim (cases_lt i j) [
        | inl l ↦ omega (arith, step, lane_rises g i j a (b.0, omega (arith, a.1), omega (arith, b.2)) l)
        | inr l ↦ (let e : i ≡ j = omega arith in rw e step)
      ]

  -- the lane in which a place lies, among so many lanes from one on
  pub lane_of_place : (j lo k : ℕ) → begin_of offsets entries lo ≤ j → j < begin_of offsets entries (lo + k) → lo + k < length offsets → (l : ℕ) × (l < k) × LiesIn offsets entries (lo + l) j
  lane_of_place j lo zero a b h = let z : lo + 0 ≡ lo = omega arith in absurd (omega (arith, rw z at b))
  lane_of_place j lo (suc k) a b h =
      let e : lo + suc k ≡ lo + k + 1 = omega arith in
      elim (cases_lt j (begin_of offsets entries (lo + k))) [
        | inl l ↦ (let w = lane_of_place j lo k a l (omega arith) in (w.0, omega (arith, w.1), w.2))
        | inr l ↦ (k, omega arith, (omega arith, l, rw e at b))
      ]

  -- lane l of chunk c is one of the lanes
  pub lane_within : (c l : ℕ) → c < count_of_chunks 0 rows → l < lanes → c * lanes + l + 1 < length offsets
  lane_within c l h k = omega (arith, t.long, add-mul c 1 lanes, mul-le-mul_right {m = c + 1} {n = count_of_chunks 0 rows} lanes (omega arith))

  pub chunk_end : (c : ℕ) → (c + 1) * lanes ≡ c * lanes + lanes
  chunk_end c = omega (arith, add-mul c 1 lanes)

  pub chunk_within : (c : ℕ) → c ≤ count_of_chunks 0 rows → c * lanes < length offsets
  chunk_within c h = omega (arith, t.long, mul-le-mul_right {m = c} {n = count_of_chunks 0 rows} lanes h)

  -- a place of a chunk
  module _ (c : ℕ) (chunk : c < count_of_chunks 0 rows) where
    module _ (j : ℕ) (from : begin_of offsets entries (c * lanes) ≤ j) (to : j < begin_of offsets entries ((c + 1) * lanes)) where
      -- the lane in which it lies is that of its entry
      pub chunk_lies : LiesIn offsets entries (c * lanes + get_or entries j 0 % lanes) j
      chunk_lies =
          let w = lane_of_place j (c * lanes) lanes from (rw (chunk_end c) at to) (omega (arith, chunk_end c, chunk_within (c + 1) (omega arith))) in
          let e : get_or entries j 0 % lanes ≡ w.0 = entry_lane (c * lanes + w.0) j w.2 ∙ mod-mul-add c lanes w.0 w.1 in
          subst (λ l. LiesIn offsets entries (c * lanes + l) j) (sym e) w.2

      pub chunk_low : get_or entries j 0 < 1024
      chunk_low = entry_low _ j chunk_lies

      -- its row is one of the rows
      pub chunk_row : 1024 * c + get_or entries j 0 < rows
      chunk_row =
          let e : (c * lanes + get_or entries j 0 % lanes) / lanes ≡ c = div-mul-add c lanes (get_or entries j 0 % lanes) (mod-lt (get_or entries j 0) (lanes_some lanes t.counted)) in
          omega (arith, entry_row _ j chunk_lies, ap (λ n. 1024 * n) e)

    -- no two entries of a chunk are equal
    pub chunk_once : (i j : ℕ) → begin_of offsets entries (c * lanes) ≤ i → i < j → j < begin_of offsets entries ((c + 1) * lanes) → get_or entries i 0 ≡ get_or entries j 0 → ⊥
    chunk_once i j a h b e =
        let q : c * lanes + get_or entries i 0 % lanes ≡ c * lanes + get_or entries j 0 % lanes = ap (λ n. c * lanes + n % lanes) e in
        let low = subst (λ g. LiesIn offsets entries g i) q (chunk_lies i a (omega arith)) in
        omega (arith, lane_rises (c * lanes + get_or entries j 0 % lanes) i j low (chunk_lies j (omega arith) b) h)

  module _ {V : Type 0} (values : List V) (paired : length values ≡ length entries) where
    -- as many values stand beside a lane's entries
    pub lane_length : (g : ℕ) → g + 1 < length offsets → length (take (begin_of offsets entries (g + 1) - begin_of offsets entries g) (drop (begin_of offsets entries g) values)) ≡ begin_of offsets entries (g + 1) - begin_of offsets entries g
    lane_length g h =
        simp (length-take, length-drop) (omega (arith, paired, begin_mono offsets entries t.right_offsets g (g + 1) (omega arith) h, begin_top offsets entries t.right_offsets (g + 1) h))

    -- the patch of a row by its chunk and its place there
    pub patch_of_place : (c x : ℕ) → x < 1024 → 1024 * c + x < rows → lane_patch rows lanes offsets entries values (1024 * c + x) ≡ in_lane offsets entries values (c * lanes + x % lanes) x
    patch_of_place c x h l =
        let q : (1024 * c + x) / 1024 ≡ c = omega arith in
        let m : (1024 * c + x) % 1024 ≡ x = omega arith in
        let n : (1024 * c + x) % lanes ≡ x % lanes = lanes_mod lanes t.counted c x in
        cond-true (ltb (1024 * c + x) rows) (in_lane offsets entries values (lane_of lanes (1024 * c + x)) ((1024 * c + x) % 1024)) None (lt-ltb (1024 * c + x) rows l)
        ∙ ap (λ d. in_lane offsets entries values (d * lanes + (1024 * c + x) % lanes) ((1024 * c + x) % 1024)) q
        ∙ ap (λ d. in_lane offsets entries values (c * lanes + d) ((1024 * c + x) % 1024)) n
        ∙ ap (λ d. in_lane offsets entries values (c * lanes + x % lanes) d) m

    pub row_chunk : (c x : ℕ) → 1024 * c + x < rows → c < count_of_chunks 0 rows
    row_chunk c x h = omega (arith, chunks_are rows)

    -- the row of an entry has a patch
    pub entry_patched : (c j : ℕ) → c < count_of_chunks 0 rows → begin_of offsets entries (c * lanes) ≤ j → j < begin_of offsets entries ((c + 1) * lanes) → is_some (lane_patch rows lanes offsets entries values (1024 * c + get_or entries j 0)) ≡ true
    entry_patched c j chunk from to =
        let x : ℕ = get_or entries j 0 in
        let g : ℕ = c * lanes + x % lanes in
        let lies = chunk_lies c chunk j from to in
        let at : begin_of offsets entries g + (j - begin_of offsets entries g) ≡ j = omega (arith, lies.1) in
        ap is_some (patch_of_place c x (chunk_low c chunk j from to) (chunk_row c chunk j from to))
        ∙ seek_some (λ k. get_or entries k 0) x (begin_of offsets entries g) (j - begin_of offsets entries g) _ (omega (arith, lane_length g lies.0, lies.1, lies.2)) (ap (λ k. get_or entries k 0) at)

    -- a row has none where it stands in no place of its chunk
    pub row_unpatched : (c x : ℕ) → x < 1024 → ((j : ℕ) → begin_of offsets entries (c * lanes) ≤ j → j < begin_of offsets entries ((c + 1) * lanes) → get_or entries j 0 ≡ x → ⊥) → lane_patch rows lanes offsets entries values (1024 * c + x) ≡ None
    row_unpatched c x low non =
        elim (cases_lt (1024 * c + x) rows) [
          | inl h ↦
              let g : ℕ = c * lanes + x % lanes in
              let chunk = row_chunk c x h in
              let in-lanes : x % lanes < lanes = mod-lt x (lanes_some lanes t.counted) in
              let there : g + 1 < length offsets = lane_within c (x % lanes) chunk in-lanes in
              let left : begin_of offsets entries (c * lanes) ≤ begin_of offsets entries g = begin_mono offsets entries t.right_offsets (c * lanes) g (omega arith) (omega arith) in
              let right : begin_of offsets entries (g + 1) ≤ begin_of offsets entries ((c + 1) * lanes) = begin_mono offsets entries t.right_offsets (g + 1) ((c + 1) * lanes) (omega (arith, chunk_end c)) (chunk_within (c + 1) (omega arith)) in
              patch_of_place c x low h
              ∙ seek_none_from (λ k. get_or entries k 0) x (begin_of offsets entries g) _ (λ k a b e. non k (omega arith) (omega (arith, lane_length g there)) e)
          | inr h ↦ cond-false (ltb (1024 * c + x) rows) _ None (le-ltb (1024 * c + x) rows h)
        ]
