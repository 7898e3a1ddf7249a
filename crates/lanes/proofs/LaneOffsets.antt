-- Offsets that break no rule: they begin at 0, never fall, and end at the number of entries; so a place lies in one lane.
use Rattle.std.proofs.Common.{◌≡◌, ℕ, zero, suc, ◌+◌, ◌-◌, ◌<◌, ◌≤◌, List, length, Some, None, Option, MatchOption, refl, subst, inl, inr, arith}
use Rattle.std.proofs.lemmas.Bool.{cases_eq, cases_lt}
use Rattle.lanes.specs.LaneRules.{BreaksIn, lane_total, begin_of, WrongLength, RightOffsets, LiesIn, WrongEntry, WrongPlace, WrongTable, RightEntries}
use Rattle.lanes.specs.LaneLoads.{First, WrongIn}

module _ (offsets entries : List ℕ) (right : RightOffsets offsets entries) where
  -- the first offset is 0
  pub begin_first : 0 < length offsets → begin_of offsets entries 0 ≡ 0
  begin_first h =
      elim (cases_lt 0 (begin_of offsets entries 0)) [
        | inl l ↦ absurd (right 0 (h, inl (refl, l)))
        | inr l ↦ omega arith
      ]

  -- the last is the number of entries
  pub begin_last : (i : ℕ) → i + 1 ≡ length offsets → begin_of offsets entries i ≡ length entries
  begin_last i e =
      elim (cases_eq (begin_of offsets entries i) (length entries)) [
        | inl q ↦ q
        | inr other ↦ absurd (right i (omega arith, inr (inr (e, other))))
      ]

  -- none is below the one before
  pub begin_step : (i : ℕ) → i + 1 < length offsets → begin_of offsets entries i ≤ begin_of offsets entries (i + 1)
  begin_step i h =
      let back : i + 1 - 1 ≡ i = omega arith in
      elim (cases_lt (begin_of offsets entries (i + 1)) (begin_of offsets entries i)) [
        | inl l ↦ absurd (right (i + 1) (h, inr (inl (omega arith, rw back l))))
        | inr l ↦ l
      ]

  pub begin_mono : (i j : ℕ) → i ≤ j → j < length offsets → begin_of offsets entries i ≤ begin_of offsets entries j
  begin_mono i zero h l = let e : i ≡ 0 = omega arith in rw e (omega arith)
  begin_mono i (suc j) h l =
      elim (cases_lt i (suc j)) [
        | inl lt ↦ (let e : suc j ≡ j + 1 = omega arith in rw e (omega (arith, begin_mono i j (omega arith) (omega arith), begin_step j (omega arith))))
        | inr ge ↦ (let e : i ≡ suc j = omega arith in rw e (omega arith))
      ]

  -- no offset is above the number of entries
  pub begin_top : (i : ℕ) → i < length offsets → begin_of offsets entries i ≤ length entries
  begin_top i h =
      omega (arith, begin_mono i (length offsets - 1) (omega arith) (omega arith), begin_last (length offsets - 1) (omega arith))

  -- a place lies in one lane
  pub lies_once : (g h j : ℕ) → LiesIn offsets entries g j → LiesIn offsets entries h j → g ≡ h
  lies_once g h j a b =
      elim (cases_lt g h) [
        | inl l ↦ absurd (omega (arith, a, b, begin_mono (g + 1) h (omega arith) (omega (arith, b.0))))
        | inr l ↦
            elim (cases_lt h g) [
              | inl q ↦ absurd (omega (arith, a, b, begin_mono (h + 1) g (omega arith) (omega (arith, a.0))))
              | inr q ↦ omega arith
            ]
      ]

  module _ (rows lanes lane : ℕ) (there : lane + 1 < length offsets) where
    -- an entry that is wrong in its lane is wrong
    pub wrong_from : (j : ℕ) → WrongIn offsets entries rows lanes lane j → WrongEntry offsets entries rows lanes j
    wrong_from j w = (lane, (there, w.0, w.1), w.2)

    -- an entry before a lane's end is not wrong, where none before the lane is wrong and it is not wrong in the lane
    pub right_before : (j : ℕ) → j < begin_of offsets entries (lane + 1) → (j < begin_of offsets entries lane → WrongEntry offsets entries rows lanes j → ⊥) → (WrongIn offsets entries rows lanes lane j → ⊥) → WrongEntry offsets entries rows lanes j → ⊥
    right_before j h before here w =
        elim (cases_lt j (begin_of offsets entries lane)) [
          | inl l ↦ before l w
          | inr l ↦
              let e : w.0 ≡ lane = lies_once w.0 lane j w.1 (there, l, h) in
              here (l, h, subst (λ g. BreaksIn offsets entries rows lanes g j) e w.2)
        ]

  -- no entry is wrong where none before the last offset is
  pub right_all : (rows lanes lane : ℕ) → lane + 1 ≡ length offsets → ((j : ℕ) → j < begin_of offsets entries lane → WrongEntry offsets entries rows lanes j → ⊥) → RightEntries offsets entries rows lanes
  right_all rows lanes lane e before j w = before j (omega (arith, w.1, begin_mono (w.0 + 1) lane (omega (arith, w.1)) (omega arith))) w

-- tables with the right lengths
module _ (offsets entries : List ℕ) (rows lanes values : ℕ) (long : length offsets ≡ lane_total lanes rows + 1) (paired : values ≡ length entries) where
  lengths_right : WrongLength offsets entries rows lanes values → ⊥
  lengths_right (inl other) = other long
  lengths_right (inr other) = other paired

  -- where an offset or an entry breaks a rule the tables do
  pub wrong_table : (place : ℕ) → WrongPlace offsets entries rows lanes place → WrongTable offsets entries rows lanes values place
  wrong_table place w = inr (lengths_right, w)

  -- and where none does the tables break no rule
  pub right_table : RightOffsets offsets entries → RightEntries offsets entries rows lanes → (place : ℕ) → WrongTable offsets entries rows lanes values place → ⊥
  right_table o e place (inl w) = lengths_right w.1
  right_table o e place (inr (long, inl w)) = o place w
  right_table o e place (inr (long, inr w)) = e w.1.0 w.1.2

-- the first number of a range for which something holds
pub first_within : (from to a b : ℕ) (P : ℕ → Type 0) (r : Option ℕ) → from ≡ a → to ≡ b → MatchOption r ((k : ℕ) → from ≤ k → k < to → P k → ⊥) (λ i. (from ≤ i) × (i < to) × P i × ((k : ℕ) → from ≤ k → k < i → P k → ⊥)) → First (λ k. (a ≤ k) × (k < b) × P k) r
first_within from to a b P None e f none = λ k w. none k (omega (arith, w.0)) (omega (arith, w.1)) w.2
first_within from to a b P (Some i) e f w = ((omega (arith, w.0), omega (arith, w.1), w.2), λ k h v. w.3 k (omega (arith, v.0)) h v.2)

-- the same of something that holds of numbers of the range alone
pub first_among : (n : ℕ) (P : ℕ → Type 0) (r : Option ℕ) → ((k : ℕ) → P k → k < n) → MatchOption r ((k : ℕ) → 0 ≤ k → k < n → P k → ⊥) (λ i. (0 ≤ i) × (i < n) × P i × ((k : ℕ) → 0 ≤ k → k < i → P k → ⊥)) → First P r
first_among n P None low none = λ k w. none k (omega arith) (low k w) w
first_among n P (Some i) low w = (w.2, λ k h. w.3 k (omega arith) h)
