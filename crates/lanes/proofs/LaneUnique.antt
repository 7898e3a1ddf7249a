-- The tables of an assignment are the only ones: two sets of sound tables with the same patches are equal.
use Rattle.std.proofs.Common.{◌≡◌, ℕ, zero, suc, ◌+◌, ◌-◌, ◌*◌, ◌/◌, ◌%◌, ◌<◌, ◌≤◌, eqb, List, [], ◌∷◌, length, get_or, take, drop, Some, sym, refl, ap, ◌∙◌, inl, inr, arith}
use native.Mathlib.Nat.{mod-add-div'}
use Rattle.std.proofs.lemmas.List.{get_or-take, get_or-drop, get_or_read, ext_get_or, same_lists}
use Rattle.std.proofs.lemmas.Bool.{cases_eq, cases_lt, cond-true, cond-false, eq-eqb, ne_eqb}
use Rattle.search_sorted.specs.Packed.{Ascending}
use Rattle.patches.specs.Assignments.{Assignment}
use Rattle.patches.specs.Indices.{seek}
use Rattle.lanes.specs.LaneRules.{lane_total, row_in, LiesIn}
use Rattle.lanes.specs.LaneSets.{in_lane, lane_patch, SoundTables, TablesOf}
use Rattle.lanes.proofs.LaneOffsets.{begin_first, begin_last, begin_step}
use Rattle.lanes.proofs.LaneTests.{seek_first}
use Rattle.lanes.proofs.LaneRows.{Table, entry_low, entry_lane, entry_row, lane_rises, lane_of_place, lane_length, patch_of_place}

-- rising numbers, each of which stands among others that rise
module _ (f g : ℕ → ℕ) (n k : ℕ) (up : Ascending f n) (rise : Ascending g k) (there : (i : ℕ) → i < n → (j : ℕ) × (j < k) × (g j ≡ f i)) where
  -- each stands there no earlier
  place_up : (i j : ℕ) → i < n → j < k → g j ≡ f i → i ≤ j
  place_up zero j h l e = omega arith
  place_up (suc i) j h l e =
      let w = there i (omega arith) in
      let less : i ≤ w.0 = place_up i w.0 (omega arith) w.1 w.2 in
      let step : f i < f (suc i) = up i (suc i) (omega arith) h in
      elim (cases_lt w.0 j) [
        | inl lt ↦ omega arith
        | inr ge ↦
            elim (cases_lt j w.0) [
              | inl gt ↦ absurd (omega (arith, rise j w.0 gt w.1, w.2))
              | inr le ↦ (let same : j ≡ w.0 = omega arith in absurd (omega (arith, ap g same, w.2)))
            ]
      ]

  -- so there are no more of them
  count_up : n ≤ k
  count_up =
      elim (cases_lt 0 n) [
        | inl h ↦ (let w = there (n - 1) (omega arith) in omega (arith, w.1, place_up (n - 1) w.0 (omega arith) w.1 w.2))
        | inr h ↦ omega arith
      ]

-- what stands at a place of a list
value_at : {V : Type 0} (vs : List V) (i : ℕ) → i < length vs → (u : V) × (u ≡ get_or vs i u)
value_at [] i h = absurd (omega arith)
value_at (v ∷ vs) zero h = (v, refl)
value_at (v ∷ vs) (suc i) h = value_at vs i (omega arith)

-- a value that is found beside an index stands at a place of that index
seek_back : {V : Type 0} (f : ℕ → ℕ) (x i : ℕ) (vs : List V) (u : V) → seek f x i vs ≡ Some u → (j : ℕ) × (j < length vs) × (f (i + j) ≡ x) × (u ≡ get_or vs j u)
seek_back f x i [] u e = absurd (let z : ◌≡◌ {A = ℕ} 0 1 = cc in omega arith)
seek_back f x i (v ∷ vs) u e =
    elim (cases_eq (f i) x) [
      | inl here ↦
          let z : i + 0 ≡ i = omega arith in
          let is : Some v ≡ Some u = sym (cond-true (eqb (f i) x) (Some v) (seek f x (suc i) vs) (eq-eqb (f i) x here)) ∙ e in
          let same : u ≡ v = cc in
          (0, omega arith, ap f z ∙ here, same)
      | inr other ↦
          let w = seek_back f x (suc i) vs u (sym (cond-false (eqb (f i) x) (Some v) (seek f x (suc i) vs) (ne_eqb (f i) x other)) ∙ e) in
          let z : i + suc w.0 ≡ suc i + w.0 = omega arith in
          (suc w.0, omega (arith, w.1), ap f z ∙ w.2, w.3)
    ]

-- how many entries a lane has, its entries and its values
abbrev size_of : List ℕ → ℕ → ℕ
size_of o g = get_or o (g + 1) 0 - get_or o g 0

abbrev entry_in : List ℕ → List ℕ → ℕ → ℕ → ℕ
entry_in o e g i = get_or e (get_or o g 0 + i) 0

abbrev values_in : {V : Type 0} → List ℕ → List V → ℕ → List V
values_in o v g = take (get_or o (g + 1) 0 - get_or o g 0) (drop (get_or o g 0) v)

-- one set of sound tables
module _ {V : Type 0} (rows lanes : ℕ) (o e : List ℕ) (v : List V) (s : SoundTables rows lanes o e v) where
  table : Table o e rows lanes
  table = record {
    few = s.few;
    counted = s.count;
    long = s.offsets_length;
    right_offsets = s.right_offsets;
    right_entries = s.right_entries;
  }

  -- a lane
  module _ (g : ℕ) (within : g + 1 < length o) where
    size_long : length (values_in o v g) ≡ size_of o g
    size_long = lane_length o e rows lanes table v s.values_length g within

    lies : (i : ℕ) → i < size_of o g → LiesIn o e g (get_or o g 0 + i)
    lies i h = (within, omega arith, omega arith)

    rises : Ascending (entry_in o e g) (size_of o g)
    rises i j h l = lane_rises o e rows lanes table g (get_or o g 0 + i) (get_or o g 0 + j) (lies i (omega arith)) (lies j l) (omega arith)

    -- an entry's value is what is found in the lane
    found : (i : ℕ) → i < size_of o g → (u : V) → u ≡ get_or (values_in o v g) i u → in_lane o e v g (entry_in o e g i) ≡ Some u
    found i h u is =
        seek_first (λ j. get_or e j 0) (entry_in o e g i) (get_or o g 0) i (values_in o v g) u (omega (arith, size_long)) refl
        (λ k a b q. omega (arith, q, lane_rises o e rows lanes table g k (get_or o g 0 + i) (within, a, omega arith) (lies i h) b))
        is

    -- and what is found there is an entry's value
    back : (x : ℕ) (u : V) → in_lane o e v g x ≡ Some u → (j : ℕ) × (j < size_of o g) × (entry_in o e g j ≡ x) × (u ≡ get_or (values_in o v g) j u)
    back x u q =
        let w = seek_back (λ j. get_or e j 0) x (get_or o g 0) (values_in o v g) u q in
        (w.0, omega (arith, w.1, size_long), w.2, w.3)

    -- the patch of a row of the lane
    patch_is : (x : ℕ) → x < 1024 → x % lanes ≡ g % lanes → row_in lanes g x < rows → lane_patch rows lanes o e v (row_in lanes g x) ≡ in_lane o e v g x
    patch_is x low same row =
        let whole : g / lanes * lanes + g % lanes ≡ g = omega (arith, mod-add-div' g lanes) in
        let k : g / lanes * lanes + x % lanes ≡ g = ap (λ d. g / lanes * lanes + d) same ∙ whole in
        patch_of_place o e rows lanes table v s.values_length (g / lanes) x low row ∙ ap (λ n. in_lane o e v n x) k

-- the tables t of an assignment, and others t'
module _ {V : Type 0} (m : Assignment V) (lanes : ℕ) (o e o' e' : List ℕ) (v v' : List V) (t : TablesOf m lanes o e v) (t' : TablesOf m lanes o' e' v') (g : ℕ) (within : g + 1 < length o) (within' : g + 1 < length o') where
  -- an entry of a lane of t stands in that lane of t' too, beside the same value
  carried : (i : ℕ) → i < size_of o g → (u : V) → u ≡ get_or (values_in o v g) i u → (j : ℕ) × (j < size_of o' g) × (entry_in o' e' g j ≡ entry_in o e g i) × (u ≡ get_or (values_in o' v' g) j u)
  carried i h u is =
      let x : ℕ = entry_in o e g i in
      let at = lies m.rows lanes o e v t.sound g within i h in
      let tab = table m.rows lanes o e v t.sound in
      let low : x < 1024 = entry_low o e m.rows lanes tab g (get_or o g 0 + i) at in
      let same : x % lanes ≡ g % lanes = entry_lane o e m.rows lanes tab g (get_or o g 0 + i) at in
      let row : row_in lanes g x < m.rows = entry_row o e m.rows lanes tab g (get_or o g 0 + i) at in
      back m.rows lanes o' e' v' t'.sound g within' x u
      (sym (patch_is m.rows lanes o' e' v' t'.sound g within' x low same row)
      ∙ t'.same (row_in lanes g x)
      ∙ sym (t.same (row_in lanes g x))
      ∙ patch_is m.rows lanes o e v t.sound g within x low same row
      ∙ found m.rows lanes o e v t.sound g within i h u is)

  there : (i : ℕ) → i < size_of o g → (j : ℕ) × (j < size_of o' g) × (entry_in o' e' g j ≡ entry_in o e g i)
  there i h =
      let a = value_at (values_in o v g) i (omega (arith, size_long m.rows lanes o e v t.sound g within)) in
      let w = carried i h a.0 a.1 in
      (w.0, w.1, w.2)

  -- and no earlier there
  no_earlier : (i j : ℕ) → i < size_of o g → j < size_of o' g → entry_in o' e' g j ≡ entry_in o e g i → i ≤ j
  no_earlier = place_up (entry_in o e g) (entry_in o' e' g) (size_of o g) (size_of o' g) (rises m.rows lanes o e v t.sound g within) (rises m.rows lanes o' e' v' t'.sound g within') there

  no_more : size_of o g ≤ size_of o' g
  no_more = count_up (entry_in o e g) (entry_in o' e' g) (size_of o g) (size_of o' g) (rises m.rows lanes o e v t.sound g within) (rises m.rows lanes o' e' v' t'.sound g within') there

module _ {V : Type 0} (m : Assignment V) (lanes : ℕ) (o e o' e' : List ℕ) (v v' : List V) (t : TablesOf m lanes o e v) (t' : TablesOf m lanes o' e' v') where
  long_same : length o ≡ length o'
  long_same = t.sound.offsets_length ∙ sym t'.sound.offsets_length

  module _ (g : ℕ) (within : g + 1 < length o) where
    within' : g + 1 < length o'
    within' = omega (arith, long_same)

    size_same : size_of o g ≡ size_of o' g
    size_same = omega (arith, no_more m lanes o e o' e' v v' t t' g within within', no_more m lanes o' e' o e v' v t' t g within' within)

    -- an entry of a lane and its value stand at the same place in both
    entry_same : (i : ℕ) → i < size_of o g → (u : V) → u ≡ get_or (values_in o v g) i u → (entry_in o e g i ≡ entry_in o' e' g i) × (u ≡ get_or (values_in o' v' g) i u)
    entry_same i h u is =
        let w = carried m lanes o e o' e' v v' t t' g within within' i h u is in
        let left : i ≤ w.0 = no_earlier m lanes o e o' e' v v' t t' g within within' i w.0 h w.1 w.2 in
        let right : w.0 ≤ i = no_earlier m lanes o' e' o e v' v t' t g within' within w.0 i w.1 h (sym w.2) in
        let same : w.0 ≡ i = omega arith in
        (sym w.2 ∙ ap (λ j. entry_in o' e' g j) same, w.3 ∙ ap (λ j. get_or (values_in o' v' g) j u) same)

  -- each lane begins at the same place
  begin_same : (g : ℕ) → g < length o → get_or o g 0 ≡ get_or o' g 0
  begin_same zero h = begin_first o e t.sound.right_offsets h ∙ sym (begin_first o' e' t'.sound.right_offsets (omega (arith, long_same)))
  begin_same (suc g) h =
      let z : suc g ≡ g + 1 = omega arith in
      let next : get_or o (g + 1) 0 ≡ get_or o' (g + 1) 0 = omega (arith, begin_same g (omega arith), size_same g (omega arith), begin_step o e t.sound.right_offsets g (omega arith), begin_step o' e' t'.sound.right_offsets g (omega (arith, long_same))) in
      rw z next

  -- there are as many entries
  count_same : length e ≡ length e'
  count_same =
      let last : ℕ = lane_total lanes m.rows in
      let a : get_or o last 0 ≡ length e = begin_last o e t.sound.right_offsets last (sym t.sound.offsets_length) in
      let b : get_or o' last 0 ≡ length e' = begin_last o' e' t'.sound.right_offsets last (sym t'.sound.offsets_length) in
      let c : get_or o last 0 ≡ get_or o' last 0 = begin_same last (omega (arith, t.sound.offsets_length)) in
      sym a ∙ c ∙ b

  -- at each place stand the same entry and the same value
  place_same : (j : ℕ) → j < length e → (get_or e j 0 ≡ get_or e' j 0) × ((d : V) → get_or v j d ≡ get_or v' j d)
  place_same j h =
      let last : ℕ = lane_total lanes m.rows in
      let long : length o ≡ last + 1 = t.sound.offsets_length in
      let tab = table m.rows lanes o e v t.sound in
      let first : get_or o 0 0 ≡ 0 = begin_first o e t.sound.right_offsets (omega arith) in
      let z : 0 + last ≡ last = omega arith in
      let end : get_or o (0 + last) 0 ≡ length e = ap (λ k. get_or o k 0) z ∙ begin_last o e t.sound.right_offsets last (omega arith) in
      let at = lane_of_place o e m.rows lanes tab j 0 last (omega arith) (omega arith) (omega arith) in
      let g : ℕ = 0 + at.0 in
      let lane = at.2 in
      let i : ℕ = j - get_or o g 0 in
      let within : g + 1 < length o = lane.0 in
      let small : i < size_of o g = omega (arith, lane.1, lane.2) in
      let here : get_or o g 0 + i ≡ j = omega (arith, lane.1) in
      let here' : get_or o' g 0 + i ≡ j = omega (arith, here, begin_same g (omega arith)) in
      let full : length (values_in o v g) ≡ size_of o g = size_long m.rows lanes o e v t.sound g within in
      let full' : length (values_in o' v' g) ≡ size_of o' g = size_long m.rows lanes o' e' v' t'.sound g (omega (arith, long_same)) in
      let small' : i < size_of o' g = omega (arith, size_same g within) in
      let a = value_at (values_in o v g) i (omega arith) in
      let w = entry_same g within i small a.0 a.1 in (
        ap (λ k. get_or e k 0) (sym here) ∙ w.0 ∙ ap (λ k. get_or e' k 0) here',
        λ d. ap (λ k. get_or v k d) (sym here)
            ∙ sym (get_or-drop (get_or o g 0) v i d)
            ∙ sym (get_or-take (size_of o g) (drop (get_or o g 0) v) i d small)
            ∙ sym (get_or_read (values_in o v g) i a.0 (omega arith) a.1 d)
            ∙ get_or_read (values_in o' v' g) i a.0 (omega arith) w.1 d
            ∙ get_or-take (size_of o' g) (drop (get_or o' g 0) v') i d small'
            ∙ get_or-drop (get_or o' g 0) v' i d
            ∙ ap (λ k. get_or v' k d) here',
      )

-- an assignment has one set of tables
pub tables_same : {V : Type 0} (m : Assignment V) (L : ℕ) (o e o' e' : List ℕ) (v v' : List V) → TablesOf m L o e v → TablesOf m L o' e' v' → (o ≡ o') × (e ≡ e') × (v ≡ v')
tables_same m L o e o' e' v v' t t' = (
  ext_get_or 0 o o' (long_same m L o e o' e' v v' t t') (begin_same m L o e o' e' v v' t t'),
  ext_get_or 0 e e' (count_same m L o e o' e' v v' t t') (λ j h. (place_same m L o e o' e' v v' t t' j h).0),
  same_lists v v'
      (t.sound.values_length ∙ count_same m L o e o' e' v v' t t' ∙ sym t'.sound.values_length)
      (λ j d h. (place_same m L o e o' e' v v' t t' j (omega (arith, t.sound.values_length))).1 d),
)
