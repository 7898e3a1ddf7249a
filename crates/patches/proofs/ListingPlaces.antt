-- At which place of the list of an assignment's patched rows each row stands.
use Rattle.std.proofs.Common.{◌≡◌, ℕ, zero, suc, ◌+◌, ◌-◌, ◌<◌, ◌≤◌, length, get_or, is_some, Some, None, sym, refl, ap, ◌∙◌, inl, inr, arith}
use Rattle.std.proofs.lemmas.Bool.{cases_lt}
use Rattle.patches.specs.Assignments.{Patch, Assignment, patches_below, one}
use Rattle.patches.specs.Listed.{with_patch, listed, listed_from}
use Rattle.patches.proofs.Counts.{count_more, count_mono, row_within}

-- an item at a place of the list of the patched rows from one on: a row from there on, with its patch, before which
-- so many patches lie
pub record IsItem {V : Type 0} (p : ℕ → Patch V) (row place : ℕ) (item : ℕ × V) : Type 0 where
  pub low : row ≤ item.0
  pub patched : p item.0 ≡ Some item.1
  pub before : place + patches_below p row ≡ patches_below p item.0

module _ {V : Type 0} (p : ℕ → Patch V) where
  later : (row i j : ℕ) (item : ℕ × V) → j + patches_below p (row + 1) ≡ i + patches_below p row → IsItem p (row + 1) j item → IsItem p row i item
  later row i j item e w = record { low = omega (arith, w.low); patched = w.patched; before = omega (arith, w.before) }

  item_here : (row n i : ℕ) (d : ℕ × V) (o : Patch V) → p row ≡ o → ((j : ℕ) → j < length (listed p (row + 1) n) → IsItem p (row + 1) j (get_or (listed p (row + 1) n) j d)) → i < length (with_patch row o (listed p (row + 1) n)) → IsItem p row i (get_or (with_patch row o (listed p (row + 1) n)) i d)
  item_here row n i d None is after h = later row i i (get_or (listed p (row + 1) n) i d) (omega (arith, count_more p row, ap one is)) (after i h)
  item_here row n zero d (Some v) is after h = record { low = omega arith; patched = is; before = omega arith }
  item_here row n (suc i) d (Some v) is after h = later row (suc i) i (get_or (listed p (row + 1) n) i d) (omega (arith, count_more p row, ap one is)) (after i (omega (arith, h)))

  item_among : (row n i : ℕ) (d : ℕ × V) → i < length (listed p row n) → IsItem p row i (get_or (listed p row n) i d)
  item_among row zero i d h = absurd (omega (arith, h))
  item_among row (suc n) i d h = item_here row n i d (p row) refl (λ j k. item_among (row + 1) n j d k) h

  place_here : (row n i q : ℕ) (v : V) (d : ℕ × V) (o : Patch V) → p row ≡ o → ((j : ℕ) → row < q → j + patches_below p (row + 1) ≡ patches_below p q → get_or (listed p (row + 1) n) j d ≡ (q, v)) → row ≤ q → p q ≡ Some v → i + patches_below p row ≡ patches_below p q → get_or (with_patch row o (listed p (row + 1) n)) i d ≡ (q, v)
  place_here row n i q v d None is after low has e = elim (cases_lt row q) [
    | inl lt ↦ after i lt (omega (arith, e, count_more p row, ap one is))
    | inr ge ↦
        let same : row ≡ q = omega arith in
        absurd (let z : ◌≡◌ {A = ℕ} 0 1 = ap one (sym is ∙ ap p same ∙ has) in omega (arith, z))
  ]
  place_here row n zero q v d (Some w) is after low has e = elim (cases_lt row q) [
    | inl lt ↦ absurd (omega (arith, e, count_more p row, ap one is, count_mono p (row + 1) q (omega arith)))
    | inr ge ↦
        let same : row ≡ q = omega arith in
        let values : Some w ≡ Some v = sym is ∙ ap p same ∙ has in
        let value : w ≡ v = cc in
        rw (same, value)
  ]
  place_here row n (suc i) q v d (Some w) is after low has e = elim (cases_lt row q) [
    | inl lt ↦ after i lt (omega (arith, e, count_more p row, ap one is))
    | inr ge ↦ absurd (let same : row ≡ q = omega arith in omega (arith, e, ap (patches_below p) same))
  ]

  place_among : (row n i q : ℕ) (v : V) (d : ℕ × V) → row ≤ q → q < row + n → p q ≡ Some v → i + patches_below p row ≡ patches_below p q → get_or (listed p row n) i d ≡ (q, v)
  place_among row zero i q v d low high has e = absurd (omega arith)
  place_among row (suc n) i q v d low high has e =
      place_here row n i q v d (p row) refl (λ j lt k. place_among (row + 1) n j q v d (omega arith) (omega arith) has k) low has e

module _ {V : Type 0} (m : Assignment V) (row : ℕ) where
  -- each item of the list is a patched row with its value, at the place of so many patches from the first row on
  pub listed_item : (i : ℕ) (d : ℕ × V) → i < length (listed_from m row) → IsItem m.patch row i (get_or (listed_from m row) i d)
  listed_item i d h = item_among m.patch row (m.rows - row) i d h

  -- each patched row from the first on is in the list with its value, at its place
  pub listed_place : (i q : ℕ) (v : V) (d : ℕ × V) → row ≤ q → m.patch q ≡ Some v → i + patches_below m.patch row ≡ patches_below m.patch q → get_or (listed_from m row) i d ≡ (q, v)
  listed_place i q v d low has e =
      let lt : q < m.rows = row_within m.patch m.rows q m.past (ap is_some has) in
      place_among m.patch row (m.rows - row) i q v d low (omega arith) has e

  -- the rows of the list rise
  pub listed_rises : (i j : ℕ) (d : ℕ × V) → i < j → j < length (listed_from m row) → (get_or (listed_from m row) i d).0 < (get_or (listed_from m row) j d).0
  listed_rises i j d lt h =
      let a = listed_item i d (omega arith) in
      let b = listed_item j d h in
      elim (cases_lt (get_or (listed_from m row) i d).0 (get_or (listed_from m row) j d).0) [
        | inl up ↦ up
        | inr down ↦ absurd (omega (arith, a.before, b.before, count_mono m.patch (get_or (listed_from m row) j d).0 (get_or (listed_from m row) i d).0 down))
      ]
