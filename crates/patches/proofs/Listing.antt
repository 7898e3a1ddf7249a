-- What the list of an assignment's patched rows has, and where.
use Rattle.std.proofs.Common.{◌≡◌, ℕ, zero, suc, ◌+◌, ◌-◌, ◌<◌, ◌≤◌, List, [], ◌∷◌, length, map, true, is_some, Some, None, sym, refl, ap, ◌∙◌, inl, inr, arith}
use Rattle.std.proofs.lemmas.Bool.{cases_lt, false≢true}
use Rattle.patches.specs.Assignments.{Patch, Assignment, patches_below, one, NoneFrom}
use Rattle.patches.specs.Listed.{with_patch, listed, listed_from, row_of, rows_listed_from}
use Rattle.patches.proofs.Counts.{count_more, count_past, row_within}

-- the first of the patched rows among n rows from one on, and those after it
record FirstAmong {V : Type 0} (p : ℕ → Patch V) (row n : ℕ) (item : ℕ × V) (others : List (ℕ × V)) : Type 0 where
  low : row ≤ item.0
  high : item.0 < row + n
  patched : p item.0 ≡ Some item.1
  none : NoneFrom p row item.0
  rest : others ≡ listed p (item.0 + 1) (row + n - (item.0 + 1))

module _ {V : Type 0} (p : ℕ → Patch V) where
  -- rows with no patch are passed over
  listed_skip : (row n q : ℕ) → row ≤ q → q ≤ row + n → NoneFrom p row q → listed p row n ≡ listed p q (row + n - q)
  listed_skip row zero q low high none = let e : q ≡ row = omega arith in let z : row + 0 - row ≡ 0 = omega arith in rw (e, z)
  listed_skip row (suc n) q low high none =
      elim (cases_lt row q) [
        | inl lt ↦
            let z : row + suc n - q ≡ row + 1 + n - q = omega arith in
            ap (λ o. with_patch row o (listed p (row + 1) n)) (none row (omega arith) lt)
            ∙ listed_skip (row + 1) n q (omega arith) (omega arith) (λ k a b. none k (omega arith) b)
            ∙ ap (listed p q) (sym z)
        | inr ge ↦ (let e : q ≡ row = omega arith in let z : row + suc n - row ≡ suc n = omega arith in rw (e, z))
      ]

  first_here : (row n : ℕ) (o : Patch V) → p row ≡ o → (item : ℕ × V) (others : List (ℕ × V)) → (listed p (row + 1) n ≡ item ∷ others → FirstAmong p (row + 1) n item others) → with_patch row o (listed p (row + 1) n) ≡ item ∷ others → FirstAmong p row (suc n) item others
  first_here row n None is item others after e =
      let w = after e in
      let z : row + suc n - (item.0 + 1) ≡ row + 1 + n - (item.0 + 1) = omega arith in
      record {
        low = omega (arith, w.low);
        high = omega (arith, w.high);
        patched = w.patched;
        none = λ k a b. elim (cases_lt row k) [
          | inl lt ↦ w.none k (omega arith) b
          | inr ge ↦ (let same : k ≡ row = omega arith in ap p same ∙ is)
        ];
        rest = w.rest ∙ ap (listed p (item.0 + 1)) (sym z);
      }
  first_here row n (Some v) is item others after e =
      let same : (row, v) ≡ item = cc in
      let left : listed p (row + 1) n ≡ others = cc in
      let z : row + suc n - (row + 1) ≡ n = omega arith in
      rw (← same) record {
        low = omega arith;
        high = omega arith;
        patched = is;
        none = λ k a b. absurd (omega arith);
        rest = sym left ∙ ap (listed p (row + 1)) (sym z);
      }

  first_among : (row n : ℕ) (item : ℕ × V) (others : List (ℕ × V)) → listed p row n ≡ item ∷ others → FirstAmong p row n item others
  first_among row zero item others e = absurd (let z : ◌≡◌ {A = ℕ} 0 1 = cc in omega arith)
  first_among row (suc n) item others e = first_here row n (p row) refl item others (first_among (row + 1) n item others) e

  none_here : (row n : ℕ) (o : Patch V) → p row ≡ o → (listed p (row + 1) n ≡ [] → NoneFrom p (row + 1) (row + 1 + n)) → with_patch row o (listed p (row + 1) n) ≡ [] → NoneFrom p row (row + suc n)
  none_here row n None is after e = λ k a b. elim (cases_lt row k) [
    | inl lt ↦ after e k (omega arith) (omega arith)
    | inr ge ↦ (let same : k ≡ row = omega arith in ap p same ∙ is)
  ]
  none_here row n (Some v) is after e = absurd (let z : ◌≡◌ {A = ℕ} 0 1 = cc in omega arith)

  none_among : (row n : ℕ) → listed p row n ≡ [] → NoneFrom p row (row + n)
  none_among row zero e = λ k a b. absurd (omega arith)
  none_among row (suc n) e = none_here row n (p row) refl (none_among (row + 1) n) e

  length_here : (row : ℕ) (o : Patch V) (others : List (ℕ × V)) → length (with_patch row o others) ≡ one o + length others
  length_here row None others = omega arith
  length_here row (Some v) others = omega arith

  length_among : (row n : ℕ) → length (listed p row n) + patches_below p row ≡ patches_below p (row + n)
  length_among row zero = let z : row + 0 ≡ row = omega arith in rw z (omega arith)
  length_among row (suc n) =
      let z : row + suc n ≡ row + 1 + n = omega arith in
      rw z (omega (arith, length_here row (p row) (listed p (row + 1) n), length_among (row + 1) n, count_more p row))

-- the first of the patched rows from one on, and those after it
pub record FirstFrom {V : Type 0} (m : Assignment V) (row : ℕ) (item : ℕ × V) (others : List (ℕ × V)) : Type 0 where
  pub low : row ≤ item.0
  pub high : item.0 < m.rows
  pub patched : m.patch item.0 ≡ Some item.1
  pub none : NoneFrom m.patch row item.0
  pub rest : others ≡ listed_from m (item.0 + 1)

module _ {V : Type 0} (m : Assignment V) where
  -- where no row from one on has a patch there is none in the list
  pub listed_none : (row : ℕ) → ((k : ℕ) → row ≤ k → m.patch k ≡ None) → listed_from m row ≡ []
  listed_none row none =
      let z : row + (m.rows - row) - (row + (m.rows - row)) ≡ 0 = omega arith in
      listed_skip m.patch row (m.rows - row) (row + (m.rows - row)) (omega arith) (omega arith) (λ k a b. none k a)
      ∙ ap (listed m.patch (row + (m.rows - row))) z

  -- the next row with a patch comes first in the list
  pub listed_some : (row q : ℕ) (v : V) → row ≤ q → NoneFrom m.patch row q → m.patch q ≡ Some v → listed_from m row ≡ (q, v) ∷ listed_from m (q + 1)
  listed_some row q v low none is =
      let lt : q < m.rows = row_within m.patch m.rows q m.past (ap is_some is) in
      let z : row + (m.rows - row) - q ≡ suc (m.rows - (q + 1)) = omega arith in
      listed_skip m.patch row (m.rows - row) q low (omega arith) none
      ∙ ap (listed m.patch q) z
      ∙ ap (λ o. with_patch q o (listed m.patch (q + 1) (m.rows - (q + 1)))) is

  -- what comes first in the list is the next row with a patch, and the others are those from the row after it on
  pub listed_first : (row : ℕ) {items : List (ℕ × V)} {item : ℕ × V} {others : List (ℕ × V)} → items ≡ listed_from m row → items ≡ item ∷ others → FirstFrom m row item others
  listed_first row {items} {item} {others} are e =
      let w = first_among m.patch row (m.rows - row) item others (sym are ∙ e) in
      let lt : item.0 < m.rows = row_within m.patch m.rows item.0 m.past (ap is_some w.patched) in
      let z : row + (m.rows - row) - (item.0 + 1) ≡ m.rows - (item.0 + 1) = omega (arith, w.low) in
      record {
        low = w.low;
        high = lt;
        patched = w.patched;
        none = w.none;
        rest = w.rest ∙ ap (listed m.patch (item.0 + 1)) z;
      }

  -- where the list is empty no row from one on has a patch
  pub listed_empty : (row : ℕ) {items : List (ℕ × V)} → items ≡ listed_from m row → items ≡ [] → (k : ℕ) → row ≤ k → m.patch k ≡ None
  listed_empty row are e k a = elim (cases_lt k m.rows) [
    | inl lt ↦ none_among m.patch row (m.rows - row) (sym are ∙ e) k a (omega arith)
    | inr ge ↦ m.past k ge
  ]

  -- the list is as long as there are patches from the row on
  pub listed_length : (row : ℕ) → length (listed_from m row) + patches_below m.patch row ≡ patches_below m.patch m.rows
  listed_length row = elim (cases_lt row m.rows) [
    | inl lt ↦ (let z : row + (m.rows - row) ≡ m.rows = omega arith in length_among m.patch row (m.rows - row) ∙ ap (patches_below m.patch) z)
    | inr ge ↦
        let z : m.rows - row ≡ 0 = omega arith in
        rw z (omega (arith, count_past m.patch m.rows row m.past ge))
  ]

-- the first of the patched rows alone from one on, and those after it
pub record RowFirst {V : Type 0} (m : Assignment V) (row first : ℕ) (others : List ℕ) : Type 0 where
  pub low : row ≤ first
  pub high : first < m.rows
  pub patched : is_some (m.patch first) ≡ true
  pub none : NoneFrom m.patch row first
  pub rest : others ≡ rows_listed_from m (first + 1)

module _ {V : Type 0} (m : Assignment V) where
  -- where no row from one on has a patch there is none in the list
  pub rows_none : (row : ℕ) → ((k : ℕ) → row ≤ k → m.patch k ≡ None) → rows_listed_from m row ≡ []
  rows_none row none = ap (map row_of) (listed_none m row none)

  some_row : (row q : ℕ) (o : Patch V) → m.patch q ≡ o → is_some o ≡ true → row ≤ q → NoneFrom m.patch row q → rows_listed_from m row ≡ q ∷ rows_listed_from m (q + 1)
  some_row row q None is some low none = absurd (false≢true some)
  some_row row q (Some v) is some low none = ap (map row_of) (listed_some m row q v low none is)

  -- the next row with a patch comes first in the list
  pub rows_some : (row q : ℕ) → row ≤ q → NoneFrom m.patch row q → is_some (m.patch q) ≡ true → rows_listed_from m row ≡ q ∷ rows_listed_from m (q + 1)
  rows_some row q low none some = some_row row q (m.patch q) refl some low none

  first_row : (row q : ℕ) (others : List ℕ) (items : List (ℕ × V)) → listed_from m row ≡ items → map row_of items ≡ q ∷ others → RowFirst m row q others
  first_row row q others [] is e = absurd (let z : ◌≡◌ {A = ℕ} 0 1 = cc in omega arith)
  first_row row q others (item ∷ rest) is e =
      let w = listed_first m row {items = listed_from m row} {item = item} {others = rest} refl is in
      let same : item.0 ≡ q = cc in
      let left : map row_of rest ≡ others = cc in
      rw (← same) record {
        low = w.low;
        high = w.high;
        patched = ap is_some w.patched;
        none = w.none;
        rest = sym left ∙ ap (map row_of) w.rest;
      }

  -- what comes first in the list is the next row with a patch, and the others are those from the row after it on
  pub rows_first : (row : ℕ) {rows : List ℕ} {first : ℕ} {others : List ℕ} → rows ≡ rows_listed_from m row → rows ≡ first ∷ others → RowFirst m row first others
  rows_first row {rows} {first} {others} are e = first_row row first others (listed_from m row) refl (sym are ∙ e)

  no_row : (row : ℕ) (items : List (ℕ × V)) → listed_from m row ≡ items → map row_of items ≡ [] → (k : ℕ) → row ≤ k → m.patch k ≡ None
  no_row row [] is e = listed_empty m row {items = listed_from m row} refl is
  no_row row (item ∷ rest) is e = absurd (let z : ◌≡◌ {A = ℕ} 0 1 = cc in omega arith)

  -- where the list is empty no row from one on has a patch
  pub rows_empty : (row : ℕ) {rows : List ℕ} → rows ≡ rows_listed_from m row → rows ≡ [] → (k : ℕ) → row ≤ k → m.patch k ≡ None
  rows_empty row {rows} are e = no_row row (listed_from m row) refl (sym are ∙ e)
