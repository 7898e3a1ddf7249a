-- The set rows of a mask: how many there are, which one stands at a place, and that they rise.
use Rattle.std.specs.Prelude.{◌≡◌, ℕ, zero, suc, ◌+◌, ◌<◌, ◌≤◌, cond, List, [], ◌∷◌, ◌++◌, length, get_or, ◌≢◌, slice_index_or, refl}
use Rattle.std.proofs.Common.{ap, ◌∙◌, inl, inr, arith, length-append}
use Rattle.std.proofs.lemmas.Bool.{cases_lt, cases_eq, eq-eqb, ne_eqb, cond-true, cond-false}
use Rattle.std.proofs.lemmas.List.{get_or_append_left, get_or_push}
use Rattle.search_sorted.specs.Order.{NeverDescends}
use Rattle.search_sorted.specs.Naturals.{natural, le_rank}
use Rattle.search_sorted.specs.RowMasks.{bit, is_set, set_below, set_rows_of}

-- ---- counts

pub bit_le : (bytes : List ℕ) (row : ℕ) → bit bytes row ≤ 1
bit_le bytes row = omega arith

pub below_le : (bytes : List ℕ) (n : ℕ) → set_below bytes n ≤ n
below_le bytes zero = omega arith
below_le bytes (suc n) = omega (arith, below_le bytes n, bit_le bytes n)

pub below_mono : (bytes : List ℕ) (m n : ℕ) → m ≤ n → set_below bytes m ≤ set_below bytes n
below_mono bytes m zero h = let e : m ≡ 0 = omega arith in rw e (omega arith)
below_mono bytes m (suc n) h =
    elim (cases_lt m (suc n)) [
      | inl lt ↦ omega (arith, below_mono bytes m n (omega arith))
      | inr ge ↦ let e : m ≡ suc n = omega arith in rw e (omega arith)
    ]

-- fewer set rows before it, so an earlier row
pub below_earlier : (bytes : List ℕ) (m n : ℕ) → set_below bytes m < set_below bytes n → m < n
below_earlier bytes m n h =
    elim (cases_lt m n) [ inl lt ↦ lt | inr ge ↦ absurd (omega (arith, below_mono bytes n m ge)) ]

-- a set row counts before each later one
pub below_set : (bytes : List ℕ) (m n : ℕ) → bit bytes m ≡ 1 → m < n → set_below bytes m < set_below bytes n
below_set bytes m n e h =
    let k : set_below bytes m + bit bytes m ≤ set_below bytes n = below_mono bytes (suc m) n h in
    omega (arith, e, k)

-- set rows with as many set rows before them are the same row
pub below_same : (bytes : List ℕ) (m n : ℕ) → bit bytes m ≡ 1 → bit bytes n ≡ 1
    → set_below bytes m ≡ set_below bytes n → m ≡ n
below_same bytes m n d e same =
    elim (cases_lt m n) [
      | inl lt ↦ absurd (omega (arith, below_set bytes m n d lt))
      | inr ge ↦ elim (cases_lt n m) [ inl gt ↦ absurd (omega (arith, below_set bytes n m e gt)) | inr le ↦ omega arith ]
    ]

-- ---- the rows

rows_set : (bytes : List ℕ) (n : ℕ) → bit bytes n ≡ 1 → set_rows_of bytes (suc n) ≡ set_rows_of bytes n ++ (n ∷ [])
rows_set bytes n e = ap (λ r. set_rows_of bytes n ++ r) (cond-true (is_set bytes n) (n ∷ []) [] (eq-eqb (bit bytes n) 1 e))

rows_unset : (bytes : List ℕ) (n : ℕ) → (bit bytes n ≢ 1) → set_rows_of bytes (suc n) ≡ set_rows_of bytes n ++ []
rows_unset bytes n e = ap (λ r. set_rows_of bytes n ++ r) (cond-false (is_set bytes n) (n ∷ []) [] (ne_eqb (bit bytes n) 1 e))

pub rows_length : (bytes : List ℕ) (n : ℕ) → length (set_rows_of bytes n) ≡ set_below bytes n
rows_length bytes zero = refl
rows_length bytes (suc n) =
    elim (cases_eq (bit bytes n) 1) [
      | inl e ↦ ap length (rows_set bytes n e) ∙ simp length-append (omega (arith, rows_length bytes n, e))
      | inr e ↦ ap length (rows_unset bytes n e) ∙ simp length-append (omega (arith, rows_length bytes n, bit_le bytes n, e))
    ]

-- a row below n, set, with `place` set rows before it
pub record RowAt (bytes : List ℕ) (n place row : ℕ) : Type 0 where
  pub within : row < n
  pub set : bit bytes row ≡ 1
  pub before : set_below bytes row ≡ place

-- the rows below n stand where they stood
row_kept : (bytes : List ℕ) (n place d : ℕ) → place < set_below bytes n
    → slice_index_or (set_rows_of bytes (suc n)) place d ≡ slice_index_or (set_rows_of bytes n) place d
row_kept bytes n place d h =
    let k : place < length (set_rows_of bytes n) = omega (arith, rows_length bytes n) in
    get_or_append_left (set_rows_of bytes n) (cond (is_set bytes n) (n ∷ []) []) d place k

-- and n stands after them, where it is set
row_new : (bytes : List ℕ) (n place d : ℕ) → bit bytes n ≡ 1 → set_below bytes n ≡ place
    → slice_index_or (set_rows_of bytes (suc n)) place d ≡ n
row_new bytes n place d one e =
    ap (λ rows. get_or rows place d) (rows_set bytes n one)
    ∙ get_or_push (set_rows_of bytes n) n d place (rows_length bytes n ∙ e)

-- what stands at a place is the set row with so many set rows before it
pub row_at : (bytes : List ℕ) (n place d : ℕ) → place < set_below bytes n
    → RowAt bytes n place (slice_index_or (set_rows_of bytes n) place d)
row_at bytes zero place d h = absurd (omega arith)
row_at bytes (suc n) place d h =
    elim (cases_lt place (set_below bytes n)) [
      | inl lt ↦
          let r : RowAt bytes n place (slice_index_or (set_rows_of bytes n) place d) = row_at bytes n place d lt in
          rw (row_kept bytes n place d lt) (record { within = omega arith; set = r.set; before = r.before })
      | inr ge ↦
          let one : bit bytes n ≡ 1 = omega (arith, bit_le bytes n) in
          let same : set_below bytes n ≡ place = omega (arith, bit_le bytes n) in
          rw (row_new bytes n place d one same) (record { within = omega arith; set = one; before = same })
    ]

-- the set rows rise
pub rows_rise : (bytes : List ℕ) (n : ℕ) → NeverDescends natural (set_rows_of bytes n)
rows_rise bytes n i j d h k =
    let rows = set_rows_of bytes n in
    let l : j < set_below bytes n = omega (arith, rows_length bytes n) in
    let p : RowAt bytes n i (slice_index_or rows i d) = row_at bytes n i d (omega arith) in
    let q : RowAt bytes n j (slice_index_or rows j d) = row_at bytes n j d l in
    let less : set_below bytes (slice_index_or rows i d) < set_below bytes (slice_index_or rows j d) = omega (arith, p.before, q.before) in
    let lt : get_or rows i d < get_or rows j d = below_earlier bytes (slice_index_or rows i d) (slice_index_or rows j d) less in
    le_rank (slice_index_or rows i d) (slice_index_or rows j d) (omega arith)
