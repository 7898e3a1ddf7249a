-- A column's patches by its indices: how many lie before a row, and which is the next.
use Rattle.std.proofs.Common.{◌≡◌, ℕ, zero, suc, ◌+◌, ◌<◌, ◌≤◌, List, length, Some, None, Option, sym, refl, ap, inl, inr, arith}
use Rattle.std.proofs.lemmas.Bool.{cases_lt}
use Rattle.search_sorted.specs.declared.search.SearchResult.{SearchResult}
use Rattle.search_sorted.specs.Search.{place_of}
use Rattle.search_sorted.specs.Numbers.{got}
use Rattle.search_sorted.specs.Packed.{Ascending}
use Rattle.search_sorted.proofs.Lefts.{Split}
use Rattle.patches.specs.declared.column.Column.{Column}
use Rattle.patches.specs.Assignments.{patches_below, Next, one}
use Rattle.patches.specs.Indices.{seek, count_under}
use Rattle.patches.specs.SeekLaws.{seek_none, seek_there}
use Rattle.patches.specs.Columns.{index, patches, row_at, column_meaning}
use Rattle.patches.specs.Lookups.{LooksUp}
use Rattle.patches.proofs.Counts.{one_some, one_none}
use Rattle.patches.proofs.Entries.{got_some, got_none}
use Rattle.patches.proofs.Rows.{looked_place}
use Rattle.patches.proofs.Unders.{under_split}

module _ {V : Type 0} (f : ℕ → ℕ) (n : ℕ) (vs : List V) (paired : length vs ≡ n) (up : Ascending f n) where
  -- nothing stands beside an index that lies between two neighbours
  pub apart : (x m : ℕ) → ((k : ℕ) → k < m → f k < x) → ((k : ℕ) → m ≤ k → k < n → x < f k) → seek f x 0 vs ≡ None
  apart x m before after =
      seek_none f x vs (λ k h e. elim (cases_lt k m) [
        | inl l ↦ omega (arith, before k l)
        | inr l ↦ omega (arith, after k l (omega arith))
      ])

  later : (x m : ℕ) → m < n → x < f m → (k : ℕ) → m ≤ k → k < n → x < f k
  later x m h lt k le l = elim (cases_lt m k) [ inl q ↦ omega (arith, up m k q l) | inr q ↦ (let e : k ≡ m = omega arith in rw e lt) ]

  -- the rows below r that have an index are as many as the indices below offset + r
  pub rows_under : (offset : ℕ) → ((k : ℕ) → k < n → offset ≤ f k) → (r m : ℕ) → Split f n (offset + r) m → patches_below (λ q. seek f (offset + q) 0 vs) r ≡ m
  rows_under offset low zero zero s = refl
  rows_under offset low zero (suc m) s = absurd (omega (arith, s.before 0 (omega arith), low 0 (omega (arith, s.within))))
  rows_under offset low (suc r) zero s =
      let none : seek f (offset + r) 0 vs ≡ None = apart (offset + r) 0 (λ k z. absurd (omega arith)) (λ k a b. omega (arith, s.after k a b)) in
      omega (arith, one_none _ none, rows_under offset low r 0 (record { within = omega arith; before = λ k z. absurd (omega arith); after = λ k a b. omega (arith, s.after k a b) }))
  rows_under offset low (suc r) (suc m) s =
      let within : m < n = omega (arith, s.within) in
      elim (cases_lt (f m) (offset + r)) [
        | inl lt ↦
            let before : (k : ℕ) → k < suc m → f k < offset + r = λ k h. elim (cases_lt k m) [ inl q ↦ omega (arith, up k m q within) | inr q ↦ (let e : k ≡ m = omega arith in rw e lt) ] in
            let none : seek f (offset + r) 0 vs ≡ None = apart (offset + r) (suc m) before (λ k a b. omega (arith, s.after k a b)) in
            omega (arith, one_none _ none, rows_under offset low r (suc m) (record { within = s.within; before = before; after = λ k a b. omega (arith, s.after k a b) }))
        | inr ge ↦
            let eq : f m ≡ offset + r = omega (arith, s.before m (omega arith)) in
            let some : one (seek f (offset + r) 0 vs) ≡ 1 = one_some _ (seek_there f (offset + r) m vs (omega arith) eq) in
            omega (
              arith,
              some,
              rows_under offset low r m (record {
                within = omega arith;
                before = λ k h. omega (arith, up k m h within);
                after = λ k a b. elim (cases_lt m k) [ inl q ↦ omega (arith, up m k q b) | inr q ↦ (let e : k ≡ m = omega arith in rw e ge) ];
              }),
            )
      ]

  pub next_none : (offset r m : ℕ) → ((k : ℕ) → k < m → f k < offset + r) → n ≤ m → Next (λ q. seek f (offset + q) 0 vs) r None
  next_none offset r m before h k le = seek_none f (offset + k) vs (λ j l e. omega (arith, before j (omega arith)))

  pub next_some : (offset r m q : ℕ) → Split f n (offset + r) m → m < n → f m ≡ offset + q → Next (λ y. seek f (offset + y) 0 vs) r (Some q)
  next_some offset r m q s h e = (
    omega (arith, s.after m (omega arith) h),
    seek_there f (offset + q) m vs (omega arith) e,
    (λ k le lt. apart (offset + k) m (λ j b. omega (arith, s.before j b)) (later (offset + k) m h (omega arith))),
  )

module _ {V : Type 0} (c : Column V) (r : ℕ) (found : SearchResult) (looks : LooksUp c r found) where
  -- a looked-up row's place parts the indices, among the rows and past them
  place_split : Split (index c) (patches c) (c.offset + r) (place_of found)
  place_split =
      elim (cases_lt c.rows r) [
        | inl past ↦
            let e : place_of found ≡ patches c = ap place_of (looks.past (omega arith)) in
            rw e (record { within = omega arith; before = λ k q. omega (arith, c.inside k q); after = λ k q z. absurd (omega arith) })
        | inr le ↦
            let e : place_of found ≡ count_under (index c) (patches c) (c.offset + r) = looked_place c r found looks le in
            rw e (under_split (index c) (c.offset + r) (patches c) c.indices.up)
      ]

  pub place_below : place_of found ≡ patches_below (column_meaning c).patch r
  place_below = sym (rows_under (index c) (patches c) c.values.now c.paired c.indices.up c.offset (λ k h. (c.inside k h).0) r (place_of found) place_split)

  pub place_next : (q : Option ℕ) → q ≡ got (row_at c) (patches c) (place_of found) → Next (column_meaning c).patch r q
  place_next None e =
      next_none (index c) (patches c) c.values.now c.paired c.indices.up c.offset r (place_of found) place_split.before (got_none (row_at c) (patches c) (place_of found) e)
  place_next (Some q) e =
      let at = got_some (row_at c) (patches c) (place_of found) q e in
      next_some (index c) (patches c) c.values.now c.paired c.indices.up c.offset r (place_of found) q place_split at.0 (omega (arith, at.1, c.inside (place_of found) at.0))
