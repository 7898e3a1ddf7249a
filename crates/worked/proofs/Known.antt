-- Columns of which everything but the values is known, and what narrowing and looking up then come to.
use Rattle.std.proofs.Common.{◌≡◌, ℕ, ◌+◌, ◌-◌, ◌<◌, ◌≤◌, true, List, length, get_or, sym, ap, ◌∙◌, subst, arith}
use Rattle.search_sorted.specs.declared.search.SearchResult.{SearchResult}
use Rattle.search_sorted.specs.declared.search.SearchResult.TheVariants.{Found, NotFound}
use Rattle.search_sorted.specs.Packed.{listed}
use Rattle.search_sorted.proofs.Lefts.{finds_from, Finds}
use Rattle.patches.specs.declared.column.Column.{Column}
use Rattle.patches.specs.Columns.{patches, index, row_at}
use Rattle.patches.specs.Indices.{count_under}
use Rattle.patches.specs.Lookups.{LooksUp}
use Rattle.patches.specs.Narrows.{NarrowedTo, KeptTable, first_kept, end_kept}
use Rattle.patches.specs.Tables.{has_table, count_of_entries, entry, within}
use Rattle.patches.proofs.Unders.{under_le}
use Rattle.worked.specs.Cases.{TableIs, ColumnIs, Answered}
use Rattle.worked.proofs.Lists.{listed_same, under, part, list_count, list_at, list_under}
use Rattle.worked.proofs.Places.{found_at, missed_at}

-- a column by its offset, rows, stored indices, entries and within
pub record Known (c : Column ℕ) (offset rows : ℕ) (stored entries : List ℕ) (before : ℕ) : Type 0 where
  pub offset_is : c.offset ≡ offset
  pub rows_are : c.rows ≡ rows
  pub stored_are : listed (index c) (patches c) ≡ stored
  pub table_is : TableIs c.chunks entries before

module _ {c : Column ℕ} {o n : ℕ} {l es : List ℕ} {w : ℕ} (known : Known c o n l es w) where
  -- its patches, its stored indices, and how many of them lie before a row
  count_is : patches c ≡ length l
  count_is = list_count (index c) (patches c) l known.stored_are

  index_is : (i : ℕ) → i < length l → index c i ≡ get_or l i 0
  index_is i h = list_at (index c) (patches c) l known.stored_are i (omega (arith, count_is))

  under_is : (a : ℕ) → count_under (index c) (patches c) (c.offset + a) ≡ under l (o + a)
  under_is a =
      list_under (index c) (patches c) l known.stored_are (c.offset + a) ∙ ap (λ x. under l (x + a)) known.offset_is

  -- its patched rows are the stored indices less the offset
  pub known_column : ColumnIs c o n (listed (λ i. get_or l i 0 - o) (length l)) es w
  known_column = record {
    offset_is = known.offset_is;
    rows_are = known.rows_are;
    patched_are = listed_same (row_at c) (λ i. get_or l i 0 - o) (patches c) (length l) count_is (λ i h. let e = index_is i h in let q = known.offset_is in cc);
    table_is = known.table_is;
  }

  -- the answer of a lookup by the indices
  looked : (row : ℕ) → row < n → (r : SearchResult) → LooksUp c row r → Finds (index c) (patches c) (c.offset + row) r
  looked row h r a = finds_from (index c) (patches c) (c.offset + row) r (a.among (omega (arith, known.rows_are)))

  -- a row whose index is stored is found
  pub known_found : (row i : ℕ) → row < n → i < length l → get_or l i 0 ≡ o + row → Answered c row (Found i)
  known_found row i h k e r a =
      found_at (index c) (patches c) (c.offset + row) c.indices.up i (omega (arith, count_is)) (index_is i k ∙ e ∙ ap (λ x. x + row) (sym known.offset_is)) r (looked row h r a)

  -- a row whose index lies between two that are stored is not
  pub known_missed : (row m : ℕ) → row < n → m + 1 < length l → get_or l m 0 < o + row → o + row < get_or l (m + 1) 0 → Answered c row (NotFound (m + 1))
  known_missed row m h k low high r a =
      missed_at (index c) (patches c) (c.offset + row) c.indices.up m
      (omega (arith, count_is))
      (omega (arith, index_is m (omega arith), known.offset_is))
      (omega (arith, index_is (m + 1) k, known.offset_is))
      r
      (looked row h r a)

  -- a row past the last is answered by the number of patches
  pub known_past : (row : ℕ) → n ≤ row → Answered c row (NotFound (length l))
  known_past row h r a = a.past (omega (arith, known.rows_are)) ∙ ap NotFound count_is

  module _ {d : Column ℕ} {a b : ℕ} (to : NarrowedTo c d a b) where
    -- how many patches lie before the rows that are kept
    dropped_are : to.dropped ≡ under l (o + a)
    dropped_are = to.dropped_is ∙ under_is a

    -- how many patches remain
    pub kept_count : patches d ≡ under l (o + b) - under l (o + a)
    kept_count = let low = dropped_are in let high = under_is b in let all = to.count in cc

    kept_index : (i : ℕ) → i < under l (o + b) - under l (o + a) → index d i ≡ get_or l (under l (o + a) + i) 0
    kept_index i h =
        let top = under_le (λ k. get_or l k 0) (o + b) (length l) in
        to.indices i (omega (arith, kept_count))
        ∙ ap (λ x. index c (x + i)) dropped_are
        ∙ index_is (under l (o + a) + i) (omega arith)

    -- where some patch remains, and the chunks kept have their entries
    module _ (some : under l (o + a) < under l (o + b)) (first : first_kept o a < end_kept o b) (last : end_kept o b ≤ length es) where
      -- its chunk data
      kept_there : has_table d.chunks ≡ true
      kept_there = to.some_table (omega (arith, kept_count)) ∙ known.table_is.there

      kept : KeptTable c.chunks d.chunks o a b (under l (o + a))
      kept =
          let P : ℕ → Type 0 = λ x. KeptTable c.chunks d.chunks x a b to.dropped in
          let Q : ℕ → Type 0 = λ x. KeptTable c.chunks d.chunks o a b x in
          subst Q dropped_are (subst P known.offset_is (to.table kept_there))

      entry_is : (i : ℕ) → i < length es → entry c.chunks i ≡ get_or es i 0
      entry_is i h =
          let e = list_count (entry c.chunks) (count_of_entries c.chunks) es known.table_is.entries_are in
          list_at (entry c.chunks) (count_of_entries c.chunks) es known.table_is.entries_are i (omega (arith, e))

      kept_entry : (i : ℕ) → i < end_kept o b - first_kept o a → entry d.chunks i ≡ get_or es (first_kept o a + i) 0
      kept_entry i h = kept.entries i (omega (arith, kept.count)) ∙ entry_is (first_kept o a + i) (omega arith)

      kept_within : within d.chunks ≡ get_or es 0 0 + w + under l (o + a) - get_or es (first_kept o a + 0) 0
      kept_within = omega (arith, kept.base, kept_entry 0 (omega arith), entry_is 0 (omega arith), known.table_is.within_is)

      -- what is left of the column
      pub known_narrowed : Known d (o + a) (b - a) (part l (under l (o + a)) (under l (o + b))) (part es (first_kept o a) (end_kept o b)) (get_or es 0 0 + w + under l (o + a) - get_or es (first_kept o a + 0) 0)
      known_narrowed = record {
        offset_is = to.offset ∙ ap (λ x. x + a) known.offset_is;
        rows_are = to.rows;
        stored_are = listed_same (index d) (λ i. get_or l (under l (o + a) + i) 0) (patches d) (under l (o + b) - under l (o + a)) kept_count kept_index;
        table_is = record {
          there = kept_there;
          entries_are = listed_same (entry d.chunks) (λ i. get_or es (first_kept o a + i) 0) (count_of_entries d.chunks) (end_kept o b - first_kept o a) kept.count kept_entry;
          within_is = kept_within;
        };
      }
