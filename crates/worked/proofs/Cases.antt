-- The worked cases, of which each follows from what a column that holds P is known to have.
use Rattle.std.proofs.Common.{◌≡◌, ℕ, ◌/◌, List, [], ◌∷◌, length, Some, None, Option, refl, ap, ◌∙◌, lit<, lit≤}
use Rattle.search_sorted.specs.Packed.{size, number_at, listed}
use Rattle.patches.specs.declared.column.Column.{Column}
use Rattle.patches.specs.declared.table.ChunkOffsets.{ChunkOffsets}
use Rattle.patches.specs.declared.corrections.ChunkTable.{ChunkTable}
use Rattle.patches.specs.Loads.{SameTable}
use Rattle.patches.specs.Narrows.{NarrowedTo, remaining}
use Rattle.worked.specs.Cases.{TableP, HoldsP, TableIs, WorkedCases}
use Rattle.worked.proofs.Known.{Known, known_column, known_found, known_missed, known_past, kept_count, known_narrowed}

-- packed numbers by their bytes and their width
read : (bytes given : List ℕ) (w v : ℕ) → bytes ≡ given → w ≡ v → listed (number_at bytes w) (length bytes / w) ≡ listed (number_at given v) (length given / v)
read bytes given w v b e =
    ap (λ s. listed (number_at s w) (length s / w)) b ∙ ap (λ k. listed (number_at given k) (length given / k)) e

-- the chunk data of P
table_is : (t : Option ChunkOffsets) (g : Option ChunkTable) → SameTable t g → TableP g → TableIs t (0 ∷ 2 ∷ 3 ∷ []) 0
table_is None None same p = absurd p
table_is None (Some g) same p = absurd same
table_is (Some t) None same p = absurd p
table_is (Some t) (Some g) same p = record {
  there = refl;
  entries_are = read t.entries.bytes.now (0 ∷ 2 ∷ 3 ∷ []) (size t.entries.width) 1 (same.1 ∙ p.1) (same.0 ∙ p.0);
  within_is = same.2 ∙ p.2;
}

module _ (c : Column ℕ) (p : HoldsP c) where
  -- a column that holds P
  known : Known c 0 3000 (3 ∷ 1023 ∷ 1024 ∷ 2050 ∷ []) (0 ∷ 2 ∷ 3 ∷ []) 0
  known = record {
    offset_is = p.holds.offset ∙ p.given.offset;
    rows_are = p.holds.rows ∙ p.given.rows;
    stored_are = read c.indices.numbers.bytes.now (3 ∷ 0 ∷ 255 ∷ 3 ∷ 0 ∷ 4 ∷ 2 ∷ 8 ∷ []) (size c.indices.numbers.width) 2 (p.holds.indices ∙ p.given.indices) (p.holds.width ∙ p.given.width);
    table_is = table_is c.chunks p.file.chunks p.holds.chunks p.given.chunks;
  }

  -- P narrowed to its rows 1000 to 2051
  known_part : (d : Column ℕ) → NarrowedTo c d 1000 2051 → Known d 1000 1051 (1023 ∷ 1024 ∷ 2050 ∷ []) (0 ∷ 2 ∷ 3 ∷ []) 1
  known_part d to = known_narrowed known to (lit< tt) (lit< tt) (lit≤ tt)

  -- and once more, to rows 24 to 1051 of what is left
  known_rest : (d e : Column ℕ) → NarrowedTo c d 1000 2051 → NarrowedTo d e 24 1051 → Known e 1024 1027 (1024 ∷ 2050 ∷ []) (2 ∷ 3 ∷ []) 0
  known_rest d e to again = known_narrowed (known_part d to) again (lit< tt) (lit< tt) (lit≤ tt)

pub worked_cases : WorkedCases
worked_cases = record {
  found = λ c p. known_found (known c p) 1023 1 (lit< tt) (lit< tt) refl;
  missed = λ c p. known_missed (known c p) 1025 2 (lit< tt) (lit< tt) (lit< tt) (lit< tt);
  past = λ c p. known_past (known c p) 3000 (lit≤ tt);
  narrowed = λ c d p to. (
    known_column (known_part c p d to),
    known_found (known_part c p d to) 24 1 (lit< tt) (lit< tt) refl,
  );
  narrowed_again = λ c d e p to again. known_column (known_rest c p d e to again);
  emptied = λ c d p to. (to.rows, ap remaining (kept_count (known c p) to));
  ranges = (refl, (refl, refl), (refl, refl), (refl, refl));
}
