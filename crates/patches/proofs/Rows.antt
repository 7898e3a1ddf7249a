-- What a looked-up row says of its patch.
use Rattle.std.proofs.Common.{◌≡◌, ℕ, ◌+◌, ◌<◌, ◌≤◌, get_or, Some, None, sym, ap, ◌∙◌, inl, inr, arith}
use Rattle.std.proofs.lemmas.Bool.{cases_lt}
use Rattle.search_sorted.specs.declared.search.SearchResult.{SearchResult}
use Rattle.search_sorted.specs.declared.search.SearchResult.TheVariants.{Found, NotFound}
use Rattle.search_sorted.specs.Search.{found_of, place_of}
use Rattle.patches.specs.Indices.{count_under}
use Rattle.patches.proofs.Unders.{split_under}
use Rattle.search_sorted.proofs.Lefts.{Split, Finds, finds_from}
use Rattle.patches.specs.declared.column.Column.{Column}
use Rattle.patches.specs.Columns.{index, patches, patch_at}
use Rattle.patches.specs.Lookups.{LooksUp}
use Rattle.patches.specs.SeekLaws.{seek_none, seek_some, seek_past}

-- a left search parts the indices at its place
found_split : (f : ℕ → ℕ) (n x : ℕ) (r : SearchResult) → Finds f n x r → Split f n x (place_of r)
found_split f n x (Found i) a = a.2
found_split f n x (NotFound i) a = a.1

module _ {V : Type 0} (c : Column V) (row : ℕ) where
  -- the place that is found is below the number of patches
  pub found_within : (r : SearchResult) (i : ℕ) → LooksUp c row r → Some i ≡ found_of r → i < patches c
  found_within (Found j) i l e =
      elim (cases_lt row c.rows) [
        | inl h ↦ (let a = finds_from (index c) (patches c) (c.offset + row) (Found j) (l.among h) in let same : i ≡ j = cc in omega (arith, a.0))
        | inr h ↦ (let q = l.past h in absurd (let z : ◌≡◌ {A = ℕ} 0 1 = cc in omega arith))
      ]
  found_within (NotFound j) i l e = absurd (let z : ◌≡◌ {A = ℕ} 0 1 = cc in omega arith)

  -- the patch of the row is the value at that place
  pub found_patch : (r : SearchResult) (i : ℕ) (v : V) → LooksUp c row r → Some i ≡ found_of r → v ≡ get_or c.values.now i v → Some v ≡ patch_at c row
  found_patch (Found j) i v l e is =
      elim (cases_lt row c.rows) [
        | inl h ↦
            (let a = finds_from (index c) (patches c) (c.offset + row) (Found j) (l.among h) in
            let same : j ≡ i = cc in
            sym (seek_some (index c) (c.offset + row) i c.values.now v (omega (arith, a.0, c.paired)) (ap (index c) (sym same) ∙ a.1) (λ k q z. omega (arith, a.2.before k (omega arith))) is))
        | inr h ↦ (let q = l.past h in absurd (let z : ◌≡◌ {A = ℕ} 0 1 = cc in omega arith))
      ]
  found_patch (NotFound j) i v l e is = absurd (let z : ◌≡◌ {A = ℕ} 0 1 = cc in omega arith)

  -- where nothing is found the row has no patch
  pub missed_patch : (r : SearchResult) → LooksUp c row r → None ≡ found_of r → None ≡ patch_at c row
  missed_patch (Found j) l e = absurd (let z : ◌≡◌ {A = ℕ} 0 1 = cc in omega arith)
  missed_patch (NotFound j) l e =
      elim (cases_lt row c.rows) [
        | inl h ↦
            (let a = finds_from (index c) (patches c) (c.offset + row) (NotFound j) (l.among h) in
            sym (seek_none (index c) (c.offset + row) c.values.now (λ k q z. a.0 k (omega (arith, c.paired)) z)))
        | inr h ↦ sym (seek_past (index c) c.values.now (patches c) c.offset c.rows row c.paired c.inside h)
      ]

  -- the place of a row is the number of patches before it
  pub looked_place : (r : SearchResult) → LooksUp c row r → row ≤ c.rows → place_of r ≡ count_under (index c) (patches c) (c.offset + row)
  looked_place r l le =
      elim (cases_lt row c.rows) [
        | inl h ↦ sym (split_under (index c) (c.offset + row) (patches c) (place_of r) (found_split (index c) (patches c) (c.offset + row) r (finds_from (index c) (patches c) (c.offset + row) r (l.among h))))
        | inr h ↦
            ap place_of (l.past h)
            ∙ sym (split_under (index c) (c.offset + row) (patches c) (patches c) (record { within = omega arith; before = λ k q. omega (arith, c.inside k q); after = λ k q z. absurd (omega arith) }))
      ]
