-- Chunk entries, and how many indices lie before a chunk.
use Rattle.std.proofs.Common.{◌≡◌, ℕ, ◌+◌, ◌<◌, ◌≤◌, true, ltb, Some, None, sym, ap, ◌∙◌, subst, inl, inr, arith}
use Rattle.std.proofs.lemmas.Bool.{cases_lt, cond-true, cond-false, lt-ltb, le-ltb}
use Rattle.search_sorted.specs.Numbers.{count, number, got}
use Rattle.patches.specs.declared.column.Column.{Column}
use Rattle.patches.specs.declared.table.ChunkOffsets.{ChunkOffsets}
use Rattle.patches.specs.Chunks.{count_of_chunks, chunk_start}
use Rattle.patches.specs.Indices.{count_under, Inside}
use Rattle.patches.specs.Columns.{patches, index}
use Rattle.patches.specs.Tables.{has_table, count_of_entries, entry, within}
use Rattle.patches.proofs.Unders.{split_under}
use Rattle.patches.proofs.Judges.{chunks_some}

-- what came is the number at the place, or the place is past the end
pub got_some : (f : ℕ → ℕ) (n i v : ℕ) → Some v ≡ got f n i → (i < n) × (v ≡ f i)
got_some f n i v e =
    elim (cases_lt i n) [
      | inl h ↦ (let q : got f n i ≡ Some (f i) = cond-true (ltb i n) (Some (f i)) None (lt-ltb i n h) in (h, cc))
      | inr h ↦ (let q : got f n i ≡ None = cond-false (ltb i n) (Some (f i)) None (le-ltb i n h) in absurd (let z : ◌≡◌ {A = ℕ} 0 1 = cc in omega arith))
    ]

pub got_none : (f : ℕ → ℕ) (n i : ℕ) → None ≡ got f n i → n ≤ i
got_none f n i e =
    elim (cases_lt i n) [
      | inl h ↦ (let q : got f n i ≡ Some (f i) = cond-true (ltb i n) (Some (f i)) None (lt-ltb i n h) in absurd (let z : ◌≡◌ {A = ℕ} 0 1 = cc in omega arith))
      | inr h ↦ h
    ]

module _ (f : ℕ → ℕ) (n offset rows : ℕ) (inside : Inside f n offset rows) where
  -- no index lies before the first chunk
  pub under_first : (chunk : ℕ) → chunk ≡ 0 → count_under f n (chunk_start offset chunk) ≡ 0
  under_first chunk e =
      split_under f (chunk_start offset chunk) n 0 (record {
        within = omega arith;
        before = λ k h. absurd (omega arith);
        after = λ k h l. omega (arith, inside k l);
      })

  -- every index lies before the end of the last
  pub under_last : (chunk : ℕ) → count_of_chunks offset rows ≤ chunk → count_under f n (chunk_start offset chunk) ≡ n
  under_last chunk h =
      split_under f (chunk_start offset chunk) n n (record {
        within = omega arith;
        before = λ k l. (let i = inside k l in omega (arith, i, chunks_some offset rows (omega (arith, i))));
        after = λ k a b. absurd (omega arith);
      })

-- what a column says of the chunk data that are its own
module _ {V : Type 0} (c : Column V) (t : ChunkOffsets) (own : c.chunks ≡ Some t) where
  has : has_table c.chunks ≡ true
  has = ap has_table own

  pub own_count : count t.entries ≡ count_of_chunks c.offset c.rows
  own_count = sym (ap count_of_entries own) ∙ c.tabled has

  -- an entry, less entry 0 and within, is the number of indices before its chunk
  own_entry : (k : ℕ) → 1 ≤ k → k < count t.entries → number t.entries k ≡ number t.entries 0 + t.within + count_under (index c) (patches c) (chunk_start c.offset k)
  own_entry =
      subst (λ o. (k : ℕ) → 1 ≤ k → k < count_of_entries o → entry o k ≡ entry o 0 + within o + count_under (index c) (patches c) (chunk_start c.offset k)) own c.counted

  -- so is the entry that is found at a chunk
  pub own_found : (k v : ℕ) → 1 ≤ k → Some v ≡ got (number t.entries) (count t.entries) k → v ≡ number t.entries 0 + t.within + count_under (index c) (patches c) (chunk_start c.offset k)
  own_found k v h e = let at = got_some (number t.entries) (count t.entries) k v e in at.1 ∙ own_entry k h at.0

  -- what entry 0, within and the indices come to
  pub own_low : number t.entries 0 + t.within + patches c ≤ 8589934592
  own_low = subst (λ o. entry o 0 + within o + patches c ≤ 8589934592) own c.low
