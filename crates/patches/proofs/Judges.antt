-- Rules, and which of them decides.
use Rattle.std.proofs.Common.{◌≡◌, ℕ, ◌+◌, ◌-◌, ◌*◌, ◌/◌, ◌<◌, ◌≤◌, eqb, ltb, List, [], ◌∷◌, ◌++◌, length, MatchOption, Some, None, Option, unwrap_or, sym, refl, ap, ◌∙◌, subst, ap₂, inl, inr, arith}
use native.Mathlib.Nat.{mul-div_cancel_left}
use Rattle.std.proofs.lemmas.Bool.{cases_eq, cases_lt, cond-true, cond-false, lt-ltb, ne_eqb}
use Rattle.search_sorted.specs.Packed.{number_at}
use Rattle.search_sorted.specs.Numbers.{count, number, got}
use Rattle.search_sorted.proofs.Parts.{size_pos}
use Rattle.patches.specs.declared.refusal.Part.{Part}
use Rattle.patches.specs.declared.refusal.Refusal.{Refusal}
use Rattle.patches.specs.declared.corrections.ChunkTable.{ChunkTable}
use Rattle.patches.specs.Refusals.{Rule, Names, Kept, AllKept, NamesFirst}
use Rattle.patches.specs.Chunks.{phase, count_of_chunks}
use Rattle.patches.specs.Indices.{Inside}
use Rattle.patches.specs.declared.refusal.Part.TheVariants.{Column}
use Rattle.patches.specs.declared.refusal.Reason.TheVariants.{ChunkData}
use Rattle.patches.specs.Loads.{BadTable, WholeTable, RightEntry, WrongFrom, FirstWrong, range_rule, table_rule, WrongChunk}
use Rattle.patches.specs.declared.table.ChunkOffsets.{ChunkOffsets}
use Rattle.search_sorted.specs.Packed.{Ascending}

-- where the first rules are kept, a refusal by the others is one by all
pub first_after_kept : (part : Part) (rules more : List Rule) (f : Refusal) → AllKept rules → NamesFirst part more f → NamesFirst part (rules ++ more) f
first_after_kept part [] more f k h = h
first_after_kept part (r ∷ rules) more f k h = inr (k.0, first_after_kept part rules more f k.1 h)

-- the rules of two lists are kept where those of each are
pub kept_both : (rules more : List Rule) → AllKept rules → AllKept more → AllKept (rules ++ more)
kept_both [] more k h = h
kept_both (r ∷ rules) more k h = (k.0, kept_both rules more k.1 h)

-- rows touch a chunk
pub chunks_some : (offset rows : ℕ) → 0 < rows → count_of_chunks offset rows ≡ (phase offset + rows + 1023) / 1024
chunks_some offset rows h = cond-false (eqb rows 0) 0 ((phase offset + rows + 1023) / 1024) (ne_eqb rows 0 (λ e. omega arith))

-- the first of some numbers
pub first_got : (f : ℕ → ℕ) (n : ℕ) → 0 < n → unwrap_or (got f n 0) 0 ≡ f 0
first_got f n h = ap (λ o. unwrap_or o 0) (cond-true (ltb 0 n) (Some (f 0)) None (lt-ltb 0 n h))

-- chunk data of a table that is right as a whole have an entry for each chunk
pub table_count : (t : ChunkTable) (offset rows : ℕ) (u : ChunkOffsets) → WholeTable t offset rows (Some u) → length t.entries.now / t.width ≡ count_of_chunks offset rows
table_count t offset rows u whole =
    let all : length t.entries.now ≡ t.width * count_of_chunks offset rows = elim (cases_eq (length t.entries.now) (t.width * count_of_chunks offset rows)) [
      | inl e ↦ e
      | inr other ↦ absurd (whole.0 (inr (inl other)))
    ] in
    let pos : 0 < t.width = rw whole.1 at (size_pos u.entries.width) in
    ap (λ n. n / t.width) all ∙ mul-div_cancel_left (count_of_chunks offset rows) pos

-- the first wrong entry of the chunk data is that of the table
pub table_wrong : (t : ChunkTable) (offset rows : ℕ) (u : ChunkOffsets) → WholeTable t offset rows (Some u) → (f : ℕ → ℕ) (n c : ℕ) → FirstWrong f n (number u.entries) (number u.entries 0 + u.within) offset (count u.entries) c → FirstWrong f n (number_at t.entries.now t.width) (number_at t.entries.now t.width 0 + t.within) offset (count_of_chunks offset rows) c
table_wrong t offset rows u whole f n c w =
    let entries : number u.entries ≡ number_at t.entries.now t.width = ap₂ (λ b s. number_at b s) whole.2 whole.1 in
    let chunks : count u.entries ≡ count_of_chunks offset rows = ap₂ (λ b s. length b / s) whole.2 whole.1 ∙ table_count t offset rows u whole in
    subst (λ g. FirstWrong f n g (g 0 + t.within) offset (count_of_chunks offset rows) c) entries
    (subst (λ v. FirstWrong f n (number u.entries) (number u.entries 0 + v) offset (count_of_chunks offset rows) c) whole.3
    (subst (λ m. FirstWrong f n (number u.entries) (number u.entries 0 + u.within) offset m c) chunks w))

-- the first chunk that a search from chunk 1 on finds, of those that are not right
pub wrong_found : (f : ℕ → ℕ) (n : ℕ) (entry : ℕ → ℕ) (base offset chunks : ℕ) (r : Option ℕ) → MatchOption r ((k : ℕ) → 1 ≤ k → k < chunks → k < chunks → RightEntry f n entry base offset k) (λ i. (1 ≤ i) × (i < chunks) × ((i < chunks → RightEntry f n entry base offset i) → ⊥) × ((k : ℕ) → 1 ≤ k → k < i → k < chunks → RightEntry f n entry base offset k)) → WrongFrom f n entry base offset chunks r
wrong_found f n entry base offset chunks None h = λ k a b. h k a b b
wrong_found f n entry base offset chunks (Some i) h = record { later = h.0; below = h.1; wrong = λ e. h.2 (λ _. e); before = λ k a b. h.3 k a b (omega (arith, h.1)) }

-- rising indices lie among the rows where the first and the last do
pub inside_ends : (f : ℕ → ℕ) (n offset rows : ℕ) → 0 < n → Ascending f n → Kept (range_rule f n offset rows) → Inside f n offset rows
inside_ends f n offset rows some up kept i h =
    let low : offset ≤ f 0 = elim (cases_lt (f 0) offset) [ inl l ↦ absurd (kept 0 (inl (refl, l))) | inr l ↦ l ] in
    let high : f (n - 1) < offset + rows = elim (cases_lt (f (n - 1)) (offset + rows)) [ inl l ↦ l | inr l ↦ absurd (kept (n - 1) (inr (low, omega arith, l))) ] in (
      (elim (cases_lt 0 i) [ inl l ↦ omega (arith, up 0 i l h) | inr l ↦ (let e : i ≡ 0 = omega arith in rw e low) ]),
      (elim (cases_lt i (n - 1)) [ inl l ↦ omega (arith, up i (n - 1) l (omega arith)) | inr l ↦ (let e : i ≡ n - 1 = omega arith in rw e high) ]),
    )

-- a refusal at the first wrong chunk of a file's table
pub names_wrong : (f : ℕ → ℕ) (n offset rows c : ℕ) (t : ChunkTable) (table : Option ChunkTable) (r : Refusal) → table ≡ Some t → r.reason ≡ ChunkData → r.part ≡ Column → r.place ≡ c → (BadTable t offset rows → ⊥) → FirstWrong f n (number_at t.entries.now t.width) (number_at t.entries.now t.width 0 + t.within) offset (count_of_chunks offset rows) c → Names Column (table_rule f n table offset rows) r
names_wrong f n offset rows c t table r is why who place good wrong = record {
  why = why;
  who = who;
  where_it_is = subst (λ p. WrongChunk f n table offset rows p) (sym place) (subst (λ o. WrongChunk f n o offset rows c) (sym is) (inr (good, wrong)));
}
