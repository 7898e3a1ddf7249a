-- Rows in chunks of 1024, counted from the chunk in which the offset lies.
use Rattle.std.specs.Prelude.{◌≡◌, ℕ, ◌+◌, ◌-◌, ◌*◌, ◌/◌, ◌%◌, ◌<◌, ◌≤◌, min, cond, List, [], ◌∷◌, ◌==◌}
use Rattle.patches.specs.declared.refusal.Reason.TheVariants.{RowLimit, ChunkNumber}
use Rattle.patches.specs.Refusals.{Rule, rule}

-- the most that an offset and rows may come to together
abbrev pub limit : ℕ
limit = 2147483648

-- how far the offset lies behind the start of its chunk
abbrev pub phase : ℕ → ℕ
phase offset = offset % 1024

-- how many chunks the rows touch: none where there are no rows
abbrev pub count_of_chunks : ℕ → ℕ → ℕ
count_of_chunks offset rows = cond (rows == 0) 0 ((phase offset + rows + 1023) / 1024)

-- the index at which a chunk starts
abbrev pub chunk_start : ℕ → ℕ → ℕ
chunk_start offset chunk = offset - phase offset + 1024 * chunk

-- the first row of a chunk, and the row after its last
abbrev pub first_row_of : ℕ → ℕ → ℕ → ℕ
first_row_of chunk offset rows = min (1024 * chunk - phase offset) rows

abbrev pub end_row_of : ℕ → ℕ → ℕ → ℕ
end_row_of chunk offset rows = min (1024 * (chunk + 1) - phase offset) rows

-- a chunk number that is not below the number of chunks; its place is the number itself
abbrev pub chunk_rule : ℕ → ℕ → Rule
chunk_rule chunk chunks = record { reason = ChunkNumber; broken = λ place. (place ≡ chunk) × (chunks ≤ chunk) }

-- the rules of asking for a chunk's rows
abbrev pub range_rules : ℕ → ℕ → ℕ → List Rule
range_rules chunk offset rows = rule RowLimit (limit < offset + rows) ∷ chunk_rule chunk (count_of_chunks offset rows) ∷ []
