-- What a job file's keys are called, and what an accepted job and a refusal satisfy. Assumes nothing.
use Rattle.std.specs.Prelude.{◌≡◌, ℕ, ◌+◌, ◌<◌, ◌≤◌, Bool, true, false, cond, List, [], ◌∷◌, Option, Some, None, IfSome, IsSomeAnd, vec_items, vec_len, string_bytes, codes, String, ◌==◌, ◌≢◌, slice_index_or}
use Rattle.std.specs.declared.alloc.Global.{Global}
use Rattle.patches.specs.declared.refusal.Reason.{Reason}
use Rattle.patches.specs.declared.refusal.Reason.TheVariants.{ChunkData, ValueCount}
use Rattle.month_job.specs.declared.job.ChunkFiles.{ChunkFiles}
use Rattle.month_job.specs.declared.job.Draft.{Draft}
use Rattle.month_job.specs.declared.job.Job.{Job}
use Rattle.month_job.specs.declared.job.JobError.{JobError}
use Rattle.month_job.specs.declared.job.JobFault.{JobFault}
use Rattle.month_job.specs.declared.job.JobFault.TheVariants.{UnknownKey, NoValue, NotANumber, KeyTwice, KeyMissing, ChunksIncomplete, OutputIsInput, Memory}
use Rattle.month_job.specs.declared.job.JobForm.{JobForm}
use Rattle.month_job.specs.declared.job.JobForm.TheVariants.{Whole, Rows as SomeRows}
use Rattle.month_job.specs.declared.job.Key.{Key}
use Rattle.month_job.specs.declared.job.Key.TheVariants.{History, Indices, Width, Values, Rows, Offset, Chunks, ChunkWidth, Within, From, To, Lanes, Lookup, Output}

-- the word of a key
abbrev pub word_of : Key → List ℕ
word_of History = codes "history"
word_of Indices = codes "indices"
word_of Width = codes "width"
word_of Values = codes "values"
word_of Rows = codes "rows"
word_of Offset = codes "offset"
word_of Chunks = codes "chunks"
word_of ChunkWidth = codes "chunk-width"
word_of Within = codes "within"
word_of From = codes "from"
word_of To = codes "to"
word_of Lanes = codes "lanes"
word_of Lookup = codes "lookup"
word_of Output = codes "output"

-- whether every job may have a line with the key, and not only one for some rows
abbrev pub is_common : Key → Bool
is_common From = false
is_common To = false
is_common Lanes = false
is_common _ = true

-- whether a job of the form may have a line with the key
abbrev pub knows : JobForm → Key → Bool
knows Whole key = is_common key
knows SomeRows key = true

-- a job with this `from`, `to` and `lanes` is for the whole history
abbrev pub IsWhole : Option ℕ → Option ℕ → Option ℕ → Type 0
IsWhole from to lanes = (from ≡ None) × (to ≡ None) × (lanes ≡ None)

-- how often the line feed stands in bs
abbrev pub newlines : List ℕ → ℕ
newlines [] = 0
newlines (b ∷ bs) = cond (b == 10) 1 0 + newlines bs

-- the line is one of the first n
abbrev pub InText : ℕ → Option ℕ → Type 0
InText n line = IsSomeAnd line (λ l. (0 < l) × (l ≤ n))

-- at a fault of a line, the line is one of the first n; at a missing line there is none
abbrev pub LineFits : ℕ → JobFault → Option ℕ → Type 0
LineFits n UnknownKey line = InText n line
LineFits n (NoValue k) line = InText n line
LineFits n (NotANumber k) line = InText n line
LineFits n (KeyTwice k) line = InText n line
LineFits n (KeyMissing k) line = line ≡ None
LineFits n (ChunksIncomplete k) line = line ≡ None
LineFits n (OutputIsInput k) line = InText n line
LineFits n Memory line = InText n line

-- the refusal e is of the given line
pub record OfLine (line : ℕ) (e : JobError) : Type 0 where
  pub here : e.line ≡ Some line
  pub fits : (n : ℕ) → 0 < line → line ≤ n → LineFits n e.fault e.line

-- where the draft names an output, it does so on one of the first n lines
abbrev pub OutputPlaced : ℕ → Draft → Type 0
OutputPlaced n d = IfSome d.output (λ o. (0 < o.line) × (o.line ≤ n))

-- what an accepted job satisfies: there is a history, and the output is none of the files that are read
pub record Sound (job : Job) : Type 0 where
  pub some_history : 0 < vec_len job.history
  pub not_indices : string_bytes job.indices ≡ string_bytes job.output → ⊥
  pub not_values : string_bytes job.values ≡ string_bytes job.output → ⊥
  pub not_chunks : IfSome job.chunks (λ c. string_bytes c.file ≢ string_bytes job.output)
  pub not_history : (k : ℕ) (d : String Global) → k < vec_len job.history → string_bytes (slice_index_or (vec_items job.history) k d) ≢ string_bytes job.output

-- the chunk data's file, and where there is none this one
abbrev pub chunk_file : Option ChunkFiles → List ℕ → List ℕ
chunk_file None file = file
chunk_file (Some chunks) file = string_bytes chunks.file

-- the file that a refusal to load the corrections is about
abbrev pub blamed : Reason → Job → List ℕ
blamed ChunkData job = chunk_file job.chunks (string_bytes job.indices)
blamed ValueCount job = string_bytes job.values
blamed _ job = string_bytes job.indices
