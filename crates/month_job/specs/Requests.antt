-- What the words of a command line ask for. Assumes nothing.
use Rattle.std.specs.Prelude.{◌≡◌, ℕ, ◌<◌, Bool, true, false, List, length, get_or, string_bytes, codes, String, ◌≢◌, slice_index_or}
use Rattle.std.specs.declared.alloc.Global.{Global}

-- the words of a command line, the first of which is the program's name
abbrev pub Words : Type 0
Words = List (String Global)

-- the byte of `-`
abbrev pub dash : ℕ
dash = 45

-- the word at a place is this text
abbrev pub WordIs : Words → ℕ → List ℕ → Type 0
WordIs words place text = (d : String Global) → string_bytes (slice_index_or words place d) ≡ text

-- what follows the job's file: nothing, or `--all` where every corrected cell is shown
abbrev pub Follows : Words → Bool → Type 0
Follows words false = length words ≡ 2
Follows words true = (length words ≡ 3) × WordIs words 2 (codes "--all")

-- the words ask for the job of a file, which begins with no dash, and for every corrected cell or not
pub record Asks (words : Words) (file : List ℕ) (all : Bool) : Type 0 where
  pub named : WordIs words 1 file
  pub no_option : get_or file 0 0 ≢ dash
  pub follows : Follows words all

-- there are words after the program's name, and they ask for no job
pub record AsksNothingKnown (words : Words) : Type 0 where
  pub some_words : 1 < length words
  pub no_job : (file : List ℕ) (all : Bool) → Asks words file all → ⊥
