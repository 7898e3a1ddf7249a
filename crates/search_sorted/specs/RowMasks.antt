-- Row masks in the bit order of Arrow's bitmaps: row r is bit r % 8, counted from the least significant, of byte r / 8.
use Rattle.std.specs.Prelude.{ℕ, zero, suc, ◌+◌, ◌/◌, ◌%◌, ◌^◌, Bool, cond, List, [], ◌∷◌, ◌++◌, ◌==◌, slice_index}

-- the bit of a row, 0 or 1
abbrev pub bit : List ℕ → ℕ → ℕ
bit bytes row = slice_index bytes (row / 8) / 2 ^ (row % 8) % 2

-- the bit of a row is 1
abbrev pub is_set : List ℕ → ℕ → Bool
is_set bytes row = bit bytes row == 1

-- how many rows below n are set
abbrev pub set_below : List ℕ → ℕ → ℕ
set_below bytes zero = 0
set_below bytes (suc n) = set_below bytes n + bit bytes n

-- the set rows below n, in rising order
abbrev pub set_rows_of : List ℕ → ℕ → List ℕ
set_rows_of bytes zero = []
set_rows_of bytes (suc n) = set_rows_of bytes n ++ cond (is_set bytes n) (n ∷ []) []

-- how many bytes hold the bits of n rows
abbrev pub bytes_for : ℕ → ℕ
bytes_for n = (n + 7) / 8
