-- Packed numbers: unsigned, little-endian, of 1, 2, 4 or 8 bytes each, one after another (Arrow's layout).
use Rattle.std.specs.Prelude.{ℕ, zero, suc, ◌+◌, ◌*◌, ◌^◌, ◌<◌, List, map, slice_index}
use Rattle.std.specs.List.{range_with_len}
use Rattle.search_sorted.specs.declared.width.Width.{Width}
use Rattle.search_sorted.specs.declared.width.Width.TheVariants.{One, Two, Four, Eight}

-- how many bytes a number has
abbrev pub size : Width → ℕ
size One = 1
size Two = 2
size Four = 4
size Eight = 8

-- the number of the w bytes from a place on: the byte k places further weighs 256 to the k
abbrev pub weighed : List ℕ → ℕ → ℕ → ℕ
weighed bytes from zero = 0
weighed bytes from (suc w) = weighed bytes from w + slice_index bytes (from + w) * 256 ^ w

-- the number at a place, where each number has w bytes
abbrev pub number_at : List ℕ → ℕ → ℕ → ℕ
number_at bytes w place = weighed bytes (w * place) w

-- each of the first n numbers is above the one before
abbrev pub Ascending : (ℕ → ℕ) → ℕ → Type 0
Ascending number n = (i j : ℕ) → i < j → j < n → number i < number j

-- the first n numbers as a list
abbrev pub listed : (ℕ → ℕ) → ℕ → List ℕ
listed number n = map number (range_with_len 0 n)
