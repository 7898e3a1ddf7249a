-- What a search answers.
use Rattle.std.specs.Prelude.{◌≡◌, ℕ, ◌+◌, ◌<◌, ◌≤◌, Bool, true, false, List, length, Some, None, Decides, Option}
use Rattle.std.specs.declared.cmp.Ordering.TheVariants.{Equal}
use Rattle.std.specs.Ordering.{is_lt, is_le, is_some_and}
use Rattle.search_sorted.specs.declared.search.SearchResult.{SearchResult}
use Rattle.search_sorted.specs.declared.search.SearchResult.TheVariants.{Found, NotFound}
use Rattle.search_sorted.specs.declared.search.SearchSortedSide.{SearchSortedSide}
use Rattle.search_sorted.specs.declared.search.SearchSortedSide.TheVariants.{Left, Right}
use Rattle.search_sorted.specs.Order.{TotalOrder, compare_at}

-- The partition point of a test over the places below a length, as Rust documents `partition_point`:
-- the test holds at each place before it, and at none from there on.
pub record PartitionPoint (test : ℕ → Bool) (len place : ℕ) : Type 0 where
  pub within : place ≤ len
  pub before : (k : ℕ) → k < place → test k ≡ true
  pub after : (k : ℕ) → place ≤ k → k < len → test k ≡ false

-- the place that an answer carries
abbrev pub place_of : SearchResult → ℕ
place_of (Found i) = i
place_of (NotFound i) = i

-- the place of a Found answer
abbrev pub found_of : SearchResult → Option ℕ
found_of (Found i) = Some i
found_of (NotFound i) = None

-- whether an answer is a Found one
abbrev pub is_found : SearchResult → Bool
is_found (Found i) = true
is_found (NotFound i) = false

module _ {K : Type 0} (order : TotalOrder K) (keys : List K) (needle : K) where
  -- the key at a place is smaller than the needle
  abbrev pub smaller : ℕ → Bool
  smaller place = is_some_and is_lt (compare_at order keys place needle)

  -- the key at a place is not larger than the needle
  abbrev pub not_larger : ℕ → Bool
  not_larger place = is_some_and is_le (compare_at order keys place needle)

  -- the key at a place equals the needle
  abbrev pub EqualAt : ℕ → Type 0
  EqualAt place = compare_at order keys place needle ≡ Some Equal

  -- what is asked of the keys on a side
  abbrev pub side_test : SearchSortedSide → ℕ → Bool
  side_test Left = smaller
  side_test Right = not_larger

  -- a place is the partition point of what is asked on a side
  abbrev pub SidePoint : SearchSortedSide → ℕ → Type 0
  SidePoint side = PartitionPoint (side_test side) (length keys)

  -- Found is the first equal place, or on the right the place after the last equal one; where no key is equal,
  -- NotFound is the number of smaller keys.
  abbrev pub Answers : SearchSortedSide → SearchResult → Type 0
  Answers Left (Found i) = EqualAt i × SidePoint Left i
  Answers Right (Found i) = (j : ℕ) × (j + 1 ≡ i) × EqualAt j × SidePoint Right i
  Answers Left (NotFound i) = ((k : ℕ) → EqualAt k → ⊥) × SidePoint Left i
  Answers Right (NotFound i) = ((k : ℕ) → EqualAt k → ⊥) × SidePoint Left i

  -- an answer is Found exactly where some key equals the needle
  abbrev pub FindsEqual : SearchResult → Type 0
  FindsEqual r = Decides (is_found r) ((k : ℕ) × EqualAt k)
