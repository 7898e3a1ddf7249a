-- What lanes mean as a patch set, and what the parts of its questions answer.
use Rattle.std.specs.Prelude.{◌≡◌, ℕ, ◌+◌, ◌-◌, ◌*◌, ◌%◌, ◌<◌, ◌≤◌, true, List, length, take, drop, filter, MatchOption, Contains, EachIndex, nat_le, is_some, Some, None, Option, nat_lt, slice_index}
use Rattle.std.proofs.lemmas.Bool.{cond-false, le-ltb}
use Rattle.patches.specs.Assignments.{Patch, Assignment, NoneFrom}
use Rattle.lanes.specs.declared.lanes.Lanes.{Lanes}
use Rattle.lanes.specs.LaneRules.{lane_of, begin_of}
use Rattle.lanes.specs.LaneSets.{in_lane, lane_patch}

-- the patch of a row
abbrev pub patch_in : {V : Type 0} → Lanes V → ℕ → Patch V
patch_in l = lane_patch l.places.rows l.places.lanes.number l.places.offsets.now l.places.entries.now l.values.now

-- the rows, each with its patch
abbrev pub lane_meaning : {V : Type 0} → Lanes V → Assignment V
lane_meaning l = record {
  rows = l.places.rows;
  patch = patch_in l;
  few = l.places.few;
  past = λ r h. cond-false (nat_lt r l.places.rows) (in_lane l.places.offsets.now l.places.entries.now l.values.now (lane_of l.places.lanes.number r) (r % 1024)) None (le-ltb r l.places.rows h);
}

-- where the entries of a chunk begin; they end where those of the next chunk begin
abbrev pub begin_of_chunk : {V : Type 0} → Lanes V → ℕ → ℕ
begin_of_chunk l chunk = begin_of l.places.offsets.now l.places.entries.now (chunk * l.places.lanes.number)

-- the entries of a chunk
abbrev pub entries_of_chunk : {V : Type 0} → Lanes V → ℕ → List ℕ
entries_of_chunk l chunk = take (begin_of_chunk l (chunk + 1) - begin_of_chunk l chunk) (drop (begin_of_chunk l chunk) l.places.entries.now)

-- place j is one of the lane, and its entry is this one
abbrev pub IsAt : List ℕ → List ℕ → ℕ → ℕ → ℕ → Type 0
IsAt offsets entries lane entry j =
    (begin_of offsets entries lane ≤ j) × (j < begin_of offsets entries (lane + 1)) × (slice_index entries j ≡ entry)

-- the entries that are not below a bound
abbrev pub entries_from : ℕ → List ℕ → List ℕ
entries_from bound entries = filter (λ entry. nat_le bound entry) entries

-- the least of the entries that are not below a bound, or none where there is no such entry
abbrev pub Least : List ℕ → ℕ → Option ℕ → Type 0
Least entries bound r =
    MatchOption r (length (entries_from bound entries) ≡ 0) (λ least. Contains (entries_from bound entries) least × EachIndex (entries_from bound entries) (λ k. least ≤ slice_index (entries_from bound entries) k))

-- the least row from one up to below another that has a patch, or none where no such row has one
abbrev pub NextUnder : {V : Type 0} → (ℕ → Patch V) → ℕ → ℕ → Option ℕ → Type 0
NextUnder patch r end None = NoneFrom patch r end
NextUnder patch r end (Some q) = (r ≤ q) × (is_some (patch q) ≡ true) × NoneFrom patch r q
