-- Keys in a list under a total order.
use Rattle.std.specs.Prelude.{◌≡◌, ℕ, zero, suc, ◌<◌, true, List, [], ◌∷◌, length, Some, None, Option, slice_index_or}
use Rattle.std.specs.declared.cmp.Ordering.TheVariants.{Equal}
use Rattle.std.specs.declared.cmp.Ordering.{Ordering}
use Rattle.std.specs.Ordering.{is_le, ordering_reverse}

-- A total order, told by a comparison. Any two keys compare; a key equals itself; two keys the other way round
-- give the answer turned round, so that keys of which neither is smaller are equal as the order sees it.
pub record TotalOrder (K : Type 0) : Type 0 where
  pub compare : K → K → Ordering
  pub reflexive : (x : K) → compare x x ≡ Equal
  pub flipped : (x y : K) → compare y x ≡ ordering_reverse (compare x y)
  pub transitive : (x y z : K) → is_le (compare x y) ≡ true → is_le (compare y z) ≡ true → is_le (compare x z) ≡ true

-- no key is larger than a later one
abbrev pub NeverDescends : {K : Type 0} → TotalOrder K → List K → Type 0
NeverDescends {K} order keys = (i j : ℕ) (d : K) → i < j → j < length keys → is_le (order.compare (slice_index_or keys i d) (slice_index_or keys j d)) ≡ true

-- how the key at a place compares with a needle, or none past the end
abbrev pub compare_at : {K : Type 0} → TotalOrder K → List K → ℕ → K → Option Ordering
compare_at order [] place needle = None
compare_at order (key ∷ keys) zero needle = Some (order.compare key needle)
compare_at order (key ∷ keys) (suc place) needle = compare_at order keys place needle
