-- Rising numbers are an ordered sequence.
use Rattle.std.specs.Prelude.{◌≡◌, ℕ, ◌<◌, length, slice_index_or}
use Rattle.std.proofs.Common.{arith}
use Rattle.std.proofs.lemmas.List.FromFn.{length-map-range_with_len, get_or-map-range_with_len}
use Rattle.search_sorted.specs.Order.{NeverDescends}
use Rattle.search_sorted.specs.Naturals.{natural, le_rank}
use Rattle.search_sorted.specs.Packed.{Ascending, listed}

pub length_listed : (f : ℕ → ℕ) (n : ℕ) → length (listed f n) ≡ n
length_listed f n = length-map-range_with_len f 0 n

pub get_d_listed : (f : ℕ → ℕ) (n i d : ℕ) → i < n → slice_index_or (listed f n) i d ≡ f i
get_d_listed f n i d h = get_or-map-range_with_len f 0 n i i d h (omega arith)

pub listed_rises : (f : ℕ → ℕ) (n : ℕ) → Ascending f n → NeverDescends natural (listed f n)
listed_rises f n up i j d lt within =
    let h : j < n = omega (arith, length_listed f n) in
    let l : i < n = omega arith in
    rw (get_d_listed f n i d l, get_d_listed f n j d h) (le_rank (f i) (f j) (omega (arith, up i j lt h)))
