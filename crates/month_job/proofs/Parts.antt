-- Parts of eight bytes, and the cells that they are. Assumes nothing.
use Rattle.std.proofs.Common.{◌≡◌, ℕ, zero, suc, ◌*◌, ◌<◌, List, ℤ, get_or, take, drop, ap, ◌∙◌, zero-add, arith, w64, to_z, rules}
use Rattle.std.proofs.lemmas.List.{get_or-take, get_or-drop, drop-drop}
use Rattle.std.specs.Int.{from_le_bytes}
use Rattle.std.specs.Simd.{first_chunks}
use Rattle.month_job.specs.Cells.{word, cell}
use Rattle.month_job.proofs.Words.{word_same}

-- the part at a place
part_at : {X : Type 0} (size n : ℕ) (xs : List X) (k : ℕ) (d : List X) → k < n → get_or (first_chunks size n xs) k d ≡ take size (drop (size * k) xs)
part_at size zero xs k d h = absurd (omega arith)
part_at size (suc n) xs zero d h = search rules
part_at size (suc n) xs (suc k) d h =
    part_at size n (drop size xs) k d (omega arith)
    ∙ ap (take size) (drop-drop (size * k) size xs ∙ ap (λ m. drop m xs) (omega arith))

word_at : (xs : List ℕ) (p : ℕ) → word (take 8 (drop p xs)) 0 ≡ word xs p
word_at xs p = word_same (take 8 (drop p xs)) xs 0 p (λ i h. rw zero-add (get_or-take 8 (drop p xs) i 0 h ∙ get_or-drop p xs i 0))

-- the number of a part is the cell at its place
pub cell_of_part :
    (n : ℕ) (xs : List ℕ) (parts : List (List ℕ)) (k : ℕ) (d : List ℕ)
    → parts ≡ first_chunks 8 n xs
    → k < n
    → to_z w64 (from_le_bytes w64 (get_or parts k d)) ≡ cell xs k
unfolding cell
cell_of_part n xs parts k d are h =
    ap (λ part. to_z w64 (from_le_bytes w64 part)) (ap (λ l. get_or l k d) are ∙ part_at 8 n xs k d h) ∙ ap (to_z w64) (word_at xs (8 * k))

-- the same of a number that was read from an item, where that item is the part at its place
pub cell_of_item :
    (items : List (List ℕ)) {number : ℤ} (n : ℕ) (xs : List ℕ) (parts : List (List ℕ)) (k : ℕ) (d : List ℕ)
    → number ≡ to_z w64 (from_le_bytes w64 (get_or items k d))
    → get_or items k d ≡ get_or parts k d
    → parts ≡ first_chunks 8 n xs
    → k < n
    → number ≡ cell xs k
cell_of_item items n xs parts k d reads is are h =
    reads ∙ ap (λ part. to_z w64 (from_le_bytes w64 part)) is ∙ cell_of_part n xs parts k d are h
