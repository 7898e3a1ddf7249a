-- One cell more at the end of a list of bytes. Assumes nothing.
use Rattle.std.proofs.Common.{◌≡◌, ℕ, ◌+◌, ◌*◌, ◌^◌, ◌<◌, List, ◌++◌, length, get_or, ℤ, pos, sym, ap, ◌∙◌, zero-add, arith, w64, SFits, to_z, of_z, below_more}
use Rattle.std.proofs.lemmas.List.{get_or_append_left, get_or-append-add}
use Rattle.std.proofs.lemmas.Int.{to_z-of_z}
use Rattle.std.proofs.Math.Facts.{Fits-of_z}
use Rattle.std.proofs.lemmas.Nat.{from_le_bytes-to_le_bytes_8}
use Rattle.std.specs.Int.{to_le_bytes}
use Rattle.month_job.specs.Cells.{word, cell, CellsFrom}
use Rattle.month_job.proofs.Words.{word_same}

cell_kept :
    (old new : List ℕ) (n k : ℕ) → ((j : ℕ) → j < 8 * n → get_or new j 0 ≡ get_or old j 0) → k < n → cell new k ≡ cell old k
unfolding cell
cell_kept old new n k same h = ap (to_z w64) (word_same new old (8 * k) (8 * k) (λ i lt. same (8 * k + i) (omega arith)))

word_after : (old ys : List ℕ) → word (old ++ ys) (length old) ≡ word ys 0
word_after old ys = word_same (old ++ ys) ys (length old) 0 (λ i lt. rw zero-add (get_or-append-add old ys i 0))

cell_put : (old : List ℕ) (n : ℕ) (z : ℤ) → SFits w64 z → length old ≡ 8 * n → z ≡ cell (old ++ to_le_bytes w64 (of_z w64 z)) n
unfolding cell
cell_put old n z f e =
    let h : of_z w64 z < 2 ^ 64 = omega (arith, Fits-of_z f) in
    sym
    (ap (λ p. to_z w64 (word (old ++ to_le_bytes w64 (of_z w64 z)) p)) (sym e) ∙ (ap (to_z w64) (word_after old (to_le_bytes w64 (of_z w64 z)) ∙ from_le_bytes-to_le_bytes_8 (of_z w64 z) h) ∙ to_z-of_z w64 z f))

pub encoded_more :
    (old new : List ℕ) (n : ℕ) (cs : List ℤ) (z : ℤ)
    → SFits w64 z
    → length old ≡ 8 * n
    → new ≡ old ++ to_le_bytes w64 (of_z w64 z)
    → get_or cs n (pos 0) ≡ z
    → CellsFrom 0 n cs old
    → CellsFrom 0 (n + 1) cs new
encoded_more old new n cs z f e is at before =
    below_more
    (λ k. get_or cs (0 + k) (pos 0) ≡ cell new k)
    n
    (λ k lt.
    before k lt
    ∙ sym (cell_kept old new n k (λ j low. ap (λ l. get_or l j 0) is ∙ get_or_append_left old (to_le_bytes w64 (of_z w64 z)) 0 j (omega arith)) lt))
    (ap (λ k. get_or cs k (pos 0)) (zero-add n) ∙ (at ∙ (cell_put old n z f e ∙ sym (ap (λ l. cell l n) is))))
