-- Numbers of eight bytes that stand in two lists. Assumes nothing.
use Rattle.std.proofs.Common.{◌≡◌, ℕ, ◌+◌, ◌<◌, List, get_or, add-zero, arith}
use Rattle.month_job.specs.Cells.{word}

-- where the eight bytes are the same, the numbers are
pub word_same : (xs ys : List ℕ) (p q : ℕ) → ((i : ℕ) → i < 8 → get_or xs (p + i) 0 ≡ get_or ys (q + i) 0) → word xs p ≡ word ys q
word_same xs ys p q same =
    omega
    (arith, simp add-zero at (same 0 (omega arith)), same 1 (omega arith), same 2 (omega arith), same 3 (omega arith), same 4 (omega arith), same 5 (omega arith), same 6 (omega arith), same 7 (omega arith))
