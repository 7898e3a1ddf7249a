-- Counts of set rows by the ones of a byte.
use Rattle.std.proofs.Common.{◌≡◌, ℕ, zero, suc, ◌+◌, ◌-◌, ◌*◌, ◌/◌, ◌%◌, ◌^◌, ◌<◌, ◌≤◌, sum_by, List, length, take, get_or, Fits, w8, sym, refl, ap, ◌∙◌, ap₂, arith}
use lib.Bits.{bit_and}
use lib.Count.{ones, ones_in, ones_cat}
use Rattle.std.proofs.lemmas.Nat.{pow_pos, mod-pow-add, mod_below, and_mask, one_shl}
use Rattle.std.proofs.lemmas.List.Sums.{sum_by_more}
use Rattle.search_sorted.specs.RowMasks.{bit, set_below}

ones_digit : (y : ℕ) → y < 2 → ones y ≡ y
unfolding ones ones_in
ones_digit zero h = refl
ones_digit (suc zero) h = refl
ones_digit (suc (suc n)) h = absurd (omega arith)

-- one digit more
ones_more : (x k : ℕ) → ones (x % 2 ^ suc k) ≡ x / 2 ^ k % 2 + ones (x % 2 ^ k)
ones_more x k =
    let e : suc k ≡ 1 + k = omega arith in
    ap (λ j. ones (x % 2 ^ j)) e
    ∙ ap ones (mod-pow-add x 1 k)
    ∙ ones_cat k (x / 2 ^ k % 2) (x % 2 ^ k) (mod_below x (2 ^ k) (pow_pos k))
    ∙ ap (λ d. d + ones (x % 2 ^ k)) (ones_digit (x / 2 ^ k % 2) (omega arith))

bit_in : (bytes : List ℕ) (q k : ℕ) → k < 8 → bit bytes (8 * q + k) ≡ get_or bytes q 0 / 2 ^ k % 2
bit_in bytes q k h =
    let d : (8 * q + k) / 8 ≡ q = omega arith in
    let m : (8 * q + k) % 8 ≡ k = omega arith in
    ap₂ (λ (i j : ℕ). get_or bytes i 0 / 2 ^ j % 2) d m

none_of : (x : ℕ) → ones (x % 2 ^ 0) ≡ 0
unfolding ones ones_in
none_of x = let e : x % 1 ≡ 0 = omega arith in ap ones e

-- the first k rows of a byte
pub below_in : (bytes : List ℕ) (q k : ℕ) → k ≤ 8
    → set_below bytes (8 * q) + ones (get_or bytes q 0 % 2 ^ k) ≡ set_below bytes (8 * q + k)
below_in bytes q zero h =
    let e : 8 * q ≡ 8 * q + 0 = omega arith in
    let z : set_below bytes (8 * q) ≡ set_below bytes (8 * q + 0) = ap (set_below bytes) e in
    omega (arith, none_of (get_or bytes q 0), z)
below_in bytes q (suc k) h =
    let e : suc (8 * q + k) ≡ 8 * q + suc k = omega arith in
    let s : set_below bytes (8 * q + k) + bit bytes (8 * q + k) ≡ set_below bytes (8 * q + suc k) = ap (set_below bytes) e in
    omega (arith, s, below_in bytes q k (omega arith), ones_more (get_or bytes q 0) k, bit_in bytes q k (omega arith))

-- a whole byte
pub below_byte : (bytes : List ℕ) (q b : ℕ) → b ≡ get_or bytes q 0 → b < 256
    → set_below bytes (8 * q) + ones b ≡ set_below bytes (8 * (q + 1))
below_byte bytes q b e h =
    let w : get_or bytes q 0 % 2 ^ 8 ≡ b = omega arith in
    let d : 8 * q + 8 ≡ 8 * (q + 1) = omega arith in
    ap (λ x. set_below bytes (8 * q) + ones x) (sym w) ∙ below_in bytes q 8 (omega arith) ∙ ap (set_below bytes) d

-- the ones of the first n bytes
pub ones_below : (bytes : List ℕ) (n : ℕ) → n ≤ length bytes → ((i : ℕ) → Fits w8 (get_or bytes i 0)) → sum_by ones (take n bytes) ≡ set_below bytes (8 * n)
ones_below bytes zero h small = refl
ones_below bytes (suc n) h small =
    let e : suc n ≡ n + 1 = omega arith in
    let more : sum_by ones (take (n + 1) bytes) ≡ sum_by ones (take n bytes) + ones (get_or bytes n 0) = sum_by_more ones bytes n 0 (omega arith) in
    rw e (omega (arith, more, ones_below bytes n (omega arith) small, below_byte bytes n (get_or bytes n 0) refl (small n).fits))

-- the rows before a row in its byte, by a mask of the bits below its own
pub below_masked : (bytes : List ℕ) (row b : ℕ) → b ≡ get_or bytes (row / 8) 0
    → set_below bytes (8 * (row / 8)) + ones (bit_and b ((1 * 2 ^ (row % 8)) % 256 - 1)) ≡ set_below bytes row
below_masked bytes row b e =
    let k = row % 8 in
    let d : 8 * (row / 8) + k ≡ row = omega arith in
    ap (λ p. set_below bytes (8 * (row / 8)) + ones (bit_and b (p - 1))) (one_shl k 8 (omega arith))
    ∙ ap (λ x. set_below bytes (8 * (row / 8)) + ones x) (and_mask b k ∙ ap (λ x. x % 2 ^ k) e)
    ∙ below_in bytes (row / 8) k (omega arith)
    ∙ ap (set_below bytes) d
