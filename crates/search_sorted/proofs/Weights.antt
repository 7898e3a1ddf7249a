-- Numbers by their bytes' weights.
use Rattle.std.proofs.Common.{rules, ◌≡◌, ℕ, zero, suc, ◌+◌, ◌-◌, ◌*◌, ◌^◌, ◌<◌, ◌≤◌, List, ◌++◌, length, get_or, take, drop, sym, refl, ap, ◌∙◌, ap₂, inl, inr, arith, length-take, length-drop}
use Rattle.std.specs.Int.{w64, from_le_bytes, to_le_bytes}
use Rattle.std.proofs.lemmas.List.{places, get_or_append_left, get_or-append_right}
use Rattle.std.proofs.lemmas.Nat.{from_le_bytes-to_le_bytes_8}
use borrow.Rule.Slice.PartMut.{put_mid}
use Rattle.search_sorted.specs.Packed.{weighed}
use Rattle.search_sorted.specs.Writes.{Written}

-- equal bytes weigh the same
pub weighed_same : (a b : List ℕ) (x y w : ℕ) → ((i : ℕ) → i < w → get_or a (x + i) 0 ≡ get_or b (y + i) 0) → weighed a x w ≡ weighed b y w
weighed_same a b x y zero h = refl
weighed_same a b x y (suc w) h = ap₂ (λ m n. m + n * 256 ^ w) (weighed_same a b x y w (λ i l. h i (omega arith))) (h w (omega arith))

-- bytes 0 weigh nothing
weighed_zeros : (bytes : List ℕ) (w k : ℕ) → ((i : ℕ) → w ≤ i → get_or bytes i 0 ≡ 0) → weighed bytes 0 (w + k) ≡ weighed bytes 0 w
weighed_zeros bytes w zero h = let e : w + 0 ≡ w = omega arith in ap (weighed bytes 0) e
weighed_zeros bytes w (suc k) h =
    let e : w + suc k ≡ suc (w + k) = omega arith in
    let z : get_or bytes (0 + (w + k)) 0 ≡ 0 = h (0 + (w + k)) (omega arith) in
    ap (weighed bytes 0) e ∙ (let rest = weighed_zeros bytes w k h in rw z (omega arith))

-- eight bytes by their weights
weighed_eight : (bytes : List ℕ) → from_le_bytes w64 bytes ≡ weighed bytes 0 8
weighed_eight bytes = omega arith

-- the bytes of a number, and bytes 0 after them
pub padded : (bytes part zeros : List ℕ) (from w k : ℕ) → w ≤ 8 → k ≡ w → from + w ≤ length bytes → part ≡ take k (drop from bytes) → ((i : ℕ) → get_or zeros i 0 ≡ 0) → from_le_bytes w64 (part ++ zeros) ≡ weighed bytes from w
padded bytes part zeros from w k few same within is none =
    let long : length part ≡ w = ap length is ∙ simp (length-take, length-drop) (omega arith) in
    let end : w + (8 - w) ≡ 8 = omega arith in
    let past : (i : ℕ) → w ≤ i → get_or (part ++ zeros) i 0 ≡ 0 = λ i h. get_or-append_right part zeros w i 0 long h ∙ none (i - w) in
    let near : (i : ℕ) → i < w → get_or (part ++ zeros) (0 + i) 0 ≡ get_or bytes (from + i) 0 = λ i h. let z : 0 + i ≡ i = omega arith in rw z (get_or_append_left part zeros 0 i (omega arith) ∙ ap (λ l. get_or l i 0) is ∙ search (rules, places)) in
    weighed_eight (part ++ zeros)
    ∙ ap (weighed (part ++ zeros) 0) (sym end)
    ∙ weighed_zeros (part ++ zeros) w (8 - w) past
    ∙ weighed_same (part ++ zeros) bytes 0 from w near

-- eight bytes of a number in the place of others
pub written : (before eight : List ℕ) (place number k : ℕ) → k ≡ 8 → 8 * place + 8 ≤ length before → number < 2 ^ 64 → eight ≡ to_le_bytes w64 number → Written before (put_mid (8 * place) k before eight) place number
written before eight place number k same room fits is =
    let long : length eight ≡ 8 = ap length is in
    record {
      room = room;
      here =
          weighed_same (put_mid (8 * place) k before eight) eight (8 * place) 0 8 (λ i h. search (rules, places))
          ∙ sym (weighed_eight eight)
          ∙ ap (from_le_bytes w64) is
          ∙ from_le_bytes-to_le_bytes_8 number fits;
      others = λ j d h. elim h [ inl l ↦ search (rules, places) | inr l ↦ search (rules, places) ];
    }
