-- Where packed numbers lie among their bytes.
use Rattle.std.proofs.Common.{◌≡◌, ℕ, ◌+◌, ◌-◌, ◌*◌, ◌/◌, ◌<◌, ◌≤◌, List, length, take, drop, sym, ap, ◌∙◌, inl, inr, mul_comm, mul-le-mul_left, mul-one, mul-add, div-mul-le_self, arith, length-drop, length-take, get_or-drop, get_or-take}
use Rattle.std.proofs.lemmas.Bool.{cases_lt}
use native.Mathlib.Nat.{mul-sub, mul-div_cancel_left}
use Rattle.search_sorted.specs.Packed.{weighed, number_at, Ascending}
use Rattle.search_sorted.proofs.Weights.{weighed_same}

-- as many bytes as some of the whole numbers have
pub some_bytes : (w n len : ℕ) → n ≤ len / w → w * n ≤ len
some_bytes w n len le = omega (arith, mul-le-mul_left w le, mul_comm w (len / w), div-mul-le_self len w)

-- the bytes of a part weigh what they weigh in the whole
pub weighed_part : (bytes : List ℕ) (k m x w : ℕ) → x + w ≤ m → weighed (take m (drop k bytes)) x w ≡ weighed bytes (k + x) w
weighed_part bytes k m x w h =
    weighed_same (take m (drop k bytes)) bytes x (k + x) w
    (λ i l. let e : k + (x + i) ≡ k + x + i = omega arith in let lt : x + i < m = omega arith in rw (get_or-take, get_or-drop, e))

module _ (bytes : List ℕ) (w from to : ℕ) where
  -- the bytes of the numbers from one place up to another
  abbrev pub cut : List ℕ
  cut = take (w * to - w * from) (drop (w * from) bytes)

  pub number_cut : (i : ℕ) → i < to - from → number_at cut w i ≡ number_at bytes w (from + i)
  number_cut i h =
      let le : i + 1 ≤ to - from = omega arith in
      let fits : w * i + w ≤ w * to - w * from = omega (arith, mul-le-mul_left w le, mul-add w i 1, mul-one w, mul-sub w to from) in
      weighed_part bytes (w * from) (w * to - w * from) (w * i) w fits ∙ ap (λ b. weighed bytes b w) (sym (mul-add w from i))

  pub count_cut : 0 < w → to ≤ length bytes / w → length cut / w ≡ to - from
  count_cut pos le =
      let all : w * to ≤ length bytes = some_bytes w to (length bytes) le in
      let long : length cut ≡ w * (to - from) = simp (length-take, length-drop) (omega (arith, mul-sub w to from)) in
      ap (λ n. n / w) long ∙ mul-div_cancel_left (to - from) pos

-- numbers that rise up to a place rise on where the next one is above the last of them
pub rises_on : (f : ℕ → ℕ) (place before : ℕ) → 0 < place → before ≡ f (place - 1) → Ascending f place → before < f place → Ascending f (place + 1)
rises_on f place before some is up above i j lt within =
    elim (cases_lt j place) [
      | inl early ↦ up i j lt early
      | inr late ↦ let e : j ≡ place = omega arith in rw e (elim (cases_lt i (place - 1)) [
        | inl less ↦ omega (arith, up i (place - 1) less (omega arith), is)
        | inr last ↦ let d : i ≡ place - 1 = omega arith in rw d (omega (arith, is))
      ])
    ]
