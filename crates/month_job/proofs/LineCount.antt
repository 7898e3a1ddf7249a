-- The number of a line within its text. Assumes nothing.
use Rattle.std.proofs.Common.{◌≡◌, ℕ, ◌+◌, ◌-◌, ◌<◌, ◌≤◌, true, eqb, List, [], ◌∷◌, ◌++◌, length, take, drop, ap, ◌∙◌, arith, length-drop, take-append-drop, eqb-true}
use lib.Utf8.{encode}
use Rattle.std.specs.Str.Lines.{IsFirstLine}
use Rattle.month_job.specs.Jobs.{newlines}

-- after number lines of text, rest is still to be read
pub record Ahead (text rest : List ℕ) (number : ℕ) : Type 0 where
  pub short : number + length rest ≤ length text
  pub before : 0 < length rest → number + newlines rest ≤ newlines text
  pub most : number ≤ newlines text + 1

newlines_append : (xs ys : List ℕ) → newlines (xs ++ ys) ≡ newlines xs + newlines ys
newlines_append [] ys = omega arith
newlines_append (x ∷ xs) ys = omega (arith, newlines_append xs ys)

newlines_cut : (n : ℕ) (w : List ℕ) → newlines (drop n w) ≤ newlines w
newlines_cut n w = omega (arith, newlines_append (take n w) (drop n w), ap newlines (take-append-drop n w))

newlines_first : (c : ℕ) (bs rest : List ℕ) → eqb c 10 ≡ true → bs ≡ encode c ++ rest → newlines bs ≡ 1 + newlines rest
unfolding encode
newlines_first c bs rest is e = ap newlines e ∙ ap (λ d. newlines (encode d ++ rest)) (eqb-true c 10 is)

pub ahead_more :
    (text w x rest : List ℕ) (number next : ℕ)
    → length rest < length w
    → IsFirstLine w x rest
    → next ≡ number + 1
    → Ahead text w number
    → Ahead text rest next
ahead_more text w x rest number next shorter h is old =
    let n = h.0 in
    let long : length (drop n w) ≡ length w - n = length-drop n w in
    let less : 0 < length rest → newlines rest + 1 ≤ newlines w =
    λ some.
    let open_at : 0 < length (drop n w) = omega (arith, h.3) in
    let first = h.2 open_at in
    omega (arith, newlines_first first.0 (drop n w) rest first.1 first.2, newlines_cut n w) in
    record {
      short = omega (arith, old.short);
      before = λ some. omega (arith, less some, old.before (omega arith));
      most = omega (arith, old.before (omega arith));
    }

pub ahead_none : (text rest : List ℕ) (number : ℕ) → rest ≡ text → number ≡ 0 → Ahead text rest number
ahead_none text rest number e none = record { short = omega (arith, ap length e); before = λ some. omega (arith, ap newlines e); most = omega arith }
