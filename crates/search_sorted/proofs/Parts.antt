-- A part of packed numbers.
use Rattle.std.proofs.Common.{◌≡◌, ℕ, ◌+◌, ◌-◌, ◌/◌, ◌<◌, ◌≤◌, min, length, ap, ◌∙◌, arith}
use Rattle.search_sorted.specs.declared.width.Width.{Width}
use Rattle.search_sorted.specs.declared.width.Width.TheVariants.{One, Two, Four, Eight}
use Rattle.search_sorted.specs.declared.packed.Packed.{Packed}
use Rattle.search_sorted.specs.Packed.{size}
use Rattle.search_sorted.specs.Numbers.{count, number, PartOf}
use Rattle.search_sorted.proofs.Places.{cut, number_cut, count_cut}

pub size_pos : (w : Width) → 0 < size w
size_pos One = omega arith
size_pos Two = omega arith
size_pos Four = omega arith
size_pos Eight = omega arith

-- the numbers between two places, from their bytes
pub part_of : (p q : Packed) (w lo hi from to : ℕ) → w ≡ size p.width → q.width ≡ p.width → q.bytes.now ≡ cut p.bytes.now w lo hi → hi ≡ min to (count p) → lo ≡ min from hi → PartOf p q from to
part_of p q w lo hi from to is wide bytes top low =
    let pos : 0 < w = rw is (size_pos p.width) in
    let within : hi ≤ length p.bytes.now / w = rw is (omega arith) in
    let n : count q ≡ hi - lo = rw (wide, bytes, ← is) (count_cut p.bytes.now w lo hi pos within) in
    record {
      counted = n ∙ omega arith;
      each = λ i h.
          let here : i < hi - lo = omega (arith, n) in
          let same : lo ≡ from = omega arith in
          let e : number q i ≡ number p (lo + i) = rw (wide, bytes, ← is) (number_cut p.bytes.now w lo hi i here) in
          e ∙ ap (λ k. number p (k + i)) same;
    }
