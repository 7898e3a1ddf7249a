use Rattle.std.proofs.Common.{◌≡◌, ℕ, ◌+◌, ◌/◌, ap, inl, inr, arith}
use Rattle.std.proofs.lemmas.Bool.{cases_lt}
use Rattle.patches.specs.Chunks.{count_of_chunks}
use Rattle.lanes.specs.LaneMeaning.{begin_of_chunk}
use Rattle.lanes.proofs.LaneAnswers.{row_in, chunk_last, next_none, next_later}
use Rattle.lanes.proofs.lanes.sets.LanesPatchSet.next.Goals as goal

pub returns-in-Some : goal.returns-in-Some
returns-in-Some g c = let w = c.in-Some.ensures in (omega (arith, w.0), w.1, (λ k a b. w.2 k (omega arith) b))

pub returns-then-place-self : goal.returns-then-place-self
returns-then-place-self g c =
    next_none c.args.self.now c.args.r c.if-r-self.false c.in_default.ensures (omega (arith, c.chunk_begin-place.ensures, c.if-place-self.true))

pub chunk_of-later-requires : goal.chunk_of-later-requires
chunk_of-later-requires g c =
    let s = c.args.self.now in
    let d : ℕ = c.args.r / 1024 + 1 in
    let within = row_in s c.args.r c.if-r-self.false in
    record {
      first = elim (cases_lt d (count_of_chunks 0 s.places.rows)) [
        | inl h ↦ h
        | inr h ↦
            let e : d ≡ count_of_chunks 0 s.places.rows = omega (arith, within) in
            absurd (omega (arith, c.chunk_begin-place.ensures, ap (begin_of_chunk s) e, chunk_last s, c.if-place-self.false))
      ];
      begun = omega (arith, c.chunk_begin-place.ensures);
      within = c.if-place-self.false;
    }

pub returns : goal.returns
returns g c =
    let s = c.args.self.now in
    let d = c.chunk_of-later.result in
    let there = c.chunk_of-later.ensures in
    next_later s c.args.r c.if-r-self.false c.in_default.ensures c.chunk_begin-place.result d c.chunk_begin-place.ensures there.there.0 there.there.1 there.holds.0 there.holds.1 c.next_in-2.result c.next_in-2.ensures
