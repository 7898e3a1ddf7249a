-- Rising indices between two bounds, and in a part of the indices.
use Rattle.std.proofs.Common.{◌≡◌, ℕ, zero, suc, ◌+◌, ◌-◌, ◌<◌, ◌≤◌, inl, inr, arith}
use Rattle.std.proofs.lemmas.Bool.{cases_lt}
use Rattle.search_sorted.specs.Packed.{Ascending}
use Rattle.patches.specs.Indices.{count_under}
use Rattle.patches.proofs.Unders.{split_under, under_split}

module _ (f : ℕ → ℕ) (n : ℕ) (up : Ascending f n) where
  -- rising indices are at least as far apart as their places
  pub climbs_from : (lo i : ℕ) → lo + i < n → f lo + i ≤ f (lo + i)
  climbs_from lo zero h = let e : lo + 0 ≡ lo = omega arith in rw e (omega arith)
  climbs_from lo (suc i) h =
      let e : lo + suc i ≡ suc (lo + i) = omega arith in
      rw e (omega (arith, climbs_from lo i (omega arith), up (lo + i) (suc (lo + i)) (omega arith) (omega arith)))

  -- there are no more indices between two bounds than numbers
  pub under_gap : (x y : ℕ) → x ≤ y → count_under f n y ≤ count_under f n x + (y - x)
  under_gap x y le =
      let lo = count_under f n x in
      let hi = count_under f n y in
      let s = under_split f x n up in
      let t = under_split f y n up in
      elim (cases_lt lo hi) [
        | inl h ↦
            (let back : lo + (hi - 1 - lo) ≡ hi - 1 = omega arith in
            let last : lo < n = omega (arith, t.within) in
            let climb : f lo + (hi - 1 - lo) ≤ f (hi - 1) = rw back at (climbs_from lo (hi - 1 - lo) (omega (arith, t.within))) in
            omega (arith, s.after lo (omega arith) last, t.before (hi - 1) (omega arith), climb))
        | inr h ↦ omega arith
      ]

-- in a part of the indices those below a bound are those of the whole that lie in the part
pub under_part : (f g : ℕ → ℕ) (n m lo hi x : ℕ) → Ascending f n → m ≡ hi - lo → hi ≤ n → ((i : ℕ) → i < m → g i ≡ f (lo + i)) → lo ≤ count_under f n x → count_under f n x ≤ hi → lo + count_under g m x ≡ count_under f n x
under_part f g n m lo hi x up len top same low high =
    let s = under_split f x n up in
    let u = count_under f n x in
    let part : count_under g m x ≡ u - lo = split_under g x m (u - lo) (record {
      within = omega arith;
      before = λ k h. rw (same k (omega arith)) (s.before (lo + k) (omega arith));
      after = λ k h l. rw (same k l) (s.after (lo + k) (omega arith) (omega arith));
    }) in
    omega (arith, part)
