-- A part of a list written anew, and one corrected chunk more. Assumes nothing.
use borrow.Rule.Slice.PartMut.{put_mid, same_len_mid, take_put, drop_put}
use Rattle.std.proofs.Common.{◌≡◌, ℕ, ◌+◌, ◌-◌, ◌<◌, ◌≤◌, List, length, get_or, ℤ, pos, sym, ap, ◌∙◌, subst, ⊎_elim, arith}
use Rattle.std.proofs.lemmas.List.Edits.{length-between, get_or-between}
use Rattle.std.proofs.lemmas.List.{get_or-take, get_or-drop}
use Rattle.std.proofs.lemmas.Slice.{between-put_mid}
use Rattle.std.proofs.lemmas.Bool.{cases_lt}
use Rattle.std.specs.List.{between}
use Rattle.patches.specs.declared.column.Column.{Column}
use Rattle.month_job.specs.Corrected.{amount_after, CorrectedUpTo}

module _ (xs ys : List ℤ) (a e : ℕ) (order : a ≤ e) (in-range : e ≤ length xs) (long : length ys ≡ e - a) where
  put_below : (row : ℕ) → row < a → get_or (put_mid a (e - a) xs ys) row (pos 0) ≡ get_or xs row (pos 0)
  put_below row lt =
      sym (get_or-take a (put_mid a (e - a) xs ys) row (pos 0) lt)
      ∙ (ap (λ l. get_or l row (pos 0)) (take_put a (e - a) xs ys (omega arith)) ∙ get_or-take a xs row (pos 0) lt)

  put_inside : (k : ℕ) → a + k < e → get_or (put_mid a (e - a) xs ys) (a + k) (pos 0) ≡ get_or ys k (pos 0)
  put_inside k lt =
      sym (get_or-between (put_mid a (e - a) xs ys) a e k (pos 0) lt)
      ∙ ap (λ l. get_or l k (pos 0)) (between-put_mid a (e - a) xs ys e (omega arith) long)

  put_above : (k : ℕ) → get_or (put_mid a (e - a) xs ys) (e + k) (pos 0) ≡ get_or xs (e + k) (pos 0)
  put_above k =
      sym (get_or-drop e (put_mid a (e - a) xs ys) k (pos 0))
      ∙ (ap (λ l. get_or l k (pos 0)) (drop_put a e xs ys order in-range long) ∙ get_or-drop e xs k (pos 0))

up_to_more :
    (column : Column ℤ) (old new part : List ℤ) (a e : ℕ)
    → a ≤ e
    → e ≤ length new
    → length part ≡ e - a
    → ((k : ℕ) → k < length (between a e new) → get_or part k (pos 0) ≡ amount_after column (a + k) (get_or (between a e new) k (pos 0)))
    → CorrectedUpTo column a old new
    → CorrectedUpTo column e old (put_mid a (e - a) new part)
up_to_more column old new part a e order in-range long done before =
    let size = length-between new a e in-range in
    record {
      long = same_len_mid a (e - a) new part (long ∙ sym size) ∙ before.long;
      below = λ row lt inside.
          ⊎_elim
          (λ low. put_below new part a e order in-range long row low ∙ before.below row low inside)
          (λ high.
          let k = row - a in
          let is : a + k ≡ row = omega arith in
          let at : get_or (put_mid a (e - a) new part) row (pos 0) ≡ get_or part k (pos 0) =
          subst (λ r. get_or (put_mid a (e - a) new part) r (pos 0) ≡ get_or part k (pos 0)) is (put_inside new part a e order in-range long k (omega arith)) in
          let value = done k (omega arith) in
          let read : get_or (between a e new) k (pos 0) ≡ get_or old row (pos 0) =
          get_or-between new a e k (pos 0) (omega arith) ∙ (ap (λ r. get_or new r (pos 0)) is ∙ before.above row high) in
          at ∙ (value ∙ (ap (amount_after column (a + k)) read ∙ ap (λ r. amount_after column r (get_or old row (pos 0))) is)))
          (cases_lt row a);
      above = λ row le.
          let k = row - e in
          let is : e + k ≡ row = omega arith in
          subst (λ r. get_or (put_mid a (e - a) new part) r (pos 0) ≡ get_or new r (pos 0)) is (put_above new part a e order in-range long k)
          ∙ before.above row (omega arith);
    }

-- the same, where the part's bounds are known by other terms
pub chunk_more :
    (column : Column ℤ) (old new part : List ℤ) (a e first next : ℕ)
    → a ≡ first
    → e ≡ next
    → a ≤ e
    → e ≤ length new
    → length part ≡ length (between a e new)
    → ((k : ℕ) → k < length (between a e new) → get_or part k (pos 0) ≡ amount_after column (first + k) (get_or (between a e new) k (pos 0)))
    → CorrectedUpTo column first old new
    → CorrectedUpTo column next old (put_mid a (e - a) new part)
chunk_more column old new part a e first next first-is next-is order in-range long done before =
    subst
    (λ n. CorrectedUpTo column n old (put_mid a (e - a) new part))
    next-is
    (up_to_more
    column
    old
    new
    part
    a
    e
    order
    in-range
    (long ∙ length-between new a e in-range)
    (λ k lt. done k lt ∙ ap (λ f. amount_after column (f + k) (get_or (between a e new) k (pos 0))) (sym first-is))
    (subst (λ f. CorrectedUpTo column f old new) (sym first-is) before))
