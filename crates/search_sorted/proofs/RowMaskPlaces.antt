-- How the set row at a place compares with a row, by the set rows before that.
use Rattle.std.proofs.Common.{◌≡◌, ℕ, ◌<◌, ◌≤◌, min, Bool, true, false, ◌&&◌, ltb, List, length, get_or, Some, None, Ordering, Less, Equal, Greater, refl, sym, ap, ◌∙◌, inl, inr, arith}
use Rattle.std.proofs.lemmas.Bool.{ltb-true, eqb-true, lt-ltb, eq-eqb, and_parts, and_from, both_ways, cases_lt}
use Rattle.std.specs.Cmp.{ranks}
use Rattle.std.specs.Ordering.{MatchOrdering, nat_cmp}
use Rattle.search_sorted.specs.Order.{compare_at}
use Rattle.search_sorted.specs.Naturals.{natural, rank_is}
use Rattle.search_sorted.specs.RowMasks.{bit, is_set, set_below, set_rows_of}
use Rattle.search_sorted.specs.RowMaskLaws.{RowAt, row_at, rows_length, below_earlier, below_set, below_same}
use Rattle.search_sorted.proofs.Orders.{compare_within, compare_past}

-- the rows of a mask, of which `total` are set, `before` of them before the needle
module _ (bytes : List ℕ) (rows place needle total : ℕ) (all : total ≡ set_below bytes rows) where
  pub row_past : total ≤ place → compare_at natural (set_rows_of bytes rows) place needle ≡ None
  row_past h = compare_past natural (set_rows_of bytes rows) place needle (omega (arith, rows_length bytes rows))

  module _ (within : place < total) where
    found : RowAt bytes rows place (get_or (set_rows_of bytes rows) place 0)
    found = row_at bytes rows place 0 (omega arith)

    compared : (o : Ordering) → natural.compare (get_or (set_rows_of bytes rows) place 0) needle ≡ o
        → compare_at natural (set_rows_of bytes rows) place needle ≡ Some o
    compared o e =
        let l : place < length (set_rows_of bytes rows) = omega (arith, rows_length bytes rows) in
        compare_within natural (set_rows_of bytes rows) place needle 0 l ∙ ap Some e

    module _ (before : ℕ) (front : before ≡ set_below bytes (min needle rows)) where
      row_less : place < before → compare_at natural (set_rows_of bytes rows) place needle ≡ Some Less
      row_less h =
          let x = get_or (set_rows_of bytes rows) place 0 in
          let l : set_below bytes x < set_below bytes (min needle rows) = omega (arith, found.before) in
          let k : x < needle = omega (arith, below_earlier bytes x (min needle rows) l) in
          compared Less (rank_is x needle Less k)

      pub row_equal : place ≡ before → (has : Bool) → has ≡ (ltb needle rows && is_set bytes needle) → has ≡ true
          → compare_at natural (set_rows_of bytes rows) place needle ≡ Some Equal
      row_equal e has tells t =
          let x = get_or (set_rows_of bytes rows) place 0 in
          let both = and_parts (ltb needle rows) (is_set bytes needle) (sym tells ∙ t) in
          let one : bit bytes needle ≡ 1 = eqb-true (bit bytes needle) 1 both.1 in
          let m : min needle rows ≡ needle = omega (arith, ltb-true needle rows both.0) in
          let same : set_below bytes x ≡ set_below bytes needle = found.before ∙ e ∙ front ∙ ap (set_below bytes) m in
          compared Equal (rank_is x needle Equal (below_same bytes x needle found.set one same))

      -- the row at the place is not before the needle
      reached : before ≤ place → needle ≤ get_or (set_rows_of bytes rows) place 0
      reached h =
          let x = get_or (set_rows_of bytes rows) place 0 in
          elim (cases_lt x needle) [
            | inl lt ↦
                let m : x < min needle rows = omega (arith, found.within) in
                absurd (omega (arith, found.before, below_set bytes x (min needle rows) found.set m))
            | inr ge ↦ ge
          ]

      above : before ≤ place → (get_or (set_rows_of bytes rows) place 0 ≡ needle → ⊥)
          → compare_at natural (set_rows_of bytes rows) place needle ≡ Some Greater
      above h non =
          let x = get_or (set_rows_of bytes rows) place 0 in
          compared Greater (rank_is x needle Greater (omega (arith, reached h)))

      -- where the needle stands at the place, as many set rows stand before it, and it is set
      counted : get_or (set_rows_of bytes rows) place 0 ≡ needle → place ≡ before
      counted e =
          let m : get_or (set_rows_of bytes rows) place 0 ≡ min needle rows = omega (arith, found.within) in
          sym found.before ∙ ap (set_below bytes) m ∙ sym front

      held : get_or (set_rows_of bytes rows) place 0 ≡ needle → (ltb needle rows && is_set bytes needle) ≡ true
      held e =
          let lt : needle < rows = omega (arith, found.within) in
          let one : bit bytes needle ≡ 1 = ap (bit bytes) (sym e) ∙ found.set in
          and_from (ltb needle rows) (is_set bytes needle) (lt-ltb needle rows lt) (eq-eqb (bit bytes needle) 1 one)

      row_greater : before < place → compare_at natural (set_rows_of bytes rows) place needle ≡ Some Greater
      row_greater h = above (omega arith) (λ e. omega (arith, counted e))

      by_rank : (r : Ordering) → MatchOrdering r (place < before) (place ≡ before) (before < place) → (r ≡ Equal → ⊥) → compare_at natural (set_rows_of bytes rows) place needle ≡ Some r
      by_rank Less h other = row_less h
      by_rank Equal h other = absurd (other refl)
      by_rank Greater h other = row_greater h

      -- where the place is another than the number of those, it ranks beside it as its row beside the needle
      pub row_ranked : (r : Ordering) → r ≡ nat_cmp place before → (r ≡ Equal → ⊥) → compare_at natural (set_rows_of bytes rows) place needle ≡ Some r
      row_ranked r e other = by_rank r (rw e (ranks place before)) other

      pub row_unset : before ≤ place → (has : Bool) → has ≡ (ltb needle rows && is_set bytes needle) → has ≡ false
          → compare_at natural (set_rows_of bytes rows) place needle ≡ Some Greater
      row_unset h has tells f = above h (λ e. both_ways (ltb needle rows && is_set bytes needle) (sym tells ∙ f) (held e))
