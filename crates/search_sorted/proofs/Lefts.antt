-- What a left search among rising numbers says of the numbers themselves, and back.
use Rattle.std.proofs.Common.{◌≡◌, ℕ, ◌<◌, ◌≤◌, true, false, length, Some, Ordering, Less, Equal, Greater, sym, ap, ◌∙◌, inl, inr, arith}
use Rattle.std.proofs.lemmas.Bool.{cases_lt, false≢true}
use Rattle.std.proofs.lemmas.Map.Lookups.{exact_unsigned}
use Rattle.std.specs.Cmp.{ranks}
use Rattle.std.specs.Ordering.{is_lt, is_some_and, MatchOrdering, nat_cmp}
use Rattle.search_sorted.specs.declared.search.SearchResult.{SearchResult}
use Rattle.search_sorted.specs.declared.search.SearchResult.TheVariants.{Found, NotFound}
use Rattle.search_sorted.specs.declared.search.SearchSortedSide.TheVariants.{Left}
use Rattle.search_sorted.specs.Search.{PartitionPoint, smaller, EqualAt, Answers}
use Rattle.search_sorted.specs.Naturals.{natural, rank_is}
use Rattle.search_sorted.specs.Packed.{listed}
use Rattle.search_sorted.specs.Listed.{length_listed}
use Rattle.search_sorted.proofs.Compares.{compare_listed, past_listed}

-- the numbers before a place are below x, and those from there on are not
pub record Split (f : ℕ → ℕ) (n x place : ℕ) : Type 0 where
  pub within : place ≤ n
  pub before : (k : ℕ) → k < place → f k < x
  pub after : (k : ℕ) → place ≤ k → k < n → x ≤ f k

-- a left search by the numbers alone
abbrev pub Finds : (ℕ → ℕ) → ℕ → ℕ → SearchResult → Type 0
Finds f n x (Found i) = (i < n) × (f i ≡ x) × Split f n x i
Finds f n x (NotFound i) = ((k : ℕ) → k < n → f k ≡ x → ⊥) × Split f n x i

module _ (f : ℕ → ℕ) (n x : ℕ) where
  less_by : (y : ℕ) (r : Ordering) → MatchOrdering r (y < x) (y ≡ x) (x < y) → is_lt r ≡ true → y < x
  less_by y Less h t = h
  less_by y Equal h t = absurd (false≢true t)
  less_by y Greater h t = absurd (false≢true t)

  not_less_by : (y : ℕ) (r : Ordering) → MatchOrdering r (y < x) (y ≡ x) (x < y) → is_lt r ≡ false → x ≤ y
  not_less_by y Less h t = absurd (false≢true (sym t))
  not_less_by y Equal h t = omega arith
  not_less_by y Greater h t = omega arith

  smaller_at : (k : ℕ) → k < n → smaller natural (listed f n) x k ≡ is_lt (nat_cmp (f k) x)
  smaller_at k h = ap (is_some_and is_lt) (compare_listed f n k x h)

  pub split_from : (i : ℕ) → PartitionPoint (smaller natural (listed f n) x) (length (listed f n)) i → Split f n x i
  split_from i p =
      let len : length (listed f n) ≡ n = length_listed f n in
      record {
        within = omega (arith, p.within);
        before = λ k h. less_by (f k) (nat_cmp (f k) x) (ranks (f k) x) (sym (smaller_at k (omega (arith, p.within))) ∙ p.before k h);
        after = λ k h l. not_less_by (f k) (nat_cmp (f k) x) (ranks (f k) x) (sym (smaller_at k l) ∙ p.after k h (omega arith));
      }

  pub split_to : (i : ℕ) → Split f n x i → PartitionPoint (smaller natural (listed f n) x) (length (listed f n)) i
  split_to i s =
      let len : length (listed f n) ≡ n = length_listed f n in
      record {
        within = omega (arith, s.within);
        before = λ k h. smaller_at k (omega (arith, s.within)) ∙ ap is_lt (rank_is (f k) x Less (s.before k h));
        after = λ k h l.
            let within : k < n = omega arith in
            smaller_at k within
            ∙ elim (cases_lt x (f k)) [
              | inl lt ↦ ap is_lt (rank_is (f k) x Greater lt)
              | inr ge ↦ ap is_lt (rank_is (f k) x Equal (omega (arith, s.after k h within)))
            ];
      }

  pub equal_from : (k : ℕ) → k < n → EqualAt natural (listed f n) x k → f k ≡ x
  equal_from k h e = let same : Some (nat_cmp (f k) x) ≡ Some Equal = sym (compare_listed f n k x h) ∙ e in exact_unsigned (f k) x cc

  pub equal_to : (k : ℕ) → k < n → f k ≡ x → EqualAt natural (listed f n) x k
  equal_to k h e = compare_listed f n k x h ∙ ap Some (rank_is (f k) x Equal e)

  pub equal_within : (k : ℕ) → EqualAt natural (listed f n) x k → k < n
  equal_within k e =
      elim (cases_lt k n) [
        | inl h ↦ h
        | inr h ↦ absurd (let p = past_listed f n k x h in let z : ◌≡◌ {A = ℕ} 0 1 = cc in omega arith)
      ]

  pub finds_from : (r : SearchResult) → Answers natural (listed f n) x Left r → Finds f n x r
  finds_from (Found i) a = let h = equal_within i a.0 in (h, equal_from i h a.0, split_from i a.1)
  finds_from (NotFound i) a = ((λ k h e. a.0 k (equal_to k h e)), split_from i a.1)

  pub finds_to : (r : SearchResult) → Finds f n x r → Answers natural (listed f n) x Left r
  finds_to (Found i) a = (equal_to i a.0 a.1, split_to i a.2)
  finds_to (NotFound i) a = ((λ k e. let h = equal_within k e in a.0 k h (equal_from k h e)), split_to i a.1)
