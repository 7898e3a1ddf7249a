-- A replacement that has come to a row.
use Rattle.std.proofs.Common.{◌≡◌, ℕ, zero, suc, ◌+◌, ◌-◌, ◌<◌, ◌≤◌, ◌≢◌, List, length, get_or, set, Some, None, unwrap_or, sym, refl, ap, ◌∙◌, inl, inr, arith}
use Rattle.std.proofs.lemmas.List.{get_or-set_same, get_or-set_other, length-set}
use Rattle.std.proofs.lemmas.Bool.{cases_lt}
use Rattle.patches.specs.Assignments.{Patch, one, patches_below, NoneFrom}
use Rattle.patches.proofs.Counts.{one_le, count_more, count_skip}
use Rattle.runs.specs.Steps.{Replaced}

module _ {V : Type 0} (patch : ℕ → Patch V) (start : ℕ) (before : List V) where
  -- the cells of the rows below a row are replaced, the others are as they were, and so many were replaced
  pub record Partly (row : ℕ) (cells : List V) (n : ℕ) : Type 0 where
    pub counted : n + patches_below patch start ≡ patches_below patch row
    pub as_long : length cells ≡ length before
    pub done : (k : ℕ) (d : V) → start + k < row → get_or cells k d ≡ unwrap_or (patch (start + k)) (get_or before k d)
    pub rest : (k : ℕ) (d : V) → row ≤ start + k → get_or cells k d ≡ get_or before k d

  pub partly_none : Partly start before 0
  partly_none = record {
    counted = omega arith;
    as_long = refl;
    done = λ k d h. absurd (omega arith);
    rest = λ k d h. refl;
  }

  -- rows without a patch are passed over
  pub partly_skip : (row next n : ℕ) (cells : List V) → row ≤ next → NoneFrom patch row next → Partly row cells n → Partly next cells n
  partly_skip row next n cells le none p = record {
    counted = p.counted ∙ sym (count_skip patch row next le none);
    as_long = p.as_long;
    done = λ k d h. elim (cases_lt (start + k) row) [
      | inl l ↦ p.done k d l
      | inr l ↦ (let e : patch (start + k) ≡ None = none (start + k) l h in rw e (p.rest k d l))
    ];
    rest = λ k d h. p.rest k d (omega arith);
  }

  -- a row with a patch
  partly_hit : (row n : ℕ) (cells : List V) (v : V) → start ≤ row → row < start + length before → patch row ≡ Some v → Partly row cells n → Partly (row + 1) (set cells (row - start) v) (n + 1)
  partly_hit row n cells v low high e p =
      let here : start + (row - start) ≡ row = omega arith in
      let within : row - start < length cells = omega (arith, p.as_long) in
      record {
        counted = omega (arith, p.counted, count_more patch row, ap one e);
        as_long = length-set cells (row - start) v ∙ p.as_long;
        done = λ k d h. elim (cases_lt (start + k) row) [
          | inl l ↦ (let ne : k ≢ row - start = omega arith in rw get_or-set_other (p.done k d l))
          | inr l ↦
              (let same : k ≡ row - start = omega arith in
              let at : patch (start + k) ≡ Some v = ap patch (let z : start + k ≡ row = omega arith in z) ∙ e in
              rw (at, same) (get_or-set_same cells (row - start) v d within))
        ];
        rest = λ k d h. let ne : k ≢ row - start = omega arith in rw get_or-set_other (p.rest k d (omega arith));
      }

  -- the row that is found next: its patch is put into its cell
  pub partly_next : (row next n : ℕ) (cells : List V) (v : V) → start ≤ row → row ≤ next → next < start + length before → NoneFrom patch row next → patch next ≡ Some v → Partly row cells n → Partly (next + 1) (set cells (next - start) v) (n + 1)
  partly_next row next n cells v low up lt none is p = partly_hit next n cells v (omega arith) lt is (partly_skip row next n cells up none p)

  pub partly_all : (row n : ℕ) (cells : List V) → row ≤ start + length before → NoneFrom patch row (start + length before) → Partly row cells n → Partly (start + length before) cells n
  partly_all row n cells le none p = partly_skip row (start + length before) n cells le none p

  pub partly_replaced : (n : ℕ) (cells : List V) → Partly (start + length before) cells n → Replaced patch start before cells
  partly_replaced n cells p = record { as_long = p.as_long; cells = λ k d h. p.done k d (omega arith) }

-- so many rows have no more patches than that
pub count_gap : {V : Type 0} (patch : ℕ → Patch V) (a n : ℕ) → patches_below patch (a + n) ≤ patches_below patch a + n
count_gap patch a zero = let e : a + 0 ≡ a = omega arith in rw e (omega arith)
count_gap patch a (suc n) = let e : a + suc n ≡ suc (a + n) = omega arith in rw e (omega (arith, count_gap patch a n, one_le (patch (a + n))))
