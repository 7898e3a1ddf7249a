-- The partition point of a test that holds up to a place, by quarters of the part that is not yet decided.
use Rattle.std.proofs.Common.{◌≡◌, ℕ, ◌+◌, ◌-◌, ◌*◌, ◌<◌, ◌≤◌, Bool, true, false, sym, ⊎_elim, arith}
use mir.Val.{bool_byte}
use Rattle.std.proofs.lemmas.Bool.{both_ways, cases_Bool, cases_lt}

-- the test holds before every place where it holds
abbrev pub Falling : (ℕ → Bool) → Type 0
Falling test = (i j : ℕ) → i ≤ j → test j ≡ true → test i ≡ true

-- the partition point is at `base`, or at most `size` places after it
pub record Narrowed (test : ℕ → Bool) (len base size : ℕ) : Type 0 where
  pub within : base + size ≤ len
  pub before : (k : ℕ) → k < base → test k ≡ true
  pub after : (k : ℕ) → base + size ≤ k → k < len → test k ≡ false

-- as many of the next n places pass
pub record Counted (test : ℕ → Bool) (base n count : ℕ) : Type 0 where
  pub few : count ≤ n
  pub passed : (k : ℕ) → k < count → test (base + k) ≡ true
  pub failed : (k : ℕ) → count ≤ k → k < n → test (base + k) ≡ false

module _ (test : ℕ → Bool) (falling : Falling test) where
  -- from a place where the test fails it fails on
  fails_on : (i j : ℕ) → i ≤ j → test i ≡ false → test j ≡ false
  fails_on i j le h =
      ⊎_elim (λ t. absurd (both_ways (test i) h (falling i j le t))) (λ e. e) (cases_Bool (test j))

  -- tests at three quarters tell which part it is in; the largest part is taken for the size of each
  pub narrowed_quarter : (len base size q : ℕ) (t u v : Bool) → 4 * q ≤ size → t ≡ test (base + q) → u ≡ test (base + 2 * q) → v ≡ test (base + 3 * q) → Narrowed test len base size → Narrowed test len (base + q * (bool_byte t + bool_byte u + bool_byte v)) (size - 3 * q)
  narrowed_quarter len base size q true true true le a b c n =
      let e : base + q * 3 ≡ base + 3 * q = omega arith in
      rw e (record {
        within = omega arith;
        before = λ k below. falling k (base + 3 * q) (omega arith) (sym c);
        after = λ k ge below. n.after k (omega arith) below;
      })
  narrowed_quarter len base size q true true false le a b c n =
      let e : base + q * 2 ≡ base + 2 * q = omega arith in
      rw e (record {
        within = omega arith;
        before = λ k below. falling k (base + 2 * q) (omega arith) (sym b);
        after = λ k ge below. fails_on (base + 3 * q) k (omega arith) (sym c);
      })
  narrowed_quarter len base size q true false false le a b c n =
      let e : base + q * 1 ≡ base + q = omega arith in
      rw e (record {
        within = omega arith;
        before = λ k below. falling k (base + q) (omega arith) (sym a);
        after = λ k ge below. fails_on (base + 2 * q) k (omega arith) (sym b);
      })
  narrowed_quarter len base size q false false false le a b c n =
      let e : base + q * 0 ≡ base = omega arith in
      rw e (record {
        within = omega arith;
        before = n.before;
        after = λ k ge below. fails_on (base + q) k (omega arith) (sym a);
      })
  narrowed_quarter len base size q false true v le a b c n = absurd (both_ways (test (base + q)) (sym a) (falling (base + q) (base + 2 * q) (omega arith) (sym b)))
  narrowed_quarter len base size q false false true le a b c n = absurd (both_ways (test (base + q)) (sym a) (falling (base + q) (base + 3 * q) (omega arith) (sym c)))
  narrowed_quarter len base size q true false true le a b c n = absurd (both_ways (test (base + 2 * q)) (sym b) (falling (base + 2 * q) (base + 3 * q) (omega arith) (sym c)))

  pub counted_next : (base n count : ℕ) (t : Bool) → t ≡ test (base + n) → Counted test base n count → Counted test base (n + 1) (count + bool_byte t)
  counted_next base n count true is c = record {
    few = omega (arith, c.few);
    passed = λ k h. falling (base + k) (base + n) (omega (arith, c.few)) (sym is);
    failed = λ k h l.
        ⊎_elim
        (λ (q : count < n). absurd (both_ways (test (base + count)) (c.failed count (omega arith) q) (falling (base + count) (base + n) (omega arith) (sym is))))
        (λ (q : n ≤ count). absurd (omega (arith, c.few)))
        (cases_lt count n);
  }
  counted_next base n count false is c =
      let e : count + 0 ≡ count = omega arith in
      rw e (record {
        few = omega (arith, c.few);
        passed = c.passed;
        failed = λ k h l.
            ⊎_elim
            (λ (q : k < n). c.failed k h q)
            (λ (q : n ≤ k). let same : k ≡ n = omega arith in rw same (sym is))
            (cases_lt k n);
      })
