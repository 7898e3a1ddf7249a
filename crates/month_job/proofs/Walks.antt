-- Steps of the walk over the patches. Assumes nothing.
use Rattle.std.proofs.Common.{◌≡◌, ℕ, Bool, true, false, cond, ℤ, Some, None, Option, refl}
use Rattle.month_job.specs.declared.correct.Answer.TheVariants.{NoSuchRow, Corrected}
use Rattle.month_job.specs.Corrected.{told}

-- an answer that says `Corrected` has the amount before and the patch
pub told_back :
    (o : Option ℤ) (t : Bool) (amount before after : ℤ)
    → Corrected before after ≡ cond t (told o amount) NoSuchRow
    → (before ≡ amount) × (o ≡ Some after)
told_back (Some v) true amount before after e = (cc, cc)
told_back None true amount before after e = (cc, cc)
told_back (Some v) false amount before after e = (cc, cc)
told_back None false amount before after e = (cc, cc)

-- what stands at a place that has something
pub got_back : (t : Bool) (m n : ℕ) → Some m ≡ cond t (Some n) None → (t ≡ true) × (m ≡ n)
got_back true m n e = (refl, cc)
got_back false m n e = (cc, cc)
