-- What writing a packed number leaves.
use Rattle.std.specs.Prelude.{◌≡◌, ℕ, ◌+◌, ◌*◌, ◌<◌, ◌≤◌, ◌⊎◌, List, length, Ok, Err, Result, slice_index_or}
use Rattle.search_sorted.specs.declared.writes.NoRoom.{NoRoom}
use Rattle.search_sorted.specs.Packed.{number_at}

-- there was room; the number of eight bytes at the place is the one written, and every byte outside it is as it was
pub record Written (before after : List ℕ) (place number : ℕ) : Type 0 where
  pub room : 8 * place + 8 ≤ length before
  pub here : number_at after 8 place ≡ number
  pub others : (j d : ℕ) → (j < 8 * place) ⊎ (8 * place + 8 ≤ j) → slice_index_or after j d ≡ slice_index_or before j d

-- what a write answers: the number is written; or there was no room, and nothing has changed
abbrev pub Writes : List ℕ → List ℕ → ℕ → ℕ → Result (Unit {0}) NoRoom → Type 0
Writes before after place number (Ok done) = Written before after place number
Writes before after place number (Err refused) = (length before < 8 * place + 8) × (after ≡ before)
