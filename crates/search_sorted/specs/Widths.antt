-- The width of a count of bytes.
use Rattle.std.specs.Prelude.{◌≡◌, ℕ, ◌≢◌, Result, MatchResult}
use Rattle.search_sorted.specs.declared.width.Width.{Width}
use Rattle.search_sorted.specs.declared.width.UnknownWidth.{UnknownWidth}
use Rattle.search_sorted.specs.Packed.{size}

-- the width of so many bytes; or an error with the count, where no width has so many
abbrev pub WidthOf : ℕ → Result Width UnknownWidth → Type 0
WidthOf count r = MatchResult r (λ w. size w ≡ count) (λ e. (e.0 ≡ count) × ((w : Width) → size w ≢ count))
