-- Packed numbers as rising ones.
use Rattle.std.specs.Prelude.{◌≡◌, Result, MatchResult}
use Rattle.search_sorted.specs.declared.packed.Packed.{Packed}
use Rattle.search_sorted.specs.declared.rising.Rising.{Rising}
use Rattle.search_sorted.specs.declared.rising.NotRising.{NotRising}
use Rattle.search_sorted.specs.Numbers.{count, number, FallsFirst}

-- those numbers; or an error with the place where they fall first
abbrev pub RisingOf : Packed → Result Rising NotRising → Type 0
RisingOf numbers r = MatchResult r (λ rising. rising.numbers ≡ numbers) (λ e. FallsFirst (number numbers) (count numbers) e.place)
