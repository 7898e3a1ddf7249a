-- The text of an answer, of a side and of the errors.
use Rattle.std.specs.Prelude.{ℕ, List, ◌++◌, codes, decimal}
use Rattle.search_sorted.specs.declared.search.SearchResult.{SearchResult}
use Rattle.search_sorted.specs.declared.search.SearchResult.TheVariants.{Found, NotFound}
use Rattle.search_sorted.specs.declared.search.SearchSortedSide.{SearchSortedSide}
use Rattle.search_sorted.specs.declared.search.SearchSortedSide.TheVariants.{Left, Right}
use Rattle.search_sorted.specs.declared.rising.NotRising.{NotRising}
use Rattle.search_sorted.specs.declared.width.UnknownWidth.{UnknownWidth}

abbrev pub side_text : SearchSortedSide → List ℕ
side_text Left = codes "left"
side_text Right = codes "right"

abbrev pub result_text : SearchResult → List ℕ
result_text (Found i) = codes "Found(" ++ (decimal i ++ codes ")")
result_text (NotFound i) = codes "NotFound(" ++ (decimal i ++ codes ")")

abbrev pub unknown_width_text : UnknownWidth → List ℕ
unknown_width_text unknown = codes "no width has " ++ (decimal unknown.0 ++ codes " bytes")

abbrev pub no_room_text : List ℕ
no_room_text = codes "no room for the number"

abbrev pub not_rising_text : NotRising → List ℕ
not_rising_text fall = codes "the number at place " ++ (decimal fall.place ++ codes " is not above the one before")
