-- The worked lane cases, of which each follows from what a column that holds Q is known to have.
use Rattle.std.proofs.Common.{[], ◌∷◌}
use Rattle.patches.specs.Columns.{column_meaning}
use Rattle.lanes.proofs.LaneUnique.{tables_same}
use Rattle.worked_lanes.specs.LaneCases.{WorkedLaneCases}
use Rattle.worked_lanes.proofs.Laned.{tables_of_q}

pub worked_lane_cases : WorkedLaneCases
worked_lane_cases = record {
  laned = tables_of_q;
  laned_only = λ c q o e v t. tables_same (column_meaning c) 2 o e (0 ∷ 2 ∷ 3 ∷ []) (2 ∷ 6 ∷ 5 ∷ []) v (7 ∷ 9 ∷ 8 ∷ []) t (tables_of_q c q);
}
