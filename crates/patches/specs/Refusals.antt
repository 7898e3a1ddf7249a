-- Refusals: the number of each reason, and which of a call's rules decides.
use Rattle.std.specs.Prelude.{◌≡◌, ℕ, ◌⊎◌, List, [], ◌∷◌, Ok, Err, Result}
use Rattle.patches.specs.declared.refusal.Part.{Part}
use Rattle.patches.specs.declared.refusal.Refusal.{Refusal}
use Rattle.patches.specs.declared.refusal.Reason.{Reason}
use Rattle.patches.specs.declared.refusal.Reason.TheVariants.{IndexWidth, IndexBytes, NoIndex, ValueCount, RowLimit, IndexOrder, IndexRange, ChunkData, RowRange, MaskShape, Position, LaneCount, LaneTable, OutputRoom, NoChunkData, ChunkNumber, CellCount, SetRows, ChunksLeft}

-- the number that stands for a reason
abbrev pub number_of : Reason → ℕ
number_of IndexWidth = 1
number_of IndexBytes = 2
number_of NoIndex = 3
number_of ValueCount = 4
number_of RowLimit = 5
number_of IndexOrder = 6
number_of IndexRange = 7
number_of ChunkData = 8
number_of RowRange = 9
number_of MaskShape = 10
number_of Position = 11
number_of LaneCount = 12
number_of LaneTable = 13
number_of OutputRoom = 14
number_of NoChunkData = 15
number_of ChunkNumber = 16
number_of CellCount = 17
number_of SetRows = 18
number_of ChunksLeft = 19

-- A rule of a call: the reason for refusing, and the places at which the rule is broken.
pub record Rule : Type 1 where
  pub reason : Reason
  pub broken : ℕ → Type 0

-- a rule that names no place: where it is broken, it is broken at place 0
abbrev pub rule : Reason → Type 0 → Rule
rule why condition = record { reason = why; broken = λ place. (place ≡ 0) × condition }

-- the rule is broken at no place
abbrev pub Kept : Rule → Type 0
Kept r = (place : ℕ) → r.broken place → ⊥

-- the refusal names the rule's reason, this part, and a place at which the rule is broken
pub record Names (part : Part) (r : Rule) (f : Refusal) : Type 0 where
  pub why : f.reason ≡ r.reason
  pub who : f.part ≡ part
  pub where_it_is : r.broken f.place

-- every rule is kept
abbrev pub AllKept : List Rule → Type 0
AllKept [] = Unit {0}
AllKept (r ∷ rules) = Kept r × AllKept rules

-- the refusal names the first rule that is broken
abbrev pub NamesFirst : Part → List Rule → Refusal → Type 0
NamesFirst part [] f = ⊥
NamesFirst part (r ∷ rules) f = Names part r f ⊎ (Kept r × NamesFirst part rules f)

-- A call with these rules, in rising order of number: it is accepted exactly when every rule is kept, and else
-- refused by the first that is broken.
abbrev pub Judged : {T : Type 0} → Part → List Rule → Result T Refusal → Type 0
Judged part rules (Ok answer) = AllKept rules
Judged part rules (Err f) = NamesFirst part rules f
