use Rattle.std.proofs.Common.{◌≡◌, ◌+◌}
use Rattle.std.specs.Iterator.Adapters.{enumerate_source, enumerate_count}
use Rattle.std.specs.Str.Iter.{lines_rest}
use Rattle.month_job.specs.Jobs.{newlines, OutputPlaced, IsWhole}
use Rattle.month_job.specs.declared.job.JobForm.TheVariants.{Whole}
use Rattle.month_job.proofs.LineCount.{Ahead}
use Rattle.month_job.proofs.job.parse.Given as goal

abbrev pub invariant-loop-index : goal.invariant-loop-index
invariant-loop-index l = record {
  can_next : (goal.iterator-loop-index).can_next l.index-iterator;
  finite : (goal.iterator-loop-index).is_finite l.index-iterator;
  ahead : Ahead l.text (lines_rest (enumerate_source l.index-iterator)) (enumerate_count l.index-iterator);
  placed : OutputPlaced (newlines l.text + 1) l.draft;
  form : l.form ≡ Whole → IsWhole l.draft.from l.draft.to l.draft.lanes;
}
