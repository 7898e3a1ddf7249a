use Rattle.month_stream.proofs.history.Survey.add_file.Given as goal

abbrev pub decreases-loop-file : goal.decreases-loop-file
decreases-loop-file l = l.file.left
