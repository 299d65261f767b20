use Rattle.log_text.proofs.writing.+add_long.Given as goal

abbrev pub decreases-add_long : goal.decreases-add_long
decreases-add_long l = l.number
