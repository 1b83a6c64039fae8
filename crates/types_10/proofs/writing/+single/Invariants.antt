use Rattle.types_10.proofs.writing.+single.Given as goal

abbrev pub decreases-put_single : goal.decreases-put_single
decreases-put_single l = goal.size-put_single l
