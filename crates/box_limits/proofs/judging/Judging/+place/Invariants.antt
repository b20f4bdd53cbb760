use Rattle.box_limits.proofs.judging.Judging.+place.Given as goal

abbrev pub decreases-place : goal.decreases-place
decreases-place l = l.most
