use Rattle.cascade.proofs.kept.KeptLine.+climb.Given as goal

abbrev pub decreases-climb : goal.decreases-climb
decreases-climb l = l.most
