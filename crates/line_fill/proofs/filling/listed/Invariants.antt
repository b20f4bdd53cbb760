use Rattle.std.proofs.Common.{◌≡◌, take}
use Rattle.line_fill.proofs.filling.listed.Given as goal

abbrev pub invariant-loop-place : goal.invariant-loop-place
invariant-loop-place g l = l.made.items ≡ take l.place (g.S.FillSource.items l.source)
