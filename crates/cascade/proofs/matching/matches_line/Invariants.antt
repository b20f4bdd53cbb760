use Rattle.std.proofs.Common.{◌≡◌, length, reverse}
use Rattle.css_types.specs.Rule.{compounds_of}
use Rattle.cascade.specs.ClassSets.{AreOf}
use Rattle.cascade.specs.Line.{whats_of}
use Rattle.cascade.specs.Matching.{some, tails, matches, matches_from}
use Rattle.cascade.proofs.matching.matches_line.Given as goal

abbrev pub invariant-loop-left : goal.invariant-loop-left
invariant-loop-left l = record {
  sets : AreOf l.fn.line.sets.now l.above;
  matched : matches (compounds_of l.fn.parts) (whats_of l.fn.line.nodes.now) ≡ some (matches_from (reverse (compounds_of l.left))) (tails (whats_of l.above));
}

abbrev pub decreases-loop-left : goal.decreases-loop-left
decreases-loop-left l = length l.left
