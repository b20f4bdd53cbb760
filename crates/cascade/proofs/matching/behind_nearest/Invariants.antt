use Rattle.std.proofs.Common.{◌≡◌, length, reverse}
use Rattle.css_types.specs.Rule.{compounds_of}
use Rattle.cascade.specs.Chains.{behind_nearest}
use Rattle.cascade.specs.ClassSets.{AreOf}
use Rattle.cascade.specs.Line.{whats_of}
use Rattle.cascade.proofs.matching.behind_nearest.Given as goal

abbrev pub invariant-loop-left : goal.invariant-loop-left
invariant-loop-left l = record {
  sets : AreOf l.sets l.rest;
  found : behind_nearest (reverse (compounds_of l.parts)) (whats_of l.rest) ≡ behind_nearest (reverse (compounds_of l.parts)) (whats_of l.fn.line);
}

abbrev pub decreases-loop-left : goal.decreases-loop-left
decreases-loop-left l = length l.rest
