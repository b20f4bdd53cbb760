use Rattle.std.proofs.Common.{◌≡◌, map, take}
use Rattle.std.specs.Prelude.{All}
use Rattle.relayout.specs.Reach.{IsContribution}
use Rattle.relayout.proofs.StepLaws.{contribution_of}
use Rattle.relayout.proofs.step.contributions_of.Given as goal

abbrev pub invariant-loop-child : goal.invariant-loop-child
invariant-loop-child l = record {
  are : l.made.items ≡ map (contribution_of l.mode) (take l.child-index l.children.boxes.now);
  near : All IsContribution l.made.items;
}
