use Rattle.std.proofs.Common.{subst, List}
use Rattle.place_map.specs.Bound.{AreIn}
use Rattle.place_map.specs.Parts.{Part, parts_of}
use Rattle.place_map.proofs.Bounds.{one_wider}
use Rattle.place_map.proofs.placed.PlacedPart.new.Goals as goal

pub invariant_of-result : goal.invariant_of-result
invariant_of-result c = (
  one_wider c.of_fragment.result c.bound_of-bound.result c.args.name.node c.args.rect c.bound_of-bound.ensures.own c.of_fragment.ensures,
  subst (λ (l : List Part). AreIn c.bound_of-bound.result (parts_of l)) c.deref.ensures.value c.bound_of-bound.ensures.parts,
  tt,
)
