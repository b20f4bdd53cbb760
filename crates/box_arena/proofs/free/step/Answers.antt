use Rattle.std.proofs.Common.{◌∙◌, ap}
use Rattle.box_arena.specs.Links.{first_of}
use Rattle.box_arena.proofs.Releasing.{first_inside}
use Rattle.box_arena.proofs.free.step.Goals as goal

pub lift-requires-clause-inner : goal.lift-requires-clause-inner
lift-requires-clause-inner g c = first_inside c.args.boxes.now c.args.child c.in-Some.inner c.requires.sound (ap first_of c.links_of.ensures ∙ c.in-Some.is)
