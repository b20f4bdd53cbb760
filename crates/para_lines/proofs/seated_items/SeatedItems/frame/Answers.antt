use Rattle.std.proofs.Common.{rules, w64, FitsSigned}
use Rattle.std.proofs.lemmas.Int.{to_z-of_z}
use Rattle.para_lines.proofs.LineLaws.{frame_is}
use Rattle.para_lines.proofs.seated_items.SeatedItems.frame.Goals as goal

pub returns-clause-line : goal.returns-clause-line
returns-clause-line g c =
    let fits : FitsSigned w64 c.self.inside.seated.container.now.size = search rules in
    frame_is _ _ _ _ _ _ _ c.self.view_is c.self.invariant.places (c.first_base.ensures c.self.inside.seated.boxes.now) (to_z-of_z w64 c.self.inside.seated.container.now.size fits) c.extents_in.ensures.are c.requires
