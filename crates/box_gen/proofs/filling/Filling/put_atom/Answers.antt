use Rattle.std.proofs.Common.{◌∙◌, ap, false, [], ◌∷◌}
use Rattle.fragment_types.specs.Item as item
use Rattle.fragment_types.specs.declared.item.BoxName.{BoxName}
use Rattle.box_gen.specs.Tree.{boxes_of}
use Rattle.box_gen.specs.Building.{filling_of, run_of, and_then, run_with}
use Rattle.box_gen.proofs.Puts.{atom_put}
use Rattle.box_gen.proofs.filling.Filling.put_atom.Goals as goal

pub returns : goal.returns
returns c =
    let atom = boxes_of c.args.atom in
    atom_put (filling_of c.args.self.now) _ c.args.node atom
    (c.in_ok-put_atom.ensures
    ∙ ap (λ (name : BoxName). and_then (run_of c.args.self.now.run) (run_with (item.atom name ∷ []) atom false)) c.own_name.ensures)
