use Rattle.std.proofs.Common.{◌∙◌}
use Rattle.fragment_types.specs.Item as item
use Rattle.fragment_types.specs.Item.{entries_of}
use Rattle.box_gen.proofs.Results.{ok_gives}
use Rattle.box_gen.proofs.Runs.{atom_put}
use Rattle.box_gen.proofs.run.Run.put_atom.Goals as goal

pub returns : goal.returns
returns c =
    let run = c.args.self.now in
    ok_gives c.put_item.result _ _ c.put_item.ensures (λ x is.
    is ∙ atom_put (entries_of run.items.items) run.atoms.items c.push.new.self.items c.args.atom run.blank (item.atom c.args.name) c.in_ok-push.ensures.items)
