use Rattle.std.proofs.Common.{refl}
use Rattle.box_gen.proofs.Runs.{item_put}
use Rattle.box_gen.proofs.run.Run.put_item.Goals as goal

pub returns : goal.returns
returns c =
    let run = c.args.self.now in
    item_put run.items.items c.push.new.self.items c.args.item _ run.atoms.items run.blank c.args.blank _ c.in_ok-push.ensures.items refl refl
