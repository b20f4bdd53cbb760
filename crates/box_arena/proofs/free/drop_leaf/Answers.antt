use Rattle.box_arena.proofs.Releasing.{leaf_steps}
use Rattle.box_arena.proofs.free.drop_leaf.Goals as goal

pub returns : goal.returns
returns g c =
    leaf_steps c.args.boxes.now c.unlink.new.boxes c.remove_at.new.boxes c.args.root c.args.child c.requires.live c.requires.sound c.requires.free c.requires.child c.requires.leaf
    c.unlink.ensures.parts c.unlink.ensures.only c.unlink.ensures.heavier c.remove_at.ensures
