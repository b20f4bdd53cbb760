use Rattle.box_arena.proofs.Releasing.{lift_steps, mid_child, mid_linked}
use Rattle.box_arena.proofs.free.lift.Goals as goal

pub link-requires-clause-linked : goal.link-requires-clause-linked
link-requires-clause-linked g c =
    mid_linked c.args.boxes.now c.unlink.new.boxes c.unlink.new.boxes c.args.root c.args.child c.args.inner c.requires.live c.requires.sound c.requires.free c.requires.child c.requires.inner c.unlink.ensures.parts c.unlink.ensures.only

pub link-requires-clause-inside : goal.link-requires-clause-inside
link-requires-clause-inside g c =
    mid_child c.args.boxes.now c.unlink.new.boxes c.unlink.new.boxes c.args.root c.args.child c.args.inner c.requires.live c.requires.sound c.requires.free c.requires.child c.requires.inner c.unlink.ensures.parts c.unlink.ensures.only

pub returns : goal.returns
returns g c =
    lift_steps c.args.boxes.now c.unlink.new.boxes c.link.new.boxes c.args.root c.args.child c.args.inner c.requires.live c.requires.sound c.requires.free c.requires.child c.requires.inner
    c.unlink.ensures.parts c.unlink.ensures.only c.link.ensures.joins c.link.ensures.only c.link.ensures.lighter (c.unlink.ensures.others c.args.root)
