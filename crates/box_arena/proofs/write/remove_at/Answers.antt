use Rattle.box_arena.proofs.Writes.{removes}
use Rattle.box_arena.proofs.write.remove_at.Goals as goal

pub returns : goal.returns
returns g c = removes c.args.boxes.now c.remove.new.self c.args.key c.requires c.remove.ensures.updates c.remove.ensures.slots c.remove.ensures.len c.remove.ensures.capacity
