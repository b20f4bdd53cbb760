use Rattle.std.proofs.Common.{ap}
use Rattle.box_arena.specs.Marks.{is_seen}
use Rattle.box_arena.proofs.CallLemmas.{keeps_text, held_there, sound_moved}
use Rattle.box_arena.proofs.arena.BoxArena.keep_text.Goals as goal

pub invariant_of-self : goal.invariant_of-self
invariant_of-self g c =
    let (held, is) = held_there c.self.inside.boxes c.key.inside.index (rw (c.self.view_is, c.key.view_is) c.requires) in
    let writes = c.put_text.ensures held is in
    sound_moved c.self.inside.boxes.slots c.put_text.new.boxes.slots writes.links (λ k. ap is_seen (writes.marks k)) c.self.invariant

pub returns : goal.returns
returns g c =
    let (held, is) = held_there c.self.inside.boxes c.key.inside.index (rw (c.self.view_is, c.key.view_is) c.requires) in
    rw (← c.self.view_is, ← c.key.view_is) (keeps_text c.self.inside.boxes c.put_text.new.boxes c.key.inside.index c.args.text held is (c.put_text.ensures held is))
