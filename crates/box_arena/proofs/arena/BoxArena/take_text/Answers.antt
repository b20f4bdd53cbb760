use Rattle.std.proofs.Common.{ap}
use Rattle.box_arena.specs.Marks.{is_seen}
use Rattle.box_arena.proofs.CallLemmas.{held_there, sound_moved}
use Rattle.box_arena.proofs.Handed.{loses_text}
use Rattle.box_arena.proofs.arena.BoxArena.take_text.Goals as goal

pub invariant_of-self : goal.invariant_of-self
invariant_of-self g c =
    let (held, is) = held_there c.self.inside.boxes c.key.inside.index (rw (c.self.view_is, c.key.view_is) c.requires) in
    let writes = c.take_text_at.ensures.rest held is in
    sound_moved c.self.inside.boxes.slots c.take_text_at.new.boxes.slots writes.links (λ k. ap is_seen (writes.marks k)) c.self.invariant

pub returns-clause-rest : goal.returns-clause-rest
returns-clause-rest g c =
    let (held, is) = held_there c.self.inside.boxes c.key.inside.index (rw (c.self.view_is, c.key.view_is) c.requires) in
    rw (← c.self.view_is, ← c.key.view_is) (loses_text c.self.inside.boxes c.take_text_at.new.boxes c.key.inside.index held is (c.take_text_at.ensures.rest held is))
