use Rattle.box_arena.proofs.Climbs.{links_move}
use Rattle.box_arena.proofs.TreeCalls.{attaches, sound_attached}
use Rattle.box_arena.proofs.arena.BoxArena.attach.Goals as goal

pub link-requires-clause-linked : goal.link-requires-clause-linked
link-requires-clause-linked g c = links_move c.self.inside.boxes.slots c.mark_up.new.boxes.slots c.mark_up.ensures.only.links c.self.invariant.linked

pub invariant_of-self : goal.invariant_of-self
invariant_of-self g c =
    sound_attached c.self.inside.boxes c.mark_up.new.boxes c.link.new.boxes c.parent.inside.index c.index_of.result c.child.inside.index c.self.invariant
    c.mark_up.ensures.marked c.mark_up.ensures.still c.mark_up.ensures.only c.link.ensures.joins c.link.ensures.only
    (rw (c.self.view_is, c.child.view_is) c.requires.free) (rw (c.self.view_is, c.parent.view_is, c.index_of.ensures) c.requires.before)
    (rw (c.self.view_is, c.parent.view_is) c.requires.parent) (rw (c.self.view_is, c.parent.view_is, c.child.view_is) c.requires.apart)

pub returns-clause-attaches : goal.returns-clause-attaches
returns-clause-attaches g c =
    rw (← c.self.view_is, ← c.parent.view_is, ← c.child.view_is, ← c.index_of.ensures)
    (attaches c.self.inside.boxes c.mark_up.new.boxes c.link.new.boxes c.parent.inside.index c.index_of.result c.child.inside.index c.self.invariant
    c.mark_up.ensures.marked c.mark_up.ensures.still c.mark_up.ensures.only c.link.ensures.joins c.link.ensures.only
    (rw (c.self.view_is, c.child.view_is) c.requires.free) (rw (c.self.view_is, c.parent.view_is, c.index_of.ensures) c.requires.before))

pub returns-clause-linked : goal.returns-clause-linked
returns-clause-linked g c = (
  rw (← c.self.view_is) c.self.invariant.linked,
  (sound_attached c.self.inside.boxes c.mark_up.new.boxes c.link.new.boxes c.parent.inside.index c.index_of.result c.child.inside.index c.self.invariant
      c.mark_up.ensures.marked c.mark_up.ensures.still c.mark_up.ensures.only c.link.ensures.joins c.link.ensures.only
      (rw (c.self.view_is, c.child.view_is) c.requires.free) (rw (c.self.view_is, c.parent.view_is, c.index_of.ensures) c.requires.before)
      (rw (c.self.view_is, c.parent.view_is) c.requires.parent) (rw (c.self.view_is, c.parent.view_is, c.child.view_is) c.requires.apart)).linked,
)
