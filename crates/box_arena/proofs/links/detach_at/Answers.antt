use Rattle.std.proofs.Common.{◌≡◌, ◌∙◌, ℕ, Some, refl, sym, ap, subst}
use Rattle.std.proofs.lemmas.Option.{same_Some}
use Rattle.box_arena.specs.At.{parent_at}
use Rattle.box_arena.specs.Arena.{Detaches}
use Rattle.box_arena.specs.Links.{parent_of}
use Rattle.box_arena.proofs.Climbs.{links_move, lives}
use Rattle.box_arena.proofs.TreeCalls.{detaches, sound_detached}
use Rattle.box_arena.proofs.links.detach_at.Goals as goal

pub mark_up-requires-clause-live : goal.mark_up-requires-clause-live
mark_up-requires-clause-live g c =
    lives c.args.boxes.now c.args.boxes.now (λ k. refl) c.in-Some.parent (c.requires.sound.linked.live c.args.key c.in-Some.parent (ap parent_of c.links_of.ensures ∙ c.in-Some.is))

pub unlink-requires-clause-linked : goal.unlink-requires-clause-linked
unlink-requires-clause-linked g c = links_move c.args.boxes.now.slots c.mark_up.new.boxes.slots c.mark_up.ensures.only.links c.requires.sound.linked

pub returns-in-Some-clause-detaches : goal.returns-in-Some-clause-detaches
returns-in-Some-clause-detaches g c = λ parent is.
    let at : parent_at c.args.boxes.now.slots c.args.key ≡ Some c.in-Some.parent = ap parent_of c.links_of.ensures ∙ c.in-Some.is in
    let P : ℕ → Type 0 = λ p. Detaches c.args.boxes.now c.unlink.new.boxes p c.args.key in
    subst P (same_Some c.in-Some.parent parent (sym at ∙ is))
    (detaches c.args.boxes.now c.mark_up.new.boxes c.unlink.new.boxes c.in-Some.parent c.args.key c.requires.sound c.mark_up.ensures.marked c.mark_up.ensures.still c.mark_up.ensures.only c.unlink.ensures.parts c.unlink.ensures.only at)

pub returns-in-Some-clause-sound : goal.returns-in-Some-clause-sound
returns-in-Some-clause-sound g c =
    let at : parent_at c.args.boxes.now.slots c.args.key ≡ Some c.in-Some.parent = ap parent_of c.links_of.ensures ∙ c.in-Some.is in
    sound_detached c.args.boxes.now c.mark_up.new.boxes c.unlink.new.boxes c.in-Some.parent c.args.key c.requires.sound c.mark_up.ensures.marked c.mark_up.ensures.still c.mark_up.ensures.only c.unlink.ensures.parts c.unlink.ensures.only at
