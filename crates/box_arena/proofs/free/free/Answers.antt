use Rattle.std.proofs.Common.{rules, ◌≡◌, ◌∙◌, None, sym, ap}
use Rattle.box_arena.specs.Links.{first_of}
use Rattle.box_arena.proofs.Releasing.{first_inside, lessens_more, releases, sound_released}
use Rattle.box_arena.proofs.free.free.Goals as goal

pub step-requires-clause-child : goal.step-requires-clause-child
step-requires-clause-child g c =
    first_inside c.loop-first.boxes c.args.key c.in-Some.child c.loop-first.invariant.lessens.sound (sym c.loop-first.invariant.first ∙ c.in-Some.is)

pub loop-first-preserved : goal.loop-first-preserved
loop-first-preserved g c = record {
  lessens = lessens_more c.args.boxes.now c.loop-first.boxes c.step.new.boxes c.args.key c.loop-first.invariant.lessens c.step.ensures.lessens;
  first = sym (ap first_of c.links_of-first-in-Some.ensures);
}

pub returns-clause-releases : goal.returns-clause-releases
returns-clause-releases g c =
    let none : c.loop-first.first ≡ None = search rules in
    releases c.args.boxes.now c.loop-first.boxes c.remove_at.new.boxes c.args.key c.loop-first.invariant.lessens (sym c.loop-first.invariant.first ∙ none) c.remove_at.ensures

pub returns-clause-sound : goal.returns-clause-sound
returns-clause-sound g c =
    let none : c.loop-first.first ≡ None = search rules in
    sound_released c.args.boxes.now c.loop-first.boxes c.remove_at.new.boxes c.args.key c.loop-first.invariant.lessens (sym c.loop-first.invariant.first ∙ none) c.remove_at.ensures
