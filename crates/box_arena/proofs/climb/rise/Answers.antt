use Rattle.std.proofs.Common.{rules, ◌≡◌, ◌∙◌, ℕ, Option, None, refl, sym, ap, subst, true}
use Rattle.std.proofs.lemmas.Option.{same_Some}
use Rattle.box_arena.specs.At.{links_at, mark_at}
use Rattle.box_arena.specs.Climb.{Rises}
use Rattle.box_arena.specs.Links.{parent_of}
use Rattle.box_arena.specs.Marks.{is_seen}
use Rattle.box_arena.proofs.Climbs.{rises_next, risen, only_more}
use Rattle.box_arena.proofs.climb.rise.Goals as goal

pub loop-current-preserved : goal.loop-current-preserved
loop-current-preserved g c =
    let at : ℕ = c.in-Some.at in
    let was = c.loop-current.invariant in
    let P : Option ℕ → Type 0 = λ o. Rises (links_at c.args.boxes.now.slots) (mark_at c.args.boxes.now.slots) (mark_at c.loop-current.boxes.slots) c.args.key o in
    let Q : Option ℕ → Type 0 = λ o. Rises (links_at c.args.boxes.now.slots) (mark_at c.args.boxes.now.slots) (mark_at c.set_mark.new.boxes.slots) c.args.key o in
    let parent : parent_of (links_at c.args.boxes.now.slots at) ≡ c.links_of-current.result.parent
    = ap parent_of (sym (was.only.links at) ∙ sym (c.set_mark.ensures.links at) ∙ c.links_of-current.ensures) in
    record {
      rises = subst Q parent (rises_next _ _ _ _ _ at _ c.set_mark.ensures.marks c.requires.sound.linked refl refl (subst P c.in-Some.is was.rises));
      only = only_more _ _ _ _ _ was.only c.set_mark.ensures;
    }

pub returns-then-mark-clause-risen : goal.returns-then-mark-clause-risen
returns-then-mark-clause-risen g c =
    let P : ℕ → Type 0 = λ k. is_seen (mark_at c.loop-current.boxes.slots k) ≡ true in
    let here : is_seen (mark_at c.loop-current.boxes.slots c.in-Some.at) ≡ true = ap is_seen c.mark_of-mark.ensures ∙ c.if-mark.true in
    risen _ _ _ _ c.loop-current.current (λ p is. subst P (same_Some c.in-Some.at p (sym c.in-Some.is ∙ is)) here) c.loop-current.invariant.rises

pub returns-in_default-clause-risen : goal.returns-in_default-clause-risen
returns-in_default-clause-risen g c =
    risen _ _ _ _ c.loop-current.current (λ p is. let none : c.loop-current.current ≡ None = search rules in absurd (cc)) c.loop-current.invariant.rises
