use Rattle.std.proofs.Common.{◌≡◌, ◌∙◌, ℕ, Option, refl, sym, ap, subst, false}
use Rattle.std.proofs.lemmas.Option.{same_Some}
use Rattle.std.proofs.lemmas.Bool.{not-true}
use Rattle.box_arena.specs.At.{links_at, mark_at}
use Rattle.box_arena.specs.Climb.{Clears}
use Rattle.box_arena.specs.Links.{parent_of}
use Rattle.box_arena.specs.Marks.{is_marked, is_seen}
use Rattle.box_arena.proofs.Climbs.{clears_next, cleared, only_more}
use Rattle.box_arena.proofs.climb.clear.Goals as goal

pub loop-current-preserved : goal.loop-current-preserved
loop-current-preserved g c =
    let at : ℕ = c.in-Some.at in
    let was = c.loop-current.invariant in
    let P : Option ℕ → Type 0 = λ o. Clears (links_at c.args.boxes.now.slots) (mark_at c.args.boxes.now.slots) (mark_at c.loop-current.boxes.slots) c.args.key o in
    let Q : Option ℕ → Type 0 = λ o. Clears (links_at c.args.boxes.now.slots) (mark_at c.args.boxes.now.slots) (mark_at c.set_mark.new.boxes.slots) c.args.key o in
    let parent : parent_of (links_at c.args.boxes.now.slots at) ≡ c.links_of-current.result.parent
    = ap parent_of (sym (was.only.links at) ∙ sym (c.set_mark.ensures.links at) ∙ c.links_of-current.ensures) in
    record {
      clears = subst Q parent (clears_next _ _ _ _ _ at _ c.set_mark.ensures.marks refl c.requires.linked (sym (ap is_marked c.mark_of-mark.ensures)) (subst P c.in-Some.is was.clears));
      only = only_more _ _ _ _ _ was.only c.set_mark.ensures;
    }

pub returns-then-not-mark-clause-still : goal.returns-then-not-mark-clause-still
returns-then-not-mark-clause-still g c =
    let P : ℕ → Type 0 = λ k. is_seen (mark_at c.loop-current.boxes.slots k) ≡ false in
    let here : is_seen (mark_at c.loop-current.boxes.slots c.in-Some.at) ≡ false = ap is_seen c.mark_of-mark.ensures ∙ not-true _ c.if-not-mark.true in
    cleared _ _ _ _ c.loop-current.current (λ p is. subst P (same_Some c.in-Some.at p (sym c.in-Some.is ∙ is)) here) c.loop-current.invariant.clears
