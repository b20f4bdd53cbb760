use Rattle.std.proofs.Common.{◌∙◌, ◌≡◌, ap, sym}
use Rattle.std.specs.List.{position, remove}
use Rattle.std.specs.Prelude.{nat_eq}
use Rattle.dom_store.specs.Edits.{without}
use Rattle.dom_store.proofs.DropLaws.{fewer, none_dropped, one_dropped}
use Rattle.dom_store.proofs.siblings.drop_from.Goals as goal

pub loop-place-smaller : goal.loop-place-smaller
loop-place-smaller c =
    let found = ap (position (λ other. nat_eq other c.args.number)) (sym c.deref.ensures.value) ∙ (sym c.place_of.ensures ∙ c.in-Some.is) in
    let items : c.remove.new.self.items ≡ remove c.loop-place.children.items c.in-Some.place = c.remove.ensures.items in
    rw items (fewer c.args.number c.loop-place.children.items c.in-Some.place found)

pub loop-place-preserved : goal.loop-place-preserved
loop-place-preserved c =
    let found = ap (position (λ other. nat_eq other c.args.number)) (sym c.deref.ensures.value) ∙ (sym c.place_of.ensures ∙ c.in-Some.is) in
    ap (without c.args.number) c.remove.ensures.items ∙ (one_dropped c.args.number c.loop-place.children.items c.in-Some.place found ∙ c.loop-place.invariant)

pub returns : goal.returns
returns c =
    let none = ap (position (λ other. nat_eq other c.args.number)) (sym c.deref.ensures.value) ∙ (sym c.place_of.ensures ∙ c.in_default.is) in
    sym (none_dropped c.args.number c.loop-place.children.items none) ∙ c.loop-place.invariant
