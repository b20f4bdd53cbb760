use Rattle.std.proofs.Common.{◌≡◌, ◌∙◌, ◌+◌, ap, drop, sym}
use Rattle.std.specs.List.{list_any}
use Rattle.std.specs.Prelude.{nat_eq}
use Rattle.dom_store.proofs.DropLaws.{alone_there, none_dropped}
use Rattle.dom_store.proofs.siblings.standing_among.Goals as goal

pub returns-in_default : goal.returns-in_default
returns-in_default c = none_dropped c.args.number c.args.children.now (sym c.place_of.ensures ∙ c.in_default.is)

pub returns : goal.returns
returns c =
    let later : c.split_at.result.1.now ≡ drop (c.in-Some.place + 1) c.args.children.now = c.split_at.ensures.back in
    let none = ap (list_any (λ other. nat_eq other c.args.number)) (sym later) ∙ (sym c.has.ensures ∙ c.if-has.false) in
    alone_there c.args.number c.args.children.now c.in-Some.place (sym c.place_of.ensures ∙ c.in-Some.is) none
