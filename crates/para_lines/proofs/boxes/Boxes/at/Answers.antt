use Rattle.std.proofs.Common.{◌<◌, ◌∙◌, List, [], ap, length, sym, subst, arith}
use Rattle.std.proofs.lemmas.List.{length-map}
use Rattle.fragment_types.specs.declared.item.Item.{Item}
use Rattle.fragment_types.specs.Item.{Entry, entry_of}
use Rattle.para_lines.specs.Around.{box_at, box_by}
use Rattle.para_lines.specs.Boxes.{AreBoxes, HasBounds}
use Rattle.para_lines.proofs.Chaining.{bounded_there, box_style_there, closes_there, node_there, opens_there}
use Rattle.para_lines.proofs.boxes.Boxes.at.Goals as goal

pub index-end-requires : goal.index-end-requires
index-end-requires c =
    let many = c.self.invariant.ends_are.count in
    let view = ap length c.self.view_is in
    let lt = c.requires in
    omega arith

pub bounds-self-inside-place : goal.bounds-self-inside-place
bounds-self-inside-place c = omega (arith, length-map c.self.inside.items.now entry_of, ap length c.self.view_is, c.requires)

pub beginning_of-requires : goal.beginning_of-requires
beginning_of-requires c =
    let lt : c.args.place < length c.self.inside.items.now = omega (arith, length-map c.self.inside.items.now entry_of, ap length c.self.view_is, c.requires) in
    let P : Item → Type 0 = λ x. HasBounds (entry_of x) in
    subst P c.index-self-place.is (bounded_there c.self.inside.items.now c.args.place c.index-self-place.result lt c.index-self-place.is c.self.invariant.bounded.bounds)

pub returns-clause-node : goal.returns-clause-node
returns-clause-node c =
    let lt : c.args.place < length c.self.inside.items.now = omega (arith, length-map c.self.inside.items.now entry_of, ap length c.self.view_is, c.requires) in
    c.beginning_of.ensures.node
    ∙ ap (λ (x : Item). (box_by (entry_of x) c.index-end.result.now.closes []).node) (sym c.index-self-place.is)
    ∙ node_there c.self.inside.items.now c.args.place c.index-self-place.result c.index-end.result.now.closes lt c.index-self-place.is
    ∙ ap (λ (entries : List Entry). (box_at entries c.args.place).node) c.self.view_is

pub returns-clause-style : goal.returns-clause-style
returns-clause-style c =
    let lt : c.args.place < length c.self.inside.items.now = omega (arith, length-map c.self.inside.items.now entry_of, ap length c.self.view_is, c.requires) in
    c.beginning_of.ensures.style
    ∙ ap (λ (x : Item). (box_by (entry_of x) c.index-end.result.now.closes []).style) (sym c.index-self-place.is)
    ∙ box_style_there c.self.inside.items.now c.args.place c.index-self-place.result c.index-end.result.now.closes lt c.index-self-place.is
    ∙ ap (λ (entries : List Entry). (box_at entries c.args.place).style) c.self.view_is

pub returns-clause-opens : goal.returns-clause-opens
returns-clause-opens c =
    let lt : c.args.place < length c.self.inside.items.now = omega (arith, length-map c.self.inside.items.now entry_of, ap length c.self.view_is, c.requires) in
    c.beginning_of.ensures.opens
    ∙ ap (λ (x : Item). (box_by (entry_of x) c.index-end.result.now.closes []).opens) (sym c.index-self-place.is)
    ∙ opens_there c.self.inside.items.now c.args.place c.index-self-place.result c.index-end.result.now.closes lt c.index-self-place.is
    ∙ ap (λ (entries : List Entry). (box_at entries c.args.place).opens) c.self.view_is

pub returns-clause-closes : goal.returns-clause-closes
returns-clause-closes c =
    let Own : List Entry → Type 0 = λ entries. AreBoxes entries c.self.inside.rounds.items c.self.inside.ends.items in
    let own = subst Own c.self.view_is c.self.invariant in
    c.beginning_of.ensures.closes ∙ closes_there c.args.self.now c.self.inside.ends.items c.args.place c.index-end.result.now own.ends_are c.requires c.index-end.ensures
