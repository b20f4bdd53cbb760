use Rattle.std.proofs.Common.{rules, ◌≡◌, ◌∙◌, ◌&&◌, ap, sym, subst, true, not, List, ℕ, Bool, w64, FitsSigned}
use Rattle.std.specs.Prelude.{IfSome, option_map}
use Rattle.std.proofs.lemmas.Int.{to_z-of_z}
use Rattle.wm_modes.specs.declared.sides.FlowSide.{FlowSide}
use Rattle.wm_modes.specs.declared.sides.FlowSide.TheVariants.{LineOver, LineUnder, LineLeft, LineRight}
use Rattle.style_types.specs.declared.style.Style.{Style}
use Rattle.fragment_types.specs.Item.{Entry}
use Rattle.para_prepare.specs.Parts.{used_direction}
use Rattle.para_lines.specs.declared.boxes.Round.{Round}
use Rattle.para_lines.specs.Around.{box_at, has}
use Rattle.para_lines.specs.Boxes.{chain_at, chain_behind}
use Rattle.para_lines.specs.Lines as rule
use Rattle.para_lines.proofs.Chaining.{outer_is}
use Rattle.para_lines.proofs.LineLaws.{innermost_is, line_box_is}
use Rattle.para_lines.proofs.seated.PlacedBox.box_with.Goals as goal

pub seat_of-requires : goal.seat_of-requires
seat_of-requires c =
    let P : Round → Type 0 = λ round. IfSome round.inside (λ box. has c.args.self.now.seated.now.places.now box ≡ true) in
    subst P (sym c.round-round.ensures.is) c.args.self.now.on_line.outer

pub returns-clause-is : goal.returns-clause-is
returns-clause-is c = λ tables extents.
    let entries : List Entry = c.args.self.now.seated.now.boxes.now in
    let places : List ℕ = c.args.self.now.seated.now.places.now in
    let fits : FitsSigned w64 c.inner_edge_at.result = search rules in
    let fits-2 : FitsSigned w64 c.inner_edge_at-2.result = search rules in
    let fits-3 : FitsSigned w64 c.inner_edge_at-3.result = search rules in
    let fits-4 : FitsSigned w64 c.inner_edge_at-4.result = search rules in
    let fits-5 : FitsSigned w64 c.margin_at.result = search rules in
    let fits-6 : FitsSigned w64 c.margin_at-2.result = search rules in
    let style : c.at-own.result.style ≡ (box_at entries c.args.self.now.place).style = c.at-own.ensures.style in
    let inner : (side : FlowSide) → rule.inner_edge_at c.args.self.now.seated.now.container.now c.at-own.result.style side ≡ rule.inner_edge_at c.args.self.now.seated.now.container.now (box_at entries c.args.self.now.place).style side =
    λ side. ap (λ (s : Style). rule.inner_edge_at c.args.self.now.seated.now.container.now s side) style in
    let margin : (side : FlowSide) → rule.margin_at c.args.self.now.seated.now.container.now c.at-own.result.style side ≡ rule.margin_at c.args.self.now.seated.now.container.now (box_at entries c.args.self.now.place).style side =
    λ side. ap (λ (s : Style). rule.margin_at c.args.self.now.seated.now.container.now s side) style in
    line_box_is _ _ _ _ _ _ _ _ _ _ _ _ _ _ _ _ _ _ _ _ _ _ _ _
    c.at-own.ensures.node
    (c.seat_of.ensures ∙ ap (λ (r : Round). option_map (rule.place_in places) r.inside) c.round-round.ensures.is ∙ sym (innermost_is places (chain_at entries c.args.self.now.place))
    ∙ ap (rule.innermost_in places) (sym (outer_is entries c.args.self.now.place)))
    extents
    (c.used_direction.ensures ∙ ap (λ (s : Style). used_direction s) style)
    (to_z-of_z w64 c.inner_edge_at.result fits ∙ c.inner_edge_at.ensures.value ∙ inner LineLeft)
    (to_z-of_z w64 c.inner_edge_at-2.result fits-2 ∙ c.inner_edge_at-2.ensures.value ∙ inner LineRight)
    (to_z-of_z w64 c.inner_edge_at-3.result fits-3 ∙ c.inner_edge_at-3.ensures.value ∙ inner LineOver)
    (to_z-of_z w64 c.inner_edge_at-4.result fits-4 ∙ c.inner_edge_at-4.ensures.value ∙ inner LineUnder)
    (to_z-of_z w64 c.margin_at.result fits-5 ∙ c.margin_at.ensures.value ∙ margin LineLeft)
    (to_z-of_z w64 c.margin_at-2.result fits-6 ∙ c.margin_at-2.ensures.value ∙ margin LineRight)
    (c.has_edge.ensures ∙ ap (λ (b : Bool). b && not (has (chain_behind entries c.args.self.now.seated.now.sides.before) c.args.self.now.place)) c.at-own.ensures.opens)
    (c.has_edge-2.ensures ∙ ap (λ (b : Bool). b && not (has (chain_behind entries c.args.self.now.seated.now.sides.after) c.args.self.now.place)) c.at-own.ensures.closes)
