use Rattle.std.proofs.Common.{◌≡◌, ◌+ℤ◌, ◌∙◌, sym, ap, arith, List, [], w64, to_z, of_z}
use Rattle.std.proofs.lemmas.Int.{ints}
use Rattle.fragment_types.specs.Item.{Entry}
use Rattle.para_lines.specs.declared.boxes.Round.{Round}
use Rattle.para_lines.specs.Boxes.{innermost}
use Rattle.para_lines.proofs.Chaining.{climbing_within, less_left, there}
use Rattle.para_lines.proofs.FillLaws.{edging_first, edging_on, edging_stops}
use Rattle.para_lines.proofs.filling.FillInput.edges_between.Goals as goal

pub loop-inside-init : goal.loop-inside-init
loop-inside-init c =
    edging_first c.args.self.now.inline c.args.self.now.boxes.now c.args.side c.args.source _ c.round-inside.result.inside c.requires.source (ap (λ (r : Round). r.inside) c.round-inside.ensures.is)

pub loop-inside-smaller : goal.loop-inside-smaller
loop-inside-smaller c =
    let entries : List Entry = c.args.self.now.boxes.now in
    let box = climbing_within entries _ _ _ _ c.in-Some.beginning c.in-Some.is c.loop-inside.invariant.climbing in
    less_left entries c.loop-inside.inside c.round-inside-in-Some.result.inside c.in-Some.beginning c.in-Some.is box.0
    (ap (λ (r : Round). r.inside) c.round-inside-in-Some.ensures.is ∙ ap innermost (there entries c.in-Some.beginning [] box.0))

pub loop-inside-preserved : goal.loop-inside-preserved
loop-inside-preserved c =
    let entries : List Entry = c.args.self.now.boxes.now in
    let few = c.args.self.now.few in
    let near = c.loop-inside.invariant.near in
    let own = c.edge_of-edges.ensures.near in
    let sum : to_z w64 (of_z w64 (to_z w64 c.loop-inside.edges-bits +ℤ to_z w64 (of_z w64 c.edge_of-edges.result))) ≡ to_z w64 c.loop-inside.edges-bits +ℤ c.edge_of-edges.result = omega (arith, ints) in
    edging_on c.args.self.now.inline entries c.args.side _ _ c.loop-inside.inside c.round-inside-in-Some.result.inside (to_z w64 c.loop-inside.edges-bits) c.edge_of-edges.result _
    c.in-Some.beginning c.in-Some.is (sym c.stands_round.ensures ∙ c.if-stands_round.false) c.edge_of-edges.ensures.value own sum
    (ap (λ (r : Round). r.inside) c.round-inside-in-Some.ensures.is) c.loop-inside.invariant

pub returns-then-stands_round : goal.returns-then-stands_round
returns-then-stands_round c =
    edging_stops c.args.self.now.inline c.args.self.now.boxes.now c.args.side _ c.args.other c.loop-inside.inside _ c.in-Some.beginning c.in-Some.is c.requires.other
    (sym c.stands_round.ensures ∙ c.if-stands_round.true) c.loop-inside.invariant
