use Rattle.std.proofs.Common.{◌≡◌, ◌∙◌, ◌≤◌, refl, sym, ap, subst, arith, suc, None, Option}
use Rattle.fragment_types.specs.declared.constraint.Constraint.{Constraint}
use Rattle.box_arena.specs.At.{Node}
use Rattle.para_prepare.specs.Preparation.{Preparation}
use Rattle.relayout.specs.declared.row.Row.{Row}
use Rattle.relayout.specs.declared.sizes.Containing.{Containing}
use Rattle.box_gen.specs.Tree.{height}
use Rattle.relayout.specs.Flowing.{CanFlow}
use Rattle.relayout.specs.Row.{outside_of}
use Rattle.relayout.specs.Step.{contributing, sizing_of}
use Rattle.relayout.proofs.FlowingLaws.{can_contribute, from_code, same_row}
use Rattle.relayout.proofs.RowLaws.{lives_there}
use Rattle.relayout.proofs.flowing.Flow.begin_box.Goals as goal

pub first-requires : goal.first-requires
first-requires g c =
    let has = c.in_ok-see_text.ensures.seen.box in
    lives_there c.see_text.new.self.arena.now c.args.own.now.key has.node has.is

pub children-requires : goal.children-requires
children-requires g c =
    let has = c.in_ok-see_text.ensures.seen.box in
    let low : suc (height has.inner) ≤ c.args.own.now.depth = has.low in
    omega (arith, low)

pub returns-clause-begun : goal.returns-clause-begun
returns-clause-begun g c =
    let seen = c.in_ok-see_text.ensures.seen in
    let own = c.args.own.now in
    let P : Containing → Node → Constraint → Option Preparation → Type 0 = λ containing node sizes text. c.sizing-sizing.result ≡ sizing_of containing node sizes in
    record {
      seen = seen;
      sizing = from_code _ own seen.box c.at.result c.at.ensures P c.sizing-sizing.ensures.sizing;
      handed = c.sizing-sizing.ensures.handed;
      definite = c.sizing-sizing.ensures.definite;
      row = same_row _ own c.sizing-sizing.result _ _ None None c.children.ensures (c.contributing-from.ensures ∙ ap (contributing c.sizing-sizing.result.definite) c.first.ensures) refl;
    }

pub returns-clause-can : goal.returns-clause-can
returns-clause-can g c =
    let outside = outside_of (λ vtable. (g.dyn-1.0.entry vtable).1) c.args.page in
    let seen = c.in_ok-see_text.ensures.seen in
    let own = c.args.own.now in
    let slots = c.see_text.new.self.arena.now.slots in
    let P : Containing → Node → Constraint → Option Preparation → Type 0 = λ containing node sizes text. c.sizing-sizing.result ≡ sizing_of containing node sizes in
    let Q : Row → Type 0 = λ row. CanFlow outside slots row in
    subst Q (sym (same_row _ own c.sizing-sizing.result _ _ None None c.children.ensures (c.contributing-from.ensures ∙ ap (contributing c.sizing-sizing.result.definite) c.first.ensures) refl))
    (can_contribute slots own seen.box outside c.sizing-sizing.result seen.view seen.right c.at.ensures.linked (from_code _ own seen.box c.at.result c.at.ensures P c.sizing-sizing.ensures.sizing) c.sizing-sizing.ensures.handed
    c.sizing-sizing.result.definite)
