use Rattle.std.proofs.Common.{◌≡◌, ◌∙◌, ◌≤◌, refl, sym, ap, subst, arith, suc, Option}
use Rattle.fragment_types.specs.declared.constraint.Constraint.{Constraint}
use Rattle.box_arena.specs.At.{Node, first_at}
use Rattle.para_prepare.specs.Preparation.{Preparation}
use Rattle.relayout.specs.declared.row.Row.{Row}
use Rattle.relayout.specs.declared.sizes.Containing.{Containing}
use Rattle.relayout.specs.declared.sizing.Sizing.{Sizing}
use Rattle.box_gen.specs.Tree.{height}
use Rattle.relayout.specs.Flowing.{CanFlow}
use Rattle.relayout.specs.Row.{outside_of, row_in}
use Rattle.relayout.specs.Step.{laid_inside, sizing_of, used_in}
use Rattle.relayout.proofs.FlowingLaws.{Sizes, begun_near, can_be_inside, from_code, same_row, size_is, to_code}
use Rattle.relayout.proofs.RowLaws.{lives_there}
use Rattle.relayout.proofs.flowing.Flow.size_box.Goals as goal

pub at-flow_box-requires : goal.at-flow_box-requires
at-flow_box-requires g c = c.requires.begun.seen.box

pub inline_size-requires-clause-sizing : goal.inline_size-requires-clause-sizing
inline_size-requires-clause-sizing g c =
    let P : Containing → Node → Constraint → Option Preparation → Type 0 = λ containing node sizes text. c.args.begun.now.sizing ≡ sizing_of containing node sizes in
    to_code _ c.args.own.now c.requires.begun.seen.box c.at-flow_box.result c.at-flow_box.ensures P c.requires.begun.sizing

pub invariant_of-children : goal.invariant_of-children
invariant_of-children g c =
    let near = begun_near _ _ _ _ _ c.requires.begun c.requires.flowed in
    record { near = near.0; few = near.1 }

pub first-requires : goal.first-requires
first-requires g c = lives_there c.args.self.now.arena.now c.args.own.now.key c.requires.begun.seen.box.node c.requires.begun.seen.box.is

pub children-requires : goal.children-requires
children-requires g c =
    let has = c.requires.begun.seen.box in
    let low : suc (height has.inner) ≤ c.args.own.now.depth = has.low in
    omega (arith, low)

pub returns-clause-sized : goal.returns-clause-sized
returns-clause-sized g c =
    let outside = outside_of (λ vtable. (g.dyn-1.0.entry vtable).1) c.args.page in
    let is = c.requires.begun in
    let own = c.args.own.now in
    let begun = c.args.begun.now in
    let size = c.in_ok-size.size in
    let P = Sizes outside begun.sizing c.args.contributing.now size in
    record {
      seen = is.seen;
      size = size_is outside _ own begun c.args.contributing.now size is c.requires.flowed
          (from_code _ own is.seen.box c.at-flow_box.result c.at-flow_box.ensures P (λ ms text under. c.in_ok-size.ensures.value outside ms refl text under));
      near = c.in_ok-size.ensures.near;
      row = same_row _ own begun.sizing _ _ _ (used_in size) c.children.ensures (c.laid_inside-from.ensures ∙ ap (laid_inside size) c.first.ensures) c.used.ensures.used
          ∙ ap (λ (s : Sizing). row_in own s (laid_inside size (first_at c.args.self.now.arena.now.slots own.key)) (used_in size)) is.sizing;
    }

pub returns-clause-can : goal.returns-clause-can
returns-clause-can g c =
    let outside = outside_of (λ vtable. (g.dyn-1.0.entry vtable).1) c.args.page in
    let is = c.requires.begun in
    let own = c.args.own.now in
    let begun = c.args.begun.now in
    let size = c.in_ok-size.size in
    let slots = c.args.self.now.arena.now.slots in
    let P : Row → Type 0 = λ row. CanFlow outside slots row in
    subst P (sym (same_row _ own begun.sizing _ _ _ (used_in size) c.children.ensures (c.laid_inside-from.ensures ∙ ap (laid_inside size) c.first.ensures) c.used.ensures.used))
    (can_be_inside slots own is.seen.box outside begun.sizing is.seen.view is.seen.right c.at-flow_box.ensures.linked is.sizing is.handed size c.in_ok-size.ensures.near)
