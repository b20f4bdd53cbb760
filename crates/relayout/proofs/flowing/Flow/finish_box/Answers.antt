use Rattle.std.proofs.Common.{refl, sym, subst, length, Option}
use Rattle.fragment_types.specs.declared.constraint.Constraint.{Constraint}
use Rattle.fragment_types.specs.Fragment.{Pieces}
use Rattle.box_arena.specs.Arena.{Keeps}
use Rattle.box_arena.specs.At.{Node}
use Rattle.para_prepare.specs.Preparation.{Preparation}
use Rattle.relayout.specs.declared.flowed.LaidBox.{LaidBox}
use Rattle.relayout.specs.declared.sizes.Containing.{Containing}
use Rattle.relayout.specs.Row.{IsSteady, outside_of}
use Rattle.relayout.specs.Step.{HasChildren}
use Rattle.relayout.proofs.FlowingLaws.{Finishes, finished, from_code, sized_children, sized_near, to_code}
use Rattle.relayout.proofs.RowLaws.{Arena, lives_there, steady_itself}
use Rattle.relayout.proofs.flowing.Flow.finish_box.Goals as goal

pub at-flow_box-requires : goal.at-flow_box-requires
at-flow_box-requires g c = c.requires.sized.seen.box

pub invariant_of-children : goal.invariant_of-children
invariant_of-children g c =
    let near = sized_near _ _ _ _ _ c.requires.sized c.requires.flowed in
    record { near = near.0; few = near.1 }

pub laid-requires-clause-children : goal.laid-requires-clause-children
laid-requires-clause-children g c =
    let P : Containing → Node → Constraint → Option Preparation → Type 0 = λ containing node sizes text. HasChildren c.args.sized.now.size node.content (length c.args.inside.now) in
    to_code _ c.args.own.now c.requires.sized.seen.box c.at-flow_box.result c.at-flow_box.ensures P (sized_children _ _ _ _ _ c.requires.sized c.requires.flowed)

pub keep-requires : goal.keep-requires
keep-requires g c = lives_there c.args.self.now.arena.now c.args.own.now.key c.requires.sized.seen.box.node c.requires.sized.seen.box.is

pub returns-in_err-keep-clause-steady : goal.returns-in_err-keep-clause-steady
returns-in_err-keep-clause-steady g c =
    let outside = outside_of (λ vtable. (g.dyn-1.0.entry vtable).1) c.args.page in
    let P : Arena → Type 0 = λ boxes. IsSteady outside c.args.self.now.arena.now boxes in
    subst P (sym c.in_err-keep.ensures.err) (steady_itself outside c.args.self.now.arena.now c.requires.sized.seen.right)

pub returns-clause-keeps : goal.returns-clause-keeps
returns-clause-keeps g c =
    let P : Pieces → Type 0 = λ p. Keeps c.args.self.now.arena.now c.keep.new.self c.args.own.now.key c.args.own.now.c p in
    subst P c.in_ok-copy.ensures c.in_ok-keep.ensures.ok

pub returns-clause-steady : goal.returns-clause-steady
returns-clause-steady g c =
    let outside = outside_of (λ vtable. (g.dyn-1.0.entry vtable).1) c.args.page in
    let is = c.requires.sized in
    let own = c.args.own.now in
    let sized = c.args.sized.now in
    let below = c.args.inside.now in
    let code = c.at-flow_box.result in
    let laid : LaidBox = record { style = c.in_ok-style.style; fragment = c.in_ok-fragment.fragment } in
    let finishes = from_code _ own is.seen.box code c.at-flow_box.ensures (Finishes outside sized.size below laid)
    (c.in_ok-style.ensures.cases, (λ ms text inside. c.in_ok-fragment.ensures.part outside ms refl text inside), c.in_ok-fragment.ensures.reach) in
    (finished outside c.args.self.now.arena.now c.keep.new.self own sized below laid _ is c.requires.flowed finishes c.in_ok-copy.ensures c.in_ok-keep.ensures.ok).0

pub returns-clause-flowed : goal.returns-clause-flowed
returns-clause-flowed g c =
    let outside = outside_of (λ vtable. (g.dyn-1.0.entry vtable).1) c.args.page in
    let is = c.requires.sized in
    let own = c.args.own.now in
    let sized = c.args.sized.now in
    let below = c.args.inside.now in
    let code = c.at-flow_box.result in
    let laid : LaidBox = record { style = c.in_ok-style.style; fragment = c.in_ok-fragment.fragment } in
    let finishes = from_code _ own is.seen.box code c.at-flow_box.ensures (Finishes outside sized.size below laid)
    (c.in_ok-style.ensures.cases, (λ ms text inside. c.in_ok-fragment.ensures.part outside ms refl text inside), c.in_ok-fragment.ensures.reach) in
    (finished outside c.args.self.now.arena.now c.keep.new.self own sized below laid _ is c.requires.flowed finishes c.in_ok-copy.ensures c.in_ok-keep.ensures.ok).1
