use Rattle.std.proofs.Common.{◌≡◌, ◌∙◌, ap, arith, refl, List, to_z, of_z, w64}
use Rattle.std.proofs.lemmas.Int.{ints}
use Rattle.fragment_types.specs.declared.fragment.Fragment.{Fragment}
use Rattle.line_place.specs.Walk.{followed}
use Rattle.line_place.proofs.Fragments.{followed_push, span_same}
use Rattle.line_place.proofs.walk.LineStage.close_box.Goals as goal

pub returns : goal.returns
returns c next =
    let b = c.box_at-inline_box.ensures.is in
    let l : to_z w64 (of_z w64 c.args.begun.left) ≡ c.args.begun.left = omega (arith, ints, c.requires.left) in
    let r : to_z w64 (of_z w64 c.args.right) ≡ c.args.right = omega (arith, ints) in
    ap (λ (parts : List Fragment). followed parts next) c.in_ok-push.ensures.items
    ∙ followed_push c.args.begun.before.items c.in_ok-fragment.fragment next
    ∙ ap (followed c.args.begun.before.items) (c.in_ok-fragment.ensures next ∙ span_same _ _ _ _ _ _ _ _ _ _ next b refl l r c.box_rect-rect.ensures)
