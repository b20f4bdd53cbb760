use Rattle.std.proofs.Common.{◌≡◌, ◌∙◌, ap, arith, refl, ◌+ℤ◌}
use Rattle.std.proofs.lemmas.Int.{ints}
use Rattle.line_place.specs.declared.line.LineBox.{LineBox}
use Rattle.line_place.specs.Marks.{box_at}
use Rattle.line_place.specs.Placing as rule
use Rattle.line_place.proofs.WalkLaws.{ended_as}
use Rattle.line_place.proofs.walk.Walk.end.Goals as goal

pub overflow_add-self : goal.overflow_add-self
overflow_add-self c =
    let b = c.box_at-inline_box.ensures.is in
    let r : c.right.result ≡ rule.right (box_at c.args.stage.now.frame.now.boxes.now c.args.place) c.args.edge = c.right.ensures ∙ ap (λ (x : LineBox). rule.right x c.args.edge) b in
    let m : c.right_margin-margin.result ≡ rule.right_margin (box_at c.args.stage.now.frame.now.boxes.now c.args.place) c.args.edge = c.right_margin-margin.ensures ∙ ap (λ (x : LineBox). rule.right_margin x c.args.edge) b in
    omega (arith, ints, r, m, c.requires.at)

pub returns-clause-at : goal.returns-clause-at
returns-clause-at c =
    let b = c.box_at-inline_box.ensures.is in
    let r : c.right.result ≡ rule.right (box_at c.args.stage.now.frame.now.boxes.now c.args.place) c.args.edge = c.right.ensures ∙ ap (λ (x : LineBox). rule.right x c.args.edge) b in
    let m : c.right_margin-margin.result ≡ rule.right_margin (box_at c.args.stage.now.frame.now.boxes.now c.args.place) c.args.edge = c.right_margin-margin.ensures ∙ ap (λ (x : LineBox). rule.right_margin x c.args.edge) b in
    omega (arith, ints, r, m, c.requires.at)

pub returns-clause-closed : goal.returns-clause-closed
returns-clause-closed c os o is =
    let b = c.box_at-inline_box.ensures.is in
    let r : c.right.result ≡ rule.right (box_at c.args.stage.now.frame.now.boxes.now c.args.place) c.args.edge = c.right.ensures ∙ ap (λ (x : LineBox). rule.right x c.args.edge) b in
    let k = c.in_ok-close_innermost.ensures.closed os o is in (
      k.0,
      λ next. ended_as c.args.stage.now.frame.now.boxes.now _ o c.args.stage.now.over (c.args.self.now.at +ℤ rule.right (box_at c.args.stage.now.frame.now.boxes.now c.args.place) c.args.edge)
          _ _ _ _ _ c.args.self.now.parts.items _ next (k.1 next) refl refl refl refl (omega (arith, ints, r, c.requires.at)) refl,
    )
