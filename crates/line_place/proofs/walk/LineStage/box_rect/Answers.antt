use Rattle.std.proofs.Common.{◌≡◌, ◌∙◌, ap, arith, ◌+◌, ◌^◌, ◌≤◌, unsigned_abs, ℤ, ◌+ℤ◌, ◌-ℤ◌, to_z, of_z, w64}
use Rattle.std.proofs.lemmas.Int.{ints}
use Rattle.wm_modes.specs.declared.rects.FlowRect.{FlowRect}
use Rattle.line_place.specs.declared.line.LineBox.{LineBox}
use Rattle.line_place.specs.Placing as rule
use Rattle.line_place.proofs.Lengths.{difference_held, far_difference_held, held, sum_held}
use Rattle.line_place.proofs.walk.LineStage.box_rect.Goals as goal

made : (box : LineBox) (over left right i b inline block : ℤ) → i ≡ left → b ≡ over -ℤ box.extents.raised -ℤ box.extents.ascent -ℤ box.over
    → inline ≡ right -ℤ left → block ≡ box.over +ℤ (box.extents.ascent +ℤ box.extents.descent) +ℤ box.under
    → let own : FlowRect = record { i = i; b = b; inline = inline; block = block } in own ≡ rule.box_rect box over left right
made box over left right i b inline block p q r s = rw (p, q, r, s)

pub overflow_add-with_over : goal.overflow_add-with_over
overflow_add-with_over c =
    let k : c.text_rect-text.result.block ≡ c.args.inline_box.now.extents.ascent +ℤ c.args.inline_box.now.extents.descent = ap (λ (r : FlowRect). r.block) c.text_rect-text.ensures in
    omega (arith, ints, k, c.requires.reach)

pub overflow_sub-result : goal.overflow_sub-result
overflow_sub-result c =
    let b : c.text_rect-text.result.b ≡ c.args.self.now.over -ℤ c.args.inline_box.now.extents.raised -ℤ c.args.inline_box.now.extents.ascent = ap (λ (r : FlowRect). r.b) c.text_rect-text.ensures in
    omega (arith, ints, b, c.requires.reach, c.args.self.now.near)

pub overflow_add-result : goal.overflow_add-result
overflow_add-result c =
    let k : c.text_rect-text.result.block ≡ c.args.inline_box.now.extents.ascent +ℤ c.args.inline_box.now.extents.descent = ap (λ (r : FlowRect). r.block) c.text_rect-text.ensures in
    omega (arith, ints, k, c.requires.reach)

pub returns : goal.returns
returns c =
    let b : c.text_rect-text.result.b ≡ c.args.self.now.over -ℤ c.args.inline_box.now.extents.raised -ℤ c.args.inline_box.now.extents.ascent = ap (λ (r : FlowRect). r.b) c.text_rect-text.ensures in
    let k : c.text_rect-text.result.block ≡ c.args.inline_box.now.extents.ascent +ℤ c.args.inline_box.now.extents.descent = ap (λ (r : FlowRect). r.block) c.text_rect-text.ensures in
    let i = ap (λ (r : FlowRect). r.i) c.text_rect-text.ensures in
    let l = ap (λ (r : FlowRect). r.inline) c.text_rect-text.ensures in
    let near : unsigned_abs c.text_rect-text.result.b ≤ 2 ^ 61 + 2 ^ 60 = omega (arith, ints, b, c.requires.reach, c.args.self.now.near) in
    let d : to_z w64 (of_z w64 (to_z w64 (of_z w64 c.text_rect-text.result.b) -ℤ to_z w64 (of_z w64 c.args.inline_box.now.over))) ≡ c.text_rect-text.result.b -ℤ c.args.inline_box.now.over =
    far_difference_held c.text_rect-text.result.b c.args.inline_box.now.over near (omega (arith, c.requires.reach)) in
    let wide : c.text_rect-text.result.inline ≡ c.args.right -ℤ c.args.left = l ∙ difference_held c.args.right c.args.left c.requires.right c.requires.left in
    let inner : to_z w64 (of_z w64 c.args.inline_box.now.over) +ℤ to_z w64 (of_z w64 c.text_rect-text.result.block)
    ≡ c.args.inline_box.now.over +ℤ (c.args.inline_box.now.extents.ascent +ℤ c.args.inline_box.now.extents.descent) = omega (arith, ints, k, c.requires.reach) in
    made c.args.inline_box.now c.args.self.now.over c.args.left c.args.right _ _ _ _
    (omega (arith, ints, i))
    (d ∙ ap (λ (x : ℤ). x -ℤ c.args.inline_box.now.over) b)
    (held c.text_rect-text.result.inline (omega (arith, ints, wide, c.requires.left, c.requires.right)) ∙ wide)
    (sum_held (to_z w64 (of_z w64 c.args.inline_box.now.over) +ℤ to_z w64 (of_z w64 c.text_rect-text.result.block)) c.args.inline_box.now.under (omega (arith, ints, inner, c.requires.reach)) (omega (arith, c.requires.reach))
    ∙ ap (λ (x : ℤ). x +ℤ c.args.inline_box.now.under) inner)
