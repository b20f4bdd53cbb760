use Rattle.std.proofs.Common.{◌≡◌, arith, ℤ, ◌+ℤ◌, ◌-ℤ◌}
use Rattle.std.proofs.lemmas.Int.{ints}
use Rattle.wm_modes.specs.declared.rects.FlowRect.{FlowRect}
use Rattle.line_place.specs.declared.line.Extents.{Extents}
use Rattle.line_place.specs.Placing as rule
use Rattle.line_place.proofs.walk.LineStage.text_rect.Goals as goal

made : (extents : Extents) (over left extent i b inline block : ℤ) → i ≡ left → b ≡ over -ℤ extents.raised -ℤ extents.ascent → inline ≡ extent → block ≡ extents.ascent +ℤ extents.descent
    → let own : FlowRect = record { i = i; b = b; inline = inline; block = block } in own ≡ rule.text_rect extents over left extent
made extents over left extent i b inline block p q r s = rw (p, q, r, s)

pub overflow_sub-result : goal.overflow_sub-result
overflow_sub-result c = omega (arith, ints, c.requires.extents, c.args.self.now.near)

pub returns : goal.returns
returns c =
    made c.args.extents.now c.args.self.now.over c.args.left c.args.extent _ _ _ _
    (omega (arith, ints)) (omega (arith, ints, c.requires.extents, c.args.self.now.near)) (omega (arith, ints)) (omega (arith, ints, c.requires.extents))
