use Rattle.std.proofs.Common.{◌≡◌, ◌∙◌, ap, arith, List, None, ℤ, ◌-ℤ◌, to_z, of_z, w64}
use Rattle.std.proofs.lemmas.Int.{ints}
use Rattle.wm_modes.specs.declared.rects.FlowRect.{FlowRect}
use Rattle.fragment_types.specs.declared.item.BoxName.{BoxName}
use Rattle.fragment_types.specs.RunUnit.{RunUnit}
use Rattle.fragment_types.specs.Fragment.{Pieces, none, piece}
use Rattle.fragment_types.specs.Fragment as fragments
use Rattle.line_place.specs.declared.line.Extents.{Extents}
use Rattle.line_place.specs.Placing.{offset, text_rect, unnumbered}
use Rattle.line_place.specs.LineText.{Text, text_of, text_piece}
use Rattle.line_place.proofs.walk.LineStage.text_alone.Goals as goal

same : (t : Text) (strut : Extents) (over left : ℤ) (name : BoxName) (rect : FlowRect) (l e : ℤ) (units : List RunUnit) (next : Pieces) → name ≡ unnumbered t.node → rect ≡ text_rect strut over l e
    → l ≡ left → e ≡ t.extent → units ≡ t.units
    → piece name rect (fragments.run t.form 0 None units) none next ≡ text_piece strut over left t next
same t strut over left name rect l e units next a b p q u =
    ap (λ (n : BoxName). piece n rect (fragments.run t.form 0 None units) none next) a
    ∙ ap (λ (r : FlowRect). piece (unnumbered t.node) r (fragments.run t.form 0 None units) none next) b
    ∙ ap (λ z. piece (unnumbered t.node) (text_rect strut over z e) (fragments.run t.form 0 None units) none next) p
    ∙ ap (λ z. piece (unnumbered t.node) (text_rect strut over left z) (fragments.run t.form 0 None units) none next) q
    ∙ ap (λ (us : List RunUnit). piece (unnumbered t.node) (text_rect strut over left t.extent) (fragments.run t.form 0 None us) none next) u

pub returns : goal.returns
returns c next =
    let near = c.requires in
    let left = c.offset-left.ensures.near in
    let rest : to_z w64 (of_z w64 (to_z w64 (of_z w64 c.args.self.now.frame.now.available) -ℤ to_z w64 (of_z w64 c.args.text.extent))) ≡ c.args.self.now.frame.now.available -ℤ c.args.text.extent = omega (arith, ints) in
    let e : to_z w64 (of_z w64 c.args.text.extent) ≡ c.args.text.extent = omega (arith, ints) in
    let l : to_z w64 (of_z w64 c.offset-left.result) ≡ c.offset-left.result = omega (arith, ints, rest) in
    c.in_ok-made.ensures next
    ∙ same (text_of c.args.text) c.args.self.now.frame.now.strut c.args.self.now.over _ _ _ _ _ _ next c.unnumbered.ensures c.text_rect-rect.ensures (l ∙ c.offset-left.ensures.is ∙ ap (offset c.args.self.now.frame.now.align 0) rest) e (ap (λ (units : _). units.items) c.in_ok-new.ensures.ok)
