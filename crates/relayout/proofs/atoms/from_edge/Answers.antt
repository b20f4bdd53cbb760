use Rattle.std.proofs.Common.{◌≡◌, ◌∙◌, ap, arith, Bool, ◌+ℤ◌, w64, to_z, of_z}
use Rattle.std.proofs.lemmas.Int.{ints}
use Rattle.wm_modes.specs.declared.sides.Side.{Side}
use Rattle.relayout.specs.Atoms.{from_over, same_side}
use Rattle.relayout.proofs.atoms.from_edge.Goals as goal

both_sides : (one one2 other other2 : Side) → one ≡ one2 → other ≡ other2 → same_side one other ≡ same_side one2 other2
both_sides one one2 other other2 p q = ap (λ s. same_side s other) p ∙ ap (same_side one2) q

pub returns-clause-value : goal.returns-clause-value
returns-clause-value c =
    let near = c.from_over.ensures.near in
    let b = c.requires.b in
    let e : to_z w64 (of_z w64 (to_z w64 (of_z w64 c.args.content.b) +ℤ to_z w64 (of_z w64 c.from_over.result))) ≡ c.args.content.b +ℤ c.from_over.result = omega (arith, ints) in
    e
    ∙ ap (λ z. c.args.content.b +ℤ z)
    (c.from_over.ensures.value
    ∙ ap (λ (o : Bool). from_over o c.args.content c.args.found)
    (c.same_side-over_at_start.ensures ∙ both_sides _ _ _ _ c.side_in-block_start.ensures c.side_in.ensures))
