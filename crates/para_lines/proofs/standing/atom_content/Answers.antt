use Rattle.std.proofs.Common.{rules, ◌≡◌, refl, ◌+ℤ◌, ◌-ℤ◌, ◌∙◌, ap, arith, w64, to_z, of_z, FitsSigned}
use Rattle.std.proofs.lemmas.Int.{ints, to_z-of_z}
use Rattle.wm_units.specs.Numbers.{cap}
use Rattle.para_lines.proofs.LineLaws.{atom_is}
use Rattle.para_lines.proofs.standing.atom_content.Goals as goal

pub returns : goal.returns
returns c =
    let near = c.raised-raised.ensures.near in
    let over = c.requires.near.over in
    let under = c.requires.near.under in
    let fits : FitsSigned w64 c.args.atom.now.left_margin = search rules in
    let fits-2 : FitsSigned w64 c.args.atom.now.over_margin = search rules in
    let fits-3 : FitsSigned w64 c.args.atom.now.shift = search rules in
    let raised : c.raised-raised.result ≡ cap (c.args.atom.now.shift +ℤ c.args.shifts) =
    c.raised-raised.ensures.value ∙ ap (λ z. cap (z +ℤ to_z w64 (of_z w64 c.args.shifts))) (to_z-of_z w64 c.args.atom.now.shift fits-3) ∙ ap (λ z. cap (c.args.atom.now.shift +ℤ z)) (to_z-of_z w64 c.args.shifts c.ranges.shifts) in
    let o : to_z w64 (of_z w64 (to_z w64 (of_z w64 c.args.atom.now.over) +ℤ to_z w64 (of_z w64 c.raised-raised.result))) ≡ c.args.atom.now.over +ℤ c.raised-raised.result = omega (arith, ints) in
    let u : to_z w64 (of_z w64 (to_z w64 (of_z w64 c.args.atom.now.under) -ℤ to_z w64 (of_z w64 c.raised-raised.result))) ≡ c.args.atom.now.under -ℤ c.raised-raised.result = omega (arith, ints) in
    atom_is _ _ _ _ _ _ _ _ _ _
    refl
    (to_z-of_z w64 c.args.atom.now.left_margin fits)
    (to_z-of_z w64 c.args.atom.now.over_margin fits-2)
    (o ∙ ap (λ z. c.args.atom.now.over +ℤ z) raised)
    (u ∙ ap (λ z. c.args.atom.now.under -ℤ z) raised)
