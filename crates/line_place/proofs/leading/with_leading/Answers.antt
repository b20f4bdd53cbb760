use Rattle.std.proofs.Common.{◌≡◌, ◌∙◌, ap, arith, ℤ, ◌+ℤ◌, ◌-ℤ◌}
use Rattle.std.proofs.lemmas.Int.{ints}
use Rattle.wm_units.specs.Numbers.{half}
use Rattle.line_place.proofs.Lengths.{half_near, sum_held}
use Rattle.line_place.proofs.leading.with_leading.Goals as goal

through : (x y h : ℤ) → h ≡ half x → x ≡ y → h ≡ half y
through x y h e d = e ∙ ap half d

pub returns-clause-is : goal.returns-clause-is
returns-clause-is c =
    let e : c.half.result ≡ half (c.args.line_height -ℤ (c.args.text.over +ℤ c.args.text.under)) = through _ _ _ c.half.ensures (omega (arith, ints)) in
    let near = half_near (c.args.line_height -ℤ (c.args.text.over +ℤ c.args.text.under)) in
    sum_held c.args.text.over c.half.result (omega (arith, ints)) (omega (arith, ints, e, near)) ∙ ap (λ (h : ℤ). c.args.text.over +ℤ h) e

pub returns-clause-near : goal.returns-clause-near
returns-clause-near c =
    let e : c.half.result ≡ half (c.args.line_height -ℤ (c.args.text.over +ℤ c.args.text.under)) = through _ _ _ c.half.ensures (omega (arith, ints)) in
    let near = half_near (c.args.line_height -ℤ (c.args.text.over +ℤ c.args.text.under)) in
    omega (arith, ints, e, near)
