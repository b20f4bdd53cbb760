use Rattle.std.proofs.Common.{◌≡◌, arith, ℤ, ◌+ℤ◌, ◌-ℤ◌}
use Rattle.std.proofs.lemmas.Int.{ints}
use Rattle.line_place.specs.declared.line.Extents.{Extents}
use Rattle.line_place.specs.Leading.{over_baseline}
use Rattle.line_place.specs.Leading as rule
use Rattle.line_place.proofs.leading.spread.Goals as goal

-- the five numbers one by one
made : (ascent descent height raised a d h o u r over : ℤ) → a ≡ ascent → d ≡ descent → r ≡ raised → h ≡ height → over ≡ over_baseline ascent descent h
    → o ≡ over +ℤ raised → u ≡ height -ℤ over -ℤ raised
    → let own : Extents = record { ascent = a; descent = d; over = o; under = u; raised = r } in own ≡ rule.spread ascent descent height raised
made ascent descent height raised a d h o u r over p q s g t v w = rw (p, q, s, v, w, t, g)

pub returns-clause-are : goal.returns-clause-are
returns-clause-are c =
    made c.args.text.over c.args.text.under c.args.line_height c.args.raised _ _ _ _ _ _ c.with_leading-over.result
    (omega (arith, ints)) (omega (arith, ints)) (omega (arith, ints)) (omega (arith, ints)) c.with_leading-over.ensures.is (omega (arith, ints)) (omega (arith, ints))
