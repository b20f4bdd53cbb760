use Rattle.std.proofs.Common.{refl, ap, length, arith}
use Rattle.css_values.proofs.Openings.{closing_piece}
use Rattle.css_values.specs.Reading.{begun_of}
use Rattle.css_values.proofs.begun.piece.Goals as goal

pub returns-in-Some-clause-read : goal.returns-in-Some-clause-read
returns-in-Some-clause-read c =
    closing_piece (begun_of c.args.begun.now) c.deref.result.now c.args.begun.now.brackets.items c.pop.new.self.items c.pop.result c.args.text.now c.in-Some.rest.now refl c.deref.ensures.value c.pop.ensures.items
    (λ lt. c.pop.ensures.variant.1 (omega (arith, lt, c.deref.ensures.len, ap length c.deref.ensures.value))) c.in-Some.ensures
