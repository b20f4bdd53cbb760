use Rattle.std.proofs.Common.{arith, sym, ◌∙◌}
use Rattle.reading.proofs.Seeking.{not_begun}
use Rattle.reading.proofs.endings.end_at.Goals as goal

pub split_at-requires : goal.split_at-requires
split_at-requires g c =
    let ascii = g.met.E.Ending.ascii c.args.end.now in
    grind (arith, ascii, c.requires, c.first_byte.ensures, c.as_bytes.ensures.value)

pub returns-then-as_bytes-at-clause-read : goal.returns-then-as_bytes-at-clause-read
returns-then-as_bytes-at-clause-read g c =
    not_begun (g.E.Ending.reads c.args.end.now) c.args.text.now c.as_bytes.result.now c.args.at (g.E.Ending.mark c.args.end.now) (g.met.E.Ending.begins c.args.end.now)
    c.as_bytes.ensures.value c.requires (λ e. c.if-as_bytes-at.true (e ∙ sym c.first_byte.ensures))
