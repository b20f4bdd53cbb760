use Rattle.std.proofs.Common.{rules, arith}
use Rattle.line_place.specs.Line.{line_in}
use Rattle.line_place.specs.LineText.{text_of}
use Rattle.line_place.proofs.PlaceLaws.{within_limit}
use Rattle.line_place.proofs.TextLaws.{text_near}
use Rattle.line_place.proofs.line_box.place_line_with.Goals as goal

pub place_text-requires-clause-reach : goal.place_text-requires-clause-reach
place_text-requires-clause-reach g c =
    let n = text_near (text_of c.in-Some.text) (g.S.LineSource.items c.args.source.now) (search rules) in
    omega (arith, n, c.requires.reach)

pub returns-in_ok-made-in-Some-clause-within : goal.returns-in_ok-made-in-Some-clause-within
returns-in_ok-made-in-Some-clause-within g c limit has =
    within_limit limit (line_in c.args.frame.now (g.S.LineSource.items c.args.source.now)) c.in_ok-made-in-Some.made.over c.in_ok-made-in-Some.made.under (search rules) (search rules) has

pub returns-in_ok-made-in-None-clause-within : goal.returns-in_ok-made-in-None-clause-within
returns-in_ok-made-in-None-clause-within g c limit has =
    within_limit limit (line_in c.args.frame.now (g.S.LineSource.items c.args.source.now)) _ _ c.in_ok-made-in-None.ensures.over c.in_ok-made-in-None.ensures.under has
