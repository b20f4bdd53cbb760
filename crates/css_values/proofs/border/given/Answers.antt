use Rattle.css_values.specs.Border.{nothing, pieces}
use Rattle.css_values.specs.Views.{lexemes_of}
use Rattle.css_values.proofs.Pieces.{pieces_go_on, pieces_end}
use Rattle.css_values.proofs.border.given.Goals as goal

-- src/border.rt:35:5
pub loop-token-preserved : goal.loop-token-preserved
loop-token-preserved c =
    pieces_go_on c.args.tokens.now c.loop-token.token-index _ c.loop-token.found c.in-Some.more (pieces (lexemes_of c.args.tokens.now) nothing) c.loop-token-test.true c.in-Some.ensures c.loop-token.invariant

-- src/border.rt:30:1
pub returns : goal.returns
returns c = pieces_end c.args.tokens.now c.loop-token.token-index c.loop-token.found (pieces (lexemes_of c.args.tokens.now) nothing) c.loop-token-test.false c.loop-token.invariant
