use Rattle.css_values.specs.Shorthand as definitions
use Rattle.css_values.specs.Views.{lexemes_of}
use Rattle.css_values.proofs.Eaches.{each_ends}
use Rattle.css_values.proofs.shorthand.each.Goals as goal

-- src/shorthand.rt:118:1
pub returns : goal.returns
returns c = each_ends c.args.values c.args.tokens.now c.loop-token.token-index c.loop-token.all.items (definitions.each c.args.values (lexemes_of c.args.tokens.now)) c.loop-token-test.false c.loop-token.invariant
