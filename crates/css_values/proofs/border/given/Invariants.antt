use Rattle.std.proofs.Common.{◌≡◌, drop}
use Rattle.css_values.specs.Border.{nothing, pieces}
use Rattle.css_values.specs.Views.{lexemes_of}
use Rattle.css_values.proofs.border.given.Given as goal

abbrev pub invariant-loop-token : goal.invariant-loop-token
invariant-loop-token l = pieces (lexemes_of (drop l.token-index l.tokens)) l.found ≡ pieces (lexemes_of l.tokens) nothing
