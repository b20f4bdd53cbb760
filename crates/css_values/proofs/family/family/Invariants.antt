use Rattle.std.proofs.Common.{drop}
use Rattle.css_values.specs.Views.{lexemes_of}
use Rattle.css_values.proofs.Families.{IsMeantFrom}
use Rattle.css_values.proofs.family.family.Given as goal

abbrev pub invariant-loop-token : goal.invariant-loop-token
invariant-loop-token l = IsMeantFrom l.entry_next l.face (lexemes_of (drop l.token-index l.tokens)) (lexemes_of l.tokens)
