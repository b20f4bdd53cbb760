use Rattle.std.proofs.Common.{◌≡◌, drop}
use Rattle.css_values.specs.Judging.{are_refused}
use Rattle.css_values.specs.Views.{lexemes_of, refusings_of}
use Rattle.css_values.proofs.refused.is_refused.Given as goal

abbrev pub invariant-loop-property : goal.invariant-loop-property
invariant-loop-property l = are_refused (refusings_of (drop l.property-index l.table)) l.name (lexemes_of l.tokens) ≡ are_refused (refusings_of l.table) l.name (lexemes_of l.tokens)
