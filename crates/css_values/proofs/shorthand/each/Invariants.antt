use Rattle.std.proofs.Common.{◌≡◌, drop}
use Rattle.css_values.specs.Shorthand.{each}
use Rattle.css_values.specs.Views.{lexemes_of}
use Rattle.css_values.proofs.Eaches.{behind}
use Rattle.css_values.proofs.shorthand.each.Given as goal

abbrev pub invariant-loop-token : goal.invariant-loop-token
invariant-loop-token l = behind l.all.items (each l.values (lexemes_of (drop l.token-index l.tokens))) ≡ each l.values (lexemes_of l.tokens)
