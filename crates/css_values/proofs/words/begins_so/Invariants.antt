use Rattle.std.proofs.Common.{◌≡◌, drop}
use Rattle.css_values.specs.Judging.{begins_so}
use Rattle.css_values.specs.Views.{texts_of}
use Rattle.css_values.proofs.words.begins_so.Given as goal

abbrev pub invariant-loop-front : goal.invariant-loop-front
invariant-loop-front l = begins_so (texts_of (drop l.front-index l.fronts)) l.name ≡ begins_so (texts_of l.fronts) l.name
