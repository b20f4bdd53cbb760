use Rattle.std.proofs.Common.{◌≡◌, drop}
use Rattle.css_values.specs.Longhand.{is_one_of}
use Rattle.css_values.specs.Views.{texts_of}
use Rattle.css_values.proofs.words.is_one_of.Given as goal

abbrev pub invariant-loop-word : goal.invariant-loop-word
invariant-loop-word l = is_one_of (texts_of (drop l.word-index l.words)) l.name ≡ is_one_of (texts_of l.words) l.name
