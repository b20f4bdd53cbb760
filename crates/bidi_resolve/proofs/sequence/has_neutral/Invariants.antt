use Rattle.std.proofs.Common.{◌≡◌, drop}
use Rattle.std.specs.List.{list_any}
use Rattle.wm_chars.specs.Classes.{is_neutral}
use Rattle.bidi_resolve.proofs.sequence.has_neutral.Given as goal

abbrev pub invariant-loop-class : goal.invariant-loop-class
invariant-loop-class l = list_any is_neutral (drop l.class-index l.classes) ≡ list_any is_neutral l.classes
