use Rattle.std.proofs.Common.{◌≡◌, drop}
use Rattle.std.specs.List.{list_any}
use Rattle.bidi_resolve.specs.Sequence.{is_changed_by_weak_rules}
use Rattle.bidi_resolve.proofs.sequence.has_weak.Given as goal

abbrev pub invariant-loop-class : goal.invariant-loop-class
invariant-loop-class l = list_any is_changed_by_weak_rules (drop l.class-index l.classes) ≡ list_any is_changed_by_weak_rules l.classes
