use Rattle.std.proofs.Common.{◌≤◌, length}
use denote.Text.{Utf8}
use denote.Shadow.{shadow}
use Rattle.reading.specs.Readers.{repeat}
use Rattle.reading.proofs.Turns.{IsTurning}
use Rattle.report_styles.specs.Told.{declaration, has_declaration}
use Rattle.report_styles.specs.Views.{all_of}
use Rattle.report_styles.proofs.rules.declarations_behind_gap.Given as goal

abbrev pub invariant-loop-alloc : goal.invariant-loop-alloc
invariant-loop-alloc l =
    shadow (Utf8 l.rest)
    × IsTurning (has_declaration l.fn.within) (declaration l.fn.within l.fn.places) (repeat (has_declaration l.fn.within) (declaration l.fn.within l.fn.places) (all_of l.fn.told.items) l.fn.text) (all_of l.told.items) l.rest
    × (length l.rest ≤ length l.fn.text)

abbrev pub decreases-loop-alloc : goal.decreases-loop-alloc
decreases-loop-alloc l = length l.rest
