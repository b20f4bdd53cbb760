use Rattle.std.proofs.Common.{◌≤◌, length}
use denote.Text.{Utf8}
use denote.Shadow.{shadow}
use Rattle.css_types.specs.Rule.{compound_of}
use Rattle.css_sheet.proofs.Turning.{IsCompounding}
use Rattle.css_sheet.proofs.compound.with_simples.Given as goal

abbrev pub invariant-loop-alloc : goal.invariant-loop-alloc
invariant-loop-alloc l = shadow (Utf8 l.rest) × IsCompounding (compound_of l.fn.part) l.fn.text (compound_of l.part) l.rest × (length l.rest ≤ length l.fn.text)

abbrev pub decreases-loop-alloc : goal.decreases-loop-alloc
decreases-loop-alloc l = length l.rest
