use Rattle.std.proofs.Common.{length}
use denote.Text.{Utf8}
use denote.Shadow.{shadow}
use Rattle.css_sheet.specs.Views.{sheet_of}
use Rattle.css_sheet.proofs.Sheeting.{IsSheeting}
use Rattle.css_sheet.proofs.sheet.behind_gap.Given as goal

abbrev pub invariant-loop-alloc : goal.invariant-loop-alloc
invariant-loop-alloc l = shadow (Utf8 l.rest) × IsSheeting l.fn.end (sheet_of l.fn.sheet) l.fn.text (sheet_of l.sheet) l.rest

abbrev pub decreases-loop-alloc : goal.decreases-loop-alloc
decreases-loop-alloc l = length l.rest
