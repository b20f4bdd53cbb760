use Rattle.std.proofs.Common.{length}
use denote.Text.{Utf8}
use denote.Shadow.{shadow}
use Rattle.html_read.specs.Values.{sheets_of}
use Rattle.html_read.proofs.Heads.{IsInHead}
use Rattle.html_read.proofs.head.head_items.Given as goal

abbrev pub invariant-loop-alloc : goal.invariant-loop-alloc
invariant-loop-alloc l = shadow (Utf8 l.rest) × IsInHead l.fn.size l.fn.text (sheets_of l.sheets.items) l.rest

abbrev pub decreases-loop-alloc : goal.decreases-loop-alloc
decreases-loop-alloc l = length l.rest
