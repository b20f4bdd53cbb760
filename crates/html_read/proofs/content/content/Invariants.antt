use Rattle.std.proofs.Common.{◌≤◌, length}
use denote.Text.{Utf8}
use denote.Shadow.{shadow}
use Rattle.html_read.specs.Reading as readers
use Rattle.html_read.specs.Values.{nodes_of}
use Rattle.html_read.specs.Views.{opened_of}
use Rattle.html_read.proofs.Contents.{IsReading}
use Rattle.html_read.proofs.content.content.Given as goal

abbrev pub invariant-loop-alloc : goal.invariant-loop-alloc
invariant-loop-alloc l = shadow (Utf8 l.rest)
    × IsReading l.fn.size l.fn.base (nodes_of l.fn.nodes.items) l.fn.text (readers.content_of (opened_of l.opened.items) (nodes_of l.nodes.items)) l.rest
    × (length l.rest ≤ length l.fn.text)

abbrev pub decreases-loop-alloc : goal.decreases-loop-alloc
decreases-loop-alloc l = length l.rest
