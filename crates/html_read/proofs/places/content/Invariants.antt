use Rattle.std.proofs.Common.{◌≤◌, [], length}
use denote.Text.{Utf8}
use denote.Shadow.{shadow}
use Rattle.html_read.specs.Places.{placed}
use Rattle.html_read.specs.Reading.{content_of}
use Rattle.html_read.specs.Values.{nodes_of}
use Rattle.html_read.proofs.PlacedContents.{IsPlacing, state_of}
use Rattle.html_read.proofs.places.content.Given as goal

abbrev pub invariant-loop-alloc : goal.invariant-loop-alloc
invariant-loop-alloc l = shadow (Utf8 l.rest)
    × IsPlacing l.fn.size (placed (content_of [] (nodes_of l.fn.nodes.items)) l.fn.places.items) l.fn.text (state_of l.opened.items (nodes_of l.nodes.items) l.places.items) l.rest
    × (length l.rest ≤ length l.fn.text)

abbrev pub decreases-loop-alloc : goal.decreases-loop-alloc
decreases-loop-alloc l = length l.rest
