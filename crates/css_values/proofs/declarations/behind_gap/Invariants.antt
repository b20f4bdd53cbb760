use Rattle.std.proofs.Common.{◌≤◌, length}
use denote.Text.{Utf8}
use denote.Shadow.{shadow}
use Rattle.css_values.proofs.Listing.{IsListing}
use Rattle.css_values.proofs.declarations.behind_gap.Given as goal

abbrev pub invariant-loop-alloc : goal.invariant-loop-alloc
invariant-loop-alloc l = shadow (Utf8 l.rest) × IsListing l.fn.within l.fn.end l.fn.text l.all.items l.rest × (length l.rest ≤ length l.fn.text)

abbrev pub decreases-loop-alloc : goal.decreases-loop-alloc
decreases-loop-alloc l = length l.rest
