use Rattle.std.proofs.Common.{◌≤◌, ◌++◌, drop}
use Rattle.io_edge.specs.Edge.{AppendsUpTo}
use Rattle.place_map.specs.Parts.{count, parts_of}
use Rattle.listing.specs.Listing.{lines}
use Rattle.listing.proofs.listing.+put_parts.Given as goal

-- the lines of the fragments so far are put, and those of the rest are left
abbrev pub invariant-loop-part : goal.invariant-loop-part
invariant-loop-part g l = record {
  put : AppendsUpTo (g.K.Sink.held l.initial.sink) (g.K.Sink.held l.sink) (l.initial.waiting ++ lines l.standing (parts_of l.parts)) (l.waiting ++ lines l.standing (parts_of (drop l.part-index l.parts)));
  later : g.K.Sink.faults l.initial.sink ≤ g.K.Sink.faults l.sink;
}

-- those inside a fragment are fewer
abbrev pub decreases-put_parts : goal.decreases-put_parts
decreases-put_parts g l = count (parts_of l.parts.now)
