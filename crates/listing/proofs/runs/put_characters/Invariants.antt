use Rattle.std.proofs.Common.{◌≤◌, ◌++◌, drop}
use Rattle.io_edge.specs.Edge.{AppendsUpTo}
use Rattle.listing.specs.Runs.{character, characters, plus, told}
use Rattle.listing.proofs.runs.put_characters.Given as goal

-- the characters so far are put, and those of the rest are left
abbrev pub invariant-loop-c : goal.invariant-loop-c
invariant-loop-c g l = record {
  put : AppendsUpTo (g.K.Sink.held l.initial.sink) (g.K.Sink.held l.sink) (l.initial.waiting ++ characters l.first l.characters) (l.waiting ++ told character l.sign plus (drop l.c-index l.characters));
  later : g.K.Sink.faults l.initial.sink ≤ g.K.Sink.faults l.sink;
}
