use Rattle.std.proofs.Common.{arith, subst, List, ℕ, ◌++◌}
use Rattle.io_edge.specs.Edge.{AppendsUpTo}
use Rattle.io_edge.proofs.Growth.{next_front, waits_on}
use Rattle.io_edge.proofs.waiting.Waiting.put_by_pieces.Goals as goal

pub returns-in_err-make_room-clause-front : goal.returns-in_err-make_room-clause-front
returns-in_err-make_room-clause-front g c =
    next_front (g.K.Sink.held c.args.sink.now) (g.K.Sink.held c.loop-rest.sink) (g.K.Sink.held c.make_room.new.sink) (c.args.self.now ++ c.args.bytes.now) c.loop-rest.self c.loop-rest.rest.now c.loop-rest.invariant.written c.in_err-make_room.ensures.front

pub loop-rest-preserved : goal.loop-rest-preserved
loop-rest-preserved g c = record {
  written = subst (λ (l : List ℕ). AppendsUpTo (g.K.Sink.held c.args.sink.now) (g.K.Sink.held c.make_room.new.sink) (c.args.self.now ++ c.args.bytes.now) l) c.take_front-rest.ensures.taken
      (waits_on (g.K.Sink.held c.args.sink.now) (g.K.Sink.held c.loop-rest.sink) (g.K.Sink.held c.make_room.new.sink) (c.args.self.now ++ c.args.bytes.now) c.loop-rest.self c.make_room.new.self c.loop-rest.rest.now c.loop-rest.invariant.written c.in_ok-make_room.ensures.waits);
  later = omega (arith, c.loop-rest.invariant.later, c.make_room.ensures.later);
}
