use Rattle.std.proofs.Common.{arith}
use Rattle.io_edge.proofs.Growth.{goes_on}
use Rattle.io_edge.proofs.write.write_all_of.Goals as goal

pub loop-rest-preserved : goal.loop-rest-preserved
loop-rest-preserved g c = record {
  so_far = rw c.split_at.ensures.back (goes_on (g.K.Sink.held c.write.new.self) c.in_ok-count.count c.loop-rest.invariant.so_far c.in_ok-count.ensures.bytes);
  later = omega (arith, c.in_ok-count.ensures.cause.later);
}
