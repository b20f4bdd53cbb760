use Rattle.std.proofs.Common.{◌∙◌, arith}
use Rattle.std.proofs.lemmas.Result.{on_ok_weaker}
use Rattle.place_map.specs.Placed.{placed_of}
use Rattle.probe_job.proofs.Puts.{all_broken, all_written, one_broken, one_put}
use Rattle.probe_job.proofs.answers.tell_answers.Goals as goal

pub returns-in_err-put-clause-front : goal.returns-in_err-put-clause-front
returns-in_err-put-clause-front g c =
    one_broken (placed_of c.args.placed.now) c.args.probes.now (g.K.Sink.held c.args.sink.now) (g.K.Sink.held c.loop-probe.sink) (g.K.Sink.held c.put.new.sink) c.loop-probe.waiting c.as_bytes.result.now
    c.loop-probe.probe-index _ c.loop-probe-test.true (c.as_bytes.ensures.value ∙ c.deref.ensures.0 ∙ c.answer-line.ensures) c.loop-probe.invariant.put c.in_err-put.ensures.front

pub loop-probe-preserved : goal.loop-probe-preserved
loop-probe-preserved g c = record {
  put =
      one_put (placed_of c.args.placed.now) c.args.probes.now (g.K.Sink.held c.args.sink.now) (g.K.Sink.held c.loop-probe.sink) (g.K.Sink.held c.put.new.sink) c.loop-probe.waiting c.as_bytes.result.now
      c.loop-probe.probe-index _ c.loop-probe-test.true (c.as_bytes.ensures.value ∙ c.deref.ensures.0 ∙ c.answer-line.ensures) c.put.new.self c.loop-probe.invariant.put c.in_ok-put.ensures.waits;
  later = omega (arith, c.loop-probe.invariant.later, c.put.ensures.later);
}

pub returns-clause-whole : goal.returns-clause-whole
returns-clause-whole g c =
    on_ok_weaker c.flush.result
    (all_written (placed_of c.args.placed.now) c.args.probes.now (g.K.Sink.held c.args.sink.now) (g.K.Sink.held c.loop-probe.sink) (g.K.Sink.held c.flush.new.sink) c.loop-probe.waiting
    c.loop-probe.probe-index (omega (arith, c.loop-probe-test.false)) c.loop-probe.invariant.put) c.flush.ensures.whole

pub returns-clause-front : goal.returns-clause-front
returns-clause-front g c =
    all_broken (placed_of c.args.placed.now) c.args.probes.now (g.K.Sink.held c.args.sink.now) (g.K.Sink.held c.loop-probe.sink) (g.K.Sink.held c.flush.new.sink) c.loop-probe.waiting
    c.loop-probe.probe-index (omega (arith, c.loop-probe-test.false)) c.loop-probe.invariant.put c.flush.ensures.front
