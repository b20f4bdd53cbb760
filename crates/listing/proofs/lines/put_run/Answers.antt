use Rattle.std.proofs.Common.{◌∙◌}
use Rattle.std.specs.Prelude.{codes}
use Rattle.std.proofs.lemmas.Result.{on_ok_weaker}
use Rattle.listing.specs.Runs.{space, units}
use Rattle.listing.proofs.Puts.{first_broken, front_of_same, put_from, second_broken, third_broken, three_put}
use Rattle.listing.proofs.lines.put_run.Goals as goal

pub returns-in_err-put-clause-front : goal.returns-in_err-put-clause-front
returns-in_err-put-clause-front g c =
    first_broken (g.K.Sink.held c.args.sink.now) c.args.waiting.now c.args.start.now.bytes (units space c.args.units.now) (codes "\n") (g.K.Sink.held c.put.new.sink)
    (front_of_same (g.K.Sink.held c.args.sink.now) (g.K.Sink.held c.put.new.sink) c.args.waiting.now c.as_bytes.result.now c.args.start.now.bytes (c.as_bytes.ensures.value ∙ c.deref.ensures.0) c.in_err-put.ensures.front)

pub returns-in_err-put_units-clause-front : goal.returns-in_err-put_units-clause-front
returns-in_err-put_units-clause-front g c =
    second_broken (g.K.Sink.held c.args.sink.now) c.args.waiting.now c.args.start.now.bytes (units space c.args.units.now) (codes "\n") (g.K.Sink.held c.put.new.sink) (g.K.Sink.held c.put_units.new.sink) c.put.new.self
    (put_from (g.K.Sink.held c.args.sink.now) (g.K.Sink.held c.put.new.sink) c.args.waiting.now c.as_bytes.result.now c.args.start.now.bytes (c.as_bytes.ensures.value ∙ c.deref.ensures.0) c.put.new.self c.in_ok-put.ensures.waits)
    c.in_err-put_units.ensures.front

pub returns-clause-front : goal.returns-clause-front
returns-clause-front g c =
    third_broken (g.K.Sink.held c.args.sink.now) c.args.waiting.now c.args.start.now.bytes (units space c.args.units.now) (codes "\n") (g.K.Sink.held c.put.new.sink) (g.K.Sink.held c.put_units.new.sink) c.put.new.self
    (put_from (g.K.Sink.held c.args.sink.now) (g.K.Sink.held c.put.new.sink) c.args.waiting.now c.as_bytes.result.now c.args.start.now.bytes (c.as_bytes.ensures.value ∙ c.deref.ensures.0) c.put.new.self c.in_ok-put.ensures.waits)
    (g.K.Sink.held c.put-2.new.sink) c.put_units.new.waiting c.in_ok-put_units.ensures.waits c.put-2.ensures.front

pub returns-clause-waits : goal.returns-clause-waits
returns-clause-waits g c =
    on_ok_weaker c.put-2.result (three_put (g.K.Sink.held c.args.sink.now) c.args.waiting.now c.args.start.now.bytes (units space c.args.units.now) (codes "\n") (g.K.Sink.held c.put.new.sink) (g.K.Sink.held c.put_units.new.sink) c.put.new.self
    (put_from (g.K.Sink.held c.args.sink.now) (g.K.Sink.held c.put.new.sink) c.args.waiting.now c.as_bytes.result.now c.args.start.now.bytes (c.as_bytes.ensures.value ∙ c.deref.ensures.0) c.put.new.self c.in_ok-put.ensures.waits)
    (g.K.Sink.held c.put-2.new.sink) c.put_units.new.waiting c.in_ok-put_units.ensures.waits c.put-2.new.self) c.put-2.ensures.waits
