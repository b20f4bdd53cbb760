use Rattle.std.proofs.Common.{◌∙◌, ap, refl, List}
use Rattle.std.proofs.lemmas.Result.{on_ok_weaker}
use Rattle.place_map.specs.Parts.{Part, before, none, parts_of}
use Rattle.listing.specs.Listing.{lines}
use Rattle.listing.proofs.Whole.{end_broken, first_line_broken, flush_broken, flushed, parts_broken}
use Rattle.listing.proofs.listing.write_from.Goals as goal

pub returns-in_err-put-clause-front : goal.returns-in_err-put-clause-front
returns-in_err-put-clause-front g c =
    let body = lines c.args.standing (before c.args.root.now none) in
    first_line_broken c.new-waiting.result c.as_bytes.result.now body c.args.first.now.bytes body
    c.new-waiting.ensures (c.as_bytes.ensures.value ∙ c.deref.ensures.0) refl
    (g.K.Sink.held c.args.sink.now) (g.K.Sink.held c.put.new.sink) c.in_err-put.ensures.front

pub returns-in_err-put_parts-clause-front : goal.returns-in_err-put_parts-clause-front
returns-in_err-put_parts-clause-front g c =
    parts_broken c.new-waiting.result c.as_bytes.result.now (lines c.args.standing (parts_of c.from_ref.result.now)) c.args.first.now.bytes (lines c.args.standing (before c.args.root.now none))
    c.new-waiting.ensures (c.as_bytes.ensures.value ∙ c.deref.ensures.0) (ap (λ (roots : List Part). lines c.args.standing (parts_of roots)) c.from_ref.ensures.value)
    (g.K.Sink.held c.args.sink.now) (g.K.Sink.held c.put.new.sink) (g.K.Sink.held c.put_parts.new.sink) c.put.new.self c.in_ok-put.ensures.waits c.in_err-put_parts.ensures.front

pub returns-in_err-put-2-clause-front : goal.returns-in_err-put-2-clause-front
returns-in_err-put-2-clause-front g c =
    end_broken c.new-waiting.result c.as_bytes.result.now (lines c.args.standing (parts_of c.from_ref.result.now)) c.args.first.now.bytes (lines c.args.standing (before c.args.root.now none))
    c.new-waiting.ensures (c.as_bytes.ensures.value ∙ c.deref.ensures.0) (ap (λ (roots : List Part). lines c.args.standing (parts_of roots)) c.from_ref.ensures.value)
    (g.K.Sink.held c.args.sink.now) (g.K.Sink.held c.put.new.sink) (g.K.Sink.held c.put_parts.new.sink) c.put.new.self c.in_ok-put.ensures.waits
    (g.K.Sink.held c.put-2.new.sink) c.put_parts.new.waiting c.in_ok-put_parts.ensures.waits c.in_err-put-2.ensures.front

pub returns-clause-front : goal.returns-clause-front
returns-clause-front g c =
    flush_broken c.new-waiting.result c.as_bytes.result.now (lines c.args.standing (parts_of c.from_ref.result.now)) c.args.first.now.bytes (lines c.args.standing (before c.args.root.now none))
    c.new-waiting.ensures (c.as_bytes.ensures.value ∙ c.deref.ensures.0) (ap (λ (roots : List Part). lines c.args.standing (parts_of roots)) c.from_ref.ensures.value)
    (g.K.Sink.held c.args.sink.now) (g.K.Sink.held c.put.new.sink) (g.K.Sink.held c.put_parts.new.sink) c.put.new.self c.in_ok-put.ensures.waits
    (g.K.Sink.held c.put-2.new.sink) c.put_parts.new.waiting c.in_ok-put_parts.ensures.waits
    (g.K.Sink.held c.flush.new.sink) c.put-2.new.self c.in_ok-put-2.ensures.waits c.flush.ensures.front

pub returns-clause-whole : goal.returns-clause-whole
returns-clause-whole g c =
    on_ok_weaker c.flush.result (flushed c.new-waiting.result c.as_bytes.result.now (lines c.args.standing (parts_of c.from_ref.result.now)) c.args.first.now.bytes (lines c.args.standing (before c.args.root.now none))
    c.new-waiting.ensures (c.as_bytes.ensures.value ∙ c.deref.ensures.0) (ap (λ (roots : List Part). lines c.args.standing (parts_of roots)) c.from_ref.ensures.value)
    (g.K.Sink.held c.args.sink.now) (g.K.Sink.held c.put.new.sink) (g.K.Sink.held c.put_parts.new.sink) c.put.new.self c.in_ok-put.ensures.waits
    (g.K.Sink.held c.put-2.new.sink) c.put_parts.new.waiting c.in_ok-put_parts.ensures.waits
    (g.K.Sink.held c.flush.new.sink) c.put-2.new.self c.in_ok-put-2.ensures.waits) c.flush.ensures.whole
