use Rattle.std.proofs.Common.{rules, ◌∙◌, ◌++◌, []}
use Rattle.std.specs.Prelude.{codes}
use Rattle.listing.specs.Lines.{line_at}
use Rattle.listing.specs.Runs.{space, units}
use Rattle.listing.proofs.Told.{box_text, line_text, no_text, run_text, same_line, span_text}
use Rattle.listing.proofs.Puts.{front_of_same, put_same, done, nothing, nothing_put}
use Rattle.listing.proofs.lines.put_line.Goals as goal

pub returns-in-Box-clause-front : goal.returns-in-Box-clause-front
returns-in-Box-clause-front g c =
    let name = c.name-name.result in
    let rect = c.rect-rect.result in
    let kind = c.kind.result.now in
    let at_part = same_line c.args.standing name rect kind c.args.part.now c.name-name.ensures c.rect-rect.ensures c.kind.ensures in
    let b = c.in-Box.field-0.value in
    front_of_same (g.K.Sink.held c.args.sink.now) (g.K.Sink.held c.put.new.sink) c.args.waiting.now c.as_bytes.result.now (line_at c.args.standing c.args.part.now)
    (c.as_bytes.ensures.value ∙ c.deref.ensures.0 ∙ c.box_line.ensures ∙ box_text c.args.standing name rect kind b.mode b.dir b.content b.definite b.start b.end b.through (search rules) ∙ at_part)
    c.put.ensures.front

pub returns-in-Box-clause-waits : goal.returns-in-Box-clause-waits
returns-in-Box-clause-waits g c =
    let name = c.name-name.result in
    let rect = c.rect-rect.result in
    let kind = c.kind.result.now in
    let at_part = same_line c.args.standing name rect kind c.args.part.now c.name-name.ensures c.rect-rect.ensures c.kind.ensures in
    let b = c.in-Box.field-0.value in
    put_same (g.K.Sink.held c.args.sink.now) (g.K.Sink.held c.put.new.sink) c.args.waiting.now c.as_bytes.result.now (line_at c.args.standing c.args.part.now)
    (c.as_bytes.ensures.value ∙ c.deref.ensures.0 ∙ c.box_line.ensures ∙ box_text c.args.standing name rect kind b.mode b.dir b.content b.definite b.start b.end b.through (search rules) ∙ at_part)
    c.put.result c.put.new.self c.put.ensures.waits

pub returns-in-Line-clause-front : goal.returns-in-Line-clause-front
returns-in-Line-clause-front g c =
    let name = c.name-name.result in
    let rect = c.rect-rect.result in
    let kind = c.kind.result.now in
    let at_part = same_line c.args.standing name rect kind c.args.part.now c.name-name.ensures c.rect-rect.ensures c.kind.ensures in
    let b = c.in-Line in
    front_of_same (g.K.Sink.held c.args.sink.now) (g.K.Sink.held c.put-in-Line.new.sink) c.args.waiting.now c.as_bytes-in-Line.result.now (line_at c.args.standing c.args.part.now)
    (c.as_bytes-in-Line.ensures.value ∙ c.deref-in-Line.ensures.0 ∙ line_text c.args.standing name rect kind b.index b.base b.mode b.baseline c.line_line.result.bytes (search rules) (search rules) ∙ at_part)
    c.put-in-Line.ensures.front

pub returns-in-Line-clause-waits : goal.returns-in-Line-clause-waits
returns-in-Line-clause-waits g c =
    let name = c.name-name.result in
    let rect = c.rect-rect.result in
    let kind = c.kind.result.now in
    let at_part = same_line c.args.standing name rect kind c.args.part.now c.name-name.ensures c.rect-rect.ensures c.kind.ensures in
    let b = c.in-Line in
    put_same (g.K.Sink.held c.args.sink.now) (g.K.Sink.held c.put-in-Line.new.sink) c.args.waiting.now c.as_bytes-in-Line.result.now (line_at c.args.standing c.args.part.now)
    (c.as_bytes-in-Line.ensures.value ∙ c.deref-in-Line.ensures.0 ∙ line_text c.args.standing name rect kind b.index b.base b.mode b.baseline c.line_line.result.bytes (search rules) (search rules) ∙ at_part)
    c.put-in-Line.result c.put-in-Line.new.self c.put-in-Line.ensures.waits

pub returns-in-Span-clause-front : goal.returns-in-Span-clause-front
returns-in-Span-clause-front g c =
    let name = c.name-name.result in
    let rect = c.rect-rect.result in
    let kind = c.kind.result.now in
    let at_part = same_line c.args.standing name rect kind c.args.part.now c.name-name.ensures c.rect-rect.ensures c.kind.ensures in
    let b = c.in-Span in
    front_of_same (g.K.Sink.held c.args.sink.now) (g.K.Sink.held c.put-in-Span.new.sink) c.args.waiting.now c.as_bytes-in-Span.result.now (line_at c.args.standing c.args.part.now)
    (c.as_bytes-in-Span.ensures.value ∙ c.deref-in-Span.ensures.0 ∙ c.span_line.ensures ∙ span_text c.args.standing name rect kind (search rules) ∙ at_part)
    c.put-in-Span.ensures.front

pub returns-in-Span-clause-waits : goal.returns-in-Span-clause-waits
returns-in-Span-clause-waits g c =
    let name = c.name-name.result in
    let rect = c.rect-rect.result in
    let kind = c.kind.result.now in
    let at_part = same_line c.args.standing name rect kind c.args.part.now c.name-name.ensures c.rect-rect.ensures c.kind.ensures in
    let b = c.in-Span in
    put_same (g.K.Sink.held c.args.sink.now) (g.K.Sink.held c.put-in-Span.new.sink) c.args.waiting.now c.as_bytes-in-Span.result.now (line_at c.args.standing c.args.part.now)
    (c.as_bytes-in-Span.ensures.value ∙ c.deref-in-Span.ensures.0 ∙ c.span_line.ensures ∙ span_text c.args.standing name rect kind (search rules) ∙ at_part)
    c.put-in-Span.result c.put-in-Span.new.self c.put-in-Span.ensures.waits

pub returns-in-Run-clause-front : goal.returns-in-Run-clause-front
returns-in-Run-clause-front g c =
    let name = c.name-name.result in
    let rect = c.rect-rect.result in
    let kind = c.kind.result.now in
    let at_part = same_line c.args.standing name rect kind c.args.part.now c.name-name.ensures c.rect-rect.ensures c.kind.ensures in
    let b = c.in-Run in
    front_of_same (g.K.Sink.held c.args.sink.now) (g.K.Sink.held c.put_run.new.sink) c.args.waiting.now (c.push_count.new.line.bytes ++ units space c.deref-in-Run-6.result.now ++ codes "\n") (line_at c.args.standing c.args.part.now)
    (run_text c.args.standing name rect kind b.form b.level b.natural c.deref-in-Run-6.result.now c.combined_width.result c.run_place-start.result.bytes c.push_standing.new.line.bytes c.push_count.new.line.bytes
    (search rules) (search rules) (search rules) (search rules) (search rules) ∙ at_part)
    c.put_run.ensures.front

pub returns-in-Run-clause-waits : goal.returns-in-Run-clause-waits
returns-in-Run-clause-waits g c =
    let name = c.name-name.result in
    let rect = c.rect-rect.result in
    let kind = c.kind.result.now in
    let at_part = same_line c.args.standing name rect kind c.args.part.now c.name-name.ensures c.rect-rect.ensures c.kind.ensures in
    let b = c.in-Run in
    put_same (g.K.Sink.held c.args.sink.now) (g.K.Sink.held c.put_run.new.sink) c.args.waiting.now (c.push_count.new.line.bytes ++ units space c.deref-in-Run-6.result.now ++ codes "\n") (line_at c.args.standing c.args.part.now)
    (run_text c.args.standing name rect kind b.form b.level b.natural c.deref-in-Run-6.result.now c.combined_width.result c.run_place-start.result.bytes c.push_standing.new.line.bytes c.push_count.new.line.bytes
    (search rules) (search rules) (search rules) (search rules) (search rules) ∙ at_part)
    c.put_run.result c.put_run.new.waiting c.put_run.ensures.waits

pub returns-in-Measure-clause-front : goal.returns-in-Measure-clause-front
returns-in-Measure-clause-front g c =
    let name = c.name-name.result in
    let rect = c.rect-rect.result in
    let kind = c.kind.result.now in
    let at_part = same_line c.args.standing name rect kind c.args.part.now c.name-name.ensures c.rect-rect.ensures c.kind.ensures in
    front_of_same (g.K.Sink.held c.args.sink.now) (g.K.Sink.held c.args.sink.now) c.args.waiting.now [] (line_at c.args.standing c.args.part.now)
    (no_text c.args.standing name rect kind c.in-Measure.min c.in-Measure.max (search rules) ∙ at_part) (nothing (g.K.Sink.held c.args.sink.now) c.args.waiting.now)

pub returns-in-Measure-clause-waits : goal.returns-in-Measure-clause-waits
returns-in-Measure-clause-waits g c =
    let name = c.name-name.result in
    let rect = c.rect-rect.result in
    let kind = c.kind.result.now in
    let at_part = same_line c.args.standing name rect kind c.args.part.now c.name-name.ensures c.rect-rect.ensures c.kind.ensures in
    put_same (g.K.Sink.held c.args.sink.now) (g.K.Sink.held c.args.sink.now) c.args.waiting.now [] (line_at c.args.standing c.args.part.now)
    (no_text c.args.standing name rect kind c.in-Measure.min c.in-Measure.max (search rules) ∙ at_part) done c.args.waiting.now (nothing_put (g.K.Sink.held c.args.sink.now) c.args.waiting.now)
