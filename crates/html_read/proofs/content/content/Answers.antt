use Rattle.std.proofs.Common.{rules, refl, true, false, arith}
use Rattle.std.proofs.lemmas.Result.{err_from_is_err_and}
use Rattle.html_read.specs.Reading.{content_of}
use Rattle.html_read.specs.Values.{nodes_of}
use Rattle.html_read.specs.Views.{opened_of}
use Rattle.html_read.proofs.Contents.{content_begins, still, reading_goes_on, reading_stops, reading_ends}
use Rattle.html_read.proofs.content.content.Goals as goal

pub loop-alloc-init : goal.loop-alloc-init
loop-alloc-init c = (
  search rules,
  content_begins c.args.size c.args.base (nodes_of c.args.nodes.now.items) (nodes_of c.with_gap.new.nodes.items) c.args.text.now c.in_ok-rest.rest.now c.new-opened.result.items c.deref.result.now
      c.deref.ensures.value c.new-opened.ensures.items c.in_ok-rest.ensures.read,
  c.in_ok-rest.ensures.shorter,
)

pub loop-alloc-preserved : goal.loop-alloc-preserved
loop-alloc-preserved c = (
  search rules,
  reading_goes_on c.args.size c.args.base (nodes_of c.args.nodes.now.items) c.args.text.now c.loop-alloc.rest.now c.in_ok-rest-2.rest.now
      (content_of (opened_of c.loop-alloc.opened.items) (nodes_of c.loop-alloc.nodes.items)) (content_of (opened_of c.turn.new.opened.items) (nodes_of c.turn.new.nodes.items)) c.loop-alloc.invariant.1
      (still c.args.base c.loop-alloc.opened.items c.deref-in-loop-alloc.result.now (nodes_of c.loop-alloc.nodes.items) c.loop-alloc.rest.now c.goes_on.result true c.deref-in-loop-alloc.ensures.value c.goes_on.ensures c.loop-alloc-test.true)
      c.in_ok-rest-2.ensures.read c.in_ok-rest-2.ensures.shorter,
  omega (arith, c.loop-alloc.invariant.2, c.in_ok-rest-2.ensures.shorter),
)

pub returns-in_err-rest-2-clause-read : goal.returns-in_err-rest-2-clause-read
returns-in_err-rest-2-clause-read c =
    let p = err_from_is_err_and c.from_residual-in_err-rest-2.result c.from_residual-in_err-rest-2.ensures.1 in
    rw (p.1, p.2) (reading_stops c.args.size c.args.base (nodes_of c.args.nodes.now.items) c.args.text.now c.loop-alloc.rest.now (content_of (opened_of c.loop-alloc.opened.items) (nodes_of c.loop-alloc.nodes.items))
    c.in_err-rest-2.field-0.0 c.loop-alloc.invariant.1
    (still c.args.base c.loop-alloc.opened.items c.deref-in-loop-alloc.result.now (nodes_of c.loop-alloc.nodes.items) c.loop-alloc.rest.now c.goes_on.result true c.deref-in-loop-alloc.ensures.value c.goes_on.ensures c.loop-alloc-test.true)
    c.in_err-rest-2.ensures.read)

pub returns-clause-read : goal.returns-clause-read
returns-clause-read c =
    reading_ends c.args.size c.args.base (nodes_of c.args.nodes.now.items) (nodes_of c.loop-alloc.nodes.items) c.args.text.now c.loop-alloc.rest.now
    (content_of (opened_of c.loop-alloc.opened.items) (nodes_of c.loop-alloc.nodes.items)) c.loop-alloc.invariant.1
    (still c.args.base c.loop-alloc.opened.items c.deref-in-loop-alloc.result.now (nodes_of c.loop-alloc.nodes.items) c.loop-alloc.rest.now c.goes_on.result false c.deref-in-loop-alloc.ensures.value c.goes_on.ensures c.loop-alloc-test.false)
    refl
