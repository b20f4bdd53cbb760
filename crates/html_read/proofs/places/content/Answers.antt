use Rattle.std.proofs.Common.{rules, true, false, [], arith}
use Rattle.std.proofs.lemmas.Result.{err_from_is_err_and}
use Rattle.html_read.specs.declared.content.Base.TheVariants as bases
use Rattle.html_read.specs.Places.{placed}
use Rattle.html_read.specs.Reading.{content_of}
use Rattle.html_read.specs.Values.{nodes_of}
use Rattle.html_read.proofs.Contents.{still}
use Rattle.html_read.proofs.PlacedContents.{state_of, content_begins, placing_goes_on, placing_stops, placing_ends}
use Rattle.html_read.proofs.places.content.Goals as goal

pub loop-alloc-init : goal.loop-alloc-init
loop-alloc-init c = (
  search rules,
  content_begins c.args.size (nodes_of c.args.nodes.now.items) (nodes_of c.placed_gap.new.nodes.items) c.args.places.now.items c.placed_gap.new.places.items c.args.text.now c.in_ok-rest.rest.now
      c.new-opened.result.items c.deref.result.now c.deref.ensures.value c.new-opened.ensures.items c.in_ok-rest.ensures.read,
  c.in_ok-rest.ensures.shorter,
)

pub loop-alloc-preserved : goal.loop-alloc-preserved
loop-alloc-preserved c = (
  search rules,
  placing_goes_on c.args.size (placed (content_of [] (nodes_of c.args.nodes.now.items)) c.args.places.now.items)
      (state_of c.loop-alloc.opened.items (nodes_of c.loop-alloc.nodes.items) c.loop-alloc.places.items) (state_of c.placed_turn.new.opened.items (nodes_of c.placed_turn.new.nodes.items) c.placed_turn.new.places.items)
      c.args.text.now c.loop-alloc.rest.now c.in_ok-rest-2.rest.now c.loop-alloc.invariant.1
      (still bases.Body c.loop-alloc.opened.items c.deref-in-loop-alloc.result.now (nodes_of c.loop-alloc.nodes.items) c.loop-alloc.rest.now c.goes_on.result true c.deref-in-loop-alloc.ensures.value c.goes_on.ensures c.loop-alloc-test.true)
      c.in_ok-rest-2.ensures.read c.in_ok-rest-2.ensures.shorter,
  omega (arith, c.loop-alloc.invariant.2, c.in_ok-rest-2.ensures.shorter),
)

pub returns-in_err-rest-2 : goal.returns-in_err-rest-2
returns-in_err-rest-2 c =
    let p = err_from_is_err_and c.from_residual-in_err-rest-2.result c.from_residual-in_err-rest-2.ensures.1 in
    rw (p.1, p.2) (placing_stops c.args.size (placed (content_of [] (nodes_of c.args.nodes.now.items)) c.args.places.now.items)
    (state_of c.loop-alloc.opened.items (nodes_of c.loop-alloc.nodes.items) c.loop-alloc.places.items) c.args.text.now c.loop-alloc.rest.now c.in_err-rest-2.field-0.0 c.loop-alloc.invariant.1
    (still bases.Body c.loop-alloc.opened.items c.deref-in-loop-alloc.result.now (nodes_of c.loop-alloc.nodes.items) c.loop-alloc.rest.now c.goes_on.result true c.deref-in-loop-alloc.ensures.value c.goes_on.ensures c.loop-alloc-test.true)
    c.in_err-rest-2.ensures.read)

pub returns : goal.returns
returns c =
    placing_ends c.args.size (placed (content_of [] (nodes_of c.args.nodes.now.items)) c.args.places.now.items)
    (state_of c.loop-alloc.opened.items (nodes_of c.loop-alloc.nodes.items) c.loop-alloc.places.items) c.args.text.now c.loop-alloc.rest.now c.loop-alloc.invariant.1
    (still bases.Body c.loop-alloc.opened.items c.deref-in-loop-alloc.result.now (nodes_of c.loop-alloc.nodes.items) c.loop-alloc.rest.now c.goes_on.result false c.deref-in-loop-alloc.ensures.value c.goes_on.ensures c.loop-alloc-test.false)
