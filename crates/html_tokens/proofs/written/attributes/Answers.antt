use Rattle.std.proofs.Common.{rules, sym, ◌∙◌, map, ap, arith}
use Rattle.std.proofs.lemmas.Result.{err_from_is_err_and}
use Rattle.html_tokens.specs.Written.{attribute_of}
use Rattle.html_tokens.proofs.Attributing.{attributing_starts, attributing_pushed, attributing_stops, attributing_ends}
use Rattle.html_tokens.proofs.written.attributes.Goals as goal

pub loop-alloc-init : goal.loop-alloc-init
loop-alloc-init c = (c.utf8.text, attributing_starts c.args.text.now (map attribute_of c.new-all.result.items) (ap (map attribute_of) c.new-all.ensures.items), omega arith)

pub returns-in_err-attribute : goal.returns-in_err-attribute
returns-in_err-attribute c =
    let p = err_from_is_err_and c.from_residual.result c.from_residual.ensures.1 in
    rw (p.1, p.2) (record {
      read = attributing_stops c.args.text.now c.loop-alloc.rest.now c.spaces.result.now (map attribute_of c.loop-alloc.all.items) c.in_err-attribute.field-0.0 c.loop-alloc.invariant.1
          (sym c.name_ahead.ensures ∙ c.loop-alloc-test.true) c.spaces.ensures.read c.in_err-attribute.ensures.read;
      shorter = tt;
    })

pub loop-alloc-preserved : goal.loop-alloc-preserved
loop-alloc-preserved c = (
  search rules,
  attributing_pushed c.args.text.now c.loop-alloc.rest.now c.spaces.result.now c.in_ok-attribute.after.now c.loop-alloc.all.items c.push.new.self.items c.in_ok-attribute.attribute c.loop-alloc.invariant.1
      (sym c.name_ahead.ensures ∙ c.loop-alloc-test.true) c.spaces.ensures.read c.in_ok-attribute.ensures.read c.spaces.ensures.shorter c.in_ok-attribute.ensures.shorter (search rules),
  omega (arith, c.loop-alloc.invariant.2, c.spaces.ensures.shorter, c.in_ok-attribute.ensures.shorter),
)

pub returns : goal.returns
returns c =
    record {
      read = attributing_ends c.args.text.now c.loop-alloc.rest.now c.spaces-2.result.now (map attribute_of c.loop-alloc.all.items) c.loop-alloc.invariant.1
          (sym c.name_ahead.ensures ∙ c.loop-alloc-test.false) c.spaces-2.ensures.read;
      shorter = omega (arith, c.loop-alloc.invariant.2, c.spaces-2.ensures.shorter);
    }
