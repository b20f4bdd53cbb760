use Rattle.std.proofs.Common.{rules, sym, ◌∙◌, arith}
use Rattle.std.proofs.lemmas.Result.{err_from_is_err_and}
use Rattle.css_types.specs.Rule.{compound_of}
use Rattle.css_sheet.proofs.Turning.{compounding_starts, compounding_goes_on, compounding_stops, compounding_ends}
use Rattle.css_sheet.proofs.compound.with_simples.Goals as goal

pub loop-alloc-init : goal.loop-alloc-init
loop-alloc-init c = (search rules, compounding_starts (compound_of c.args.part) c.args.text.now, omega arith)

pub returns-in_err-rest-clause-read : goal.returns-in_err-rest-clause-read
returns-in_err-rest-clause-read c =
    let p = err_from_is_err_and c.from_residual.result c.from_residual.ensures.1 in
    rw (p.1, p.2) (compounding_stops (compound_of c.args.part) (compound_of c.loop-alloc.part) c.args.text.now c.loop-alloc.rest.now c.in_err-rest.field-0.0 c.loop-alloc.invariant.1
    (sym c.class_or_id_ahead.ensures ∙ c.loop-alloc-test.true) c.in_err-rest.ensures.read)

pub loop-alloc-preserved : goal.loop-alloc-preserved
loop-alloc-preserved c = (
  search rules,
  compounding_goes_on (compound_of c.args.part) (compound_of c.loop-alloc.part) (compound_of c.simple.new.part) c.args.text.now c.loop-alloc.rest.now c.in_ok-rest.rest.now c.loop-alloc.invariant.1
      (sym c.class_or_id_ahead.ensures ∙ c.loop-alloc-test.true) c.in_ok-rest.ensures.read c.in_ok-rest.ensures.shorter,
  omega (arith, c.in_ok-rest.ensures.shorter, c.loop-alloc.invariant.2),
)

pub returns-clause-read : goal.returns-clause-read
returns-clause-read c =
    compounding_ends (compound_of c.args.part) (compound_of c.loop-alloc.part) c.args.text.now c.loop-alloc.rest.now c.loop-alloc.invariant.1 (sym c.class_or_id_ahead.ensures ∙ c.loop-alloc-test.false)
