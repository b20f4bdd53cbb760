use Rattle.std.proofs.Common.{rules, sym, ◌∙◌, length, arith}
use Rattle.std.proofs.lemmas.Bool.{eqb-false, eqb-true}
use Rattle.hit_caret.proofs.Reading.{reading_ends, reading_goes_on, reading_starts, reading_stops}
use Rattle.hit_caret.proofs.probing.answer_probe.Goals as goal

pub loop-rest-init : goal.loop-rest-init
loop-rest-init c = (search rules, reading_starts c.args.text.now c.new-probes.result.items c.new-probes.ensures.items)

pub loop-rest-preserved : goal.loop-rest-preserved
loop-rest-preserved c = (
  search rules,
  (reading_goes_on c.args.text.now c.loop-rest.rest.now c.first_line.result.0.now c.first_line.result.1.now c.loop-rest.probes.items c.read_line.new.probes.items c.loop-rest.invariant.1
      (omega (arith, eqb-false (length c.loop-rest.rest.now) 0 (sym c.is_empty.ensures ∙ c.loop-rest-test.true))) c.first_line.ensures.line c.first_line.ensures.after c.in-Ok.ensures).is,
)

pub returns-in-Err : goal.returns-in-Err
returns-in-Err c =
    rw c.told.ensures (reading_stops c.args.start c.args.text.now c.loop-rest.rest.now c.first_line.result.0.now c.loop-rest.probes.items c.in-Err.halt c.saturating_add.result
    c.loop-rest.invariant.1 c.first_line.ensures.line c.in-Err.ensures c.saturating_add.ensures)

pub returns : goal.returns
returns c =
    reading_ends c.args.text.now c.loop-rest.rest.now c.loop-rest.probes.items c.loop-rest.invariant.1 (eqb-true (length c.loop-rest.rest.now) 0 (sym c.is_empty.ensures ∙ c.loop-rest-test.false))
