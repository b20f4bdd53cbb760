use Rattle.std.proofs.Common.{rules}
use Rattle.edit_script.specs.Views.{begun_of}
use Rattle.edit_script.proofs.FittingLaws.{none_fit}
use Rattle.edit_script.proofs.Reading.{none_left, reading_ends, reading_goes_on, reading_starts, reading_stops, some_left}
use Rattle.edit_script.proofs.script.answer_script.Goals as goal

pub loop-rest-init : goal.loop-rest-init
loop-rest-init c = (search rules, reading_starts c.args.text.now (begun_of c.begin-begun.result) c.begin-begun.ensures, none_fit (begun_of c.begin-begun.result) c.begin-begun.ensures)

pub loop-rest-preserved : goal.loop-rest-preserved
loop-rest-preserved c = (
  search rules,
  (reading_goes_on c.args.text.now c.loop-rest.rest.now c.first_line.result.0.now c.first_line.result.1.now (begun_of c.loop-rest.begun) (begun_of c.read_line.new.begun) c.loop-rest.invariant.1
      (some_left c.loop-rest.rest.now c.is_empty.result c.is_empty.ensures c.loop-rest-test.true) c.first_line.ensures c.in-Ok.ensures.read c.in-Ok.ensures.line).is,
  c.in-Ok.ensures.fit c.loop-rest.invariant.2,
)

pub returns-in-Err-clause-told : goal.returns-in-Err-clause-told
returns-in-Err-clause-told c =
    rw c.told.ensures (reading_stops c.args.start c.args.text.now c.loop-rest.rest.now c.first_line.result.0.now c.first_line.result.1.now (begun_of c.loop-rest.begun) c.in-Err.halt c.saturating_add.result
    c.loop-rest.invariant.1 c.first_line.ensures c.in-Err.ensures.read c.saturating_add.ensures)

pub returns-clause-told : goal.returns-clause-told
returns-clause-told c =
    reading_ends c.args.text.now c.loop-rest.rest.now (begun_of c.loop-rest.begun) c.loop-rest.invariant.1 (none_left c.loop-rest.rest.now c.is_empty.result c.is_empty.ensures c.loop-rest-test.false)
