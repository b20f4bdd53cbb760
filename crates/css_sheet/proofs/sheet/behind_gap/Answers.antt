use Rattle.std.proofs.Common.{rules}
use Rattle.std.proofs.lemmas.Result.{err_from_is_err_and}
use Rattle.css_sheet.specs.Views.{sheet_of}
use Rattle.css_sheet.proofs.Sheeting.{sheeting_starts, sheeting_goes_on, sheeting_stops, sheeting_ends, some_left, none_left}
use Rattle.css_sheet.proofs.sheet.behind_gap.Goals as goal

pub loop-alloc-init : goal.loop-alloc-init
loop-alloc-init c = (search rules, sheeting_starts c.args.end (sheet_of c.args.sheet.now) c.args.text.now)

pub returns-in_err-rest : goal.returns-in_err-rest
returns-in_err-rest c =
    let p = err_from_is_err_and c.from_residual.result c.from_residual.ensures.1 in
    rw (p.1, p.2) (sheeting_stops c.args.end (sheet_of c.args.sheet.now) (sheet_of c.loop-alloc.sheet) c.args.text.now c.loop-alloc.rest.now c.in_err-rest.field-0.0 c.loop-alloc.invariant.1
    (some_left c.loop-alloc.rest.now c.has_rest.result c.has_rest.ensures c.loop-alloc-test.true) c.in_err-rest.ensures.read)

pub loop-alloc-preserved : goal.loop-alloc-preserved
loop-alloc-preserved c = (
  search rules,
  sheeting_goes_on c.args.end (sheet_of c.args.sheet.now) (sheet_of c.loop-alloc.sheet) (sheet_of c.turn.new.sheet) c.args.text.now c.loop-alloc.rest.now c.in_ok-rest.rest.now c.loop-alloc.invariant.1
      (some_left c.loop-alloc.rest.now c.has_rest.result c.has_rest.ensures c.loop-alloc-test.true) c.in_ok-rest.ensures.read c.in_ok-rest.ensures.shorter,
)

pub returns : goal.returns
returns c =
    sheeting_ends c.args.end (sheet_of c.args.sheet.now) (sheet_of c.loop-alloc.sheet) c.args.text.now c.loop-alloc.rest.now c.loop-alloc.invariant.1
    (none_left c.loop-alloc.rest.now c.has_rest.result c.has_rest.ensures c.loop-alloc-test.false)
