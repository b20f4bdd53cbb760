use Rattle.std.proofs.Common.{rules, false, arith, ap, subst, sym}
use Rattle.std.specs.Prelude.{not}
use Rattle.std.proofs.lemmas.Result.{err_from_is_err_and}
use Rattle.css_sheet.specs.Views.{heads_of}
use Rattle.css_sheet.proofs.Heading.{IsHeading, heading_starts, heading_goes_on, heading_stops, heading_ends}
use Rattle.css_sheet.proofs.heads.rule_heads.Goals as goal

pub loop-opened-init : goal.loop-opened-init
loop-opened-init c = (
  search rules,
  subst (λ all. IsHeading c.args.rules c.args.text.now (heads_of all false) c.args.text.now) (sym c.new-selectors.ensures.items) (heading_starts c.args.rules c.args.text.now),
  omega arith,
)

pub returns-in_err-is_opened-clause-read : goal.returns-in_err-is_opened-clause-read
returns-in_err-is_opened-clause-read c =
    let p = err_from_is_err_and c.from_residual.result c.from_residual.ensures.1 in
    rw (p.1, p.2) (heading_stops c.args.rules c.args.text.now c.loop-opened.rest.now (heads_of c.loop-opened.selectors.items c.loop-opened.opened) c.in_err-is_opened.field-0.0 c.loop-opened.invariant.1
    (ap not c.loop-opened-test.true) (c.in_err-is_opened.ensures.read c.loop-opened.opened))

pub loop-opened-preserved : goal.loop-opened-preserved
loop-opened-preserved c = (
  search rules,
  heading_goes_on c.args.rules c.args.text.now c.loop-opened.rest.now c.in_ok-is_opened.after.now (heads_of c.loop-opened.selectors.items c.loop-opened.opened) (heads_of c.head_turn.new.selectors.items c.in_ok-is_opened.is_opened)
      c.loop-opened.invariant.1 (ap not c.loop-opened-test.true) (c.in_ok-is_opened.ensures.read c.loop-opened.opened) c.in_ok-is_opened.ensures.shorter,
  omega (arith, c.in_ok-is_opened.ensures.shorter, c.loop-opened.invariant.2),
)

pub returns-clause-read : goal.returns-clause-read
returns-clause-read c =
    heading_ends c.args.rules c.args.text.now c.loop-opened.rest.now (heads_of c.loop-opened.selectors.items c.loop-opened.opened) c.loop-opened.invariant.1 (ap not c.loop-opened-test.false)
