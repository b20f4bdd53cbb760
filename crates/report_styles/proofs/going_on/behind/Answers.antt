use Rattle.std.proofs.Common.{rules, arith, ap, subst, sym, ◌∙◌}
use Rattle.std.specs.Prelude.{Some}
use Rattle.report_styles.specs.declared.going_on.End.{End}
use Rattle.report_styles.specs.GoingOn.{behind}
use Rattle.report_styles.proofs.Seeking.{IsSeeking, seeking_goes_on, seeking_ends_before, seeking_ends_behind, seeking_fails}
use Rattle.report_styles.proofs.going_on.behind.Goals as goal

pub returns-in-Some-Before-clause-read : goal.returns-in-Some-Before-clause-read
returns-in-Some-Before-clause-read c =
    sym (seeking_ends_before c.args.passed (behind c.args.passed c.args.depth c.args.text.now) c.loop-piece.depth c.loop-piece.rest.now c.in-Ok.after.now c.in-Ok.piece c.loop-piece.invariant.1 c.in-Ok.ensures.read (sym c.ends_at.ensures ∙ c.in-Some-Before.is ∙ ap (λ (e : End). Some e) c.in-Some-Before.field-0-is))

pub returns-in-Some-Behind-clause-read : goal.returns-in-Some-Behind-clause-read
returns-in-Some-Behind-clause-read c =
    sym (seeking_ends_behind c.args.passed (behind c.args.passed c.args.depth c.args.text.now) c.loop-piece.depth c.loop-piece.rest.now c.in-Ok.after.now c.in-Ok.piece c.loop-piece.invariant.1 c.in-Ok.ensures.read (sym c.ends_at.ensures ∙ c.in-Some-Behind.is ∙ ap (λ (e : End). Some e) c.in-Some-Behind.field-0-is))

pub loop-piece-preserved : goal.loop-piece-preserved
loop-piece-preserved c = (
  search rules,
  subst (λ d. IsSeeking c.args.passed (behind c.args.passed c.args.depth c.args.text.now) d c.in-Ok.after.now) (sym c.deeper-depth.ensures)
      (seeking_goes_on c.args.passed (behind c.args.passed c.args.depth c.args.text.now) c.loop-piece.depth c.loop-piece.rest.now c.in-Ok.after.now c.in-Ok.piece c.loop-piece.invariant.1 c.in-Ok.ensures.read
      (sym c.ends_at.ensures ∙ c.in-None.is) c.in-Ok.ensures.shorter),
  omega (arith, c.in-Ok.ensures.shorter, c.loop-piece.invariant.2),
)

pub returns-clause-read : goal.returns-clause-read
returns-clause-read c =
    sym (seeking_fails c.args.passed (behind c.args.passed c.args.depth c.args.text.now) c.loop-piece.depth c.loop-piece.rest.now c.in_default.field-0.now c.loop-piece.invariant.1 c.in_default.ensures.read)
