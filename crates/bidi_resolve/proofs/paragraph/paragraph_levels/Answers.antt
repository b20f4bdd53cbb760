use Rattle.std.proofs.Common.{◌≡◌, ◌∙◌, arith, length, replicate, rules, subst, sym, true, false}
use Rattle.std.specs.Prelude.{IfOk}
use Rattle.std.specs.List.{list_all, list_any}
use Rattle.bidi_resolve.specs.Paragraph.{is_right}
use Rattle.bidi_resolve.specs.Single.{is_plain}
use Rattle.bidi_resolve.proofs.NoRight.{zero_levels}
use Rattle.bidi_resolve.proofs.OneSequence.{single_is}
use Rattle.bidi_resolve.proofs.paragraph.paragraph_levels.Goals as goal

pub returns-then-not-has_right-clause-levels : goal.returns-then-not-has_right-clause-levels
returns-then-not-has_right-clause-levels c =
    let base : c.args.base ≡ 0 = omega arith in
    let plain : list_all is_plain c.args.classes.now ≡ true = search rules in
    let none : list_any is_right c.args.classes.now ≡ false = search rules in
    let zeros : c.in_ok-zeros.zeros.items ≡ replicate (length c.args.classes.now) 0 = search rules in
    zeros ∙ sym (rw base (zero_levels c.args.chars.now c.args.classes.now plain none))

pub returns-clause-levels : goal.returns-clause-levels
returns-clause-levels c =
    let plain : list_all is_plain c.args.classes.now ≡ true = search rules in
    subst (λ own. IfOk c.single_levels.result (λ levels. levels.items ≡ own))
    (sym (single_is c.args.chars.now c.args.classes.now c.args.base plain)) c.single_levels.ensures.levels
