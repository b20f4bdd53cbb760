use Rattle.std.proofs.Common.{◌∙◌, ap, subst, sym}
use Rattle.css_types.specs.Rule.{rulings_of}
use Rattle.cascade.specs.Winners.{AreSaidRules}
use Rattle.check_styles.proofs.engine.style.Goals as goal

pub styled-requires-clause-rules : goal.styled-requires-clause-rules
styled-requires-clause-rules c =
    subst AreSaidRules (sym (c.in_ok-rules.ensures ∙ ap rulings_of c.deref.ensures.value))
    (c.what_is_read_is_said.ensures.rules (rulings_of c.in_ok-styles.styles.rules.items) c.in_ok-styles.ensures.ruled)

pub styled-requires-clause-own : goal.styled-requires-clause-own
styled-requires-clause-own c = c.in_ok-document.ensures.said (c.what_is_read_is_said.ensures.own c.in_ok-styles.styles.styles.items c.in_ok-styles.ensures.kept)
