use Rattle.std.proofs.Common.{sym, ap, subst, ◌∙◌}
use Rattle.css_types.specs.Rule.{rulings_of}
use Rattle.cascade.specs.Winners.{AreSaidRules}
use Rattle.count_styles.proofs.counting.take_on.Goals as goal

pub styled-requires-clause-rules : goal.styled-requires-clause-rules
styled-requires-clause-rules c = subst AreSaidRules (sym (c.in_ok-index.ensures ∙ ap rulings_of c.deref.ensures.value)) c.requires.rules

pub styled-requires-clause-own : goal.styled-requires-clause-own
styled-requires-clause-own c = c.in_ok-document.ensures.said c.requires.own
