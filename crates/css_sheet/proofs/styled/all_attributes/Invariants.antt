use Rattle.std.proofs.Common.{map}
use Rattle.css_sheet.proofs.Styling.{IsTaking}
use Rattle.css_sheet.proofs.styled.all_attributes.Given as goal

abbrev pub invariant-loop-node : goal.invariant-loop-node
invariant-loop-node l = IsTaking l.nodes l.node-index (map (λ own. own.items) l.all.items)
