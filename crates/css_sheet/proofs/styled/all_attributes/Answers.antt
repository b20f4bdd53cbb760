use Rattle.std.proofs.Common.{◌≡◌, Ok, map, ap, subst, ◌∙◌}
use Rattle.std.proofs.lemmas.Result.{err_from_is_err_and}
use Rattle.html_read.specs.Values.{kind_of}
use Rattle.css_sheet.specs.Styled.{Fails, own_of_kind}
use Rattle.css_sheet.proofs.Styling.{attributes_go_on, attributes_stop, owned_more}
use Rattle.css_sheet.proofs.styled.all_attributes.Goals as goal

pub returns-in_err-own : goal.returns-in_err-own
returns-in_err-own c =
    let p = err_from_is_err_and c.from_residual.result c.from_residual.ensures.1 in
    rw (p.1, p.2) (attributes_stop c.args.nodes.now c.loop-node.node-index _ (map (λ own. own.items) c.loop-node.all.items) c.in_err-own.field-0.0 c.loop-node-test.true
    (subst (λ n. Fails c.in_err-own.field-0.0 (own_of_kind (kind_of n.kind))) c.node-item.is c.in_err-own.ensures) c.loop-node.invariant)

pub loop-node-preserved : goal.loop-node-preserved
loop-node-preserved c =
    attributes_go_on c.args.nodes.now c.loop-node.node-index _ (map (λ own. own.items) c.loop-node.all.items) (map (λ own. own.items) c.push.new.self.items) c.in_ok-own.field-0.items c.loop-node-test.true
    (subst (λ n. own_of_kind (kind_of n.kind) ≡ Ok c.in_ok-own.field-0.items) c.node-item.is c.in_ok-own.ensures)
    (ap (map (λ own. own.items)) c.in_ok-push.ensures.items ∙ owned_more c.loop-node.all.items c.in_ok-own.field-0) c.loop-node.invariant
