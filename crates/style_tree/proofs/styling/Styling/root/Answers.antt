use Rattle.std.proofs.Common.{ap, subst, ◌∙◌, List, [], ◌∷◌, ◌++◌}
use Rattle.style_types.specs.declared.tree.StyledNode.{StyledNode}
use Rattle.dom_store.specs.State.{state_of}
use Rattle.style_types.specs.declared.style.Style.{Style}
use Rattle.style_types.specs.Tree.{nodes_of}
use Rattle.style_tree.specs.Styling.{IsHtmlOf}
use Rattle.style_tree.proofs.Rooting.{as_html}
use Rattle.style_tree.proofs.styling.Styling.root.Goals as goal

pub returns-clause-styled : goal.returns-clause-styled
returns-clause-styled c =
    let state = state_of c.args.self.now.document.now in
    subst (λ (style : Style). IsHtmlOf state style (nodes_of c.args.body) (nodes_of c.in_ok-made.made)) c.in_ok-own.ensures
    (as_html state c.in_ok-own.own c.node.result c.unwrap-html.result c.unwrap-html.ensures _ _ _ c.node.ensures
    (c.in_ok-push.ensures.items ∙ ap (λ (l : List StyledNode). l ++ c.args.body ∷ []) c.in_ok-children.ensures.items) c.in_ok-made.ensures.styled)
