use Rattle.std.proofs.Common.{ap, subst, ◌∙◌, ℕ, List}
use Rattle.dom_store.specs.State.{state_of, tree_to}
use Rattle.cascade.specs.Index.{index_rules}
use Rattle.style_types.specs.declared.style.Style.{Style}
use Rattle.style_types.specs.Tree.{nodes_of}
use Rattle.style_tree.specs.Styling.{IsBodyOf, styled_in}
use Rattle.style_tree.proofs.Rooting.{as_body}
use Rattle.style_tree.proofs.styling.Styling.body_node.Goals as goal

pub returns-clause-styled : goal.returns-clause-styled
returns-clause-styled c =
    let rules = index_rules c.args.self.now.rules.now in
    let state = state_of c.args.self.now.document.now in
    let own = c.in_ok-own.own in
    subst (λ (style : Style). IsBodyOf rules state style (nodes_of c.in_ok-made.made)) c.in_ok-own.ensures
    (as_body state own c.node.result c.unwrap-body.result c.unwrap-body.ensures rules _ _ c.node.ensures
    (c.in_ok-children.ensures.styled ∙ ap (λ (l : List ℕ). styled_in rules state own (tree_to 62 state l)) c.deref.ensures.value) c.in_ok-made.ensures.styled)
