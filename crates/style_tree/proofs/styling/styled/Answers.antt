use Rattle.dom_store.specs.State.{state_of}
use Rattle.style_tree.proofs.Rooting.{document_by}
use Rattle.style_tree.proofs.styling.styled.Goals as goal

pub returns-clause-styled : goal.returns-clause-styled
returns-clause-styled c =
    document_by (state_of c.args.document.now) c.requires.rooted _ _ _ _ _ _ c.in_ok-html.ensures.style c.in_ok-body.ensures.style c.root_style.ensures.style
    c.in_ok-body_node.ensures.styled c.in_ok-root.ensures.styled
