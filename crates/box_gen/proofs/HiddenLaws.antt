-- Hidden nodes change no box.
use Rattle.std.proofs.Common.{◌≡◌, ◌∙◌, refl, ap, ℕ, List, ◌++◌}
use Rattle.style_types.specs.declared.style.Style.{Style}
use Rattle.style_types.specs.Tree as styled
use Rattle.style_types.specs.Tree.{Nodes, NodeKind}
use Rattle.box_gen.specs.Boxes.{Role, nothing, words, line_break, inline_box, atom, block_level, role_of, made, parts_by, content}
use Rattle.box_gen.specs.Laws.{kept_by, without_hidden, HiddenNodesAreNothing}
use Rattle.box_gen.specs.Parts.{Part}

module _ (number : ℕ) (kind : NodeKind) (style : Style) (inner next : Nodes) where
  kept_content : (role : Role) → role_of kind style ≡ role
      → content (kept_by role (styled.node number kind style inner) next) ≡ parts_by role number style (content inner) ++ content next
  unfolding content
  kept_content nothing e = refl
  kept_content (words letters) e = ap (λ (r : Role). parts_by r number style (content inner) ++ content next) e
  kept_content line_break e = ap (λ (r : Role). parts_by r number style (content inner) ++ content next) e
  kept_content inline_box e = ap (λ (r : Role). parts_by r number style (content inner) ++ content next) e
  kept_content atom e = ap (λ (r : Role). parts_by r number style (content inner) ++ content next) e
  kept_content block_level e = ap (λ (r : Role). parts_by r number style (content inner) ++ content next) e

shown_content : (nodes : Nodes) → content (without_hidden nodes) ≡ content nodes
unfolding content without_hidden
shown_content styled.none = refl
shown_content (styled.node number kind style inner next) =
    kept_content number kind style (without_hidden inner) (without_hidden next) (role_of kind style) refl
    ∙ ap (λ (parts : List Part). parts_by (role_of kind style) number style parts ++ content (without_hidden next)) (shown_content inner)
    ∙ ap (λ (parts : List Part). parts_by (role_of kind style) number style (content inner) ++ parts) (shown_content next)

pub hidden_nodes_are_nothing : HiddenNodesAreNothing
hidden_nodes_are_nothing number kind style inner next = ap (made number style) (shown_content inner)
