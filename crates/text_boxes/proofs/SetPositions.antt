-- In a styled tree in which a text has other letters no position changes.
use Rattle.std.proofs.Common.{◌≡◌, ◌∙◌, ℕ, List, ◌∷◌, ◌++◌, refl, ap, Option, Some, None}
use Rattle.style_types.specs.declared.style.Insets.{Insets}
use Rattle.style_types.specs.declared.style.Style.{Style}
use Rattle.style_types.specs.declared.position.Position.{Position}
use Rattle.style_types.specs.Tree as styled
use Rattle.style_types.specs.Tree.{Nodes, NodeKind}
use Rattle.box_gen.specs.Boxes.{Role, atom, block_level, inline_box, line_break, nothing, role_of, words}
use Rattle.rel_shift.specs.Positions.{holder_in, insets_of, position, positions_in, positions_of, unless_hidden}
use Rattle.text_boxes.specs.Documents.{kind_with, nodes_with}
use Rattle.text_boxes.proofs.SetLetters.{role_set, role_with}

module _ (number : ℕ) (letters : List ℕ) where
  insets_set : (node : ℕ) (kind : NodeKind) (style : Style) → insets_of (kind_with number letters node kind) style ≡ insets_of kind style
  insets_set node styled.element style = refl
  insets_set node styled.line_break style = refl
  insets_set node (styled.text was) style = refl

  position_set : (parent holder : Option ℕ) (node : ℕ) (kind : NodeKind) (style : Style) → position parent holder node (kind_with number letters node kind) style ≡ position parent holder node kind style
  position_set parent holder node kind style =
      ap (λ (insets : Option Insets). let made : Position = record { node = node; parent = parent; holder = holder; insets = insets } in made) (insets_set node kind style)

  role_holder : (node holder : ℕ) (role : Role) → holder_in (role_with number letters node role) node holder ≡ holder_in role node holder
  role_holder node holder nothing = refl
  role_holder node holder (words was) = refl
  role_holder node holder line_break = refl
  role_holder node holder inline_box = refl
  role_holder node holder atom = refl
  role_holder node holder block_level = refl

  role_hidden : (node : ℕ) (role : Role) (positions : List Position) → unless_hidden (role_with number letters node role) positions ≡ unless_hidden role positions
  role_hidden node nothing positions = refl
  role_hidden node (words was) positions = refl
  role_hidden node line_break positions = refl
  role_hidden node inline_box positions = refl
  role_hidden node atom positions = refl
  role_hidden node block_level positions = refl

  positions_stay : (parent holder : ℕ) (nodes : Nodes) → positions_in parent holder (nodes_with number letters nodes) ≡ positions_in parent holder nodes
  unfolding positions_in
  positions_stay parent holder styled.none = refl
  positions_stay parent holder (styled.node node kind style inner next) =
      let role = role_of kind style in
      let set = kind_with number letters node kind in
      let within = nodes_with number letters inner in
      let behind = positions_in parent holder (nodes_with number letters next) in
      ap (λ (r : Role). unless_hidden r (position (Some parent) (Some holder) node set style ∷ positions_in node (holder_in r node holder) within) ++ behind) (role_set number letters node kind style)
      ∙ ap (λ (l : List Position). l ++ behind) (role_hidden node role (position (Some parent) (Some holder) node set style ∷ positions_in node (holder_in (role_with number letters node role) node holder) within))
      ∙ ap (λ (p : Position). unless_hidden role (p ∷ positions_in node (holder_in (role_with number letters node role) node holder) within) ++ behind) (position_set (Some parent) (Some holder) node kind style)
      ∙ ap (λ (n : ℕ). unless_hidden role (position (Some parent) (Some holder) node kind style ∷ positions_in node n within) ++ behind) (role_holder node holder role)
      ∙ ap (λ (l : List Position). unless_hidden role (position (Some parent) (Some holder) node kind style ∷ l) ++ behind) (positions_stay node (holder_in role node holder) inner)
      ∙ ap (λ (l : List Position). unless_hidden role (position (Some parent) (Some holder) node kind style ∷ positions_in node (holder_in role node holder) inner) ++ l) (positions_stay parent holder next)

  pub all_positions_stay : (nodes : Nodes) → positions_of (nodes_with number letters nodes) ≡ positions_of nodes
  all_positions_stay styled.none = refl
  all_positions_stay (styled.node node kind style inner next) =
      ap (λ (p : Position). p ∷ positions_in node node (nodes_with number letters inner)) (position_set None None node kind style)
      ∙ ap (λ (l : List Position). position None None node kind style ∷ l) (positions_stay node node inner)
