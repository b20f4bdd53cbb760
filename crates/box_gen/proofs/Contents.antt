-- What nodes are in their container, node by node.
use Rattle.std.proofs.Common.{◌≡◌, ◌∙◌, refl, ap, sym, ℕ, false, List, [], ◌∷◌, ◌++◌, append-nil}
use Rattle.style_types.specs.declared.style.Style.{Style}
use Rattle.style_types.specs.declared.tree.StyledNode.{StyledNode}
use Rattle.style_types.specs.declared.tree.StyledNode.TheViews.{out-StyledNode}
use Rattle.style_types.specs.Tree as styled
use Rattle.style_types.specs.Tree.{Nodes, kind_of, before, nodes_of, all_nodes_of}
use Rattle.box_gen.specs.declared.role.Role as code_role
use Rattle.box_gen.specs.declared.role.Role.TheVariants as code_roles
use Rattle.box_gen.specs.Tree.{Boxes}
use Rattle.box_gen.specs.Parts as part
use Rattle.box_gen.specs.Parts.{Part, around, has_block}
use Rattle.box_gen.specs.Boxes.{Role, nothing, words, line_break, inline_box, atom, block_level, role_of, made, parts_by, content, root_boxes}
use Rattle.box_gen.specs.Building.{code_of, role_in}
use Rattle.box_gen.proofs.NodeLines.{opened, role_opened}

module _ (n : StyledNode) where
  abbrev number : ℕ
  number = (out-StyledNode n).node

  abbrev style : Style
  style = (out-StyledNode n).style

  abbrev role : Role
  role = role_of (kind_of (out-StyledNode n).kind) style

  abbrev inner : List Part
  inner = content (all_nodes_of (out-StyledNode n).children.items)

  pub content_before : (next : Nodes) → content (before n next) ≡ content (nodes_of n) ++ content next
  unfolding content
  content_before next =
      ap content (opened n next)
      ∙ ap (λ (parts : List Part). parts ++ content next) (sym (append-nil (parts_by role number style inner)))
      ∙ ap (λ (ns : Nodes). content ns ++ content next) (sym (opened n styled.none))

  own_content : content (nodes_of n) ≡ parts_by role number style inner
  unfolding content
  own_content = ap content (opened n styled.none) ∙ append-nil (parts_by role number style inner)

  -- the box of the node as a block container
  pub root_is : root_boxes (nodes_of n) ≡ made number style inner
  root_is = ap root_boxes (opened n styled.none)

  code_is : (code : code_role.Role) → role_in (nodes_of n) ≡ code → code_of role ≡ code
  code_is code is = sym (role_opened n) ∙ is

  nothing_by : (r : Role) → code_of r ≡ code_roles.Nothing → parts_by r number style inner ≡ []
  nothing_by nothing e = refl
  nothing_by (words letters) e = cc
  nothing_by line_break e = cc
  nothing_by inline_box e = cc
  nothing_by atom e = cc
  nothing_by block_level e = cc

  break_by : (r : Role) → code_of r ≡ code_roles.LineBreak → parts_by r number style inner ≡ part.line_break number ∷ []
  break_by nothing e = cc
  break_by (words letters) e = cc
  break_by line_break e = refl
  break_by inline_box e = cc
  break_by atom e = cc
  break_by block_level e = cc

  box_by : (r : Role) → code_of r ≡ code_roles.InlineBox → parts_by r number style inner ≡ around number style inner
  box_by nothing e = cc
  box_by (words letters) e = cc
  box_by line_break e = cc
  box_by inline_box e = refl
  box_by atom e = cc
  box_by block_level e = cc

  atom_by : (r : Role) → code_of r ≡ code_roles.Atom → parts_by r number style inner ≡ part.atom number (made number style inner) ∷ []
  atom_by nothing e = cc
  atom_by (words letters) e = cc
  atom_by line_break e = cc
  atom_by inline_box e = cc
  atom_by atom e = refl
  atom_by block_level e = cc

  block_by : (r : Role) → code_of r ≡ code_roles.BlockLevel → parts_by r number style inner ≡ part.block_level (made number style inner) ∷ []
  block_by nothing e = cc
  block_by (words letters) e = cc
  block_by line_break e = cc
  block_by inline_box e = cc
  block_by atom e = cc
  block_by block_level e = refl

  words_have_no_block : (r : Role) → code_of r ≡ code_roles.Words → has_block (parts_by r number style inner) ≡ false
  words_have_no_block nothing e = cc
  words_have_no_block (words letters) e = refl
  words_have_no_block line_break e = cc
  words_have_no_block inline_box e = cc
  words_have_no_block atom e = cc
  words_have_no_block block_level e = cc

  pub nothing_content : role_in (nodes_of n) ≡ code_roles.Nothing → content (nodes_of n) ≡ []
  nothing_content is = own_content ∙ nothing_by role (code_is code_roles.Nothing is)

  pub break_content : role_in (nodes_of n) ≡ code_roles.LineBreak → content (nodes_of n) ≡ part.line_break number ∷ []
  break_content is = own_content ∙ break_by role (code_is code_roles.LineBreak is)

  pub box_content : role_in (nodes_of n) ≡ code_roles.InlineBox → content (nodes_of n) ≡ around number style inner
  box_content is = own_content ∙ box_by role (code_is code_roles.InlineBox is)

  pub atom_content : role_in (nodes_of n) ≡ code_roles.Atom → content (nodes_of n) ≡ part.atom number (root_boxes (nodes_of n)) ∷ []
  atom_content is = own_content ∙ atom_by role (code_is code_roles.Atom is) ∙ ap (λ (b : Boxes). part.atom number b ∷ []) (sym root_is)

  pub block_content : role_in (nodes_of n) ≡ code_roles.BlockLevel → content (nodes_of n) ≡ part.block_level (root_boxes (nodes_of n)) ∷ []
  block_content is = own_content ∙ block_by role (code_is code_roles.BlockLevel is) ∙ ap (λ (b : Boxes). part.block_level b ∷ []) (sym root_is)

  pub words_content : (letters : List ℕ) → kind_of (out-StyledNode n).kind ≡ styled.text letters → content (nodes_of n) ≡ part.words number letters style ∷ []
  words_content letters is = own_content ∙ ap (λ (kind : styled.NodeKind). parts_by (role_of kind style) number style inner) is

  pub words_no_block : role_in (nodes_of n) ≡ code_roles.Words → has_block (content (nodes_of n)) ≡ false
  words_no_block is = ap has_block own_content ∙ words_have_no_block role (code_is code_roles.Words is)
