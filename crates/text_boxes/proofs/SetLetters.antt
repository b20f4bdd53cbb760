-- The letters of a text that gets other ones, whether they are white space alone, and the role of its node.
use Rattle.std.proofs.Common.{◌≡◌, ◌∙◌, ℕ, Bool, List, refl, ap, inl, inr}
use Rattle.std.specs.Prelude.{nat_eq, if◌then◌else◌, ⊤}
use Rattle.std.proofs.lemmas.Bool.Decides.{eqb_tells}
use Rattle.style_types.specs.declared.style.Display.{Display}
use Rattle.style_types.specs.declared.style.Display.TheVariants.{Block, Inline, InlineBlock, FlowRoot, Hidden}
use Rattle.style_types.specs.declared.style.Style.{Style}
use Rattle.style_types.specs.Tree as styled
use Rattle.style_types.specs.Tree.{NodeKind}
use Rattle.box_gen.specs.Boxes.{Role, atom, block_level, element_role, inline_box, is_blank, line_break, nothing, role_by, role_of, words}
use Rattle.text_boxes.specs.Documents.{kind_with}
use Rattle.text_boxes.proofs.WhiteSpace.{IsBlankAs}

module _ (number : ℕ) (letters : List ℕ) where
  -- the letters of a text, where that of one node gets these
  abbrev pub letters_at : (node : ℕ) → (was : List ℕ) → List ℕ
  letters_at node was = if nat_eq node number then letters else was

  pub blank_set : (node : ℕ) (was : List ℕ) → (node ≡ number → is_blank letters ≡ is_blank was) → is_blank (letters_at node was) ≡ is_blank was
  blank_set node was same = elim (eqb_tells node number) [
    | inl (here, is) ↦ ap (λ (b : Bool). is_blank (if b then letters else was)) here ∙ same is
    | inr (there, apart) ↦ ap (λ (b : Bool). is_blank (if b then letters else was)) there
  ]

  -- ---- roles

  -- the role of a node, where the text of one has these letters
  abbrev pub role_with : (node : ℕ) → Role → Role
  role_with node nothing = nothing
  role_with node (words was) = words (letters_at node was)
  role_with node line_break = line_break
  role_with node inline_box = inline_box
  role_with node atom = atom
  role_with node block_level = block_level

  element_set : (node : ℕ) (display : Display) → element_role display ≡ role_with node (element_role display)
  element_set node Block = refl
  element_set node Inline = refl
  element_set node InlineBlock = refl
  element_set node FlowRoot = refl
  element_set node Hidden = refl

  break_set : (node : ℕ) (display : Display) → role_by display line_break ≡ role_with node (role_by display line_break)
  break_set node Block = refl
  break_set node Inline = refl
  break_set node InlineBlock = refl
  break_set node FlowRoot = refl
  break_set node Hidden = refl

  pub role_set : (node : ℕ) (kind : NodeKind) (style : Style) → role_of (kind_with number letters node kind) style ≡ role_with node (role_of kind style)
  role_set node styled.element style = element_set node style.display
  role_set node styled.line_break style = break_set node style.display
  role_set node (styled.text was) style = refl

  -- ---- white space in roles

  -- the letters are white space alone exactly where those of this role are, where it is that of the node
  abbrev pub IsBlankRole : (node : ℕ) → Role → Type 0
  IsBlankRole node nothing = ⊤
  IsBlankRole node (words was) = node ≡ number → is_blank letters ≡ is_blank was
  IsBlankRole node line_break = ⊤
  IsBlankRole node inline_box = ⊤
  IsBlankRole node atom = ⊤
  IsBlankRole node block_level = ⊤

  element_blank : (node : ℕ) (display : Display) → IsBlankRole node (element_role display)
  element_blank node Block = tt
  element_blank node Inline = tt
  element_blank node InlineBlock = tt
  element_blank node FlowRoot = tt
  element_blank node Hidden = tt

  break_blank : (node : ℕ) (display : Display) → IsBlankRole node (role_by display line_break)
  break_blank node Block = tt
  break_blank node Inline = tt
  break_blank node InlineBlock = tt
  break_blank node FlowRoot = tt
  break_blank node Hidden = tt

  pub role_blank : (node : ℕ) (kind : NodeKind) (style : Style) → IsBlankAs number letters node kind → IsBlankRole node (role_of kind style)
  role_blank node styled.element style blank = element_blank node style.display
  role_blank node styled.line_break style blank = break_blank node style.display
  role_blank node (styled.text was) style blank = blank
