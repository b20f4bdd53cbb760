-- The nodes that pass the limit, node by node, from what their boxes have of those above them.
use Rattle.std.proofs.Common.{◌≡◌, ◌∙◌, refl, ap, sym, ℕ, Bool, true, false, List, [], ◌++◌}
use Rattle.std.specs.Prelude.{◌&&◌, nat_lt}
use Rattle.wm_modes.specs.declared.mode.WritingMode.{WritingMode}
use Rattle.style_types.specs.declared.style.Style.{Style}
use Rattle.style_types.specs.Tree as styled
use Rattle.style_types.specs.Tree.{Nodes, NodeKind}
use Rattle.box_gen.specs.declared.site.Site.{Site}
use Rattle.box_gen.specs.Boxes.{Role, atom, block_level, inline_box, line_break, nothing, role_of, words}
use Rattle.box_gen.specs.Building.{code_of}
use Rattle.box_gen.specs.Found.{if_shown, past_from}
use Rattle.box_gen.specs.Orthogonal.{most_orthogonal, past, past_by, put_if, turns_in}
use Rattle.box_gen.specs.Site.{in_node, is_container, is_past}

shown_both : (shown : Bool) (one two : List ℕ) → if_shown shown (one ++ two) ≡ if_shown shown one ++ if_shown shown two
shown_both true one two = refl
shown_both false one two = refl

shown_none : (shown : Bool) → if_shown shown [] ≡ []
shown_none true = refl
shown_none false = refl

module _ (mode : WritingMode) (site : Site) (number : ℕ) (inner : Nodes) where
  abbrev turns : ℕ
  turns = turns_in site.mode mode site.turns

  abbrev too_many : Bool
  too_many = nat_lt most_orthogonal turns

  past_one : (role : Role) (shown : Bool) → site.shown ≡ shown
      → if_shown shown (past_by role number site.mode mode site.turns (past inner)) ≡ put_if (shown && (is_container (code_of role) && too_many)) number (past_from (in_node (code_of role) mode site) inner)
  past_one nothing true is = refl
  past_one nothing false is = refl
  past_one (words letters) true is = refl
  past_one (words letters) false is = refl
  past_one line_break true is = refl
  past_one line_break false is = refl
  past_one inline_box true is = ap (λ (b : Bool). if_shown b (past inner site.mode site.turns)) (sym is)
  past_one inline_box false is = ap (λ (b : Bool). if_shown b (past inner site.mode site.turns)) (sym is)
  past_one atom true is = ap (λ (b : Bool). put_if too_many number (if_shown b (past inner mode turns))) (sym is)
  past_one atom false is = ap (λ (b : Bool). if_shown b (past inner mode turns)) (sym is)
  past_one block_level true is = ap (λ (b : Bool). put_if too_many number (if_shown b (past inner mode turns))) (sym is)
  past_one block_level false is = ap (λ (b : Bool). if_shown b (past inner mode turns)) (sym is)

-- what is found at a node and behind it
pub past_steps : (site : Site) (number : ℕ) (kind : NodeKind) (style : Style) (inner next : Nodes)
    → past_from site (styled.node number kind style inner next)
    ≡ put_if (is_past (code_of (role_of kind style)) style.mode site) number (past_from (in_node (code_of (role_of kind style)) style.mode site) inner) ++ past_from site next
unfolding past
past_steps site number kind style inner next =
    shown_both site.shown (past_by (role_of kind style) number site.mode style.mode site.turns (past inner)) (past next site.mode site.turns)
    ∙ ap (λ (l : List ℕ). l ++ past_from site next) (past_one style.mode site number inner (role_of kind style) site.shown refl)

pub past_ends : (site : Site) → past_from site styled.none ≡ []
unfolding past
past_ends site = shown_none site.shown
