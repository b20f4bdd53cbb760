-- Trees that may pass the limit at the same nodes: their nodes have the same displays and modes, whatever else of their styles differs.
use Rattle.std.proofs.Common.{◌≡◌, ◌∙◌, ℕ, true, List, ◌++◌, refl, ap}
use Rattle.std.specs.Prelude.{⊤}
use Rattle.wm_modes.specs.declared.mode.WritingMode as modes
use Rattle.css_types.specs.declared.property.Property.TheVariants.{Display, WritingMode}
use Rattle.css_types.specs.Rule.{Ruling}
use Rattle.style_types.specs.declared.style.Display as displays
use Rattle.style_types.specs.declared.style.Style.{Style}
use Rattle.style_types.specs.Initial.{initial}
use Rattle.style_types.specs.Tree as styled
use Rattle.style_types.specs.Tree.{NodeKind, Nodes}
use Rattle.dom_store.specs.State as dom
use Rattle.dom_store.specs.State.{State, Tree, What, line, tree_of}
use Rattle.computed.specs.Step.{own_display, own_mode, sized, style_of}
use Rattle.computed.specs.Winners.{Winning, said, won}
use Rattle.style_tree.specs.Styling.{body_style, from_html, html_style, kind_of, style_at, styled_in, unturned, winners_at}
use Rattle.box_gen.specs.Boxes.{Role, atom, block_level, element_role, inline_box, line_break, nothing, role_by, role_of, words}
use Rattle.box_gen.specs.Orthogonal.{past, past_box, past_by, root_past, turns_in}
use Rattle.box_limits.specs.Rules.{RulesThatTurnNone, turn_none}
use Rattle.box_limits.proofs.Winning as winning
use Rattle.box_limits.proofs.Winning.{same_display}

-- ---- styles

record TurnAlike (one other : Style) : Type 0 where
  display : one.display ≡ other.display
  mode : one.mode ≡ other.mode

-- values that won
record WonAlike (one other : Winning) : Type 0 where
  display : won one Display ≡ won other Display
  mode : won one WritingMode ≡ won other WritingMode

-- from parents of one mode
mode_alike : (parent above : modes.WritingMode) (one other : Winning) → parent ≡ above → WonAlike one other → own_mode parent one ≡ own_mode above other
unfolding own_mode
mode_alike parent above one other same alike = rw (same, alike.mode) refl

display_alike : (parent above mode own : modes.WritingMode) (one other : Winning) → parent ≡ above → mode ≡ own → WonAlike one other → own_display parent mode one ≡ own_display above own other
unfolding own_display said
display_alike parent above mode own one other same turned_ alike = rw (same, turned_, alike.display) refl

style_alike : (parent above : Style) (one other : Winning) → parent.mode ≡ above.mode → WonAlike one other → TurnAlike (style_of parent one) (style_of above other)
unfolding sized
style_alike parent above one other same alike =
    let mode = mode_alike parent.mode above.mode one other same alike in
    record { display = display_alike parent.mode above.mode _ _ one other same mode alike; mode = mode }

-- ---- trees

-- of one shape, their nodes the same but for what else is in their styles
unfoldable AreAlike : Nodes → Nodes → Type 0
AreAlike styled.none styled.none = ⊤
AreAlike styled.none (styled.node number kind style inner next) = ⊥
AreAlike (styled.node number kind style inner next) styled.none = ⊥
AreAlike (styled.node number kind style inner next) (styled.node at what own below behind) =
    (number ≡ at) × (kind ≡ what) × TurnAlike style own × AreAlike inner below × AreAlike next behind

role_alike : (kind : NodeKind) (one other : Style) → TurnAlike one other → role_of kind one ≡ role_of kind other
role_alike styled.element one other alike = ap element_role alike.display
role_alike styled.line_break one other alike = ap (λ (d : displays.Display). role_by d line_break) alike.display
role_alike (styled.text letters) one other alike = refl

-- nodes with the same inside them
past_by_alike : (role : Role) (number : ℕ) (mode own : modes.WritingMode) (turns : ℕ) (inner below : modes.WritingMode → ℕ → List ℕ) → ((m : modes.WritingMode) (n : ℕ) → inner m n ≡ below m n)
    → past_by role number mode own turns inner ≡ past_by role number mode own turns below
past_by_alike nothing number mode own turns inner below same = refl
past_by_alike (words letters) number mode own turns inner below same = refl
past_by_alike line_break number mode own turns inner below same = refl
past_by_alike inline_box number mode own turns inner below same = same mode turns
past_by_alike atom number mode own turns inner below same = ap (λ (l : List ℕ). past_box number (turns_in mode own turns) (λ n. l)) (same own (turns_in mode own turns))
past_by_alike block_level number mode own turns inner below same = ap (λ (l : List ℕ). past_box number (turns_in mode own turns) (λ n. l)) (same own (turns_in mode own turns))

past_alike : (one other : Nodes) → AreAlike one other → (mode : modes.WritingMode) (turns : ℕ) → past one mode turns ≡ past other mode turns
unfolding past AreAlike
past_alike styled.none styled.none alike mode turns = refl
past_alike styled.none (styled.node number kind style inner next) alike mode turns = absurd alike
past_alike (styled.node number kind style inner next) styled.none alike mode turns = absurd alike
past_alike (styled.node number kind style inner next) (styled.node at what own below behind) (same, is, style_, inner_, next_) mode turns =
    let role : role_of kind style ≡ role_of what own = ap (λ (k : NodeKind). role_of k style) is ∙ role_alike what style own style_ in
    let here : past_by (role_of kind style) number mode style.mode turns (past inner) ≡ past_by (role_of what own) at mode own.mode turns (past below) =
    past_by_alike (role_of kind style) number mode style.mode turns (past inner) (past below) (past_alike inner below inner_)
    ∙ ap (λ (n : ℕ). past_by (role_of kind style) n mode style.mode turns (past below)) same
    ∙ ap (λ (m : modes.WritingMode). past_by (role_of kind style) at mode m turns (past below)) style_.mode
    ∙ ap (λ (r : Role). past_by r at mode own.mode turns (past below)) role in
    ap (λ (l : List ℕ). l ++ past next mode turns) here ∙ ap (λ (l : List ℕ). past_by (role_of what own) at mode own.mode turns (past below) ++ l) (past_alike next behind next_ mode turns)

-- ---- documents

module _ (before rules behind : List Ruling) (state : State) (none : turn_none rules ≡ true) where
  abbrev all : List Ruling
  all = before ++ rules ++ behind

  abbrev some : List Ruling
  some = before ++ behind

  winners_alike : (number : ℕ) (parent above : Style) → WonAlike (winners_at all state number parent) (winners_at some state number above)
  winners_alike number parent above = record {
    display = same_display before rules behind (line state number) none parent above;
    mode = winning.same_mode before rules behind (line state number) none parent above;
  }

  at_alike : (number : ℕ) (what : What) (parent above : Style) → TurnAlike parent above → TurnAlike (style_at all state number what parent) (style_at some state number what above)
  at_alike number (dom.element tag id classes dir own) parent above alike = style_alike parent above _ _ alike.mode (winners_alike number parent above)
  at_alike number (dom.text letters) parent above alike = alike

  styled_alike : (parent above : Style) (tree : Tree) → TurnAlike parent above → AreAlike (styled_in all state parent tree) (styled_in some state above tree)
  unfolding styled_in AreAlike
  styled_alike parent above dom.none alike = tt
  styled_alike parent above (dom.node number what inner next) alike =
      let own = at_alike number what parent above alike in
      (refl, refl, own, styled_alike (style_at all state number what parent) (style_at some state number what above) inner own, styled_alike parent above next alike)

  html_alike : TurnAlike (html_style all state) (html_style some state)
  html_alike = style_alike initial initial _ _ refl (winners_alike 0 initial initial)

  unturned_alike : (html above : Style) (one other : Winning) → TurnAlike html above → WonAlike one other → TurnAlike (unturned html one) (unturned above other)
  unturned_alike html above one other alike won_ =
      style_alike (record html { mode = (style_of html one).mode }) (record above { mode = (style_of above other).mode }) one other (style_alike html above one other alike.mode won_).mode won_

  body_alike : TurnAlike (body_style all state) (body_style some state)
  body_alike = unturned_alike (html_style all state) (html_style some state) _ _ html_alike (winners_alike 1 (html_style all state) (html_style some state))

  body_nodes_alike : (number : ℕ) (what : What) (inner : Tree)
      → AreAlike (styled.node number (kind_of what) (body_style all state) (styled_in all state (body_style all state) inner) styled.none)
      (styled.node number (kind_of what) (body_style some state) (styled_in some state (body_style some state) inner) styled.none)
  unfolding AreAlike
  body_nodes_alike number what inner = (refl, refl, body_alike, styled_alike (body_style all state) (body_style some state) inner body_alike, tt)

  from_html_alike : (tree : Tree) → root_past (from_html all state tree) ≡ root_past (from_html some state tree)
  from_html_alike dom.none = refl
  from_html_alike (dom.node number html dom.none next) = refl
  from_html_alike (dom.node number html (dom.node body_number body inner others) next) =
      ap (λ (m : modes.WritingMode). past (styled.node body_number (kind_of body) (body_style all state) (styled_in all state (body_style all state) inner) styled.none) m 0) body_alike.mode
      ∙ past_alike _ _ (body_nodes_alike body_number body inner) (body_style some state).mode 0

pub rules_that_turn_none : RulesThatTurnNone
rules_that_turn_none before rules behind state none = from_html_alike before rules behind state none (tree_of state)
