-- The positions of styled nodes, one node after the other.
use Rattle.std.proofs.Common.{◌≡◌, refl, sym, ap, ◌∙◌, ℕ, ◌+◌, ◌<◌, ◌≤◌, Bool, true, false, ◌||◌, List, [], ◌∷◌, ◌++◌, append_assoc, append-nil, length, drop, get_or, Option, Some, is_some, true≢false}
use Rattle.std.proofs.lemmas.List.Folds.{list_any-append}
use Rattle.std.specs.List.{list_any}
use Rattle.style_types.specs.declared.style.Insets.{Insets}
use Rattle.style_types.specs.declared.tree.StyledNode.{StyledNode}
use Rattle.style_types.specs.declared.tree.StyledNode.TheViews.{out-StyledNode}
use Rattle.style_types.specs.Tree as styled
use Rattle.style_types.specs.Tree.{Nodes, all_nodes_of, before, kind_of, nodes_of}
use Rattle.box_gen.specs.declared.role.Role as code_role
use Rattle.box_gen.specs.Boxes.{Role, nothing, words, line_break, inline_box, atom, block_level, role_of}
use Rattle.box_gen.specs.Building.{code_of, role_in}
use Rattle.box_gen.proofs.NodeLines.{left_at, none_left, opened, role_opened}
use Rattle.rel_shift.specs.Positions.{has_insets, holder_by, holder_in, insets_in, is_hidden, position_in, positions_in, unless_hidden}
use Rattle.style_types.specs.declared.position.Position.{Position}

-- ---- roles

hidden_by : (role : Role) (positions : List Position) → is_hidden (code_of role) ≡ true → unless_hidden role positions ≡ []
hidden_by nothing positions is = refl
hidden_by (words letters) positions is = absurd (true≢false (sym is))
hidden_by line_break positions is = absurd (true≢false (sym is))
hidden_by inline_box positions is = absurd (true≢false (sym is))
hidden_by atom positions is = absurd (true≢false (sym is))
hidden_by block_level positions is = absurd (true≢false (sym is))

shown_by : (role : Role) (positions : List Position) → is_hidden (code_of role) ≡ false → unless_hidden role positions ≡ positions
shown_by nothing positions is = absurd (true≢false is)
shown_by (words letters) positions is = refl
shown_by line_break positions is = refl
shown_by inline_box positions is = refl
shown_by atom positions is = refl
shown_by block_level positions is = refl

held_by : (role : Role) (number holder : ℕ) → holder_by (code_of role) number holder ≡ holder_in role number holder
held_by nothing number holder = refl
held_by (words letters) number holder = refl
held_by line_break number holder = refl
held_by inline_box number holder = refl
held_by atom number holder = refl
held_by block_level number holder = refl

-- ---- a node

module _ (parent holder : ℕ) where
  pub of_none : positions_in parent holder styled.none ≡ []
  unfolding positions_in
  of_none = refl

  of_before : (n : StyledNode) (next : Nodes) → positions_in parent holder (before n next) ≡ positions_in parent holder (nodes_of n) ++ positions_in parent holder next
  unfolding positions_in
  of_before n next =
      let others : List Position → List Position = λ l. l ++ positions_in parent holder next in
      ap (positions_in parent holder) (opened n next) ∙ ap others (sym (append-nil _)) ∙ ap others (sym (ap (positions_in parent holder) (opened n styled.none)))

  of_node : (n : StyledNode) → positions_in parent holder (nodes_of n)
      ≡ unless_hidden (role_of (kind_of (out-StyledNode n).kind) (out-StyledNode n).style)
      (position_in (Some parent) (Some holder) (nodes_of n)
      ∷ positions_in (out-StyledNode n).node (holder_by (role_in (nodes_of n)) (out-StyledNode n).node holder) (all_nodes_of (out-StyledNode n).children.items))
  unfolding positions_in
  of_node n =
      let out = out-StyledNode n in
      let role = role_of (kind_of out.kind) out.style in
      let inner = all_nodes_of out.children.items in
      ap (positions_in parent holder) (opened n styled.none)
      ∙ append-nil _
      ∙ ap (λ (p : Position). unless_hidden role (p ∷ positions_in out.node (holder_in role out.node holder) inner)) (sym (ap (position_in (Some parent) (Some holder)) (opened n styled.none)))
      ∙ ap (λ (h : ℕ). unless_hidden role (position_in (Some parent) (Some holder) (nodes_of n) ∷ positions_in out.node h inner))
      (sym (held_by role out.node holder) ∙ ap (λ (r : code_role.Role). holder_by r out.node holder) (sym (role_opened n)))

  -- a hidden node
  pub of_hidden : (n : StyledNode) (role : code_role.Role) → role ≡ role_in (nodes_of n) → is_hidden role ≡ true → positions_in parent holder (nodes_of n) ≡ []
  of_hidden n role role_is hidden = of_node n ∙ hidden_by (role_of (kind_of (out-StyledNode n).kind) (out-StyledNode n).style) _ (ap is_hidden (sym (role_is ∙ role_opened n)) ∙ hidden)

  -- one that is shown, with those inside it
  pub of_shown : (n : StyledNode) (role : code_role.Role) (own : Position) (number inner_holder : ℕ) (children : List StyledNode) → role ≡ role_in (nodes_of n) → is_hidden role ≡ false
      → own ≡ position_in (Some parent) (Some holder) (nodes_of n) → number ≡ (out-StyledNode n).node → inner_holder ≡ holder_by role number holder → children ≡ (out-StyledNode n).children.items
      → positions_in parent holder (nodes_of n) ≡ own ∷ positions_in number inner_holder (all_nodes_of children)
  of_shown n role own number inner_holder children role_is shown own_is number_is holder_is are =
      let out = out-StyledNode n in
      of_node n
      ∙ shown_by (role_of (kind_of out.kind) out.style) _ (ap is_hidden (sym (role_is ∙ role_opened n)) ∙ shown)
      ∙ sym (rw (own_is, holder_is, number_is, role_is, are) refl)

-- a position put, and then those inside
pub put_both : (made now all inner whole : List Position) (own : Position) → now ≡ made ++ own ∷ [] → all ≡ now ++ inner → whole ≡ own ∷ inner → all ≡ made ++ whole
put_both made now all inner whole own put more is =
    more ∙ ap (λ (l : List Position). l ++ inner) put ∙ append_assoc made (own ∷ []) inner ∙ ap (λ (l : List Position). made ++ l) (sym is)

-- ---- nodes one after the other

module _ (parent holder : ℕ) (nodes : List StyledNode) (i : ℕ) where
  -- with a node more
  pub put_more : (n : StyledNode) (made now whole : List Position) → i < length nodes → n ≡ get_or nodes i n → now ≡ made ++ positions_in parent holder (nodes_of n)
      → made ++ positions_in parent holder (all_nodes_of (drop i nodes)) ≡ whole → now ++ positions_in parent holder (all_nodes_of (drop (i + 1) nodes)) ≡ whole
  put_more n made now whole within is put so_far =
      let next = all_nodes_of (drop (i + 1) nodes) in
      ap (λ (l : List Position). l ++ positions_in parent holder next) put
      ∙ append_assoc made (positions_in parent holder (nodes_of n)) (positions_in parent holder next)
      ∙ ap (λ (l : List Position). made ++ l) (sym (ap (positions_in parent holder) (left_at nodes i n within is) ∙ of_before parent holder n next))
      ∙ so_far

  pub put_all : (made whole : List Position) → length nodes ≤ i → made ++ positions_in parent holder (all_nodes_of (drop i nodes)) ≡ whole → made ≡ whole
  put_all made whole past so_far =
      sym (append-nil made) ∙ ap (λ (l : List Position). made ++ l) (sym (ap (positions_in parent holder) (none_left nodes i past) ∙ of_none parent holder)) ∙ so_far

  abbrev has_left : ℕ → Bool
  has_left k = list_any has_insets (positions_in parent holder (all_nodes_of (drop k nodes)))

  any_split : (n : StyledNode) → i < length nodes → n ≡ get_or nodes i n → has_left i ≡ (list_any has_insets (positions_in parent holder (nodes_of n)) || has_left (i + 1))
  any_split n within is =
      ap (λ (ns : Nodes). list_any has_insets (positions_in parent holder ns)) (left_at nodes i n within is)
      ∙ ap (list_any has_insets) (of_before parent holder n (all_nodes_of (drop (i + 1) nodes)))
      ∙ list_any-append has_insets (positions_in parent holder (nodes_of n)) (positions_in parent holder (all_nodes_of (drop (i + 1) nodes)))

  -- the node here has insets, or one inside it
  pub any_here : (n : StyledNode) (whole : Bool) → i < length nodes → n ≡ get_or nodes i n → true ≡ list_any has_insets (positions_in parent holder (nodes_of n)) → has_left i ≡ whole → true ≡ whole
  any_here n whole within is here so_far = ap (λ (b : Bool). b || has_left (i + 1)) here ∙ sym (any_split n within is) ∙ so_far

  -- none here
  pub any_later : (n : StyledNode) (whole : Bool) → i < length nodes → n ≡ get_or nodes i n → false ≡ list_any has_insets (positions_in parent holder (nodes_of n)) → has_left i ≡ whole → has_left (i + 1) ≡ whole
  any_later n whole within is none_here so_far = ap (λ (b : Bool). b || has_left (i + 1)) none_here ∙ sym (any_split n within is) ∙ so_far

  pub any_none : (whole : Bool) → length nodes ≤ i → has_left i ≡ whole → false ≡ whole
  any_none whole past so_far = sym (ap (λ (ns : Nodes). list_any has_insets (positions_in parent holder ns)) (none_left nodes i past) ∙ ap (list_any has_insets) (of_none parent holder)) ∙ so_far

-- ---- whether one of them has insets

module _ (parent holder : ℕ) (n : StyledNode) (role : code_role.Role) (insets : Option Insets) (children : List StyledNode) (role_is : role ≡ role_in (nodes_of n)) (shown : is_hidden role ≡ false)
    (insets_are : insets ≡ insets_in (nodes_of n)) (are : children ≡ (out-StyledNode n).children.items) where
  abbrev inner_holder : ℕ
  inner_holder = holder_by role (out-StyledNode n).node holder

  abbrev among_inner : Bool
  among_inner = list_any has_insets (positions_in (out-StyledNode n).node inner_holder (all_nodes_of children))

  any_in : list_any has_insets (positions_in parent holder (nodes_of n)) ≡ (is_some insets || among_inner)
  any_in =
      ap (list_any has_insets) (of_shown parent holder n role _ (out-StyledNode n).node inner_holder children role_is shown refl refl refl are)
      ∙ ap (λ (o : Option Insets). is_some o || among_inner) (sym insets_are)

  -- it has insets itself
  pub any_own : is_some insets ≡ true → true ≡ list_any has_insets (positions_in parent holder (nodes_of n))
  any_own is = sym (any_in ∙ ap (λ (b : Bool). b || among_inner) is)

  -- or one inside it has
  pub any_inside : (inside : Bool) → is_some insets ≡ false → ((parent holder : ℕ) → inside ≡ list_any has_insets (positions_in parent holder (all_nodes_of children)))
      → inside ≡ list_any has_insets (positions_in parent holder (nodes_of n))
  any_inside inside is among = among (out-StyledNode n).node inner_holder ∙ sym (any_in ∙ ap (λ (b : Bool). b || among_inner) is)
