-- What is found, node by node.
use Rattle.std.proofs.Common.{◌≡◌, ◌∙◌, refl, sym, ap, subst, ℕ, ◌+◌, ◌<◌, ◌≤◌, Bool, true, false, List, ◌++◌, length, drop, get_or, Option}
use Rattle.wm_modes.specs.declared.mode.WritingMode.{WritingMode}
use Rattle.style_types.specs.declared.style.Style.{Style}
use Rattle.style_types.specs.declared.tree.StyledNode.{StyledNode}
use Rattle.style_types.specs.declared.tree.StyledNode.TheViews.{out-StyledNode}
use Rattle.style_types.specs.Tree as styled
use Rattle.style_types.specs.Tree.{Nodes, NodeKind, all_nodes_of, before, kind_of, nodes_of}
use Rattle.box_gen.specs.declared.found.Found.{Found}
use Rattle.box_gen.specs.declared.role.Role as code_role
use Rattle.box_gen.specs.declared.site.Site.{Site}
use Rattle.box_gen.specs.Boxes.{role_of}
use Rattle.box_gen.specs.Building.{code_of, least, lesser, role_in}
use Rattle.box_gen.specs.Found.{both, found_at, found_from, nothing_found, number_if, past_from}
use Rattle.box_gen.specs.Orthogonal.{IsLeastOf, past, put_if, root_past}
use Rattle.box_gen.specs.Site.{in_node, in_root, is_past}
use Rattle.box_gen.proofs.Least.{least_append, least_of, lesser_assoc, lesser_none}
use Rattle.box_gen.proofs.NodeLines.{left_at, none_left, opened, role_opened}
use Rattle.box_gen.proofs.Sites.{past_ends, past_steps}

same_found : (past past_too : Option ℕ) → past ≡ past_too → (let one : Found = record { past = past } in one) ≡ record { past = past_too }
same_found past past_too one = ap (λ (o : Option ℕ). (let f : Found = record { past = o } in f)) one

pub both_assoc : (one two three : Found) → both (both one two) three ≡ both one (both two three)
both_assoc one two three = same_found _ _ (lesser_assoc one.past two.past three.past)

pub both_nothing : (one : Found) → both one nothing_found ≡ one
both_nothing one = same_found _ _ (lesser_none one.past)

least_put : (is : Bool) (number : ℕ) (others : List ℕ) → least (put_if is number others) ≡ lesser (number_if is number) (least others)
unfolding least
least_put true number others = refl
least_put false number others = refl

least_at : (is : Bool) (number : ℕ) (inner next : List ℕ) → least (put_if is number inner ++ next) ≡ lesser (lesser (number_if is number) (least inner)) (least next)
least_at is number inner next = least_append (put_if is number inner) next ∙ ap (λ (o : Option ℕ). lesser o (least next)) (least_put is number inner)

pub found_none : (site : Site) → found_from site styled.none ≡ nothing_found
unfolding least
found_none site = same_found _ _ (ap least (past_ends site))

module _ (site : Site) (number : ℕ) (kind : NodeKind) (style : Style) (inner : Nodes) where
  abbrev role : code_role.Role
  role = code_of (role_of kind style)

  abbrev at_node : Found
  at_node = both (found_at number (is_past role style.mode site)) (found_from (in_node role style.mode site) inner)

  found_step : (next : Nodes) → found_from site (styled.node number kind style inner next) ≡ both at_node (found_from site next)
  found_step next =
      same_found _ _
      (ap least (past_steps site number kind style inner next) ∙ least_at (is_past role style.mode site) number (past_from (in_node role style.mode site) inner) (past_from site next))

  pub found_alone : found_from site (styled.node number kind style inner styled.none) ≡ at_node
  found_alone = found_step styled.none ∙ ap (both at_node) (found_none site) ∙ both_nothing _

  pub found_split : (next : Nodes) → found_from site (styled.node number kind style inner next) ≡ both (found_from site (styled.node number kind style inner styled.none)) (found_from site next)
  found_split next = found_step next ∙ ap (λ (f : Found). both f (found_from site next)) (sym found_alone)

-- ---- nodes one after the other

module _ (site : Site) where
  found_before : (n : StyledNode) (next : Nodes) → found_from site (before n next) ≡ both (found_from site (nodes_of n)) (found_from site next)
  found_before n next =
      let out = out-StyledNode n in
      ap (found_from site) (opened n next)
      ∙ found_split site out.node (kind_of out.kind) out.style (all_nodes_of out.children.items) next
      ∙ ap (λ (ns : Nodes). both (found_from site ns) (found_from site next)) (sym (opened n styled.none))

  -- what is found with a node more
  pub found_on : (nodes : List StyledNode) (i : ℕ) (n : StyledNode) (found one whole : Found) → i < length nodes → n ≡ get_or nodes i n → one ≡ found_from site (nodes_of n)
      → both found (found_from site (all_nodes_of (drop i nodes))) ≡ whole → both (both found one) (found_from site (all_nodes_of (drop (i + 1) nodes))) ≡ whole
  found_on nodes i n found one whole within is here now =
      let next = all_nodes_of (drop (i + 1) nodes) in
      let left : found_from site (all_nodes_of (drop i nodes)) ≡ both one (found_from site next) =
      ap (found_from site) (left_at nodes i n within is) ∙ found_before n next ∙ ap (λ (f : Found). both f (found_from site next)) (sym here) in
      both_assoc found one (found_from site next) ∙ ap (both found) (sym left) ∙ now

  pub found_all : (nodes : List StyledNode) (i : ℕ) (found whole : Found) → length nodes ≤ i → both found (found_from site (all_nodes_of (drop i nodes))) ≡ whole → found ≡ whole
  found_all nodes i found whole past now =
      sym (both_nothing found) ∙ ap (both found) (sym (ap (found_from site) (none_left nodes i past) ∙ found_none site)) ∙ now

  -- what is found of a node with those inside it
  pub found_in_node : (n : StyledNode) → found_from site (nodes_of n)
      ≡ both (found_at (out-StyledNode n).node (is_past (role_in (nodes_of n)) (out-StyledNode n).style.mode site))
      (found_from (in_node (role_in (nodes_of n)) (out-StyledNode n).style.mode site) (all_nodes_of (out-StyledNode n).children.items))
  found_in_node n =
      let out = out-StyledNode n in
      let inner = all_nodes_of out.children.items in
      ap (found_from site) (opened n styled.none)
      ∙ found_alone site out.node (kind_of out.kind) out.style inner
      ∙ ap (λ (r : code_role.Role). both (found_at out.node (is_past r out.style.mode site)) (found_from (in_node r out.style.mode site) inner)) (sym (role_opened n))

  -- so it is by its parts
  pub found_here : (n : StyledNode) (role : code_role.Role) (mode : WritingMode) (past : Bool) (own below all : Found) (inside : Site) (children : List StyledNode)
      → role ≡ role_in (nodes_of n) → mode ≡ (out-StyledNode n).style.mode → past ≡ is_past role mode site → own ≡ found_at (out-StyledNode n).node past
      → inside ≡ in_node role mode site → children ≡ (out-StyledNode n).children.items → below ≡ found_from inside (all_nodes_of children) → all ≡ both own below → all ≡ found_from site (nodes_of n)
  found_here n role mode past own below all inside children role_is mode_is past_is own_is inside_is are below_is all_is =
      let out = out-StyledNode n in
      let with_ : code_role.Role → WritingMode → Found = λ r m. both (found_at out.node (is_past r m site)) (found_from (in_node r m site) (all_nodes_of out.children.items)) in
      all_is
      ∙ ap (λ (f : Found). both f below) (own_is ∙ ap (found_at out.node) past_is)
      ∙ ap (both (found_at out.node (is_past role mode site)))
      (below_is ∙ ap (λ (s : Site). found_from s (all_nodes_of children)) inside_is ∙ ap (λ (l : List StyledNode). found_from (in_node role mode site) (all_nodes_of l)) are)
      ∙ ap (λ (r : code_role.Role). with_ r mode) role_is
      ∙ ap (with_ (role_in (nodes_of n))) mode_is
      ∙ sym (found_in_node n)

-- what is found in the root are the least of all nodes of the tree
pub found_in_root : (root : StyledNode) (mode : WritingMode) (children : List StyledNode) (site : Site) (found : Found)
    → mode ≡ (out-StyledNode root).style.mode → children ≡ (out-StyledNode root).children.items → site ≡ in_root mode → found ≡ found_from site (all_nodes_of children)
    → IsLeastOf (root_past (nodes_of root)) found.past
found_in_root root mode children site found is are at here =
    let out = out-StyledNode root in
    let all : found ≡ found_from (in_root out.style.mode) (all_nodes_of out.children.items) =
    here ∙ ap (λ (s : Site). found_from s (all_nodes_of children)) at
    ∙ ap (λ (m : WritingMode). found_from (in_root m) (all_nodes_of children)) is
    ∙ ap (λ (l : List StyledNode). found_from (in_root out.style.mode) (all_nodes_of l)) are in
    subst (λ (l : List ℕ). IsLeastOf l found.past) (sym (ap root_past (opened root styled.none))) (least_of (past (all_nodes_of out.children.items) out.style.mode 0) found.past (ap (λ (f : Found). f.past) all))
