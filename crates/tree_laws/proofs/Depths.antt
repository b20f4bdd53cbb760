-- Nodes of a list stand at the levels that their depths say.
use Rattle.std.proofs.Common.{◌≡◌, ◌∙◌, ℕ, zero, suc, ◌+◌, ◌<◌, ◌≤◌, Bool, true, false, List, [], ◌∷◌, ◌++◌, length, length-append, get_or, refl, ap, sym, arith, Option, Some, None}
use Rattle.std.specs.Prelude.{unwrap_or}
use Rattle.std.specs.List.{Contains, slice_get}
use Rattle.std.proofs.lemmas.Bool.{eq-eqb}
use Rattle.std.proofs.lemmas.List.{get_or_push}
use Rattle.std.proofs.lemmas.Option.{get_or_from_slice_get, none-some, slice_get-get_or, slice_get_within}
use Rattle.html_read.specs.Values.{Node}
use Rattle.dom_store.specs.Building.{FollowParents}
use Rattle.dom_store.specs.Opening.{children_from, depth_in, depths, depths_from, put_if, stands_in}
use Rattle.dom_store.specs.Standing.{children_at}
use Rattle.dom_store.specs.State.{State}
use Rattle.dom_store.proofs.DepthLaws.{known_stay}
use Rattle.tree_laws.specs.Reached.{IsAtLevel}
use Rattle.tree_laws.specs.Wholeness.{times}
use Rattle.tree_laws.proofs.Times.{hit_same}

-- ---- depths

known_at : (before : List ℕ) (nodes : List Node) (place : ℕ) → place < length before → get_or (depths_from before nodes) place 0 ≡ get_or before place 0
known_at before nodes place within =
    get_or_from_slice_get (depths_from before nodes) place (get_or before place 0) 0 (known_stay before nodes place within ∙ slice_get-get_or before place 0 within)

-- a parent's depth stays
parent_known : (before : List ℕ) (nodes : List Node) (parent : Option ℕ) → ((p : ℕ) → parent ≡ Some p → p < length before) → depth_in (depths_from before nodes) parent ≡ depth_in before parent
parent_known before nodes None lower = refl
parent_known before nodes (Some parent) lower = ap (λ (n : ℕ). n + 1) (known_at before nodes parent (lower parent refl))

-- each node's depth is one more than its parent's, where parents stand before
depth_at_place : (before : List ℕ) (nodes : List Node) (place : ℕ) (node : Node) → slice_get nodes place ≡ Some node → ((p : ℕ) → node.parent ≡ Some p → p < length before + place)
    → get_or (depths_from before nodes) (length before + place) 0 ≡ depth_in (depths_from before nodes) node.parent
unfolding depths_from
depth_at_place before [] place node here lower = absurd (none-some node here)
depth_at_place before (first ∷ nodes) zero node here lower =
    let same : first ≡ node = ap (λ (o : Option Node). unwrap_or o first) here in
    let depth : ℕ = depth_in before first.parent in
    let last : get_or (before ++ depth ∷ []) (length before + 0) 0 ≡ depth = get_or_push before depth 0 (length before + 0) (omega arith) in
    let above : depth_in (depths_from (before ++ depth ∷ []) nodes) node.parent ≡ depth_in before node.parent =
    parent_known before (first ∷ nodes) node.parent (λ p is. omega (arith, lower p is)) in
    known_at (before ++ depth ∷ []) nodes (length before + 0) (omega (arith, length-append before (depth ∷ [])))
    ∙ (last ∙ (ap (λ (n : Node). depth_in before n.parent) same ∙ sym above))
depth_at_place before (first ∷ nodes) (suc place) node here lower =
    let depth : ℕ = depth_in before first.parent in
    let later : length (before ++ depth ∷ []) + place ≡ length before + suc place = omega (arith, length-append before (depth ∷ [])) in
    ap (λ (n : ℕ). get_or (depths_from (before ++ depth ∷ []) nodes) n 0) (sym later)
    ∙ depth_at_place (before ++ depth ∷ []) nodes place node here (λ p is. omega (arith, later, lower p is))

as_many : (before : List ℕ) (nodes : List Node) → length (depths_from before nodes) ≡ length before + length nodes
unfolding depths_from
as_many before [] = omega arith
as_many before (node ∷ nodes) = omega (arith, as_many (before ++ depth_in before node.parent ∷ []) nodes, length-append before (depth_in before node.parent ∷ []))

-- each node has a depth
pub all_deep : (nodes : List Node) → length (depths nodes) ≡ length nodes
all_deep nodes = omega (arith, as_many [] nodes)

depth_of : (nodes : List Node) (place : ℕ) (node : Node) → FollowParents nodes → slice_get nodes place ≡ Some node → get_or (depths nodes) place 0 ≡ depth_in (depths nodes) node.parent
depth_of nodes place node follow here =
    let from : 0 + place ≡ place = omega arith in
    ap (λ (n : ℕ). get_or (depths nodes) n 0) (sym from) ∙ depth_at_place [] nodes place node here (λ p is. omega (arith, follow.each place p node here is))

-- ---- children

put_later : (number at : ℕ) (put : Bool) (others : List ℕ) → times number others ≤ times number (put_if put at others)
put_later number at true others = omega arith
put_later number at false others = omega arith

-- a node is among its parent's children
pub child_from : (nodes : List Node) (at parent place : ℕ) (node : Node) → slice_get nodes place ≡ Some node → node.parent ≡ Some parent → 1 ≤ times (at + place) (children_from at parent nodes)
unfolding children_from
child_from [] at parent place node here stands = absurd (none-some node here)
child_from (first ∷ nodes) at parent zero node here stands =
    let same : first ≡ node = ap (λ (o : Option Node). unwrap_or o first) here in
    let itself : stands_in parent first.parent ≡ true = ap (stands_in parent) (ap (λ (n : Node). n.parent) same ∙ stands) ∙ eq-eqb parent parent refl in
    let from : at + 0 ≡ at = omega arith in
    let put : put_if (stands_in parent first.parent) at (children_from (at + 1) parent nodes) ≡ at ∷ children_from (at + 1) parent nodes = ap (λ (b : Bool). put_if b at (children_from (at + 1) parent nodes)) itself in
    let many : times (at + 0) (put_if (stands_in parent first.parent) at (children_from (at + 1) parent nodes)) ≡ times at (at ∷ children_from (at + 1) parent nodes) =
    ap (λ (n : ℕ). times n (put_if (stands_in parent first.parent) at (children_from (at + 1) parent nodes))) from ∙ ap (times at) put in
    omega (arith, many, hit_same at)
child_from (first ∷ nodes) at parent (suc place) node here stands =
    let later : at + 1 + place ≡ at + suc place = omega arith in
    let many : times (at + 1 + place) (children_from (at + 1) parent nodes) ≡ times (at + suc place) (children_from (at + 1) parent nodes) = ap (λ (n : ℕ). times n (children_from (at + 1) parent nodes)) later in
    omega (
      arith,
      many,
      child_from nodes (at + 1) parent place node here stands,
      put_later (at + suc place) at (stands_in parent first.parent) (children_from (at + 1) parent nodes),
    )

-- ---- levels

-- Nodes that live under numbers from a first one on, each among the children of its parent; those with no parent stand
-- this many levels below `html`.
module _ (state : State) (first above : ℕ) (nodes : List Node) (follow : FollowParents nodes)
    (tops : (place : ℕ) (node : Node) → slice_get nodes place ≡ Some node → node.parent ≡ None → IsAtLevel state above (first + place))
    (inner : (place parent : ℕ) (node : Node) → slice_get nodes place ≡ Some node → node.parent ≡ Some parent → Contains (children_at state (first + parent)) (first + place)) where
  abbrev Stands : (place : ℕ) → Type 0
  Stands place = (level : ℕ) × (suc level ≡ above + get_or (depths nodes) place 0) × IsAtLevel state level (first + place)

  by_parent : (place : ℕ) (node : Node) (parent : Option ℕ) → slice_get nodes place ≡ Some node → node.parent ≡ parent → ((p : ℕ) → parent ≡ Some p → Stands p) → Stands place
  by_parent place node None here is higher =
      let depth : get_or (depths nodes) place 0 ≡ 1 = depth_of nodes place node follow here ∙ ap (depth_in (depths nodes)) is in
      (above, omega (arith, depth), tops place node here is)
  by_parent place node (Some parent) here is higher =
      let depth : get_or (depths nodes) place 0 ≡ get_or (depths nodes) parent 0 + 1 = depth_of nodes place node follow here ∙ ap (depth_in (depths nodes)) is in
      let (level, sum, at) = higher parent refl in
      (suc level, omega (arith, depth, sum), (first + parent, at, inner place parent node here is))

  up_to : (bound place : ℕ) (node : Node) → place < bound → slice_get nodes place ≡ Some node → Stands place
  up_to zero place node low here = absurd (omega (arith, low))
  up_to (suc bound) place node low here = by_parent place node node.parent here refl (λ parent is.
      let before : parent < place = follow.each place parent node here is in
      let within : parent < length nodes = omega (arith, before, slice_get_within nodes place node here) in
      up_to bound parent (get_or nodes parent node) (omega (arith, low, before)) (slice_get-get_or nodes parent node within))

  -- a node's depth is one more than its level, less those above
  pub stands_at : (place : ℕ) (node : Node) → slice_get nodes place ≡ Some node → (level : ℕ) × (suc level ≡ above + get_or (depths nodes) place 0) × IsAtLevel state level (first + place)
  stands_at place node here = up_to (suc place) place node (omega arith) here
