-- Nodes that come are reached: where they are inserted, and where a document is opened.
use Rattle.std.proofs.Common.{◌≡◌, ◌∙◌, ℕ, suc, ◌+◌, ◌-◌, ◌<◌, ◌≤◌, Bool, true, false, List, [], length, get_or, refl, ap, sym, subst, arith, Option, Some, None, option_map, if◌then◌else◌, inl, inr}
use Rattle.std.specs.Prelude.{nat_eq, is_some}
use Rattle.std.specs.List.{All, Contains, slice_get}
use Rattle.std.proofs.lemmas.Bool.{cases_eq, cases_lt, eq-eqb, false≢true, le-ltb, lt-ltb}
use Rattle.std.proofs.lemmas.Option.{none-some, slice_get-get_or, slice_get-map, slice_get_within}
use Rattle.basic_laws.proofs.Lists.{contains_none}
use Rattle.css_types.specs.declared.value.Declaration.{Declaration}
use Rattle.html_read.specs.Shape.{IsShaped}
use Rattle.html_read.specs.Values.{Node}
use Rattle.dom_store.specs.State.{Entry, State, greatest_depth}
use Rattle.dom_store.specs.Building.{FollowParents}
use Rattle.dom_store.specs.Opening.{children_from, depths, entry_at, opened, what_of}
use Rattle.dom_store.specs.Standing.{children_at, depth_at, lives}
use Rattle.dom_store.specs.Edits.{changed, inserted, inserted_at, parent_under, under, with_children, with_put}
use Rattle.dom_store.proofs.Places.{shape_follows}
use Rattle.tree_laws.specs.Reached.{IsAtLevel, IsReached}
use Rattle.tree_laws.specs.Wholeness.{IsWhole, times}
use Rattle.tree_laws.proofs.Depths.{all_deep, child_from, stands_at}
use Rattle.tree_laws.proofs.Keeping.{children_of, lives_changed}
use Rattle.tree_laws.proofs.Levels.{contained_times, level_depth, times_contained}
use Rattle.tree_laws.proofs.Places.{parent_in}
use Rattle.tree_laws.proofs.Refusing.{lives_below}
use Rattle.tree_laws.proofs.Staying.{level_kept}
use Rattle.tree_laws.proofs.Times.{times-put}

-- ---- nodes are inserted

put_kept : (index child : ℕ) (fresh : List ℕ) (here : Bool) (o : Option Entry) → times child (children_of o) ≤ times child (children_of (if here then option_map (with_children (with_put index fresh)) o else o))
put_kept index child fresh true None = omega arith
put_kept index child fresh true (Some entry) = omega (arith, times-put index child fresh entry.children)
put_kept index child fresh false o = omega arith

put_in : (index child : ℕ) (fresh : List ℕ) (o : Option Entry) → is_some o ≡ true → 1 ≤ times child fresh → 1 ≤ times child (children_of (option_map (with_children (with_put index fresh)) o))
put_in index child fresh None alive some = absurd (false≢true alive)
put_in index child fresh (Some entry) alive some = omega (arith, some, times-put index child fresh entry.children)

inserted_lives : {A B : Type 0} (f : Node → A) (g : A → B) (o was : Option Node) → was ≡ o → is_some (option_map g (option_map f o)) ≡ true → (node : Node) × (was ≡ Some node)
inserted_lives f g None was is alive = absurd (false≢true alive)
inserted_lives f g (Some node) was is alive = (node, is)

module _ (state : State) (whole : IsWhole state) (reached : IsReached state) (parent index : ℕ) (nodes : List Node) (own : List (List Declaration)) (parent_lives : lives state parent ≡ true) (follow : FollowParents nodes) where
  abbrev placed : List Node
  placed = under parent state.next nodes

  abbrev fresh : List ℕ
  fresh = children_from state.next parent placed

  abbrev grown : State
  grown = changed state parent (with_children (with_put index fresh))

  abbrev more : State
  more = inserted state parent index nodes own

  abbrev entry : (number : ℕ) → Bool → Option Entry
  entry number old = if old then grown.node_at number else inserted_at placed own state.next (number - state.next)

  -- a node that comes, with its parent
  abbrev comes : Node → Node
  comes node = record { parent = Some (parent_under parent state.next node.parent); kind = node.kind }

  abbrev entry_from : (place : ℕ) → Node → Entry
  entry_from place node = record { parent = node.parent; children = children_from state.next (state.next + place) placed; what = what_of node.kind (get_or own place []) }

  within : parent < state.next
  within = lives_below state whole parent parent_lives

  old_children : (number : ℕ) → number < state.next → children_at more number ≡ children_at grown number
  old_children number old = ap (λ (b : Bool). children_of (entry number b)) (lt-ltb number state.next old)

  -- nodes with children have numbers that were given
  given : (number child : ℕ) → Contains (children_at state number) child → number < state.next
  given number child there = elim (cases_lt number state.next) [
    | inl early ↦ early
    | inr past ↦ absurd (contains_none child (subst (λ (children : List ℕ). Contains children child) (ap children_of (whole.below number past)) there))
  ]

  old_kept : (number child : ℕ) → Contains (children_at state number) child → Contains (children_at more number) child
  old_kept number child there =
      let many : times child (children_at state number) ≤ times child (children_at grown number) = put_kept index child fresh (nat_eq number parent) (state.node_at number) in
      subst (λ (children : List ℕ). Contains children child) (sym (old_children number (given number child there)))
      (contained_times (children_at grown number) child (omega (arith, many, times_contained (children_at state number) child there)))

  comes_at : (place : ℕ) (node : Node) → slice_get nodes place ≡ Some node → slice_get placed place ≡ Some (comes node)
  comes_at place node here = slice_get-map comes nodes place ∙ ap (option_map comes) here

  -- a node that stands in no other is a child of the parent
  top_there : (place : ℕ) (node : Node) → slice_get nodes place ≡ Some node → node.parent ≡ None → Contains (children_at more parent) (state.next + place)
  top_there place node here alone =
      let is : (comes node).parent ≡ Some parent = ap (λ (o : Option ℕ). Some (parent_under parent state.next o)) alone in
      let among : 1 ≤ times (state.next + place) fresh = child_from placed state.next parent place (comes node) (comes_at place node here) is in
      let same : children_at grown parent ≡ children_of (option_map (with_children (with_put index fresh)) (state.node_at parent)) =
      ap (λ (b : Bool). children_of (if b then option_map (with_children (with_put index fresh)) (state.node_at parent) else state.node_at parent)) (eq-eqb parent parent refl) in
      subst (λ (children : List ℕ). Contains children (state.next + place)) (sym (old_children parent within ∙ same))
      (contained_times _ (state.next + place) (put_in index (state.next + place) fresh (state.node_at parent) parent_lives among))

  -- the children of a node that comes
  come_children : (place : ℕ) (node : Node) → slice_get nodes place ≡ Some node → children_at more (state.next + place) ≡ children_from state.next (state.next + place) placed
  come_children place node here =
      let back : state.next + place - state.next ≡ place = omega arith in
      ap (λ (b : Bool). children_of (entry (state.next + place) b)) (le-ltb (state.next + place) state.next (omega arith))
      ∙ (ap (λ (n : ℕ). children_of (inserted_at placed own state.next n)) back
      ∙ ap (λ (o : Option Node). children_of (option_map (entry_from place) o)) (comes_at place node here))

  inner_there : (place upper : ℕ) (node : Node) → slice_get nodes place ≡ Some node → node.parent ≡ Some upper → Contains (children_at more (state.next + upper)) (state.next + place)
  inner_there place upper node here stands =
      let before : upper < place = follow.each place upper node here stands in
      let inside : upper < length nodes = omega (arith, before, slice_get_within nodes place node here) in
      let is : (comes node).parent ≡ Some (state.next + upper) = ap (λ (o : Option ℕ). Some (parent_under parent state.next o)) stands in
      let same = come_children upper (get_or nodes upper node) (slice_get-get_or nodes upper node inside) in
      subst (λ (children : List ℕ). Contains children (state.next + place)) (sym same)
      (contained_times _ (state.next + place) (child_from placed state.next (state.next + upper) place (comes node) (comes_at place node here) is))

  old_lives : (number : ℕ) → number < state.next → lives more number ≡ true → lives state number ≡ true
  old_lives number old alive =
      sym (ap (λ (b : Bool). is_some (entry number b)) (lt-ltb number state.next old) ∙ lives_changed (with_children (with_put index fresh)) (nat_eq number parent) (state.node_at number)) ∙ alive

  come_lives : (number : ℕ) → state.next ≤ number → lives more number ≡ true → (node : Node) × (slice_get nodes (number - state.next) ≡ Some node)
  come_lives number late alive =
      let place : ℕ = number - state.next in
      let is : is_some (option_map (entry_from place) (slice_get placed place)) ≡ true = sym (ap (λ (b : Bool). is_some (entry number b)) (le-ltb number state.next late)) ∙ alive in
      inserted_lives comes (entry_from place) (slice_get nodes place) (slice_get nodes place) refl
      (ap (λ (o : Option Node). is_some (option_map (entry_from place) o)) (sym (slice_get-map comes nodes place)) ∙ is)

  module _ (upper : ℕ) (low : upper < greatest_depth) (at : IsAtLevel state upper parent)
      (shallow : (place : ℕ) → place < length (depths nodes) → depth_at state parent + get_or (depths nodes) place 0 ≤ greatest_depth) where
    tops : (place : ℕ) (node : Node) → slice_get nodes place ≡ Some node → node.parent ≡ None → IsAtLevel more (suc upper) (state.next + place)
    tops place node here alone = (parent, level_kept state more old_kept upper parent at, top_there place node here alone)

    come_reached : (number : ℕ) → state.next ≤ number → lives more number ≡ true → (level : ℕ) × (level < greatest_depth) × IsAtLevel more level number
    come_reached number late alive =
        let (node, here) = come_lives number late alive in
        let place : ℕ = number - state.next in
        let (level, sum, its) = stands_at more state.next (suc upper) nodes follow tops inner_there place node here in
        let depth : depth_at state parent ≡ upper + 1 = level_depth state whole upper parent low at in
        let limit : depth_at state parent + get_or (depths nodes) place 0 ≤ greatest_depth = shallow place (omega (arith, all_deep nodes, slice_get_within nodes place node here)) in
        let back : state.next + place ≡ number = omega (arith, late) in
        (level, omega (arith, sum, depth, limit), subst (IsAtLevel more level) back its)

    each_reached : (number : ℕ) → lives more number ≡ true → (level : ℕ) × (level < greatest_depth) × IsAtLevel more level number
    each_reached number alive = elim (cases_lt number state.next) [
      | inl early ↦ let (level, few, its) = reached.reached number (old_lives number early alive) in (level, few, level_kept state more old_kept level number its)
      | inr late ↦ come_reached number late alive
    ]

  pub inserted_reached : ((place : ℕ) → place < length (depths nodes) → depth_at state parent + get_or (depths nodes) place 0 ≤ greatest_depth) → IsReached more
  inserted_reached shallow = record {
    reached = λ number alive. let (upper, low, at) = reached.reached parent parent_lives in each_reached upper low at shallow number alive;
  }

-- ---- a document that is opened

module _ (nodes : List Node) (own : List (List Declaration)) (shaped : IsShaped nodes) where
  abbrev first_state : State
  first_state = opened nodes own

  plus_none : (n : ℕ) → n ≡ 0 + n
  plus_none n = omega arith

  read_there : (number child : ℕ) (o : Option Node) (node : Node) → o ≡ Some node → 1 ≤ times child (children_from 0 number nodes) → 1 ≤ times child (children_of (entry_at nodes own number o))
  read_there number child None node is some = absurd (none-some node is)
  read_there number child (Some other) node is some = some

  read_lives : (number : ℕ) (o : Option Node) → slice_get nodes number ≡ o → is_some (entry_at nodes own number o) ≡ true → (node : Node) × (slice_get nodes number ≡ Some node)
  read_lives number None is alive = absurd (false≢true alive)
  read_lives number (Some node) is alive = (node, is)

  -- only the first node stands in no other
  top_first : (place : ℕ) (node : Node) → slice_get nodes place ≡ Some node → node.parent ≡ None → place ≡ 0
  top_first place node here alone = elim (cases_lt place 2) [
    | inl early ↦ elim (cases_eq place 0) [
      | inl same ↦ same
      | inr apart ↦
          let one : place ≡ 1 = omega (arith, early, apart) in
          let second : slice_get nodes 1 ≡ Some node = subst (λ (n : ℕ). slice_get nodes n ≡ Some node) one here in
          let in_html : node.parent ≡ Some 0 = ap parent_in (sym second ∙ shaped.body.1) in
          absurd (none-some 0 (sym alone ∙ in_html))
    ]
    | inr late ↦ let stands = shaped.others place node late here in absurd (none-some stands.0 (sym alone ∙ stands.1))
  ]

  opened_tops : (place : ℕ) (node : Node) → slice_get nodes place ≡ Some node → node.parent ≡ None → IsAtLevel first_state 0 (0 + place)
  opened_tops place node here alone = sym (plus_none place) ∙ top_first place node here alone

  opened_inner : (place parent : ℕ) (node : Node) → slice_get nodes place ≡ Some node → node.parent ≡ Some parent → Contains (children_at first_state (0 + parent)) (0 + place)
  opened_inner place parent node here stands =
      let before : parent < place = (shape_follows nodes shaped).each place parent node here stands in
      let within : parent < length nodes = omega (arith, before, slice_get_within nodes place node here) in
      let some : 1 ≤ times (0 + place) (children_from 0 parent nodes) = child_from nodes 0 parent place node here stands in
      let there : Contains (children_at first_state parent) (0 + place) =
      contained_times (children_at first_state parent) (0 + place) (read_there parent (0 + place) (slice_get nodes parent) (get_or nodes parent node) (slice_get-get_or nodes parent node within) some) in
      subst (λ (n : ℕ). Contains (children_at first_state n) (0 + place)) (plus_none parent) there

  pub opened_reached : All (λ depth. depth ≤ greatest_depth) (depths nodes) → IsReached first_state
  opened_reached shallow = record {
    reached = λ number alive.
        let (node, here) = read_lives number (slice_get nodes number) refl alive in
        let (level, sum, at) = stands_at first_state 0 0 nodes (shape_follows nodes shaped) opened_tops opened_inner number node here in
        let within : number < length (depths nodes) = omega (arith, all_deep nodes, slice_get_within nodes number node here) in
        let limit : get_or (depths nodes) number 0 ≤ greatest_depth = shallow number 0 within in
        (level, omega (arith, sum, limit), subst (IsAtLevel first_state level) (sym (plus_none number)) at);
  }
