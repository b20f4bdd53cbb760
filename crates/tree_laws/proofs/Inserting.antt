-- Documents stay whole where nodes are inserted, and are where they are opened.
use Rattle.std.proofs.Common.{◌≡◌, ◌∙◌, ℕ, ◌+◌, ◌-◌, ◌<◌, ◌≤◌, Bool, true, false, List, [], length, get_or, refl, ap, sym, subst, arith, Option, Some, None, option_map, if◌then◌else◌, inl, inr}
use Rattle.std.specs.Prelude.{nat_eq, option_to_list}
use Rattle.std.specs.List.{slice_get}
use Rattle.std.proofs.lemmas.Bool.{cases_lt, le-ltb, lt-ltb}
use Rattle.std.proofs.lemmas.Bool.Decides.{eqb_tells}
use Rattle.std.proofs.lemmas.List.{length-map}
use Rattle.std.proofs.lemmas.Option.{slice_get_past}
use Rattle.css_types.specs.declared.value.Declaration.{Declaration}
use Rattle.html_read.specs.Values.{Node}
use Rattle.html_read.specs.Shape.{IsShaped}
use Rattle.dom_store.specs.State.{Entry, State}
use Rattle.dom_store.specs.Opening.{children_from, entry_at, opened, what_of}
use Rattle.dom_store.specs.Standing.{children_at, parent_at}
use Rattle.dom_store.specs.Edits.{changed, inserted, inserted_at, under, with_children, with_put}
use Rattle.tree_laws.specs.Wholeness.{IsWhole, times}
use Rattle.tree_laws.proofs.Times.{times-put}
use Rattle.tree_laws.proofs.Places.{in_parent, none_before, parent_in}
use Rattle.tree_laws.proofs.Keeping.{children_of, children_parent, parent_of}

-- ---- nodes that are inserted

put_more : (index child : ℕ) (fresh : List ℕ) (here : Bool) (o : Option Entry) → times child (children_of (if here then option_map (with_children (with_put index fresh)) o else o)) ≤ times child fresh + times child (children_of o)
put_more index child fresh true None = omega arith
put_more index child fresh true (Some entry) = omega (arith, times-put index child fresh entry.children)
put_more index child fresh false o = omega arith

module _ (nodes : List Node) (own : List (List Declaration)) (next place : ℕ) where
  abbrev entry_from : Node → Entry
  entry_from node = record { parent = node.parent; children = children_from next (next + place) nodes; what = what_of node.kind (get_or own place []) }

  fresh_parent : (o : Option Node) → parent_of (option_map entry_from o) ≡ parent_in o
  fresh_parent None = refl
  fresh_parent (Some node) = refl

  fresh_children : (o : Option Node) (child : ℕ) → times child (children_of (option_map entry_from o)) ≤ times child (children_from next (next + place) nodes)
  fresh_children None child = omega arith
  fresh_children (Some node) child = omega arith

module _ (state : State) (whole : IsWhole state) (parent index : ℕ) (nodes : List Node) (own : List (List Declaration)) (within : parent < state.next) where
  abbrev placed : List Node
  placed = under parent state.next nodes

  abbrev fresh : List ℕ
  fresh = children_from state.next parent placed

  abbrev put : State
  put = changed state parent (with_children (with_put index fresh))

  abbrev new : State
  new = inserted state parent index nodes own

  abbrev entry : (number : ℕ) → Bool → Option Entry
  entry number old = if old then put.node_at number else inserted_at placed own state.next (number - state.next)

  old_parent : (child : ℕ) → child < state.next → parent_at new child ≡ parent_at state child
  old_parent child old = ap (λ (b : Bool). parent_of (entry child b)) (lt-ltb child state.next old) ∙ children_parent (with_put index fresh) (nat_eq child parent) (state.node_at child)

  new_parent : (child : ℕ) → state.next ≤ child → parent_at new child ≡ parent_in (slice_get placed (child - state.next))
  new_parent child later = ap (λ (b : Bool). parent_of (entry child b)) (le-ltb child state.next later) ∙ fresh_parent placed own state.next (child - state.next) (slice_get placed (child - state.next))

  old_children : (number : ℕ) → number < state.next → children_at new number ≡ children_at put number
  old_children number old = ap (λ (b : Bool). children_of (entry number b)) (lt-ltb number state.next old)

  new_children : (number child : ℕ) → state.next ≤ number → times child (children_at new number) ≤ times child (children_from state.next number placed)
  new_children number child later =
      let same : children_at new number ≡ children_of (inserted_at placed own state.next (number - state.next)) = ap (λ (b : Bool). children_of (entry number b)) (le-ltb number state.next later) in
      let back : state.next + (number - state.next) ≡ number = omega (arith, later) in
      let those : times child (children_from state.next (state.next + (number - state.next)) placed) ≡ times child (children_from state.next number placed) = ap (λ (n : ℕ). times child (children_from state.next n placed)) back in
      omega (arith, ap (times child) same, fresh_children placed own state.next (number - state.next) (slice_get placed (number - state.next)) child, those)

  -- a node of before
  old_inside : (number child : ℕ) → child < state.next → times child (children_at new number) ≤ times number (option_to_list (parent_at state child))
  old_inside number child old = elim (cases_lt number state.next) [
    | inl early ↦ omega (
      arith,
      ap (times child) (old_children number early),
      put_more index child fresh (nat_eq number parent) (state.node_at number),
      none_before placed state.next parent child old,
      whole.inside number child,
    )
    | inr later ↦ omega (arith, new_children number child later, none_before placed state.next number child old)
  ]

  no_child : (number child : ℕ) → state.next ≤ child → times child (children_at state number) ≡ 0
  no_child number child later =
      let nobody : parent_at state child ≡ None = ap parent_of (whole.below child later) in
      omega (arith, whole.inside number child, ap (λ (p : Option ℕ). times number (option_to_list p)) nobody)

  -- a node that comes
  abbrev its_parent : (child : ℕ) → Option ℕ
  its_parent child = parent_in (slice_get placed (child - state.next))

  comes : (number child : ℕ) → state.next ≤ child → times child (children_from state.next number placed) ≤ times number (option_to_list (its_parent child))
  comes number child later = in_parent placed state.next number child (child - state.next) (omega (arith, later))

  comes_in : (number child : ℕ) → state.next ≤ child → times child (children_at put number) ≤ times number (option_to_list (its_parent child))
  comes_in number child later = elim (eqb_tells number parent) [
    | inl (here, same) ↦ subst (λ (n : ℕ). times child (children_at put n) ≤ times n (option_to_list (its_parent child))) (sym same)
        (omega (arith, put_more index child fresh (nat_eq parent parent) (state.node_at parent), no_child parent child later, comes parent child later))
    | inr (there, apart) ↦ rw there (omega (arith, no_child number child later))
  ]

  new_inside : (number child : ℕ) → state.next ≤ child → times child (children_at new number) ≤ times number (option_to_list (its_parent child))
  new_inside number child later = elim (cases_lt number state.next) [
    | inl early ↦ omega (arith, ap (times child) (old_children number early), comes_in number child later)
    | inr late ↦ omega (arith, new_children number child late, comes number child later)
  ]

  inserted_inside : (number child : ℕ) → times child (children_at new number) ≤ times number (option_to_list (parent_at new child))
  inserted_inside number child = elim (cases_lt child state.next) [
    | inl old ↦ rw (old_parent child old) (old_inside number child old)
    | inr later ↦ rw (new_parent child later) (new_inside number child later)
  ]

  inserted_below : (number : ℕ) → new.next ≤ number → new.node_at number ≡ None
  inserted_below number past =
      let later : state.next ≤ number = omega (arith, past) in
      let long : length placed ≡ length nodes = length-map nodes _ in
      ap (entry number) (le-ltb number state.next later) ∙ ap (option_map (entry_from placed own state.next (number - state.next))) (slice_get_past placed (number - state.next) (omega (arith, past, long)))

  pub inserted_whole : IsWhole new
  inserted_whole = record {
    inside = inserted_inside;
    html = old_parent 0 (omega (arith, within)) ∙ whole.html;
    below = inserted_below;
  }

-- ---- a document that is opened

module _ (nodes : List Node) (own : List (List Declaration)) where
  pub read_parent : (number : ℕ) (o : Option Node) → parent_of (entry_at nodes own number o) ≡ parent_in o
  read_parent number None = refl
  read_parent number (Some node) = refl

  read_children : (number child : ℕ) (o : Option Node) → times child (children_of (entry_at nodes own number o)) ≤ times child (children_from 0 number nodes)
  read_children number child None = omega arith
  read_children number child (Some node) = omega arith

  pub opened_whole : IsShaped nodes → IsWhole (opened nodes own)
  opened_whole shaped = record {
    inside = λ number child. rw (read_parent child (slice_get nodes child))
        (omega (arith, read_children number child (slice_get nodes number), in_parent nodes 0 number child child (omega arith)));
    html = read_parent 0 (slice_get nodes 0) ∙ ap parent_in shaped.html.1;
    below = λ number past. ap (entry_at nodes own number) (slice_get_past nodes number past);
  }
