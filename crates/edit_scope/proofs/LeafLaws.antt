-- Texts have nothing inside them, in documents that are opened and after edits.
use Rattle.std.proofs.Common.{◌≡◌, ◌∙◌, ℕ, suc, ◌+◌, ◌-◌, ◌<◌, Bool, true, false, List, [], ◌∷◌, get_or, refl, ap, sym, subst, arith, Option, Some, None, option_map, if◌then◌else◌, inl, inr}
use Rattle.std.specs.Prelude.{◌≢◌, nat_eq, unwrap_or}
use Rattle.std.specs.List.{list_any, slice_get}
use Rattle.std.proofs.lemmas.Bool.{cases_lt, eqb-true, false≢true, le-ltb, lt-ltb, ne_eqb}
use Rattle.std.proofs.lemmas.Bool.Decides.{eqb_tells}
use Rattle.std.proofs.lemmas.Option.{same_Some, slice_get-map}
use Rattle.css_types.specs.declared.value.Declaration.{Declaration}
use Rattle.html_read.specs.Shape.{IsFragmentShaped}
use Rattle.html_read.specs.Values as html
use Rattle.html_read.specs.Values.{Acting, Kind, Node}
use Rattle.dom_store.specs.State.{What, element, text, Entry, State}
use Rattle.dom_store.specs.Opening.{children_from, put_if, what_of}
use Rattle.dom_store.specs.Standing.{children_at, inclusive_descendants, parent_at}
use Rattle.dom_store.specs.Edits.{set_text, set_style, set_class, insert, remove, move_to, changed, inserted, inserted_at, moved, parent_under, under, with_children, with_classes, with_moved, with_own, with_parent, with_put, with_what, without}
use Rattle.dom_store.specs.Refusals.{is_element, is_of, may_hold}
use Rattle.tree_laws.specs.Held.{AreHeld}
use Rattle.tree_laws.specs.Wholeness.{IsWhole}
use Rattle.tree_laws.proofs.Edited.{opened_are_whole}
use Rattle.tree_laws.proofs.Holding.{opened_are_held}
use Rattle.tree_laws.proofs.Keeping.{children_of, left, what_children}
use Rattle.tree_laws.proofs.Refusing.{insert_holds, insert_passes, lives_below, move_holds, text_is}
use Rattle.box_limits.proofs.Among.{IsIn}
use Rattle.box_limits.proofs.Levels.{parent_is}
use Rattle.edit_scope.specs.Leaves.{EditsKeepLeaves, OpenedTextsAreLeaves, TextsAreLeaves}

abbrev element_in : Option Entry → Bool
element_in o = unwrap_or (option_map (λ entry. is_element entry.what) o) false

abbrev IsLeaf : Option Entry → Type 0
IsLeaf o = element_in o ≡ false → children_of o ≡ []

holds_element : (what : What) → may_hold what ≡ true → is_element what ≡ true
holds_element (element tag id classes dir own) is = refl
holds_element (text letters) is = is

pub held_element : (o : Option Entry) → unwrap_or (option_map (λ entry. may_hold entry.what) o) false ≡ true → element_in o ≡ true
held_element None is = is
held_element (Some entry) is = holds_element entry.what is

-- ---- where nodes stand in elements alone

none_there : (numbers : List ℕ) → ((number : ℕ) → IsIn number numbers → ⊥) → numbers ≡ []
none_there [] none = refl
none_there (number ∷ numbers) none = absurd (none number (inl refl))

held_leaves : (state : State) → IsWhole state → AreHeld state → TextsAreLeaves state
held_leaves state whole held number is =
    none_there (children_at state number) (λ child there. false≢true (sym is ∙ held_element (state.node_at number) (held child number (parent_is state whole number child there))))

pub opened_texts_are_leaves : OpenedTextsAreLeaves
opened_texts_are_leaves nodes own state shaped same = held_leaves state (opened_are_whole nodes own state shaped same).0 (opened_are_held nodes own state shaped same)

-- ---- one node is changed

own_stays : (own : List Declaration) (what : What) → is_element (with_own own what) ≡ is_element what
own_stays own (element tag id classes dir before) = refl
own_stays own (text letters) = refl

classes_stay : (words : List (List ℕ)) (what : What) → is_element (with_classes words what) ≡ is_element what
classes_stay words (element tag id classes dir own) = refl
classes_stay words (text letters) = refl

what_leaf : (change : What → What) → ((what : What) → is_element (change what) ≡ is_element what) → (here : Bool) (o : Option Entry) → IsLeaf o → IsLeaf (if here then option_map (with_what change) o else o)
what_leaf change same true None leaf is = refl
what_leaf change same true (Some entry) leaf is = leaf (sym (same entry.what) ∙ is)
what_leaf change same false o leaf is = leaf is

children_leaf : (change : List ℕ → List ℕ) → change [] ≡ [] → (here : Bool) (o : Option Entry) → IsLeaf o → IsLeaf (if here then option_map (with_children change) o else o)
children_leaf change none true None leaf is = refl
children_leaf change none true (Some entry) leaf is = ap change (leaf is) ∙ none
children_leaf change none false o leaf is = leaf is

-- in an element others may come to stand
holder_leaf : (change : List ℕ → List ℕ) (here : Bool) (o : Option Entry) → (here ≡ true → element_in o ≡ true) → IsLeaf o → IsLeaf (if here then option_map (with_children change) o else o)
holder_leaf change true None holds leaf is = refl
holder_leaf change true (Some entry) holds leaf is = absurd (false≢true (sym is ∙ holds refl))
holder_leaf change false o holds leaf is = leaf is

parent_leaf : (parent : ℕ) (here : Bool) (o : Option Entry) → IsLeaf o → IsLeaf (if here then option_map (with_parent parent) o else o)
parent_leaf parent true None leaf is = refl
parent_leaf parent true (Some entry) leaf is = leaf is
parent_leaf parent false o leaf is = leaf is

out_leaf : (out : Bool) (o : Option Entry) → IsLeaf o → IsLeaf (if out then None else o)
out_leaf true o leaf is = refl
out_leaf false o leaf is = leaf is

left_leaf : (state : State) (number : ℕ) (parent : Option ℕ) → TextsAreLeaves state → TextsAreLeaves (left state number parent)
left_leaf state number None leaves other is = leaves other is
left_leaf state number (Some parent) leaves other is = children_leaf (without number) refl (nat_eq other parent) (state.node_at other) (leaves other) is

text_leaf : (state : State) (number : ℕ) (letters : List ℕ) → is_of is_element state number ≡ false → TextsAreLeaves state → TextsAreLeaves (changed state number (with_what (λ what. text letters)))
text_leaf state number letters told leaves other is = what_children (λ what. text letters) (nat_eq other number) (state.node_at other) ∙ elim (eqb_tells other number) [
  | inl (here, same) ↦ leaves other (ap (is_of is_element state) same ∙ told)
  | inr (there, apart) ↦ leaves other (rw there at is)
]

-- the element in which nodes come to stand, where another is asked for
as_holder : (state : State) (parent other : ℕ) → is_of may_hold state parent ≡ true → nat_eq other parent ≡ true → is_of is_element state other ≡ true
as_holder state parent other holds here = ap (is_of is_element state) (eqb-true other parent here) ∙ held_element (state.node_at parent) holds

-- ---- a node is moved

moved_leaf : (state : State) (number parent index : ℕ) → is_of may_hold state parent ≡ true → TextsAreLeaves state → TextsAreLeaves (moved state number parent index)
moved_leaf state number parent index holds leaves other is =
    let away = left state number (parent_at state number) in
    let put = changed away parent (with_children (with_moved number index)) in
    parent_leaf parent (nat_eq other number) (put.node_at other)
    (holder_leaf (with_moved number index) (nat_eq other parent) (away.node_at other)
    (λ here. still state number (parent_at state number) other ∙ as_holder state parent other holds here)
    (left_leaf state number (parent_at state number) leaves other)) is
  where
    kept : (change : List ℕ → List ℕ) (here : Bool) (o : Option Entry) → element_in (if here then option_map (with_children change) o else o) ≡ element_in o
    kept change true None = refl
    kept change true (Some entry) = refl
    kept change false o = refl

    still : (state : State) (number : ℕ) (o : Option ℕ) (other : ℕ) → is_of is_element (left state number o) other ≡ is_of is_element state other
    still state number None other = refl
    still state number (Some old) other = kept (without number) (nat_eq other old) (state.node_at other)

-- ---- nodes are inserted

module _ (state : State) (whole : IsWhole state) (parent index : ℕ) (nodes : List Node) (own : List (List Declaration)) (shaped : IsFragmentShaped nodes) (holds : is_of may_hold state parent ≡ true) (within : parent < state.next) where
  abbrev placed : List Node
  placed = under parent state.next nodes

  abbrev comes : Node → Node
  comes node = record { parent = Some (parent_under parent state.next node.parent); kind = node.kind }

  abbrev entry_from : (place : ℕ) → Node → Entry
  entry_from place node = record { parent = node.parent; children = children_from state.next (state.next + place) placed; what = what_of node.kind (get_or own place []) }

  none_under : (number at : ℕ) (some : List Node) → ((k : ℕ) (node : Node) → slice_get some k ≡ Some node → parent_under parent state.next node.parent ≢ number) → children_from at number (under parent state.next some) ≡ []
  unfolding children_from
  none_under number at [] none = refl
  none_under number at (node ∷ some) none =
      ap (λ (b : Bool). put_if b at (children_from (at + 1) number (under parent state.next some))) (ne_eqb number (parent_under parent state.next node.parent) (λ same. none 0 node refl (sym same)))
      ∙ none_under number (at + 1) some (λ k other is. none (suc k) other is)

  -- no node stands in a text
  text_apart : (place : ℕ) (node : Node) → slice_get nodes place ≡ Some node → is_element (what_of node.kind (get_or own place [])) ≡ false
      → (k : ℕ) (other : Node) → slice_get nodes k ≡ Some other → parent_under parent state.next other.parent ≢ state.next + place
  text_apart place node here told k other there same = elim (shaped.each k other there) [
    | inl none ↦
        let is : parent ≡ state.next + place = sym (ap (parent_under parent state.next) none) ∙ same in
        omega (arith, is, within)
    | inr (inner, its, low, before, (holder, tag, acting, at, kind, apart)) ↦
        let is : state.next + inner ≡ state.next + place = sym (ap (parent_under parent state.next) its) ∙ same in
        let one : inner ≡ place = omega (arith, is) in
        let node_is : holder ≡ node = same_Some holder node (sym at ∙ ap (slice_get nodes) one ∙ here) in
        let kind_is : node.kind ≡ html.element tag acting = sym (ap (λ (n : Node). n.kind) node_is) ∙ kind in
        false≢true (sym told ∙ ap (λ (kind : Kind). is_element (what_of kind (get_or own place []))) kind_is)
  ]

  come_leaf : (place : ℕ) (o : Option Node) → slice_get nodes place ≡ o → IsLeaf (option_map (entry_from place) (option_map comes o))
  come_leaf place None here is = refl
  come_leaf place (Some node) here is = none_under (state.next + place) state.next nodes (text_apart place node here is)

  abbrev entry : (number : ℕ) → Bool → Option Entry
  entry number old = if old then (changed state parent (with_children (with_put index (children_from state.next parent placed)))).node_at number else inserted_at placed own state.next (number - state.next)

  inserted_leaf : TextsAreLeaves state → TextsAreLeaves (inserted state parent index nodes own)
  inserted_leaf leaves number = elim (cases_lt number state.next) [
    | inl early ↦ subst (λ (b : Bool). IsLeaf (entry number b)) (sym (lt-ltb number state.next early))
        (holder_leaf (with_put index (children_from state.next parent placed)) (nat_eq number parent) (state.node_at number) (as_holder state parent number holds) (leaves number))
    | inr late ↦ subst (λ (b : Bool). IsLeaf (entry number b)) (sym (le-ltb number state.next late))
        (subst (λ (o : Option Node). IsLeaf (option_map (entry_from (number - state.next)) o)) (sym (slice_get-map comes nodes (number - state.next))) (come_leaf (number - state.next) (slice_get nodes (number - state.next)) refl))
  ]

-- ---- each edit

pub edits_keep_leaves : EditsKeepLeaves
edits_keep_leaves state (set_text number letters) fitting whole unrefused leaves = text_leaf state number letters (text_is state number letters unrefused) leaves
edits_keep_leaves state (set_style number own) fitting whole unrefused leaves = λ other. what_leaf (with_own own) (own_stays own) (nat_eq other number) (state.node_at other) (leaves other)
edits_keep_leaves state (set_class number words) fitting whole unrefused leaves = λ other. what_leaf (with_classes words) (classes_stay words) (nat_eq other number) (state.node_at other) (leaves other)
edits_keep_leaves state (insert parent index nodes own) fitting whole unrefused leaves =
    inserted_leaf state whole parent index nodes own fitting.0 (insert_holds state parent index nodes own unrefused)
    (lives_below state whole parent (insert_passes state parent index nodes own unrefused).0) leaves
edits_keep_leaves state (remove number) fitting whole unrefused leaves =
    λ other. out_leaf (list_any (nat_eq other) (inclusive_descendants state number)) ((left state number (parent_at state number)).node_at other) (left_leaf state number (parent_at state number) leaves other)
edits_keep_leaves state (move_to number parent index) fitting whole unrefused leaves = moved_leaf state number parent index (move_holds state number parent index unrefused) leaves
