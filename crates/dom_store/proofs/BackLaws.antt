-- Changes that are taken back.
use Rattle.std.proofs.Common.{◌≡◌, ◌∙◌, ℕ, ◌≤◌, List, [], length, refl, ap, sym, subst, arith, Option, Some, None, option_and_then, option_map, inl, inr}
use Rattle.std.specs.Prelude.{unwrap_or}
use Rattle.std.specs.Ordering.{nat_cmp}
use Rattle.std.specs.BTreeMap as keyed
use Rattle.std.specs.BTreeMap.{BTreeMap}
use Rattle.slab.specs.Slab as slots
use Rattle.slab.specs.Slab.{Slab}
use Rattle.std.proofs.lemmas.Bool.{cases_lt, le-ltb, lt-ltb}
use Rattle.std.proofs.lemmas.Bool.Decides.{eqb_tells}
use Rattle.std.proofs.lemmas.Option.{same_Some}
use Rattle.css_types.specs.declared.value.Declaration.{Declaration}
use Rattle.html_read.specs.Values.{Node}
use Rattle.dom_store.specs.declared.node.Node as code_node
use Rattle.dom_store.specs.Building.{IsFilledFrom, added_under}
use Rattle.dom_store.specs.Keys.{IsKeyed}
use Rattle.dom_store.specs.State.{Entry, State, entry_of}
use Rattle.dom_store.specs.Edits.{changed, changed_if, with_children, with_put}
use Rattle.dom_store.specs.Standing.{children_at, parent_at}
use Rattle.dom_store.specs.Taking.{standing_in, up_to, without_run}
use Rattle.dom_store.proofs.SameLaws.{are_equal}
use Rattle.dom_store.proofs.TurnLaws.{taken_out}
use Rattle.dom_store.proofs.WriteLaws.{none_written, put_under, state_with}

module _ (state : State) (number : ℕ) (change back : Entry → Entry) (same : (entry : Entry) → state.node_at number ≡ Some entry → back (change entry) ≡ entry) where
  back_at : (o : Option Entry) → state.node_at number ≡ o → option_map back (option_map change o) ≡ o
  back_at None at = refl
  back_at (Some entry) at = ap Some (same entry at)

  -- a node that is changed, and changed back
  pub changed_back : changed (changed state number change) number back ≡ state
  changed_back = are_equal _ _ (record {
    nodes = λ other. elim (eqb_tells other number) [
      | inl (here, is) ↦ rw here (subst (λ (n : ℕ). option_map back (option_map change (state.node_at n)) ≡ state.node_at n) (sym is) (back_at (state.node_at number) refl))
      | inr (there, apart) ↦ rw there refl
    ];
    next = refl;
  })

-- the children of a node that lives
pub children_of_entry : (state : State) (number : ℕ) (entry : Entry) → state.node_at number ≡ Some entry → children_at state number ≡ entry.children
children_of_entry state number entry at = ap (λ (o : Option Entry). unwrap_or (option_map (λ entry. entry.children) o) []) at

-- children that were put are taken out again
pub taken_out_at : (state : State) (parent index : ℕ) (tops : List ℕ) → index ≤ length (children_at state parent)
    → changed (changed state parent (with_children (with_put index tops))) parent (with_children (without_run index (length tops))) ≡ state
taken_out_at state parent index tops within =
    changed_back state parent (with_children (with_put index tops)) (with_children (without_run index (length tops))) (λ entry at.
    let same = children_of_entry state parent entry at in
    ap (λ (l : List ℕ). with_children (λ before. l) entry) (taken_out index tops entry.children (omega (arith, within, ap length same))))

-- a node that stays what it was
pub unchanged : (state : State) (number : ℕ) → changed state number (λ entry. entry) ≡ state
unchanged state number = are_equal _ _ (record {
  nodes = λ other. elim (eqb_tells other number) [
    | inl (here, is) ↦ rw here (as_it_was (state.node_at other))
    | inr (there, apart) ↦ rw there refl
  ];
  next = refl;
})
  where
    as_it_was : (o : Option Entry) → option_map (λ entry. entry) o ≡ o
    as_it_was None = refl
    as_it_was (Some entry) = refl

-- what is put under a key, and put back
pub put_back : (nodes : Slab code_node.Node) (keys : BTreeMap ℕ ℕ) (next number key : ℕ) (was is : code_node.Node) (change back : Entry → Entry) → IsKeyed (keyed.get nat_cmp keys) (slots.get nodes) next
    → keyed.get nat_cmp keys number ≡ Some key → slots.get nodes key ≡ Some was → entry_of is ≡ change (entry_of was) → back (change (entry_of was)) ≡ entry_of was
    → changed (state_with (keyed.get nat_cmp keys) (slots.get (slots.with_value nodes key is)) next) number back ≡ state_with (keyed.get nat_cmp keys) (slots.get nodes) next
put_back nodes keys next number key was is change back sound here before changes same =
    let state = state_with (keyed.get nat_cmp keys) (slots.get nodes) next in
    let stood : state.node_at number ≡ Some (entry_of was) = rw (here, before) refl in
    ap (λ (s : State). changed s number back) (put_under nodes keys next number key was is change sound here before changes)
    ∙ changed_back state number change back (λ entry at. ap (λ (e : Entry). back (change e)) (same_Some _ _ (sym at ∙ stood)) ∙ (same ∙ same_Some _ _ (sym stood ∙ at)))

-- a node stands in the parent in which it stood
pub parent_under : (nodes : Slab code_node.Node) (keys : BTreeMap ℕ ℕ) (next number key : ℕ) (was : code_node.Node) → keyed.get nat_cmp keys number ≡ Some key → slots.get nodes key ≡ Some was
    → standing_in (parent_at (state_with (keyed.get nat_cmp keys) (slots.get nodes) next) number) (entry_of was) ≡ entry_of was
parent_under nodes keys next number key was here before = rw (here, before) refl

module _ (change : List ℕ → List ℕ) where
  of_parent : (o : Option Entry) → option_and_then (λ entry. entry.parent) (option_map (with_children change) o) ≡ option_and_then (λ entry. entry.parent) o
  of_parent None = refl
  of_parent (Some entry) = refl

  -- where children change, parents stay
  pub parent_stays : (state : State) (holder number : ℕ) → parent_at (changed state holder (with_children change)) number ≡ parent_at state number
  parent_stays state holder number = elim (eqb_tells number holder) [
    | inl (here, same) ↦ rw here (of_parent (state.node_at number))
    | inr (there, apart) ↦ rw there refl
  ]

  pub parent_stays_if : (state : State) (holder : Option ℕ) (number : ℕ) → parent_at (changed_if state holder (with_children change)) number ≡ parent_at state number
  parent_stays_if state None number = refl
  parent_stays_if state (Some holder) number = parent_stays state holder number

-- a number that has no node
pub none_back : (keys : BTreeMap ℕ ℕ) (nodes : Slab code_node.Node) (next number : ℕ) (back : Entry → Entry) → keyed.get nat_cmp keys number ≡ None
    → changed (state_with (keyed.get nat_cmp keys) (slots.get nodes) next) number back ≡ state_with (keyed.get nat_cmp keys) (slots.get nodes) next
none_back keys nodes next number back none = sym (none_written (keyed.get nat_cmp keys) (slots.get nodes) next number back none)

-- nodes that were added are gone
pub added_back : (old : State) (parent : ℕ) (nodes : List Node) (own : List (List Declaration)) → ((number : ℕ) → old.next ≤ number → old.node_at number ≡ None)
    → up_to old.next (added_under old parent nodes own) ≡ old
added_back old parent nodes own none = are_equal _ _ (record {
  nodes = λ number. elim (cases_lt number old.next) [
    | inl low ↦ rw (lt-ltb number old.next low) refl
    | inr high ↦ rw (le-ltb number old.next high) (sym (none number high))
  ];
  next = refl;
})

-- a document that gave its nodes from a number on back
pub given_back : (old new : State) (first : ℕ) → IsFilledFrom old new → new.next ≡ first → new ≡ up_to first old
given_back old new first filled next = are_equal _ _ (record {
  nodes = λ number. elim (cases_lt number first) [
    | inl low ↦ rw (lt-ltb number first low) (filled.below number (omega (arith, low, next)))
    | inr high ↦ rw (le-ltb number first high) (filled.above number (omega (arith, high, next)))
  ];
  next = next;
})
