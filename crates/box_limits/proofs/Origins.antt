-- From which node of before each node comes that lives after an edit.
use Rattle.std.proofs.Common.{◌≡◌, ◌∙◌, ◌⊎◌, ℕ, zero, suc, ◌+◌, ◌-◌, Bool, true, false, List, [], ◌∷◌, refl, ap, sym, subst, arith, if◌then◌else◌, Option, Some, None, option_map, inl, inr}
use Rattle.std.specs.Prelude.{nat_eq, unwrap_or, is_none, slice_get}
use Rattle.std.specs.List.{list_any}
use Rattle.std.proofs.lemmas.Bool.{cases_lt, le-ltb, lt-ltb}
use Rattle.std.proofs.lemmas.Bool.Decides.{eqb_tells}
use Rattle.std.proofs.lemmas.Option.{none-some}
use Rattle.css_types.specs.declared.value.Declaration.{Declaration}
use Rattle.html_read.specs.Values.{Node}
use Rattle.dom_store.specs.State.{What, text, Entry, State}
use Rattle.dom_store.specs.Opening.{put_if}
use Rattle.dom_store.specs.Building.{tops_from}
use Rattle.dom_store.specs.Standing.{inclusive_descendants, parent_at}
use Rattle.dom_store.specs.Edits.{EditOf, set_text, set_style, set_class, insert, remove, move_to, after, changed, changed_if, inserted_at, parent_under, under, with_children, with_what}
use Rattle.box_limits.specs.Limits.{touched}
use Rattle.box_limits.proofs.Among.{IsIn}

same_entry : (entry other : Entry) → Some entry ≡ Some other → entry ≡ other
same_entry entry other is = ap (λ (o : Option Entry). unwrap_or o entry) is

mapped : (change : Entry → Entry) (o : Option Entry) (entry : Entry) → option_map change o ≡ Some entry → (old : Entry) × (o ≡ Some old) × (change old ≡ entry)
mapped change None entry is = absurd (none-some entry is)
mapped change (Some old) entry is = (old, refl, same_entry (change old) entry is)

-- the node is what it was, but for its children
abbrev pub Stays : State → (number : ℕ) → Entry → Type 0
Stays state number entry = (old : Entry) × (state.node_at number ≡ Some old) × (old.parent ≡ entry.parent) × (old.what ≡ entry.what)

abbrev pub IsText : What → Type 0
IsText what = (letters : List ℕ) × (what ≡ text letters)

-- its text is another
abbrev pub IsRetold : State → (number : ℕ) → Entry → Type 0
IsRetold state number entry = (old : Entry) × (state.node_at number ≡ Some old) × (old.parent ≡ entry.parent) × IsText entry.what

-- it came with one that came
abbrev pub Comes : State → (number : ℕ) → Entry → Type 0
Comes state number entry = (place : ℕ) × (entry.parent ≡ Some (state.next + place))

abbrev pub Origin : State → EditOf → (number : ℕ) → Entry → Type 0
Origin state edit number entry = IsIn number (touched state edit) ⊎ (Comes state number entry ⊎ (IsRetold state number entry ⊎ Stays state number entry))

stays : (state : State) (edit : EditOf) (number : ℕ) (entry : Entry) → Stays state number entry → Origin state edit number entry
stays state edit number entry is = inr (inr (inr is))

-- ---- one node is changed

abbrev IsChanged : (here : Bool) (change : Entry → Entry) → Option Entry → Entry → Type 0
IsChanged here change o entry = (old : Entry) × (o ≡ Some old) × (((here ≡ true) × (change old ≡ entry)) ⊎ ((here ≡ false) × (old ≡ entry)))

by_test : (here : Bool) (change : Entry → Entry) (o : Option Entry) (entry : Entry) → (if here then option_map change o else o) ≡ Some entry → IsChanged here change o entry
by_test true change o entry is = let (old, was, same) = mapped change o entry is in (old, was, inl (refl, same))
by_test false change o entry is = (entry, is, inr (refl, refl))

is_number : (number other : ℕ) → nat_eq number other ≡ true → other ≡ number
is_number number other here = elim (eqb_tells number other) [
  | inl (so, same) ↦ sym same
  | inr (not_so, apart) ↦ absurd (let both : true ≡ false = sym here ∙ not_so in cc)
]

what_changed : (state : State) (edit : EditOf) (number other : ℕ) (change : What → What) (entry : Entry) → (changed state other (with_what change)).node_at number ≡ Some entry
    → ((other ≡ number) → (old : Entry) → state.node_at number ≡ Some old → with_what change old ≡ entry → Origin state edit number entry) → Origin state edit number entry
what_changed state edit number other change entry is told = let (old, was, how) = by_test (nat_eq number other) (with_what change) (state.node_at number) entry is in elim how [
  | inl (here, same) ↦ told (is_number number other here) old was same
  | inr (there, same) ↦ stays state edit number entry (old, was, ap (λ (e : Entry). e.parent) same, ap (λ (e : Entry). e.what) same)
]

children_by : (state : State) (number : ℕ) (here : Bool) (change : List ℕ → List ℕ) (o : Option Entry) (entry : Entry) → o ≡ state.node_at number → IsChanged here (with_children change) o entry → Stays state number entry
children_by state number here change o entry of (old, was, inl (so, same)) = (old, sym of ∙ was, ap (λ (e : Entry). e.parent) same, ap (λ (e : Entry). e.what) same)
children_by state number here change o entry of (old, was, inr (not_so, same)) = (old, sym of ∙ was, ap (λ (e : Entry). e.parent) same, ap (λ (e : Entry). e.what) same)

children_changed : (state : State) (number other : ℕ) (change : List ℕ → List ℕ) (entry : Entry) → (changed state other (with_children change)).node_at number ≡ Some entry → Stays state number entry
children_changed state number other change entry is =
    children_by state number (nat_eq number other) change (state.node_at number) entry refl (by_test (nat_eq number other) (with_children change) (state.node_at number) entry is)

left : (state : State) (number : ℕ) (parent : Option ℕ) (change : List ℕ → List ℕ) (entry : Entry) → (changed_if state parent (with_children change)).node_at number ≡ Some entry → Stays state number entry
left state number None change entry is = (entry, is, refl, refl)
left state number (Some parent) change entry is = children_changed state number parent change entry is

-- one change after the other
further : (state between : State) (number : ℕ) (entry : Entry) → ((old : Entry) → between.node_at number ≡ Some old → Stays state number old) → Stays between number entry → Stays state number entry
further state between number entry before (old, was, parents, whats) = let (first, is, above, what) = before old was in (first, is, above ∙ parents, what ∙ whats)

-- ---- nodes go

not_out : (out : Bool) (o : Option Entry) (entry : Entry) → (if out then None else o) ≡ Some entry → o ≡ Some entry
not_out true o entry is = absurd (none-some entry is)
not_out false o entry is = is

-- ---- nodes come

abbrev entry_from : (nodes : List Node) (own : List (List Declaration)) (next place : ℕ) → Option Node → Option Entry
entry_from nodes own next place o = inserted_at nodes own next place

top_first : (parent next at : ℕ) (of : Option ℕ) (others : List ℕ) → IsIn at (put_if (is_none of) at others) ⊎ ((place : ℕ) × (Some (parent_under parent next of) ≡ Some (next + place)))
top_first parent next at None others = inl (inl refl)
top_first parent next at (Some place) others = inr (place, refl)

put_later : (number at : ℕ) (put : Bool) (others : List ℕ) → IsIn number others → IsIn number (put_if put at others)
put_later number at true others there = inr there
put_later number at false others there = there

comes_with : (parent next at place : ℕ) (nodes : List Node) (node : Node) → slice_get (under parent next nodes) place ≡ Some node → IsIn (at + place) (tops_from at nodes) ⊎ ((other : ℕ) × (node.parent ≡ Some (next + other)))
unfolding tops_from
comes_with parent next at place [] node is = absurd (none-some node is)
comes_with parent next at zero (raw ∷ nodes) node is =
    let same : Some (parent_under parent next raw.parent) ≡ node.parent = ap (λ (o : Option Node). unwrap_or (option_map (λ n. n.parent) o) None) is in
    elim (top_first parent next at raw.parent (tops_from (at + 1) nodes)) [
      | inl top ↦ inl (subst (λ (n : ℕ). IsIn n (put_if (is_none raw.parent) at (tops_from (at + 1) nodes))) (omega arith) top)
      | inr (other, under_) ↦ inr (other, sym same ∙ under_)
    ]
comes_with parent next at (suc place) (raw ∷ nodes) node is = elim (comes_with parent next (at + 1) place nodes node is) [
  | inl top ↦ inl (put_later (at + suc place) at (is_none raw.parent) (tops_from (at + 1) nodes) (subst (λ (n : ℕ). IsIn n (tops_from (at + 1) nodes)) (omega arith) top))
  | inr with_ ↦ inr with_
]

fresh_parent : (nodes : List Node) (own : List (List Declaration)) (next place : ℕ) (entry : Entry) → inserted_at nodes own next place ≡ Some entry → (node : Node) × (slice_get nodes place ≡ Some node) × (node.parent ≡ entry.parent)
fresh_parent nodes own next place entry is = go (slice_get nodes place) refl
  where
    go : (o : Option Node) → slice_get nodes place ≡ o → (node : Node) × (slice_get nodes place ≡ Some node) × (node.parent ≡ entry.parent)
    go None at = absurd (let none : inserted_at nodes own next place ≡ None = rw at refl in none-some entry (sym none ∙ is))
    go (Some node) at =
        let some : option_map (λ e. e.parent) (inserted_at nodes own next place) ≡ Some node.parent = rw at refl in
        (node, at, ap (λ (o : Option (Option ℕ)). unwrap_or o None) (sym some ∙ ap (option_map (λ (e : Entry). e.parent)) is))

module _ (state : State) where
  inserted_from : (parent index : ℕ) (nodes : List Node) (own : List (List Declaration)) (number : ℕ) (entry : Entry) → (after state (insert parent index nodes own)).node_at number ≡ Some entry
      → Origin state (insert parent index nodes own) number entry
  inserted_from parent index nodes own number entry is = elim (cases_lt number state.next) [
    | inl within ↦ stays state (insert parent index nodes own) number entry (children_changed state number parent _ entry (rw (lt-ltb number state.next within) at is))
    | inr past ↦
        let later : inserted_at (under parent state.next nodes) own state.next (number - state.next) ≡ Some entry = rw (le-ltb number state.next past) at is in
        let (node, at, above) = fresh_parent (under parent state.next nodes) own state.next (number - state.next) entry later in
        elim (comes_with parent state.next state.next (number - state.next) nodes node at) [
          | inl top ↦ inl (subst (λ (n : ℕ). IsIn n (tops_from state.next nodes)) (omega (arith, past)) top)
          | inr (other, under_) ↦ inr (inl (other, sym above ∙ under_))
        ]
  ]

  pub origin : (edit : EditOf) (number : ℕ) (entry : Entry) → (after state edit).node_at number ≡ Some entry → Origin state edit number entry
  origin (set_text other letters) number entry is = what_changed state (set_text other letters) number other (λ what. text letters) entry is
      (λ same old was new. inr (inr (inl (old, was, ap (λ (e : Entry). e.parent) new, (letters, sym (ap (λ (e : Entry). e.what) new))))))
  origin (set_style other own) number entry is = what_changed state (set_style other own) number other _ entry is (λ same old was new. inl (inl same))
  origin (set_class other words) number entry is = what_changed state (set_class other words) number other _ entry is (λ same old was new. inl (inl same))
  origin (insert parent index nodes own) number entry is = inserted_from parent index nodes own number entry is
  origin (remove other) number entry is =
      stays state (remove other) number entry (left state number (parent_at state other) _ entry (not_out (list_any (nat_eq number) (inclusive_descendants state other)) _ entry is))
  origin (move_to other parent index) number entry is = let (old, was, how) = by_test (nat_eq number other) _ _ entry is in elim how [
    | inl (here, same) ↦ inl (inl (is_number number other here))
    | inr (there, same) ↦ stays state (move_to other parent index) number entry
        (subst (Stays state number) same
        (further state (changed_if state (parent_at state other) (with_children _)) number old (λ first before. left state number (parent_at state other) _ first before)
        (children_changed (changed_if state (parent_at state other) (with_children _)) number parent _ old was)))
  ]
