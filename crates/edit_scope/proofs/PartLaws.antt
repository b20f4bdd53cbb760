-- Where an edit leaves the children of an element as they were.
use Rattle.std.proofs.Common.{◌≡◌, ◌∙◌, ℕ, ◌-◌, ◌<◌, Bool, true, false, List, [], ◌∷◌, refl, ap, sym, subst, Option, Some, None, option_map, if◌then◌else◌, inl, inr}
use Rattle.std.specs.Prelude.{◌≢◌, is_some, nat_eq, nat_lt, option_to_list}
use Rattle.std.specs.List.{list_any}
use Rattle.std.proofs.lemmas.Bool.{false≢true, lt-ltb, ne_eqb}
use Rattle.std.proofs.lemmas.Bool.Decides.{eqb_tells}
use Rattle.css_types.specs.declared.value.Declaration.{Declaration}
use Rattle.css_types.specs.Rule.{Ruling}
use Rattle.html_read.specs.Values.{Node}
use Rattle.dom_store.specs.State.{What, text, Entry, State}
use Rattle.dom_store.specs.Opening.{children_from}
use Rattle.dom_store.specs.Standing.{children_at, inclusive_descendants, lives, parent_at}
use Rattle.dom_store.specs.Edits.{EditOf, set_text, set_style, set_class, insert, remove, move_to, after, both, changed, changed_if, concerned, inserted, inserted_at, moved, under, with_children, with_classes, with_moved, with_own, with_parent, with_put, with_what, without, without_nodes}
use Rattle.dom_store.specs.Refusals.{is_element, is_of, refusal}
use Rattle.tree_laws.specs.Reached.{IsReached}
use Rattle.tree_laws.specs.Wholeness.{IsWhole}
use Rattle.tree_laws.proofs.Keeping.{children_of, left, moved_children, what_children, what_parent}
use Rattle.tree_laws.proofs.Refusing.{lives_below, move_passes}
use Rattle.box_limits.proofs.Among.{IsIn, in_first, in_second}
use Rattle.box_limits.proofs.Levels.{child_lives, parent_is}
use Rattle.edit_scope.specs.Scope.{content_scope, elements_below, holder, holders, styled_scope, tree_scope}
use Rattle.edit_scope.proofs.HolderLaws.{in_map}
use Rattle.edit_scope.proofs.LineLaws.{every_in}
use Rattle.edit_scope.proofs.Taking.{IsKept, what_at}

-- the elements that may have other children after an edit, or children that are changed
abbrev pub filled : State → EditOf → List ℕ
filled state (set_text number letters) = option_to_list (parent_at state number)
filled state (set_style number own) = option_to_list (parent_at state number)
filled state (set_class number words) = option_to_list (parent_at state number)
filled state (insert parent index nodes own) = parent ∷ []
filled state (remove number) = option_to_list (parent_at state number)
filled state (move_to number parent index) = both (parent_at state number) parent

-- ---- of a node

children_stay : (change : List ℕ → List ℕ) (here : Bool) (o : Option Entry) → here ≡ false → children_of (if here then option_map (with_children change) o else o) ≡ children_of o
children_stay change true o is = absurd (false≢true (sym is))
children_stay change false o is = refl

what_stays : (change : List ℕ → List ℕ) (here : Bool) (o : Option Entry) → option_map (λ entry. entry.what) (if here then option_map (with_children change) o else o) ≡ option_map (λ entry. entry.what) o
what_stays change true None = refl
what_stays change true (Some entry) = refl
what_stays change false o = refl

parent_what : (parent : ℕ) (here : Bool) (o : Option Entry) → option_map (λ entry. entry.what) (if here then option_map (with_parent parent) o else o) ≡ option_map (λ entry. entry.what) o
parent_what parent true None = refl
parent_what parent true (Some entry) = refl
parent_what parent false o = refl

not_out : (out : Bool) (o : Option Entry) → is_some (if out then None else o) ≡ true → out ≡ false
not_out true o alive = absurd (false≢true alive)
not_out false o alive = refl

apart_from : (number other : ℕ) → (IsIn number (other ∷ []) → ⊥) → number ≢ other
apart_from number other none same = none (inl (sym same))

pub other_children : (state : State) (change : List ℕ → List ℕ) (parent : Option ℕ) (other : ℕ) → (IsIn other (option_to_list parent) → ⊥) → children_at (changed_if state parent (with_children change)) other ≡ children_at state other
other_children state change None other none = refl
other_children state change (Some parent) other none = children_stay change (nat_eq other parent) (state.node_at other) (ne_eqb other parent (apart_from other parent none))

pub same_what : (state : State) (change : List ℕ → List ℕ) (parent : Option ℕ) (other : ℕ) → what_at (changed_if state parent (with_children change)) other ≡ what_at state other
same_what state change None other = refl
same_what state change (Some parent) other = what_stays change (nat_eq other parent) (state.node_at other)

-- ---- one node is changed

module _ (state : State) (whole : IsWhole state) (number : ℕ) (change : What → What) (upper : ℕ) (none : IsIn upper (option_to_list (parent_at state number)) → ⊥) where
  what_children_kept : children_at (changed state number (with_what change)) upper ≡ children_at state upper
  what_children_kept = what_children change (nat_eq upper number) (state.node_at upper)

  what_kept : IsKept state (changed state number (with_what change)) upper
  what_kept = record {
    children = what_children_kept;
    whats = λ child there. elim (eqb_tells child number) [
      | inl (here, is) ↦
          let stands : parent_at state number ≡ Some upper = ap (parent_at state) (sym is) ∙ parent_is state whole upper child (subst (IsIn child) what_children_kept there) in
          absurd (none (subst (λ (o : Option ℕ). IsIn upper (option_to_list o)) (sym stands) (inl refl)))
      | inr (there_not, apart) ↦ ap (λ (b : Bool). option_map (λ (entry : Entry). entry.what) (if b then option_map (with_what change) (state.node_at child) else state.node_at child)) there_not
    ];
  }

-- ---- nodes are inserted

module _ (state : State) (whole : IsWhole state) (parent index : ℕ) (nodes : List Node) (own : List (List Declaration)) (upper : ℕ) (alive : lives state upper ≡ true) (none : IsIn upper (parent ∷ []) → ⊥) where
  abbrev change : List ℕ → List ℕ
  change = with_put index (children_from state.next parent (under parent state.next nodes))

  abbrev entry_by : (number : ℕ) → Bool → Option Entry
  entry_by number old = if old then (changed state parent (with_children change)).node_at number else inserted_at (under parent state.next nodes) own state.next (number - state.next)

  old_children : children_at (inserted state parent index nodes own) upper ≡ children_at state upper
  old_children =
      ap (λ (b : Bool). children_of (entry_by upper b)) (lt-ltb upper state.next (lives_below state whole upper alive))
      ∙ children_stay change (nat_eq upper parent) (state.node_at upper) (ne_eqb upper parent (apart_from upper parent none))

  inserted_kept : IsKept state (inserted state parent index nodes own) upper
  inserted_kept = record {
    children = old_children;
    whats = λ child there.
        let (entry, here, stands) = child_lives state whole upper child (subst (IsIn child) old_children there) in
        let early : child < state.next = lives_below state whole child (ap (λ (o : Option Entry). is_some o) here) in
        ap (λ (b : Bool). option_map (λ (entry : Entry). entry.what) (entry_by child b)) (lt-ltb child state.next early) ∙ what_stays change (nat_eq child parent) (state.node_at child);
  }

-- ---- nodes go, and a node that stays has other children

module _ (state : State) (numbers : List ℕ) (parent : Option ℕ) (change : List ℕ → List ℕ) where
  abbrev mid : State
  mid = changed_if state parent (with_children change)

  abbrev rest : State
  rest = without_nodes numbers mid

  abbrev gone : ℕ → Bool
  gone other = list_any (nat_eq other) numbers

  pub rest_kept : IsWhole rest → (upper : ℕ) → lives rest upper ≡ true → (IsIn upper (option_to_list parent) → ⊥) → IsKept state rest upper
  rest_kept whole upper alive none = record {
    children = ap (λ (b : Bool). children_of (if b then None else mid.node_at upper)) (not_out (gone upper) (mid.node_at upper) alive) ∙ other_children state change parent upper none;
    whats = λ child there.
        let (entry, here, stands) = child_lives rest whole upper child there in
        ap (λ (b : Bool). option_map (λ (entry : Entry). entry.what) (if b then None else mid.node_at child)) (not_out (gone child) (mid.node_at child) (ap (λ (o : Option Entry). is_some o) here))
        ∙ same_what state change parent child;
  }

-- ---- a node is moved

-- of two numbers, each once
in_old : (old : Option ℕ) (new number : ℕ) → IsIn number (option_to_list old) → IsIn number (both old new)
in_old None new number there = absurd there
in_old (Some old) new number (inl same) = elim (eqb_tells old new) [
  | inl (here, is) ↦ rw here (inl (sym is ∙ same))
  | inr (there, apart) ↦ rw there (inl same)
]
in_old (Some old) new number (inr later) = absurd later

in_new : (old : Option ℕ) (new : ℕ) → IsIn new (both old new)
in_new None new = inl refl
in_new (Some old) new = elim (eqb_tells old new) [
  | inl (here, is) ↦ rw here (inl refl)
  | inr (there, apart) ↦ rw there (inr (inl refl))
]

module _ (state : State) (whole : IsWhole state) (number parent index : ℕ) (alive : lives state number ≡ true) (root : number ≢ 0) (upper : ℕ) (none : IsIn upper (both (parent_at state number) parent) → ⊥) where
  abbrev away : State
  away = left state number (parent_at state number)

  abbrev put : State
  put = changed away parent (with_children (with_moved number index))

  moved_kept : IsKept state (moved state number parent index) upper
  moved_kept = record {
    children =
        moved_children state whole number parent index alive root upper
        ∙ children_stay (with_moved number index) (nat_eq upper parent) (away.node_at upper) (ne_eqb upper parent (λ same. none (subst (λ (n : ℕ). IsIn n (both (parent_at state number) parent)) (sym same) (in_new (parent_at state number) parent))))
        ∙ other_children state (without number) (parent_at state number) upper (λ there. none (in_old (parent_at state number) parent upper there));
    whats = λ child there.
        parent_what parent (nat_eq child number) (put.node_at child)
        ∙ what_stays (with_moved number index) (nat_eq child parent) (away.node_at child)
        ∙ same_what state (without number) (parent_at state number) child;
  }

-- ---- each edit

pub kept_by : (state : State) (edit : EditOf) → IsWhole state → refusal state edit ≡ None → IsWhole (after state edit) → (upper : ℕ) → lives state upper ≡ true → lives (after state edit) upper ≡ true
    → (IsIn upper (filled state edit) → ⊥) → IsKept state (after state edit) upper
kept_by state (set_text number letters) whole unrefused now upper lived alive none = what_kept state whole number (λ what. text letters) upper none
kept_by state (set_style number own) whole unrefused now upper lived alive none = what_kept state whole number (with_own own) upper none
kept_by state (set_class number words) whole unrefused now upper lived alive none = what_kept state whole number (with_classes words) upper none
kept_by state (insert parent index nodes own) whole unrefused now upper lived alive none = inserted_kept state whole parent index nodes own upper lived none
kept_by state (remove number) whole unrefused now upper lived alive none = rest_kept state (inclusive_descendants state number) (parent_at state number) (without number) now upper alive none
kept_by state (move_to number parent index) whole unrefused now upper lived alive none =
    let passes = move_passes state number parent index unrefused in
    moved_kept state whole number parent index passes.0 passes.1 upper none

-- ---- their holders are in the scope

module _ (rules : List Ruling) (state : State) where
  pub in_content : (next : State) (concerned tops : List ℕ) (upper : ℕ) → IsIn upper concerned → IsIn (holder rules next upper) (content_scope rules next concerned tops)
  in_content next concerned tops upper there = in_first (holder rules next upper) (holders rules next concerned) _ (in_map (holder rules next) upper concerned there)

  -- where some element isn't in the scope
  in_styled : (outermost : Bool) (next : State) → IsReached next → (number element upper : ℕ) → is_of is_element next element ≡ true → (IsIn element (styled_scope outermost rules next number) → ⊥)
      → IsIn upper (option_to_list (parent_at next number)) → IsIn (holder rules next upper) (styled_scope outermost rules next number)
  in_styled true next reached number element upper is outside there = absurd (outside (every_in next reached element is))
  in_styled false next reached number element upper is outside there =
      in_second (holder rules next upper) (elements_below next number) (holders rules next (option_to_list (parent_at next number))) (in_map (holder rules next) upper (option_to_list (parent_at next number)) there)

  same_parent : (number upper : ℕ) (change : What → What) → IsIn upper (option_to_list (parent_at state number)) → IsIn upper (option_to_list (parent_at (changed state number (with_what change)) number))
  same_parent number upper change there = subst (λ (o : Option ℕ). IsIn upper (option_to_list o)) (sym (what_parent change (nat_eq number number) (state.node_at number))) there

  pub filled_held : (edit : EditOf) → IsReached (after state edit) → (element upper : ℕ) → is_of is_element (after state edit) element ≡ true → (IsIn element (tree_scope rules state edit) → ⊥)
      → IsIn upper (filled state edit) → IsIn (holder rules (after state edit) upper) (tree_scope rules state edit)
  filled_held (set_text number letters) reached element upper is outside there = in_content (after state (set_text number letters)) (option_to_list (parent_at state number)) [] upper there
  filled_held (set_style number own) reached element upper is outside there =
      in_styled (nat_lt number 2) (after state (set_style number own)) reached number element upper is outside (same_parent number upper (with_own own) there)
  filled_held (set_class number words) reached element upper is outside there =
      in_styled (nat_lt number 2) (after state (set_class number words)) reached number element upper is outside (same_parent number upper (with_classes words) there)
  filled_held (insert parent index nodes own) reached element upper is outside there = in_content (after state (insert parent index nodes own)) (parent ∷ []) _ upper there
  filled_held (remove number) reached element upper is outside there = in_content (after state (remove number)) (option_to_list (parent_at state number)) [] upper there
  filled_held (move_to number parent index) reached element upper is outside there = in_content (after state (move_to number parent index)) (both (parent_at state number) parent) (number ∷ []) upper there
