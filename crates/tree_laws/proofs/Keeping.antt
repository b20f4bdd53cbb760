-- Edits keep documents whole.
use Rattle.std.proofs.Common.{◌≡◌, ◌∙◌, ℕ, ◌<◌, ◌≤◌, Bool, true, false, List, [], ◌∷◌, refl, ap, sym, subst, arith, Option, Some, None, option_map, if◌then◌else◌, inl, inr}
use Rattle.std.specs.Prelude.{nat_eq, ◌≢◌, is_some, option_and_then, option_to_list, unwrap_or}
use Rattle.std.specs.List.{list_any}
use Rattle.std.proofs.lemmas.Bool.{eq-eqb, ne_eqb}
use Rattle.std.proofs.lemmas.Bool.Decides.{eqb_tells}
use Rattle.dom_store.specs.State.{What, Entry, State}
use Rattle.dom_store.specs.Standing.{children_at, inclusive_descendants, lives, parent_at}
use Rattle.dom_store.specs.Edits.{changed, changed_if, moved, removed, with_children, with_moved, with_parent, with_what, without}
use Rattle.tree_laws.specs.Wholeness.{IsWhole, times}
use Rattle.tree_laws.proofs.Times.{hit_apart, none_where, none_without, others_moved, some_where, times-without, times_moved}
use Rattle.tree_laws.proofs.Below.{more_levels, reach}

-- ---- of a node

abbrev pub children_of : Option Entry → List ℕ
children_of o = unwrap_or (option_map (λ entry. entry.children) o) []

abbrev pub parent_of : Option Entry → Option ℕ
parent_of o = option_and_then (λ entry. entry.parent) o

pub none_changed : (change : Entry → Entry) (here : Bool) (o : Option Entry) → o ≡ None → (if here then option_map change o else o) ≡ None
none_changed change true o is = ap (option_map change) is
none_changed change false o is = is

pub lives_changed : (change : Entry → Entry) (here : Bool) (o : Option Entry) → is_some (if here then option_map change o else o) ≡ is_some o
lives_changed change true None = refl
lives_changed change true (Some entry) = refl
lives_changed change false o = refl

-- ---- other contents

pub what_children : (change : What → What) (here : Bool) (o : Option Entry) → children_of (if here then option_map (with_what change) o else o) ≡ children_of o
what_children change true None = refl
what_children change true (Some entry) = refl
what_children change false o = refl

pub what_parent : (change : What → What) (here : Bool) (o : Option Entry) → parent_of (if here then option_map (with_what change) o else o) ≡ parent_of o
what_parent change true None = refl
what_parent change true (Some entry) = refl
what_parent change false o = refl

pub what_whole : (state : State) (number : ℕ) (change : What → What) → IsWhole state → IsWhole (changed state number (with_what change))
what_whole state number change whole = record {
  inside = λ other child. rw (what_children change (nat_eq other number) (state.node_at other), what_parent change (nat_eq child number) (state.node_at child)) (whole.inside other child);
  html = what_parent change (nat_eq 0 number) (state.node_at 0) ∙ whole.html;
  below = λ other past. none_changed (with_what change) (nat_eq other number) (state.node_at other) (whole.below other past);
}

-- ---- other children

pub children_parent : (change : List ℕ → List ℕ) (here : Bool) (o : Option Entry) → parent_of (if here then option_map (with_children change) o else o) ≡ parent_of o
children_parent change true None = refl
children_parent change true (Some entry) = refl
children_parent change false o = refl

-- a change that gives a child no more often
pub fewer_at : (child : ℕ) (change : List ℕ → List ℕ) → ((children : List ℕ) → times child (change children) ≤ times child children) → (here : Bool) (o : Option Entry)
    → times child (children_of (if here then option_map (with_children change) o else o)) ≤ times child (children_of o)
fewer_at child change fewer true None = omega arith
fewer_at child change fewer true (Some entry) = fewer entry.children
fewer_at child change fewer false o = omega arith

none_at : (number : ℕ) (o : Option Entry) → times number (children_of (option_map (with_children (without number)) o)) ≡ 0
none_at number None = refl
none_at number (Some entry) = none_without number entry.children

-- a node that leaves its parent
abbrev pub left : State → (number : ℕ) → (parent : Option ℕ) → State
left state number parent = changed_if state parent (with_children (without number))

module _ (state : State) (number : ℕ) where
  left_next : (parent : Option ℕ) → (left state number parent).next ≡ state.next
  left_next None = refl
  left_next (Some parent) = refl

  pub left_parents : (parent : Option ℕ) (child : ℕ) → parent_at (left state number parent) child ≡ parent_at state child
  left_parents None child = refl
  left_parents (Some parent) child = children_parent (without number) (nat_eq child parent) (state.node_at child)

  pub left_lives : (parent : Option ℕ) (other : ℕ) → lives (left state number parent) other ≡ lives state other
  left_lives None other = refl
  left_lives (Some parent) other = lives_changed (with_children (without number)) (nat_eq other parent) (state.node_at other)

  left_below : (parent : Option ℕ) (other : ℕ) → state.node_at other ≡ None → (left state number parent).node_at other ≡ None
  left_below None other is = is
  left_below (Some parent) other is = none_changed (with_children (without number)) (nat_eq other parent) (state.node_at other) is

  pub left_fewer : (parent : Option ℕ) (child other : ℕ) → times child (children_at (left state number parent) other) ≤ times child (children_at state other)
  left_fewer None child other = omega arith
  left_fewer (Some parent) child other = fewer_at child (without number) (times-without number child) (nat_eq other parent) (state.node_at other)

  -- it is among nobody's children then
  left_none : (parent : Option ℕ) (other : ℕ) → times number (children_at state other) ≤ times other (option_to_list parent) → times number (children_at (left state number parent) other) ≡ 0
  left_none None other inside = omega (arith, inside)
  left_none (Some parent) other inside = elim (eqb_tells other parent) [
    | inl (here, same) ↦ rw here (none_at number (state.node_at other))
    | inr (there, apart) ↦ rw there (omega (arith, inside, hit_apart other parent apart))
  ]

-- ---- a node goes

module _ (state : State) (whole : IsWhole state) (number : ℕ) where
  abbrev mid : State
  mid = left state number (parent_at state number)

  abbrev gone : List ℕ
  gone = inclusive_descendants state number

  -- a node whose parent stays goes only as the first
  goes_first : (other child : ℕ) (parent : Option ℕ) → parent_at state child ≡ parent → times other gone ≡ 0 → 0 < times child gone → child ≢ number → times child (children_at mid other) ≡ 0
  goes_first other child None is stays goes apart =
      let inside : (m : ℕ) → times child (children_at state m) ≤ times m (option_to_list None) = λ m. subst (λ (p : Option ℕ). times child (children_at state m) ≤ times m (option_to_list p)) is (whole.inside m child) in
      let reached = reach state child None inside 63 number in
      absurd (omega (arith, reached, goes, hit_apart child number apart))
  goes_first other child (Some parent) is stays goes apart =
      let inside : (m : ℕ) → times child (children_at state m) ≤ times m (option_to_list (Some parent)) = λ m. subst (λ (p : Option ℕ). times child (children_at state m) ≤ times m (option_to_list p)) is (whole.inside m child) in
      let reached = reach state child (Some parent) inside 63 number in
      let higher : 0 < times parent gone = omega (arith, reached, goes, hit_apart child number apart, more_levels state 63 parent number) in
      let differ : other ≢ parent = λ same. omega (arith, higher, stays, ap (λ (n : ℕ). times n gone) same) in
      omega (arith, left_fewer state number (parent_at state number) child other, inside other, hit_apart other parent differ)

  goes : (other child : ℕ) → list_any (nat_eq other) gone ≡ false → list_any (nat_eq child) gone ≡ true → times child (children_at mid other) ≡ 0
  goes other child stays out = elim (eqb_tells child number) [
    | inl (here, same) ↦ subst (λ (n : ℕ). times n (children_at mid other) ≡ 0) (sym same) (left_none state number (parent_at state number) other (whole.inside other number))
    | inr (there, apart) ↦ goes_first other child (parent_at state child) refl (none_where other gone stays) (some_where child gone out) apart
  ]

  removed_inside : (other child : ℕ) (other_out child_out : Bool) → list_any (nat_eq other) gone ≡ other_out → list_any (nat_eq child) gone ≡ child_out
      → times child (children_of (if other_out then None else mid.node_at other)) ≤ times other (option_to_list (parent_of (if child_out then None else mid.node_at child)))
  removed_inside other child true child_out a b = omega arith
  removed_inside other child false true a b = omega (arith, goes other child a b)
  removed_inside other child false false a b =
      rw (left_parents state number (parent_at state number) child) (omega (arith, left_fewer state number (parent_at state number) child other, whole.inside other child))

  out_parent : (out : Bool) (o : Option Entry) → parent_of o ≡ None → parent_of (if out then None else o) ≡ None
  out_parent true o is = refl
  out_parent false o is = is

  out_none : (out : Bool) (o : Option Entry) → o ≡ None → (if out then None else o) ≡ None
  out_none true o is = refl
  out_none false o is = is

  pub removed_whole : IsWhole (removed state number)
  removed_whole = record {
    inside = λ other child. removed_inside other child (list_any (nat_eq other) gone) (list_any (nat_eq child) gone) refl refl;
    html = out_parent (list_any (nat_eq 0) gone) (mid.node_at 0) (left_parents state number (parent_at state number) 0 ∙ whole.html);
    below = λ other past. out_none (list_any (nat_eq other) gone) (mid.node_at other)
        (left_below state number (parent_at state number) other (whole.below other (omega (arith, past, left_next state number (parent_at state number)))));
  }

-- ---- a node is moved

pub parent_children : (parent : ℕ) (here : Bool) (o : Option Entry) → children_of (if here then option_map (with_parent parent) o else o) ≡ children_of o
parent_children parent true None = refl
parent_children parent true (Some entry) = refl
parent_children parent false o = refl

given_parent : (parent : ℕ) (o : Option Entry) → is_some o ≡ true → parent_of (option_map (with_parent parent) o) ≡ Some parent
given_parent parent None is = absurd cc
given_parent parent (Some entry) is = refl

once_at : (number index : ℕ) (o : Option Entry) → times number (children_of (option_map (with_children (with_moved number index)) o)) ≤ 1
once_at number index None = omega arith
once_at number index (Some entry) = omega (arith, times_moved number index entry.children)

module _ (state : State) (whole : IsWhole state) (number parent index : ℕ) (alive : lives state number ≡ true) (root : number ≢ 0) where
  abbrev away : State
  away = left state number (parent_at state number)

  abbrev put : State
  put = changed away parent (with_children (with_moved number index))

  put_parents : (child : ℕ) → parent_at put child ≡ parent_at state child
  put_parents child = children_parent (with_moved number index) (nat_eq child parent) (away.node_at child) ∙ left_parents state number (parent_at state number) child

  -- the others stand where they stood
  other_inside : (other child : ℕ) → child ≢ number → times child (children_at put other) ≤ times other (option_to_list (parent_at state child))
  other_inside other child apart =
      omega (
        arith,
        fewer_at child (with_moved number index) (λ children. others_moved number index child children apart) (nat_eq other parent) (away.node_at other),
        left_fewer state number (parent_at state number) child other,
        whole.inside other child,
      )

  -- the node stands in its new parent
  here_inside : (other : ℕ) → times number (children_at put other) ≤ times other (parent ∷ [])
  here_inside other = elim (eqb_tells other parent) [
    | inl (here, same) ↦ rw here (omega (arith, once_at number index (away.node_at other)))
    | inr (there, apart) ↦ rw there (omega (arith, left_none state number (parent_at state number) other (whole.inside other number)))
  ]

  number_lives : lives put number ≡ true
  number_lives = lives_changed (with_children (with_moved number index)) (nat_eq number parent) (away.node_at number) ∙ (left_lives state number (parent_at state number) number ∙ alive)

  pub moved_parent : parent_at (moved state number parent index) number ≡ Some parent
  moved_parent = rw (eq-eqb number number refl) (given_parent parent (put.node_at number) number_lives)

  pub other_parent : (child : ℕ) → child ≢ number → parent_at (moved state number parent index) child ≡ parent_at state child
  other_parent child apart = rw (ne_eqb child number apart) (put_parents child)

  pub moved_children : (other : ℕ) → children_at (moved state number parent index) other ≡ children_at put other
  moved_children other = parent_children parent (nat_eq other number) (put.node_at other)

  moved_inside : (other child : ℕ) → times child (children_at (moved state number parent index) other) ≤ times other (option_to_list (parent_at (moved state number parent index) child))
  moved_inside other child = elim (eqb_tells child number) [
    | inl (here, same) ↦ subst (λ (n : ℕ). times n (children_at (moved state number parent index) other) ≤ times other (option_to_list (parent_at (moved state number parent index) n))) (sym same)
        (rw (moved_children other, moved_parent) (here_inside other))
    | inr (there, apart) ↦ rw (moved_children other, other_parent child apart) (other_inside other child apart)
  ]

  pub moved_whole : IsWhole (moved state number parent index)
  moved_whole = record {
    inside = moved_inside;
    html = other_parent 0 (λ same. root (sym same)) ∙ whole.html;
    below = λ other past. none_changed (with_parent parent) (nat_eq other number) (put.node_at other)
        (none_changed (with_children (with_moved number index)) (nat_eq other parent) (away.node_at other)
        (left_below state number (parent_at state number) other (whole.below other (omega (arith, past, left_next state number (parent_at state number))))));
  }
