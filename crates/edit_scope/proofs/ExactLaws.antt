-- What an exact edit leaves of the boxes of a page.
use Rattle.std.proofs.Common.{◌≡◌, ◌∙◌, ◌⊎◌, ℕ, Bool, true, false, List, [], ◌∷◌, ◌++◌, refl, ap, sym, subst, Option, Some, None, option_map, if◌then◌else◌, inl, inr}
use Rattle.std.specs.Prelude.{◌||◌, flat_map, is_some, nat_eq}
use Rattle.std.specs.List.{find, list_any}
use Rattle.std.specs.Option.{option_or}
use Rattle.std.proofs.lemmas.Bool.{eq-eqb, false≢true}
use Rattle.std.proofs.lemmas.Bool.Decides.{eqb_tells}
use Rattle.std.proofs.lemmas.Option.{none-some, same_Some}
use Rattle.css_types.specs.Rule.{Ruling}
use Rattle.dom_store.specs.State.{Entry, State}
use Rattle.dom_store.specs.Standing.{children_at, inclusive_descendants, lives}
use Rattle.dom_store.specs.Edits.{set_text, set_style, set_class, move_to, changed, with_children, with_put}
use Rattle.dom_store.specs.Exact as tree
use Rattle.dom_store.specs.Exact.{NumberedOf, ExactEditOf, exact_text, exact_style, exact_class, exact_move, take_nodes, restore, entry_among, numbers_under, restored, taken, without_each}
use Rattle.dom_store.specs.Exactly as tree_limits
use Rattle.dom_store.specs.Exactly.{CanStand}
use Rattle.dom_store.proofs.RemoveLaws.{any_more}
use Rattle.dom_store.proofs.RestoreLaws.{can_gone, none_found, numbers_of}
use Rattle.tree_laws.proofs.Keeping.{children_of}
use Rattle.box_limits.proofs.Among.{IsIn}
use Rattle.box_limits.proofs.Levels.{child_lives}
use Rattle.edits.specs.Exact.{exact_tree, put_rules, take_rules, exactly}
use Rattle.edit_scope.specs.Exactly.{ExactUnscopedPlaces, ExactUntouchedPlaces, IsDocument, exact_tree_scope}
use Rattle.edit_scope.specs.Scope.{content_scope}
use Rattle.edit_scope.proofs.EditLaws.{brought_inside, edit_taken}
use Rattle.edit_scope.proofs.EditedPages.{all_scoped, all_touched, was_box, was_tree}
use Rattle.edit_scope.proofs.PartLaws.{in_content, other_children, rest_kept, same_what}
use Rattle.edit_scope.proofs.Taking.{IsKept, IsTaken, Source, what_at}

-- a node that is left is what it was, but for its children
stays_by : (out here : Bool) (change : List ℕ → List ℕ) (o : Option Entry) (entry : Entry) → (if out then None else (if here then option_map (with_children change) o else o)) ≡ Some entry
    → (old : Entry) × (o ≡ Some old) × (old.parent ≡ entry.parent) × (old.what ≡ entry.what)
stays_by true here change o entry is = absurd (none-some entry is)
stays_by false true change None entry is = absurd (none-some entry is)
stays_by false true change (Some old) entry is =
    let same = same_Some (with_children change old) entry is in
    (old, refl, ap (λ (e : Entry). e.parent) same, ap (λ (e : Entry). e.what) same)
stays_by false false change o entry is = (entry, is, refl, refl)

-- ---- children are taken

take_taken : (rules : List Ruling) (state : State) (parent : ℕ) (numbers : List ℕ) → IsDocument state → IsDocument (taken state parent numbers)
    → IsTaken rules state (taken state parent numbers) (content_scope rules (taken state parent numbers) (parent ∷ []) [])
take_taken rules state parent numbers before later = record {
  before = before;
  later = later;
  source = λ number entry here.
      inr (inr (inr (stays_by (list_any (nat_eq number) (flat_map (inclusive_descendants state) numbers)) (nat_eq number parent) (without_each numbers) (state.node_at number) entry here)));
  keeps = λ element upper is outside lived alive apart.
      rest_kept state (flat_map (inclusive_descendants state) numbers) (Some parent) (without_each numbers) later.whole upper alive
      (λ there. apart (in_content rules state (taken state parent numbers) (parent ∷ []) [] upper there));
}

-- ---- nodes are restored

module _ (state : State) (parent : ℕ) where
  -- none of these lived but the parent
  abbrev AreOut : (standing : List ℕ) → Type 0
  AreOut standing = (number : ℕ) → list_any (nat_eq number) standing ≡ true → (number ≡ parent) ⊎ (state.node_at number ≡ None)

  first_out : AreOut (parent ∷ [])
  first_out number is = elim (eqb_tells number parent) [
    | inl (here, same) ↦ inl same
    | inr (there, apart) ↦ absurd (false≢true (rw there at is))
  ]

  more_out : (standing : List ℕ) (one : ℕ) → AreOut standing → state.node_at one ≡ None → AreOut (standing ++ one ∷ [])
  more_out standing one out gone number is = elim (eqb_tells number one) [
    | inl (here, same) ↦ inr (ap state.node_at same ∙ gone)
    | inr (there, apart) ↦
        let either : (nat_eq number one || list_any (nat_eq number) standing) ≡ true = sym (any_more (nat_eq number) standing one) ∙ is in
        out number (rw there at either)
  ]

  under_first : (first : NumberedOf) (nodes : List NumberedOf) → first.parent ≡ parent → IsIn first.number (numbers_under parent (first ∷ nodes))
  under_first first nodes is = rw (eq-eqb parent first.parent (sym is)) (inl refl)

  under_later : (first : NumberedOf) (nodes : List NumberedOf) (number : ℕ) → IsIn number (numbers_under parent nodes) → IsIn number (numbers_under parent (first ∷ nodes))
  under_later first nodes number there = elim (eqb_tells parent first.parent) [
    | inl (here, same) ↦ rw here (inr there)
    | inr (not_here, apart) ↦ rw not_here there
  ]

  -- a node that stands again is one of those in the parent, or came with its own
  comes : (standing : List ℕ) (nodes : List NumberedOf) → CanStand state standing nodes → AreOut standing → (number : ℕ) (node : NumberedOf) → find (λ one. nat_eq number one.number) nodes ≡ Some node
      → IsIn number (numbers_under parent nodes) ⊎ (state.node_at node.parent ≡ None)
  unfolding CanStand
  comes standing [] can out number node is = absurd (none-some node is)
  comes standing (first ∷ nodes) (behind, later) out number node is = elim (eqb_tells number first.number) [
    | inl (here, same) ↦
        let one : first ≡ node = same_Some first node (rw here at is) in
        elim (out first.parent behind.parent) [
          | inl top ↦ inl (subst (λ (n : ℕ). IsIn n (numbers_under parent (first ∷ nodes))) (sym same) (under_first first nodes top))
          | inr gone ↦ inr (subst (λ (n : NumberedOf). state.node_at n.parent ≡ None) one gone)
        ]
    | inr (there, apart) ↦ elim (comes (standing ++ first.number ∷ []) nodes later (more_out standing first.number out behind.gone) number node (rw there at is)) [
      | inl below ↦ inl (under_later first nodes number below)
      | inr gone ↦ inr gone
    ]
  ]

module _ (rules : List Ruling) (state : State) (parent index : ℕ) (nodes : List NumberedOf) (can : CanStand state (parent ∷ []) nodes) (before : IsDocument state) (later : IsDocument (restored state parent index nodes)) where
  abbrev next : State
  next = restored state parent index nodes

  abbrev change : List ℕ → List ℕ
  change = with_put index (numbers_under parent nodes)

  abbrev found_at : (number : ℕ) → Option NumberedOf
  found_at number = find (λ node. nat_eq number node.number) nodes

  abbrev entry_by : (number : ℕ) → Option NumberedOf → Option Entry
  entry_by number o = option_or (option_map (entry_among nodes) o) ((changed state parent (with_children change)).node_at number)

  abbrev scoped : List ℕ
  scoped = content_scope rules next (parent ∷ []) (numbers_under parent nodes)

  node_from : (number : ℕ) (entry : Entry) → next.node_at number ≡ Some entry → (o : Option NumberedOf) → found_at number ≡ o → Source state next scoped number entry
  node_from number entry here None is = inr (inr (inr (stays_by false (nat_eq number parent) change (state.node_at number) entry (sym (ap (entry_by number) is) ∙ here))))
  node_from number entry here (Some node) is = elim (comes state parent (parent ∷ []) nodes can (first_out state parent) number node is) [
    | inl top ↦ inl (λ other element below. brought_inside rules state next (parent ∷ []) (numbers_under parent nodes) number other top element below)
    | inr gone ↦
        let same = same_Some (entry_among nodes node) entry (sym (ap (entry_by number) is) ∙ here) in
        inr (inl (node.parent, sym (ap (λ (e : Entry). e.parent) same), gone))
  ]

  -- none of those that lived is among them
  not_among : (number : ℕ) → lives state number ≡ true → found_at number ≡ None
  not_among number lived = by (list_any (nat_eq number) (numbers_of nodes)) refl
    where
      by : (b : Bool) → list_any (nat_eq number) (numbers_of nodes) ≡ b → found_at number ≡ None
      by true is = absurd (false≢true (sym (ap (λ (o : Option Entry). is_some o) (can_gone state (parent ∷ []) nodes can number is)) ∙ lived))
      by false is = none_found number nodes is

  others_keep : (upper : ℕ) → lives state upper ≡ true → (IsIn upper (parent ∷ []) → ⊥) → IsKept state next upper
  others_keep upper lived none = record { children = children; whats = whats }
    where
      children : children_at next upper ≡ children_at state upper
      children = ap (λ (o : Option NumberedOf). children_of (entry_by upper o)) (not_among upper lived) ∙ other_children state change (Some parent) upper none

      whats : (child : ℕ) → IsIn child (children_at next upper) → what_at next child ≡ what_at state child
      whats child there =
          let (entry, here, stands) = child_lives state before.whole upper child (subst (IsIn child) children there) in
          ap (λ (o : Option NumberedOf). option_map (λ (e : Entry). e.what) (entry_by child o)) (not_among child (ap (λ (o : Option Entry). is_some o) here))
          ∙ same_what state change (Some parent) child

  restore_taken : IsTaken rules state next scoped
  restore_taken = record {
    before = before;
    later = later;
    source = λ number entry here. node_from number entry here (found_at number) refl;
    keeps = λ element upper is outside lived alive apart. others_keep upper lived (λ there. apart (in_content rules state next (parent ∷ []) (numbers_under parent nodes) upper there));
  }

-- ---- each exact edit

exact_taken : (rules : List Ruling) (state : State) (edit : ExactEditOf) → tree_limits.CanBeDone state edit → IsDocument state → IsDocument (tree.exactly state edit) → IsTaken rules state (tree.exactly state edit) (exact_tree_scope rules state edit)
exact_taken rules state (exact_text number letters) can before later = edit_taken rules state (set_text number letters) can before later
exact_taken rules state (exact_style number own) can before later = edit_taken rules state (set_style number own) can before later
exact_taken rules state (exact_class number words) can before later = edit_taken rules state (set_class number words) can before later
exact_taken rules state (exact_move number parent index) can before later = edit_taken rules state (move_to number parent index) can before later
exact_taken rules state (take_nodes parent numbers) can before later = take_taken rules state parent numbers before later
exact_taken rules state (restore parent index nodes) can before later = restore_taken rules state parent index nodes can.1 before later

pub exact_unscoped_places : ExactUnscopedPlaces
exact_unscoped_places state (exact_tree edit) place takes stood outside =
    was_box state.rules state.tree (tree.exactly state.tree edit) (exact_tree_scope state.rules state.tree edit) (exact_taken state.rules state.tree edit takes.can takes.before takes.later) place stood outside
exact_unscoped_places state (put_rules index rules) place takes stood outside =
    all_scoped (exactly state (put_rules index rules)).rules state.tree place takes.before.rooted takes.before.whole takes.before.reached stood outside
exact_unscoped_places state (take_rules index count) place takes stood outside =
    all_scoped (exactly state (take_rules index count)).rules state.tree place takes.before.rooted takes.before.whole takes.before.reached stood outside

pub exact_untouched_places : ExactUntouchedPlaces
exact_untouched_places state (exact_tree edit) place takes stood outside =
    was_tree state.rules state.tree (tree.exactly state.tree edit) (exact_tree_scope state.rules state.tree edit) (exact_taken state.rules state.tree edit takes.can takes.before takes.later) place stood outside
exact_untouched_places state (put_rules index rules) place takes stood outside =
    all_touched (exactly state (put_rules index rules)).rules state.tree place takes.before.rooted takes.before.whole takes.before.reached stood outside
exact_untouched_places state (take_rules index count) place takes stood outside =
    all_touched (exactly state (take_rules index count)).rules state.tree place takes.before.rooted takes.before.whole takes.before.reached stood outside
