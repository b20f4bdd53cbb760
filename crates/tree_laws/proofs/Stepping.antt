-- Steps of edits that change one node or move it.
use Rattle.std.proofs.Common.{◌≡◌, ◌≢◌, ◌∙◌, ℕ, zero, suc, ◌+◌, ◌≤◌, Bool, true, false, List, [], ◌∷◌, ◌++◌, take, drop, refl, ap, sym, subst, arith, Option, Some, None, option_map, if◌then◌else◌, inl, inr}
use Rattle.std.specs.Prelude.{nat_eq, not, option_to_list, unwrap_or}
use Rattle.std.specs.List.{Contains}
use Rattle.std.proofs.lemmas.Bool.{eq-eqb, eqb-false, eqb-true, ne_eqb}
use Rattle.std.proofs.lemmas.Bool.Decides.{eqb_tells}
use Rattle.std.proofs.lemmas.List.{append-nil, take-append-drop}
use Rattle.std.proofs.lemmas.List.Elements.{filter-append}
use Rattle.dom_store.specs.State.{What, Entry, State, element, text}
use Rattle.dom_store.specs.Building.{with_next}
use Rattle.dom_store.specs.Standing.{children_at, lives, parent_at}
use Rattle.dom_store.specs.Edits.{set_text, set_style, set_class, after, changed, changed_if, moved, with_children, with_classes, with_moved, with_own, with_parent, with_put, with_what, without}
use Rattle.dom_store.specs.Refusals.{is_element, is_of, no_node, not_text, refusal}
use Rattle.dom_store.specs.declared.error.EditError.TheVariants.{NotText}
use Rattle.dom_store.specs.Steps.{classes_of, letters_of, own_of, place_in, told_of}
use Rattle.dom_store.proofs.BackLaws.{changed_back}
use Rattle.dom_store.proofs.JudgeLaws.{first_none, not_refused}
use Rattle.dom_store.proofs.MoveLaws.{filter_twice}
use Rattle.dom_store.proofs.SameLaws.{are_equal}
use Rattle.tree_laws.specs.Reached.{IsAtLevel, IsReached}
use Rattle.tree_laws.specs.Wholeness.{IsWhole, times}
use Rattle.tree_laws.proofs.Keeping.{children_of, moved_parent, parent_of}
use Rattle.tree_laws.proofs.Levels.{parent_of_child, times_contained}
use Rattle.tree_laws.proofs.Times.{hit, hit_apart, hit_same, none_without}

-- ---- what a node is

module _ (state : State) (number : ℕ) (change back : What → What) (same : (entry : Entry) → state.node_at number ≡ Some entry → back (change entry.what) ≡ entry.what) where
  what_back : changed (changed state number (with_what change)) number (with_what back) ≡ state
  what_back = changed_back state number (with_what change) (with_what back) (λ entry at. ap (λ (w : What). record entry { what = w }) (same entry at))

text_stays : (what : What) → is_element what ≡ false → text (letters_of what) ≡ what
text_stays (text letters) is = refl
text_stays (element tag id classes dir own) is = absurd cc

own_stays : (own : List _) (what : What) → with_own (own_of what) (with_own own what) ≡ what
own_stays own (text letters) = refl
own_stays own (element tag id classes dir before) = refl

classes_stay : (words : List (List ℕ)) (what : What) → with_classes (classes_of what) (with_classes words what) ≡ what
classes_stay words (text letters) = refl
classes_stay words (element tag id classes dir own) = refl

pub text_back : (state : State) (number : ℕ) (letters : List ℕ) → refusal state (set_text number letters) ≡ None
    → after (after state (set_text number letters)) (set_text number (told_of letters_of state number)) ≡ state
text_back state number letters unrefused =
    let two = (first_none (no_node state (number ∷ [])) _ unrefused).1 in
    let kind : is_of is_element state number ≡ false = not_refused (is_of is_element state number) NotText (first_none (not_text state number) [] two).0 in
    what_back state number (λ what. text letters) (λ what. text (told_of letters_of state number)) (λ entry at.
    let told : told_of letters_of state number ≡ letters_of entry.what = rw at refl in
    let is : is_element entry.what ≡ false = sym (ap (λ (o : Option Entry). unwrap_or (option_map (λ entry. is_element entry.what) o) false) at) ∙ kind in
    ap text told ∙ text_stays entry.what is)

pub style_back : (state : State) (number : ℕ) (own : List _) → after (after state (set_style number own)) (set_style number (told_of own_of state number)) ≡ state
style_back state number own =
    what_back state number (with_own own) (with_own (told_of own_of state number)) (λ entry at.
    let told : told_of own_of state number ≡ own_of entry.what = rw at refl in
    ap (λ (l : List _). with_own l (with_own own entry.what)) told ∙ own_stays own entry.what)

pub class_back : (state : State) (number : ℕ) (words : List (List ℕ)) → after (after state (set_class number words)) (set_class number (told_of classes_of state number)) ≡ state
class_back state number words =
    what_back state number (with_classes words) (with_classes (told_of classes_of state number)) (λ entry at.
    let told : told_of classes_of state number ≡ classes_of entry.what = rw at refl in
    ap (λ (l : List (List ℕ)). with_classes l (with_classes words entry.what)) told ∙ classes_stay words entry.what)

-- ---- a child that leaves and comes again

kept_apart : (number other : ℕ) (others : List ℕ) → other ≢ number → without number (other ∷ others) ≡ other ∷ without number others
kept_apart number other others apart = rw (ne_eqb other number apart) refl

left_out : (number : ℕ) (others : List ℕ) → without number (number ∷ others) ≡ without number others
left_out number others = rw (eq-eqb number number refl) refl

-- a number that isn't there
pub without_none : (number : ℕ) (children : List ℕ) → times number children ≡ 0 → without number children ≡ children
without_none number [] none = refl
without_none number (other ∷ children) none = elim (eqb_tells other number) [
  | inl (here, same) ↦ absurd (omega (arith, none, subst (λ (n : ℕ). hit n other ≡ 1) same (hit_same other)))
  | inr (there, apart) ↦ kept_apart number other children apart ∙ ap (λ (l : List ℕ). other ∷ l) (without_none number children (omega (arith, none)))
]

first_place : (number other : ℕ) (others : List ℕ) → times number (other ∷ others) ≡ 1 → (times number others ≡ 1 → with_put (place_in number others) (number ∷ []) (without number others) ≡ others)
    → with_put (place_in number (other ∷ others)) (number ∷ []) (without number (other ∷ others)) ≡ other ∷ others
first_place number other others once more = elim (eqb_tells other number) [
  | inl (here, same) ↦
      let none : times number others ≡ 0 = omega (arith, once, subst (λ (n : ℕ). hit n other ≡ 1) same (hit_same other)) in
      rw here (ap (λ (l : List ℕ). number ∷ l) (without_none number others none) ∙ ap (λ (n : ℕ). n ∷ others) (sym same))
  | inr (there, apart) ↦
      let some : times number others ≡ 1 = omega (arith, once, hit_apart number other (λ same. apart (sym same))) in
      let onward : 1 + place_in number others ≡ suc (place_in number others) = omega arith in
      rw there (ap (λ (n : ℕ). with_put n (number ∷ []) (other ∷ without number others)) onward ∙ ap (λ (l : List ℕ). other ∷ l) (more some))
]

-- a number that is there once comes back to its place
pub put_again : (number : ℕ) (children : List ℕ) → times number children ≡ 1 → with_put (place_in number children) (number ∷ []) (without number children) ≡ children
put_again number [] once = absurd (omega (arith, once))
put_again number (other ∷ children) once = first_place number other children once (put_again number children)

-- what a number that was put leaves when it is taken out
pub out_again : (number index : ℕ) (children : List ℕ) → without number (with_moved number index children) ≡ without number children
out_again number index children =
    let others = without number children in
    let test = λ (child : ℕ). not (nat_eq child number) in
    filter-append test (take index others ++ number ∷ []) (drop index others)
    ∙ (ap (λ (l : List ℕ). l ++ without number (drop index others)) (filter-append test (take index others) (number ∷ []) ∙ ap (λ (l : List ℕ). without number (take index others) ++ l) (left_out number []))
    ∙ (ap (λ (l : List ℕ). l ++ without number (drop index others)) (append-nil (without number (take index others)))
    ∙ (sym (filter-append test (take index others) (drop index others)) ∙ (ap (without number) (take-append-drop index others) ∙ without_none number others (none_without number children)))))

-- ---- a node that lives and isn't `html` stands in its parent, once

pub stands_once : (state : State) → IsWhole state → (number parent : ℕ) → parent_at state number ≡ Some parent → Contains (children_at state parent) number → times number (children_at state parent) ≡ 1
stands_once state whole number parent is there =
    let inside : times number (children_at state parent) ≤ times parent (option_to_list (Some parent)) = subst (λ (o : Option ℕ). times number (children_at state parent) ≤ times parent (option_to_list o)) is (whole.inside parent number) in
    omega (arith, inside, hit_same parent, times_contained (children_at state parent) number there)

pub stands : (state : State) → IsWhole state → IsReached state → (number : ℕ) → lives state number ≡ true → number ≢ 0 → (parent : ℕ) × (parent_at state number ≡ Some parent) × (times number (children_at state parent) ≡ 1)
stands state whole reached number alive root =
    let (level, low, at) = reached.reached number alive in
    by_level level at
  where
    by_level : (level : ℕ) → IsAtLevel state level number → (parent : ℕ) × (parent_at state number ≡ Some parent) × (times number (children_at state parent) ≡ 1)
    by_level zero at = absurd (root at)
    by_level (suc level) (parent, at, there) =
        let is = parent_of_child state whole parent number there in
        (parent, is, stands_once state whole number parent is there)

-- it stands nowhere else
pub not_elsewhere : (state : State) → IsWhole state → (number parent other : ℕ) → parent_at state number ≡ Some parent → other ≢ parent → times number (children_at state other) ≡ 0
not_elsewhere state whole number parent other is apart =
    let inside : times number (children_at state other) ≤ times other (option_to_list (Some parent)) = subst (λ (o : Option ℕ). times number (children_at state other) ≤ times other (option_to_list o)) is (whole.inside other number) in
    omega (arith, inside, hit_apart other parent apart)

-- the next number is what it is
pub next_stays : (state : State) (next : ℕ) → next ≡ state.next → with_next next state ≡ state
next_stays state next is = ap (λ (n : ℕ). with_next n state) is

-- ---- a node that is moved, and moved back

abbrev step : Bool → (Entry → Entry) → Option Entry → Option Entry
step here change o = if here then option_map change o else o

module _ (number from parent index place : ℕ) where
  abbrev there_and_back : (node_here from_here parent_here : Bool) → Option Entry → Option Entry
  there_and_back node_here from_here parent_here o =
      step node_here (with_parent from) (step from_here (with_children (with_moved number place)) (step parent_here (with_children (without number))
      (step node_here (with_parent parent) (step parent_here (with_children (with_moved number index)) (step from_here (with_children (without number)) o)))))

  no_entry : (node_here from_here parent_here : Bool) → there_and_back node_here from_here parent_here None ≡ None
  no_entry true true true = refl
  no_entry true true false = refl
  no_entry true false true = refl
  no_entry true false false = refl
  no_entry false true true = refl
  no_entry false true false = refl
  no_entry false false true = refl
  no_entry false false false = refl

  within_one : (children : List ℕ) → with_put place (number ∷ []) (without number children) ≡ children → with_moved number place (without number (with_moved number index (without number children))) ≡ children
  within_one children again =
      let test = λ (child : ℕ). not (nat_eq child number) in
      ap (with_put place (number ∷ [])) (filter_twice test (with_moved number index (without number children)) ∙ (out_again number index (without number children) ∙ filter_twice test children)) ∙ again

  left_one : (children : List ℕ) → with_put place (number ∷ []) (without number children) ≡ children → with_moved number place (without number children) ≡ children
  left_one children again = ap (with_put place (number ∷ [])) (filter_twice (λ (child : ℕ). not (nat_eq child number)) children) ∙ again

  entered_one : (children : List ℕ) → without number children ≡ children → without number (with_moved number index children) ≡ children
  entered_one children none = out_again number index children ∙ none

  entry_back : (node_here from_here parent_here : Bool) (entry : Entry) → (node_here ≡ true → entry.parent ≡ Some from) → (from_here ≡ true → with_put place (number ∷ []) (without number entry.children) ≡ entry.children)
      → (from_here ≡ false → without number entry.children ≡ entry.children) → there_and_back node_here from_here parent_here (Some entry) ≡ Some entry
  entry_back true true true entry stood again none = λ k. Some (record { parent = sym (stood refl) k; children = within_one entry.children (again refl) k; what = entry.what })
  entry_back true true false entry stood again none = λ k. Some (record { parent = sym (stood refl) k; children = left_one entry.children (again refl) k; what = entry.what })
  entry_back true false true entry stood again none = λ k. Some (record { parent = sym (stood refl) k; children = entered_one entry.children (none refl) k; what = entry.what })
  entry_back true false false entry stood again none = λ k. Some (record { parent = sym (stood refl) k; children = entry.children; what = entry.what })
  entry_back false true true entry stood again none = ap (λ (l : List ℕ). Some (record entry { children = l })) (within_one entry.children (again refl))
  entry_back false true false entry stood again none = ap (λ (l : List ℕ). Some (record entry { children = l })) (left_one entry.children (again refl))
  entry_back false false true entry stood again none = ap (λ (l : List ℕ). Some (record entry { children = l })) (entered_one entry.children (none refl))
  entry_back false false false entry stood again none = refl

module _ (state : State) (whole : IsWhole state) (number parent index from : ℕ) (alive : lives state number ≡ true) (root : number ≢ 0) (is : parent_at state number ≡ Some from) (once : times number (children_at state from) ≡ 1) where
  abbrev back_place : ℕ
  back_place = place_in number (children_at state from)

  abbrev there : State
  there = changed (changed (changed state from (with_children (without number))) parent (with_children (with_moved number index))) number (with_parent parent)

  abbrev again_from : State
  again_from = changed (changed (changed there parent (with_children (without number))) from (with_children (with_moved number back_place))) number (with_parent from)

  node_back : (other : ℕ) (o : Option Entry) → state.node_at other ≡ o → there_and_back number from parent index back_place (nat_eq other number) (nat_eq other from) (nat_eq other parent) o ≡ o
  node_back other None at = no_entry number from parent index back_place (nat_eq other number) (nat_eq other from) (nat_eq other parent)
  node_back other (Some entry) at =
      let own : children_at state other ≡ entry.children = ap children_of at in
      entry_back number from parent index back_place (nat_eq other number) (nat_eq other from) (nat_eq other parent) entry
      (λ here. ap parent_of (sym at ∙ ap state.node_at (eqb-true other number here)) ∙ is)
      (λ here.
      let same : children_at state from ≡ entry.children = ap (children_at state) (sym (eqb-true other from here)) ∙ own in
      ap (λ (l : List ℕ). with_put (place_in number l) (number ∷ []) (without number entry.children)) same
      ∙ put_again number entry.children (ap (times number) (sym same) ∙ once))
      (λ apart. without_none number entry.children (ap (times number) (sym own) ∙ not_elsewhere state whole number from other is (eqb-false other from apart)))

  came_back : again_from ≡ state
  came_back = are_equal _ _ (record { nodes = λ other. node_back other (state.node_at other) refl; next = refl })

  there_is : moved state number parent index ≡ there
  there_is = ap (λ (o : Option ℕ). changed (changed (changed_if state o (with_children (without number))) parent (with_children (with_moved number index))) number (with_parent parent)) is

  pub moved_and_back : moved (moved state number parent index) number from back_place ≡ state
  moved_and_back =
      ap (λ (o : Option ℕ). changed (changed (changed_if (moved state number parent index) o (with_children (without number))) from (with_children (with_moved number back_place))) number (with_parent from))
      (moved_parent state whole number parent index alive root)
      ∙ (ap (λ (s : State). changed (changed (changed s parent (with_children (without number))) from (with_children (with_moved number back_place))) number (with_parent from)) there_is
      ∙ came_back)

  pub moved_next : (moved state number parent index).next ≡ state.next
  moved_next = ap (λ (s : State). s.next) there_is
