-- Documents of which a node was moved.
use Rattle.std.proofs.Common.{◌≡◌, ◌≢◌, ◌∙◌, ℕ, ◌<◌, ◌≤◌, Bool, true, false, List, [], ◌∷◌, length, length-drop, take, drop, refl, ap, sym, arith, Option, Some, None, IfSome, option_map, filter, inl, inr}
use Rattle.std.specs.Prelude.{nat_eq, not}
use Rattle.std.proofs.lemmas.Bool.Decides.{eqb_tells}
use Rattle.std.proofs.lemmas.List.{length-take}
use Rattle.dom_store.specs.State.{Entry, State}
use Rattle.dom_store.specs.Standing.{children_at, parent_at}
use Rattle.dom_store.specs.Edits.{changed, changed_if, moved, with_children, with_moved, with_parent, with_put, without}
use Rattle.dom_store.specs.Taking.{StoodOf, moved_from, parent_left, standing_in, taken_back, turned, unplaced, without_run}
use Rattle.dom_store.proofs.BackLaws.{changed_back, children_of_entry, parent_stays, parent_stays_if, taken_out_at}
use Rattle.dom_store.proofs.RemoveLaws.{changed_alike}
use Rattle.dom_store.proofs.SameLaws.{are_equal}
use Rattle.dom_store.proofs.TurnLaws.{left_length, turned_back}

kept_twice : (test : ℕ → Bool) (number : ℕ) (numbers : List ℕ) (kept : Bool) → test number ≡ kept → filter test (filter test numbers) ≡ filter test numbers → filter test (filter test (number ∷ numbers)) ≡ filter test (number ∷ numbers)
kept_twice test number numbers true is same = rw is (rw is (ap (λ (l : List ℕ). number ∷ l) same))
kept_twice test number numbers false is same = rw is same

pub filter_twice : (test : ℕ → Bool) (numbers : List ℕ) → filter test (filter test numbers) ≡ filter test numbers
filter_twice test [] = refl
filter_twice test (number ∷ numbers) = kept_twice test number numbers (test number) refl (filter_twice test numbers)

-- ---- where a number stands

-- a number that stands at a place
pub stands_within : (number : ℕ) (numbers : List ℕ) (place : ℕ) → take 1 (drop place numbers) ≡ number ∷ [] → place < length numbers
stands_within number numbers place is = omega (arith, ap length is, length-take 1 (drop place numbers), length-drop place numbers)

-- ---- a node comes among a parent's children

module _ (old : State) (number parent index : ℕ) (within : index ≤ length (without number (children_at old parent))) where
  -- where it stood nowhere among them
  pub came : without number (children_at old parent) ≡ children_at old parent → changed old parent (with_children (with_put index (number ∷ []))) ≡ changed old parent (with_children (with_moved number index))
  came nowhere = changed_alike old parent (with_put index (number ∷ [])) (with_moved number index) (ap (with_put index (number ∷ [])) (sym nowhere))

  pub came_back : without number (children_at old parent) ≡ children_at old parent → changed (changed old parent (with_children (with_put index (number ∷ [])))) parent (with_children (without_run index 1)) ≡ old
  came_back nowhere = taken_out_at old parent index (number ∷ []) (omega (arith, within, ap length nowhere))

  module _ (place : ℕ) (there : take 1 (drop place (children_at old parent)) ≡ number ∷ []) (others : without number (children_at old parent) ≡ without_run place 1 (children_at old parent)) where
    -- where it stood at one place
    pub turned_there : changed old parent (with_children (turned place index)) ≡ changed old parent (with_children (with_moved number index))
    turned_there =
        changed_alike old parent (turned place index) (with_moved number index)
        (ap (λ (l : List ℕ). with_put index l (without_run place 1 (children_at old parent))) there ∙ ap (with_put index (number ∷ [])) (sym others))

    pub turned_here : changed (changed old parent (with_children (turned place index))) parent (with_children (turned index place)) ≡ old
    turned_here =
        let stood = stands_within number (children_at old parent) place there in
        let fits : index < length (children_at old parent) = omega (arith, within, ap length others, left_length (children_at old parent) place stood) in
        changed_back old parent (with_children (turned place index)) (with_children (turned index place)) (λ entry at.
        let same = children_of_entry old parent entry at in
        ap (λ (l : List ℕ). with_children (λ before. l) entry) (turned_back entry.children place index (omega (arith, stood, ap length same)) (omega (arith, fits, ap length same))))

-- ---- the parent that it left

-- changes of two nodes, in either order
in_either_order : (state : State) (one other : ℕ) (change also : Entry → Entry) → one ≢ other → changed (changed state one change) other also ≡ changed (changed state other also) one change
in_either_order state one other change also apart = are_equal _ _ (record {
  nodes = λ number. elim (eqb_tells number other) [
    | inl (here, is) ↦ elim (eqb_tells number one) [
      | inl (there, same) ↦ absurd (apart (sym same ∙ is))
      | inr (there, else) ↦ rw (here, there) refl
    ]
    | inr (here, else) ↦ rw here refl
  ];
  next = refl;
})

module _ (old : State) (number parent index : ℕ) where
  of_entry : (o : Option Entry) → option_map (with_children (with_moved number index)) (option_map (with_children (without number)) o) ≡ option_map (with_children (with_moved number index)) o
  of_entry None = refl
  of_entry (Some entry) = ap (λ (l : List ℕ). Some (with_children (λ before. with_put index (number ∷ []) l) entry)) (filter_twice (λ child. not (nat_eq child number)) entry.children)

  -- it need not leave the parent in which it stays
  stays : changed old parent (with_children (with_moved number index)) ≡ changed (changed old parent (with_children (without number))) parent (with_children (with_moved number index))
  stays = are_equal _ _ (record {
    nodes = λ other. elim (eqb_tells other parent) [
      | inl (here, same) ↦ rw here (sym (of_entry (old.node_at other)))
      | inr (there, apart) ↦ rw there refl
    ];
    next = refl;
  })

  -- another parent's children are what they were
  others_stay : (one : ℕ) → one ≢ parent → children_at (changed old parent (with_children (with_moved number index))) one ≡ children_at old one
  others_stay one apart = elim (eqb_tells one parent) [
    | inl (here, same) ↦ absurd (apart same)
    | inr (there, else) ↦ rw there refl
  ]

  abbrev entered : State
  entered = changed old parent (with_children (with_moved number index))

  -- it comes among the children of the one, and leaves those of the other
  left_and_entered : (from : Option ℕ) (others : List ℕ) → IfSome (parent_left from parent) (λ p. others ≡ without number (children_at old p))
      → changed_if entered (parent_left from parent) (with_children (λ before. others)) ≡ changed (changed_if old from (with_children (without number))) parent (with_children (with_moved number index))
  left_and_entered None others are = refl
  left_and_entered (Some one) others are = elim (eqb_tells one parent) [
    | inl (here, same) ↦ rw here (stays ∙ ap (λ (p : ℕ). changed (changed old p (with_children (without number))) parent (with_children (with_moved number index))) (sym same))
    | inr (there, apart) ↦
        let is : others ≡ without number (children_at old one) = rw there at are in
        rw there (changed_alike entered one (λ before. others) (without number) (is ∙ ap (without number) (sym (others_stay one apart)))
        ∙ in_either_order old parent one (with_children (with_moved number index)) (with_children (without number)) (λ same. apart (sym same)))
  ]

  pub moved_there : (others : List ℕ) → IfSome (parent_left (parent_at old number) parent) (λ p. others ≡ without number (children_at old p))
      → changed (changed_if entered (parent_left (parent_at old number) parent) (with_children (λ before. others))) number (with_parent parent) ≡ moved old number parent index
  moved_there others are = ap (λ (s : State). changed s number (with_parent parent)) (left_and_entered (parent_at old number) others are)

  -- a node that was moved stands again where it stood
  pub moved_back : (out new : State) (from : Option ℕ) (others left : List ℕ) (stood : StoodOf) → from ≡ parent_at old number
      → changed entered parent (with_children (unplaced stood index)) ≡ old
      → out ≡ changed_if entered (parent_left from parent) (with_children (λ before. others)) → changed_if out (parent_left from parent) (with_children (λ now. left)) ≡ entered
      → changed new number (standing_in (parent_at out number)) ≡ out
      → taken_back (moved_from number from left parent index stood) new ≡ old
  moved_back out new from others left stood is back went again stands =
      let from_there : parent_at out number ≡ from =
      ap (λ (s : State). parent_at s number) went ∙ (parent_stays_if (λ before. others) entered (parent_left from parent) number
      ∙ (parent_stays (with_moved number index) old parent number ∙ sym is)) in
      let left_again : State → State = λ s. changed_if s (parent_left from parent) (with_children (λ now. left)) in
      ap (λ (s : State). changed s parent (with_children (unplaced stood index)))
      (ap left_again (ap (λ (o : Option ℕ). changed new number (standing_in o)) (sym from_there) ∙ stands) ∙ again)
      ∙ back
