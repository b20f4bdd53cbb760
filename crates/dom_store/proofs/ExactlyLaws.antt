-- Exact edits that are done.
use Rattle.std.proofs.Common.{◌≡◌, ◌∙◌, ℕ, ◌+◌, ◌<◌, Bool, true, false, true≢false, if◌then◌else◌, List, [], ◌∷◌, ◌++◌, filter, get_or, length, take, refl, ap, sym, Option, None}
use Rattle.std.specs.Prelude.{Result, Ok, Err, IsErr, nat_eq, not}
use Rattle.std.specs.List.{list_any}
use Rattle.std.proofs.lemmas.List.{take_more}
use Rattle.std.proofs.lemmas.List.Elements.{filter-append}
use Rattle.dom_store.specs.declared.edit.Change.{Change}
use Rattle.dom_store.specs.declared.error.EditError.{EditError}
use Rattle.dom_store.specs.State.{State}
use Rattle.dom_store.specs.Edited.{Applies, accepted, refused, unless, Outcome}
use Rattle.dom_store.specs.Edits.{EditOf, after, concerned, without}
use Rattle.dom_store.specs.Refusals.{refusal}
use Rattle.dom_store.specs.Exact.{ExactEditOf, concerned_exactly, exactly, without_each}
use Rattle.dom_store.specs.Exactly.{AppliesExactly, IsUnrefused}
use Rattle.dom_store.proofs.RemoveLaws.{any_more}

abbrev state_in : Outcome → State → State
state_in (accepted next elements) other = next
state_in (refused error) other = other

abbrev elements_in : Outcome → List ℕ
elements_in (accepted next elements) = elements
elements_in (refused error) = []

abbrev elements_of : {E : Type 0} → Result Change E → List ℕ
elements_of (Ok change) = change.elements.items
elements_of (Err error) = []

-- an edit that nothing refuses is its namesake among the exact ones
pub done_exactly : {E : Type 0} (old new : State) (edit : EditOf) (exact : ExactEditOf) (answer : Result Change EditError) (result : Result Change E) → exactly old exact ≡ after old edit → concerned_exactly old exact ≡ concerned old edit
    → refusal old edit ≡ None → Applies old new edit answer → IsUnrefused answer result → AppliesExactly old new exact result
done_exactly {E = E} old new edit exact (Ok change) (Ok other) leads concerns none applies same =
    let is : accepted (after old edit) (concerned old edit) ≡ accepted new change.elements.items = ap (λ (o : Option EditError). unless o (after old edit) (concerned old edit)) (sym none) ∙ applies in
    let its : other.elements.items ≡ change.elements.items = ap (λ (r : Result Change E). elements_of r) same in
    (sym (ap (λ (o : Outcome). state_in o new) is) ∙ sym leads, its ∙ (sym (ap elements_in is) ∙ sym concerns))
done_exactly old new edit exact (Ok change) (Err error) leads concerns none applies same = absurd cc
done_exactly old new edit exact (Err reason) (Ok other) leads concerns none applies same = absurd (true≢false (sym same))
done_exactly old new edit exact (Err reason) (Err error) leads concerns none applies same = applies.1

-- an answer that memory ran out
pub not_done : {E : Type 0} (old new : State) (exact : ExactEditOf) (result : Result Change E) → IsErr result → new ≡ old → AppliesExactly old new exact result
not_done old new exact (Ok change) is same = absurd (true≢false (sym is))
not_done old new exact (Err error) is same = same

-- one child more is kept, or not
pub kept_more : (numbers children : List ℕ) (at : ℕ) (b : Bool) → at < length children → list_any (nat_eq (get_or children at 0)) numbers ≡ b
    → without_each numbers (take (at + 1) children) ≡ without_each numbers (take at children) ++ (if b then [] else get_or children at 0 ∷ [])
kept_more numbers children at b within is =
    let child = get_or children at 0 in
    let test = λ (other : ℕ). not (list_any (nat_eq other) numbers) in
    ap (filter test) (take_more children at 0 within) ∙ (filter-append test (take at children) (child ∷ []) ∙ ap (λ (l : List ℕ). without_each numbers (take at children) ++ l) (alone child b is))
  where
    alone : (child : ℕ) (b : Bool) → list_any (nat_eq child) numbers ≡ b → without_each numbers (child ∷ []) ≡ (if b then [] else child ∷ [])
    alone child true is = rw is refl
    alone child false is = rw is refl

-- none is taken out
pub none_dropped : (children : List ℕ) → children ≡ without_each [] children
none_dropped [] = refl
none_dropped (child ∷ children) = ap (λ (l : List ℕ). child ∷ l) (none_dropped children)

-- one more is taken out of those that have this one first, where it is taken out of the others
dropped_first : (numbers : List ℕ) (number child : ℕ) (children : List ℕ) (a b : Bool) → list_any (nat_eq child) numbers ≡ a → nat_eq child number ≡ b
    → without number (without_each numbers children) ≡ without_each (numbers ++ number ∷ []) children
    → without number (without_each numbers (child ∷ children)) ≡ without_each (numbers ++ number ∷ []) (child ∷ children)
dropped_first numbers number child children true true among same later = rw (any_more (nat_eq child) numbers number, among, same) later
dropped_first numbers number child children true false among same later = rw (any_more (nat_eq child) numbers number, among, same) later
dropped_first numbers number child children false true among same later = rw (any_more (nat_eq child) numbers number, among, same) later
dropped_first numbers number child children false false among same later = rw (any_more (nat_eq child) numbers number, among, same) (ap (λ (l : List ℕ). child ∷ l) later)

-- one more is taken out
pub dropped_more : (numbers : List ℕ) (number : ℕ) (children : List ℕ) → without number (without_each numbers children) ≡ without_each (numbers ++ number ∷ []) children
dropped_more numbers number [] = refl
dropped_more numbers number (child ∷ children) = dropped_first numbers number child children _ _ refl refl (dropped_more numbers number children)
