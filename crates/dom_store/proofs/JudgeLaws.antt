-- Reasons to refuse an edit, in order.
use Rattle.std.proofs.Common.{◌≡◌, ◌∙◌, ℕ, ◌+◌, ◌<◌, ◌≤◌, ◌^◌, Bool, true, false, length, List, [], ◌∷◌, ◌++◌, refl, sym, arith, Option, Some, None, Result, Ok, Err, inl, inr}
use Rattle.std.specs.Prelude.{not, ◌&&◌, nat_lt}
use Rattle.std.specs.Result.{IsErrAnd}
use Rattle.std.proofs.lemmas.Bool.Decides.{nat_tests}
use Rattle.std.proofs.lemmas.Bool.{le-ltb}
use Rattle.dom_store.specs.declared.error.EditError.TheVariants.{BadIndex, NoNode, TooManyNodes}
use Rattle.dom_store.specs.declared.error.EditError.{EditError}
use Rattle.dom_store.specs.Refusals.{bad_index, first_of, in_html, no_node, not_holder, refusal, refused_if, room_left, too_many}
use Rattle.dom_store.specs.Opening.{greatest_count}
use Rattle.dom_store.specs.Standing.{children_at, lives}
use Rattle.dom_store.specs.State.{State}
use Rattle.dom_store.specs.Edits.{insert}
use Rattle.html_read.specs.Values.{Node}
use Rattle.css_types.specs.declared.value.Declaration.{Declaration}
use Rattle.dom_store.specs.Edited.{Judges}

-- an earlier reason
pub refused_before : (before after : List (Option EditError)) (error : EditError) → Some error ≡ first_of before → first_of (before ++ after) ≡ Some error
refused_before [] after error is = absurd cc
refused_before (None ∷ before) after error is = refused_before before after error is
refused_before (Some other ∷ before) after error is = sym is

-- no earlier reason
pub not_before : (before after : List (Option EditError)) → None ≡ first_of before → first_of (before ++ after) ≡ first_of after
not_before [] after is = refl
not_before (None ∷ before) after is = not_before before after is
not_before (Some other ∷ before) after is = absurd cc

-- an answer with this refusal
pub judged : {X : Type 0} (reason : Option EditError) (error : EditError) (answer : Result X EditError) → IsErrAnd answer (λ e. e ≡ error) → Judges {X = X} reason (Err error) → Judges reason answer
judged reason error (Ok value) is judges = absurd is
judged reason error (Err e) is (inl memory) = inl (is ∙ memory)
judged reason error (Err e) is (inr some) = inr (rw is some)

pub good_first : (index : ℕ) (children : List ℕ) (after : List (Option EditError)) → index ≤ length children → first_of (bad_index index children ∷ after) ≡ first_of after
good_first index children after within = rw (le-ltb (length children) index within) refl

pub alone : (reason : Option EditError) → first_of (reason ∷ []) ≡ reason
alone None = refl
alone (Some error) = refl

-- a reason before others
pub reason_first : (reason : Option EditError) (after : List (Option EditError)) (error : EditError) → Some error ≡ reason → first_of (reason ∷ after) ≡ Some error
reason_first None after error is = absurd cc
reason_first (Some other) after error is = sym is

pub reason_none : (reason : Option EditError) (after : List (Option EditError)) → None ≡ reason → first_of (reason ∷ after) ≡ first_of after
reason_none None after is = refl
reason_none (Some other) after is = absurd cc

-- where there is no reason, the first is none, and the others are none
pub first_none : (reason : Option EditError) (after : List (Option EditError)) → first_of (reason ∷ after) ≡ None → (reason ≡ None) × (first_of after ≡ None)
first_none None after is = (refl, is)
first_none (Some error) after is = absurd cc

pub not_refused : (b : Bool) (error : EditError) → refused_if b error ≡ None → b ≡ false
not_refused true error is = absurd cc
not_refused false error is = refl

lives_all : (b : Bool) → not (b && true) ≡ false → b ≡ true
lives_all true is = refl
lives_all false is = absurd cc

at_most : (low high : ℕ) → nat_lt high low ≡ false → low ≤ high
at_most low high is = grind (arith, nat_tests, is)

-- nodes may be inserted: the parent lives, and there is room
pub record Enters (state : State) (parent index count : ℕ) : Type 0 where
  pub lives : lives state parent ≡ true
  pub within : index ≤ length (children_at state parent)
  pub room : count ≤ room_left state

pub enters : (state : State) (parent index : ℕ) (nodes : List Node) (own : List (List Declaration)) → refusal state (insert parent index nodes own) ≡ None → Enters state parent index (length nodes)
enters state parent index nodes own none =
    let (here, one) = first_none (no_node state (parent ∷ [])) _ none in
    let (root, two) = first_none (in_html parent) _ one in
    let (holds, three) = first_none (not_holder state parent) _ two in
    let (at, four) = first_none (bad_index index (children_at state parent)) _ three in
    let (many, five) = first_none (too_many state (length nodes)) _ four in
    record {
      lives = lives_all (lives state parent) (not_refused _ NoNode here);
      within = at_most index (length (children_at state parent)) (not_refused _ BadIndex at);
      room = at_most (length nodes) (room_left state) (not_refused _ (TooManyNodes (state.next + room_left state)) many);
    }

-- so many nodes and numbers are within the limits
pub fits : (state : State) (count : ℕ) → count ≤ room_left state → state.next < 2 ^ 32 → (count ≤ greatest_count) × (state.next + count < 2 ^ 32)
fits state count room low = (omega (arith, room), omega (arith, room, low))

-- where the count of nodes is no reason, they have room
pub has_room : (state : State) (count : ℕ) → None ≡ too_many state count → count ≤ room_left state
has_room state count none = at_most count (room_left state) (not_refused _ (TooManyNodes (state.next + room_left state)) (sym none))
