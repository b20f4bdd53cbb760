-- What holds where an edit isn't refused.
use Rattle.std.proofs.Common.{◌≡◌, ◌∙◌, ℕ, zero, suc, ◌+◌, ◌-◌, ◌<◌, ◌≤◌, Bool, true, false, List, [], ◌∷◌, length, get_or, refl, ap, sym, arith, Option, Some, None, if◌then◌else◌, inl, inr}
use Rattle.std.specs.Prelude.{nat_eq, nat_lt, not, ◌≢◌, ◌||◌, ◌&&◌, ⊤, is_some, fold, min, position}
use Rattle.std.specs.List.{Contains, list_all, list_any, position_or_len}
use Rattle.std.proofs.lemmas.Bool.{and_parts, cases_lt, eqb-false, ltb-false, not-false, or_parts, false≢true}
use Rattle.std.proofs.lemmas.Option.{none-some}
use Rattle.basic_laws.proofs.Lists.{contains_none}
use Rattle.dom_store.proofs.JudgeLaws.{not_refused}
use Rattle.basic_laws.proofs.Options.{none_unmapped}
use Rattle.html_read.specs.Values.{Node}
use Rattle.css_types.specs.declared.value.Declaration.{Declaration}
use Rattle.dom_store.specs.declared.error.EditError.{EditError}
use Rattle.dom_store.specs.declared.error.EditError.TheVariants.{Inside, NoNode, NotElement, NotText, IsRoot, TooDeep, TooManyNodes}
use Rattle.dom_store.specs.State.{Entry, State, greatest_depth}
use Rattle.dom_store.specs.Opening.{depths}
use Rattle.dom_store.specs.Standing.{below_levels, depth_at, inclusive_ancestors, lives}
use Rattle.dom_store.specs.Edits.{insert, move_to, remove, set_text}
use Rattle.dom_store.specs.Refusals.{first_of, is_element, is_of, least, lesser, may_hold, no_node, reasons, refusal, room_left}
use Rattle.tree_laws.specs.Wholeness.{IsWhole}

-- none of the reasons is there
abbrev AllNone : List (Option EditError) → Type 0
AllNone [] = ⊤
AllNone (reason ∷ others) = (reason ≡ None) × AllNone others

all_none : (reasons : List (Option EditError)) → first_of reasons ≡ None → AllNone reasons
all_none [] accepted = tt
all_none (None ∷ others) accepted = (refl, all_none others accepted)
all_none (Some error ∷ others) accepted = absurd (none-some error (sym accepted))

lives_named : (state : State) (number : ℕ) (others : List ℕ) → no_node state (number ∷ others) ≡ None → lives state number ≡ true
lives_named state number others accepted =
    (and_parts (lives state number) (list_all (lives state) others) (not-false (lives state number && list_all (lives state) others) (not_refused (not (lives state number && list_all (lives state) others)) NoNode accepted))).0

pub move_passes : (state : State) (number parent index : ℕ) → refusal state (move_to number parent index) ≡ None → (lives state number ≡ true) × (number ≢ 0)
move_passes state number parent index accepted =
    let none = all_none (reasons state (move_to number parent index)) accepted in (
      lives_named state number (parent ∷ []) none.0,
      eqb-false number 0 (or_parts (nat_eq number 0) (nat_eq number 1) (not_refused (nat_eq number 0 || nat_eq number 1) IsRoot none.1.0)).0,
    )

pub remove_passes : (state : State) (number : ℕ) → refusal state (remove number) ≡ None → (lives state number ≡ true) × (number ≢ 0)
remove_passes state number accepted =
    let none = all_none (reasons state (remove number)) accepted in (
      lives_named state number [] none.0,
      eqb-false number 0 (or_parts (nat_eq number 0) (nat_eq number 1) (not_refused (nat_eq number 0 || nat_eq number 1) IsRoot none.1.0)).0,
    )

pub insert_passes : (state : State) (parent index : ℕ) (nodes : List Node) (own : List (List Declaration)) → refusal state (insert parent index nodes own) ≡ None → (lives state parent ≡ true) × (length nodes ≤ room_left state)
insert_passes state parent index nodes own accepted =
    let none = all_none (reasons state (insert parent index nodes own)) accepted in (
      lives_named state parent [] none.0,
      ltb-false (room_left state) (length nodes) (not_refused (nat_lt (room_left state) (length nodes)) (TooManyNodes (state.next + room_left state)) none.1.1.1.1.0),
    )

-- a text is changed alone
pub text_is : (state : State) (number : ℕ) (letters : List ℕ) → refusal state (set_text number letters) ≡ None → is_of is_element state number ≡ false
text_is state number letters accepted = not_refused (is_of is_element state number) NotText (all_none (reasons state (set_text number letters)) accepted).1.0

-- nodes come to stand in an element in which they may
pub insert_holds : (state : State) (parent index : ℕ) (nodes : List Node) (own : List (List Declaration)) → refusal state (insert parent index nodes own) ≡ None → is_of may_hold state parent ≡ true
insert_holds state parent index nodes own accepted =
    not-false (is_of may_hold state parent) (not_refused (not (is_of may_hold state parent)) NotElement (all_none (reasons state (insert parent index nodes own)) accepted).1.1.0)

pub move_holds : (state : State) (number parent index : ℕ) → refusal state (move_to number parent index) ≡ None → is_of may_hold state parent ≡ true
move_holds state number parent index accepted =
    not-false (is_of may_hold state parent) (not_refused (not (is_of may_hold state parent)) NotElement (all_none (reasons state (move_to number parent index)) accepted).1.1.1.0)

-- neither `html` nor `body` is moved
pub move_root : (state : State) (number parent index : ℕ) → refusal state (move_to number parent index) ≡ None → (nat_eq number 0 || nat_eq number 1) ≡ false
move_root state number parent index accepted = not_refused (nat_eq number 0 || nat_eq number 1) IsRoot (all_none (reasons state (move_to number parent index)) accepted).1.0

-- ---- none too deep

unchosen : {A : Type 0} (b : Bool) (value : A) → (if b then Some value else None) ≡ None → b ≡ false
unchosen true value is = absurd (none-some value (sym is))
unchosen false value is = refl

-- where none passes up to the end, the first doesn't, nor do the others
passes_later : (test : ℕ → Bool) (first : ℕ) (others : List ℕ) (b : Bool) → test first ≡ b → length (first ∷ others) ≤ position_or_len test (first ∷ others) → (test first ≡ false) × (length others ≤ position_or_len test others)
passes_later test first others true is all = absurd (let none : position_or_len test (first ∷ others) ≡ 0 = rw is refl in omega (arith, all, none))
passes_later test first others false is all = (is, let more : position_or_len test (first ∷ others) ≡ 1 + position_or_len test others = rw is refl in omega (arith, all, more))

none_passes : (test : ℕ → Bool) (numbers : List ℕ) → length numbers ≤ position_or_len test numbers → (place : ℕ) → place < length numbers → test (get_or numbers place 0) ≡ false
none_passes test [] all place within = absurd (omega (arith, within))
none_passes test (first ∷ others) all zero within = (passes_later test first others (test first) refl all).0
none_passes test (first ∷ others) all (suc place) within = none_passes test others (passes_later test first others (test first) refl all).1 place (omega (arith, within))

-- inserted nodes stand no deeper than they may
pub insert_shallow : (state : State) (parent index : ℕ) (nodes : List Node) (own : List (List Declaration)) → refusal state (insert parent index nodes own) ≡ None
    → (place : ℕ) → place < length (depths nodes) → depth_at state parent + get_or (depths nodes) place 0 ≤ greatest_depth
insert_shallow state parent index nodes own accepted place within =
    let test : ℕ → Bool = λ depth. nat_lt greatest_depth (depth_at state parent + depth) in
    let none = all_none (reasons state (insert parent index nodes own)) accepted in
    let no_place : position test (depths nodes) ≡ None = none_unmapped (λ place. TooDeep (state.next + place)) (position test (depths nodes)) none.1.1.1.1.1.0 in
    let all : length (depths nodes) ≤ position_or_len test (depths nodes) =
    ltb-false (position_or_len test (depths nodes)) (length (depths nodes)) (unchosen (nat_lt (position_or_len test (depths nodes)) (length (depths nodes))) (position_or_len test (depths nodes)) no_place) in
    ltb-false greatest_depth (depth_at state parent + get_or (depths nodes) place 0) (none_passes test (depths nodes) all place within)

some_least : (number : ℕ) (numbers : List ℕ) → fold lesser (Some number) numbers ≡ None → ⊥
some_least number [] is = none-some number (sym is)
some_least number (other ∷ numbers) is = some_least (min number other) numbers is

no_least : (numbers : List ℕ) → least numbers ≡ None → (number : ℕ) → Contains numbers number → ⊥
no_least [] is number there = contains_none number there
no_least (first ∷ numbers) is number there = some_least first numbers is

-- what holds where a node is moved: it isn't above its new parent, and nothing below it comes to stand too deep
pub record Moves (state : State) (number parent : ℕ) : Type 0 where
  pub parent_lives : lives state parent ≡ true
  pub apart : list_any (nat_eq number) (inclusive_ancestors state parent) ≡ false
  pub shallow : (other : ℕ) → Contains (below_levels (greatest_depth - depth_at state parent) greatest_depth state number) other → ⊥

pub moves : (state : State) (number parent index : ℕ) → refusal state (move_to number parent index) ≡ None → Moves state number parent
moves state number parent index accepted =
    let none = all_none (reasons state (move_to number parent index)) accepted in
    let both = and_parts (lives state number) (lives state parent && true) (not-false (lives state number && (lives state parent && true)) (not_refused (not (lives state number && (lives state parent && true))) NoNode none.0)) in
    record {
      parent_lives = (and_parts (lives state parent) true both.1).0;
      apart = not_refused (list_any (nat_eq number) (inclusive_ancestors state parent)) Inside none.1.1.1.1.0;
      shallow = no_least (below_levels (greatest_depth - depth_at state parent) greatest_depth state number)
          (none_unmapped TooDeep (least (below_levels (greatest_depth - depth_at state parent) greatest_depth state number)) none.1.1.1.1.1.1.0);
    }

-- a node that lives has a number that was given
pub lives_below : (state : State) → IsWhole state → (number : ℕ) → lives state number ≡ true → number < state.next
lives_below state whole number alive = elim (cases_lt number state.next) [
  | inl within ↦ within
  | inr past ↦ absurd (false≢true (ap (λ (o : Option Entry). is_some o) (sym (whole.below number past)) ∙ alive))
]
