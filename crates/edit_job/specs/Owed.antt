-- How many texts are to be prepared, and how many contents arranged, for the pages of a document that goes through the steps of a script: of
-- the first page all; of each other page the texts in the scope of an edit since the page before, and the contents that such an edit touched
-- or that weren't asked for on that page under the same constraint.
use Rattle.std.specs.Prelude.{◌≡◌, ◌⊎◌, ℕ, ◌+◌, ◌≤◌, Bool, not, nat_eq, List, [], ◌∷◌, ◌++◌, Contains, filter, length, Option, None, Some, option_map}
use Rattle.std.specs.List.{list_any}
use Rattle.face_api.specs.Table.{Table}
use Rattle.wm_units.specs.declared.view.View.{View}
use Rattle.fragment_types.specs.declared.item.BoxName.{BoxName}
use Rattle.dom_store.specs.State.{IsRooted}
use Rattle.tree_laws.specs.Reached.{IsReached}
use Rattle.tree_laws.specs.Wholeness.{IsWhole}
use Rattle.box_gen.specs.Places.{names, paragraphs}
use Rattle.edits.specs.Change.{Change}
use Rattle.edits.specs.Edited.{after}
use Rattle.edits.specs.Exact.{ExactChange, StepOf, exactly}
use Rattle.edits.specs.State.{State}
use Rattle.edit_scope.specs.Exactly.{exact_reached, exact_scope}
use Rattle.edit_scope.specs.Pages.{page_boxes}
use Rattle.edit_scope.specs.Scope.{every_element, reached, scope}
use Rattle.undo_log.specs.Log.{Log, empty, gone_down, gone_up, next_ahead, next_back}
use Rattle.edit_script.specs.Meaning.{Step, show, edit, undo, redo}
use Rattle.edit_script.specs.Script.{StepAt}
use Rattle.relayout.specs.Asks.{Pair, asks, is_among}
use Rattle.session.specs.declared.error.ApplyError.{ApplyError}
use Rattle.session.specs.declared.session.Session.{Session}
use Rattle.session.specs.Editing.{CanApply, IsRefusedEdit, log_after}
use Rattle.session.specs.Found.{HasResult, HasText, page_boxes_in}
use Rattle.session.specs.State.{state_in}

-- ---- what is owed

-- the elements of which the paragraphs are owed to the next page, and the pairs of a box and a constraint that aren't; and how many of both
-- were owed to the pages before it
pub record Owing : Type 0 where
  pub elements : List ℕ
  pub pairs : List Pair
  pub prepared : ℕ
  pub arranged : ℕ

-- to the first page all are owed
abbrev pub at_first : State → Owing
at_first state = record { elements = every_element state.tree; pairs = []; prepared = 0; arranged = 0 }

abbrev pub is_of_one : (elements : List ℕ) → (node : ℕ) → Bool
is_of_one elements node = list_any (nat_eq node) elements

-- also the paragraphs of these elements, and the pairs of those that are touched
abbrev pub after_touch : (scoped touched : List ℕ) → Owing → Owing
after_touch scoped touched owing = record owing {
  elements = owing.elements ++ scoped;
  pairs = filter (λ pair. not (is_of_one touched pair.name.node)) owing.pairs;
}

-- after an edit that is done the elements in its scope, and those that it touches
abbrev pub after_edit : State → Change → Owing → Owing
after_edit state change owing = after_touch (scope state change) (reached state change) owing

-- so after an exact edit, by which an edit was taken back or done again
abbrev pub after_exact : State → ExactChange → Owing → Owing
after_exact state exact owing = after_touch (exact_scope state exact) (exact_reached state exact) owing

-- ---- on the way

-- a document with the steps of its edits, which lead back and ahead
pub record Logged : Type 0 where
  pub state : State
  pub log : Log StepOf

-- no edit is logged
abbrev pub unlogged : State → Logged
unlogged state = record { state = state; log = empty }

-- an exact edit is done, and the log is this one; where there is none nothing is owed
abbrev pub OwesMove : Logged → Owing → (move : Option ExactChange) → (log : Log StepOf) → (next : Logged) → (more : Owing) → Type 0
OwesMove logged owing (Some exact) log next more = (next ≡ record { state = exactly logged.state exact; log = log }) × (more ≡ after_exact logged.state exact owing)
OwesMove logged owing None log next more = (next ≡ logged) × (more ≡ owing)

-- the paragraphs that are owed to a page, by the element of the box; an anonymous block has that of its container
abbrev pub owed_paragraphs : State → Owing → List BoxName
owed_paragraphs state owing = filter (λ name. is_of_one owing.elements name.node) (paragraphs (page_boxes state))

module _ (view : View) where
  -- the pairs that are met in the layout of a page
  abbrev pub asks_of : State → List Pair
  asks_of state = asks state.faces view (page_boxes state)

  -- those that are owed to it
  abbrev pub owed_pairs : State → Owing → List Pair
  owed_pairs state owing = filter (λ pair. not (is_among pair owing.pairs)) (asks_of state)

  -- after a page nothing is owed
  abbrev pub after_page : State → Owing → Owing
  after_page state owing = record {
    elements = [];
    pairs = asks_of state;
    prepared = owing.prepared + length (owed_paragraphs state owing);
    arranged = owing.arranged + length (owed_pairs state owing);
  }

  -- a step, with the document and with what is owed after it: an edit that is refused changes neither
  abbrev pub OwesStep : Logged → Owing → Step → (next : Logged) → (more : Owing) → Type 0
  OwesStep logged owing show next more = (next ≡ logged) × (more ≡ after_page logged.state owing)
  OwesStep logged owing (edit change) next more = (CanApply logged.state change × (next ≡ record { state = after logged.state change; log = log_after logged.state change logged.log })
      × (more ≡ after_edit logged.state change owing))
      ⊎ ((error : ApplyError) × IsRefusedEdit logged.state change error × (next ≡ logged) × (more ≡ owing))
  OwesStep logged owing undo next more = OwesMove logged owing (option_map (λ step. step.back) (next_back logged.log)) (gone_down logged.log) next more
  OwesStep logged owing redo next more = OwesMove logged owing (option_map (λ step. step.again) (next_ahead logged.log)) (gone_up logged.log) next more

  -- steps one after the other
  abbrev pub OweStepsFrom : Logged → Owing → List StepAt → (last : Owing) → Type 0
  OweStepsFrom logged owing [] last = last ≡ owing
  OweStepsFrom logged owing (s ∷ others) last = (next : Logged) × (more : Owing) × OwesStep logged owing s.what next more × OweStepsFrom next more others last

  -- the steps of a script begin with a document that has no history
  abbrev pub OweSteps : State → Owing → List StepAt → (last : Owing) → Type 0
  OweSteps state owing steps last = OweStepsFrom (unlogged state) owing steps last

-- ---- counters

-- how often a text is prepared, and a content arranged
pub record Owed : Type 0 where
  pub prepared : ℕ
  pub arranged : ℕ

-- the counters of both rise by no more than that
pub record RiseBy (owed : Owed) (prepared_was prepared_is arranged_was arranged_is : ℕ) : Type 0 where
  pub prepared : prepared_is ≤ prepared_was + owed.prepared
  pub arranged : arranged_is ≤ arranged_was + owed.arranged

-- they rise by no more than what is owed from one page to another
pub record RiseTo (owing more : Owing) (prepared_was prepared_is arranged_was arranged_is : ℕ) : Type 0 where
  pub prepared : prepared_is + owing.prepared ≤ prepared_was + more.prepared
  pub arranged : arranged_is + owing.arranged ≤ arranged_was + more.arranged

-- ---- a session

module _ {I : Type 0} {D : I → Type 0} where
  -- A session has for its next page all that isn't owed to it: the text of each paragraph of another element, and what the box of each pair
  -- comes to that still stands there.
  pub record IsPaid (session : Session I D) (owing : Owing) : Type 0 where
    pub texts : (name : BoxName) → Contains (paragraphs (page_boxes_in session)) name → (Contains owing.elements name.node → ⊥) → HasText session name
    pub results : (pair : Pair) → Contains (names (page_boxes_in session)) pair.name → Contains owing.pairs pair → HasResult session pair

  -- the document of a session, with the tables of its faces and with its log
  abbrev pub logged_in : (faces : List (Option Table)) → Session I D → Logged
  logged_in faces session = record { state = state_in faces session; log = session.log }

  -- what a step owes over it
  abbrev pub OwesStepIn : (faces : List (Option Table)) → Session I D → Owing → Step → (next : Logged) → (more : Owing) → Type 0
  OwesStepIn faces session owing what next more = OwesStep session.view (logged_in faces session) owing what next more

  -- what the steps of a script owe
  abbrev pub OweStepsIn : (faces : List (Option Table)) → Session I D → Owing → List StepAt → (last : Owing) → Type 0
  OweStepsIn faces session owing steps last = OweSteps session.view (state_in faces session) owing steps last

  -- so for a page
  abbrev pub after_page_in : (faces : List (Option Table)) → Session I D → Owing → Owing
  after_page_in faces session owing = after_page session.view (state_in faces session) owing

-- ---- laws

-- steps owe something, whatever they are, and nothing else
pub record AreOwedOnce : Type 0 where
  pub some : (view : View) (logged : Logged) (owing : Owing) (steps : List StepAt) → (last : Owing) × OweStepsFrom view logged owing steps last
  pub only : (view : View) (logged : Logged) (owing : Owing) (steps : List StepAt) (one other : Owing) → OweStepsFrom view logged owing steps one → OweStepsFrom view logged owing steps other
      → other ≡ one

-- to the first page each paragraph is owed
abbrev pub AllAreOwedAtFirst : Type 0
AllAreOwedAtFirst = (state : State) (name : BoxName) → IsRooted state.tree → IsWhole state.tree → IsReached state.tree → Contains (paragraphs (page_boxes state)) name
    → Contains (at_first state).elements name.node
