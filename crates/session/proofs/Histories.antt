-- Histories of documents that are open, through edits, undo and redo.
use Rattle.std.proofs.Common.{◌≡◌, ◌∙◌, ◌≤◌, ◌+◌, ◌-◌, ℕ, List, [], ◌∷◌, ◌++◌, length, drop, refl, ap, sym, subst, Option, Some, None, IfSome, arith}
use Rattle.std.specs.Prelude.{option_map, Result, Ok, Err, OnOk, ⊤}
use Rattle.std.specs.List.{All, slice_get}
use Rattle.std.proofs.lemmas.List.{nil_from_length}
use Rattle.std.proofs.lemmas.Option.{same_Some}
use Rattle.std.proofs.lemmas.List.Elements.{All-cons, All-drop, All-head, All-nil, All-pop, All-push, All-tail}
use Rattle.circular_buffer.specs.Buffer.{keep_last, last_item}
use Rattle.face_api.specs.Table.{Table}
use Rattle.face_api.specs.declared.faces.Faces.{Faces}
use Rattle.css_types.specs.Rule.{Ruling}
use Rattle.cascade.specs.Index.{index_rules}
use Rattle.cascade.specs.Winners.{AreSaidRules}
use Rattle.style_tree.specs.Styling.{styled_document}
use Rattle.box_gen.specs.Limit.{IsWithinLimits}
use Rattle.dom_store.specs.Edits as trees
use Rattle.dom_store.specs.Edits.{EditOf, set_text, set_style, set_class, insert, remove, move_to, changed_if, with_children, without}
use Rattle.dom_store.specs.Refusals as tree_refusals
use Rattle.dom_store.specs.Standing.{parent_at}
use Rattle.dom_store.specs.State as dom
use Rattle.dom_store.specs.State.{state_of}
use Rattle.dom_store.specs.Steps as tree_steps
use Rattle.dom_store.specs.declared.error.EditError.{EditError}
use Rattle.tree_laws.specs.Laws.{EditsWeigh}
use Rattle.tree_laws.specs.Weight.{bytes, total}
use Rattle.edits.specs.Change.{Change, IsFitting, bytes_brought, metric, of_tree, retire, rule, unrule}
use Rattle.edits.specs.Edited.{after, by_tree, refusal}
use Rattle.edits.specs.Exact.{CanBeDone, ExactChange, StepOf, exactly, of_tree_step, rule_step, step_of, unrule_step}
use Rattle.edits.specs.State.{State}
use Rattle.undo_log.specs.History.{LeadsBothWays, Standing, StandsFor, standing_of, state_with}
use Rattle.undo_log.specs.Laws.{DocumentsStayWhereMoreAreDrawn, StandForStates, StepsOfEditsLeadBothWays}
use Rattle.undo_log.specs.Log.{Log, empty, gone_down, gone_up, greatest_count, next_ahead, next_back, recorded}
use Rattle.undo_log.proofs.LogLaws.{before_last, last_pushed}
use Rattle.session.specs.declared.keeping.KeptBoxes.{KeptBoxes}
use Rattle.session.specs.declared.session.Session.{Session}
use Rattle.session.specs.Document.{CanBeOpen, most_bytes}
use Rattle.session.specs.declared.error.ApplyError.{ApplyError}
use Rattle.session.specs.Editing.{Applies, BringNoMore, KeepsHistory, log_after}
use Rattle.session.specs.History.{CanStand, IsHistory, but_last, history_after}
use Rattle.session.specs.State.{AreKept, HasHistory, IsSound, rules_in, state_in}
use Rattle.session.proofs.Drawn.{stand_on}

-- ---- lists by their last

-- a list that isn't empty is its last one behind the others
pub record EndsIn {X : Type 0} (items : List X) : Type 0 where
  pub front : List X
  pub last : X
  pub is : items ≡ front ++ last ∷ []

pub ends_in : {X : Type 0} (first : X) (items : List X) → EndsIn (first ∷ items)
ends_in first [] = record { front = []; last = first; is = refl }
ends_in first (second ∷ items) =
    let behind = ends_in second items in
    record { front = first ∷ behind.front; last = behind.last; is = ap (λ (l : List _). first ∷ l) behind.is }

-- ---- nothing was edited

-- the exact edit of a step leads from what stands to a state that can stand, and the log stands for the history then
pub record Goes (drawn most : ℕ) (now : Standing) (edit : ExactChange) (log : Log StepOf) (later : Standing) (history : Log Standing) : Type 0 where
  pub can : CanBeDone (state_with drawn now) edit
  pub leads : exactly (state_with drawn now) edit ≡ state_with drawn later
  pub is : IsHistory drawn most log history later

module _ (laws : StandForStates) where
  pub begins : (drawn most : ℕ) (now : Standing) → CanStand drawn most now → IsHistory drawn most empty empty now
  begins drawn most now can = record { stands = laws.begun drawn now; here = can; past = All-nil (CanStand drawn most); future = All-nil (CanStand drawn most) }

  -- ---- a step more

  pub goes_on : DocumentsStayWhereMoreAreDrawn → (drawn more most much : ℕ) (log : Log StepOf) (history : Log Standing) (now later : Standing) (step : StepOf) → drawn ≤ more → most ≤ much
      → IsHistory drawn most log history now → CanStand more much later → LeadsBothWays more now step later → IsHistory more much (recorded step log) (recorded now history) later
  goes_on stay drawn more most much log history now later step le room is can leads =
      let all : All (CanStand drawn most) (history.past ++ now ∷ []) = All-push (CanStand drawn most) history.past now is.past is.here in
      record {
        stands = laws.edited more log history now later step (laws.more drawn more log history now le is.stands) leads;
        here = can;
        past =
            stand_on stay drawn more most much le room (keep_last greatest_count (history.past ++ now ∷ []))
            (All-drop (CanStand drawn most) (length (history.past ++ now ∷ []) - greatest_count) (history.past ++ now ∷ []) all);
        future = All-nil (CanStand more much);
      }

  -- ---- back and ahead

  none_last : (steps : List StepOf) → length steps ≡ 0 → last_item steps ≡ None
  none_last [] is = refl
  none_last (step ∷ steps) is = absurd cc

  -- the past has a state where the log has a step that is taken back next
  some_past : (steps : List StepOf) (states : List Standing) (step : StepOf) → length steps ≡ length states → last_item steps ≡ Some step → EndsIn states
  some_past steps [] step same is = let none = none_last steps same in absurd cc
  some_past steps (first ∷ states) step same is = ends_in first states

  some_future : (steps : List StepOf) (states : List Standing) (step : StepOf) → length steps ≡ length states → slice_get steps 0 ≡ Some step → (later : Standing) × (states ≡ later ∷ drop 1 states)
  some_future [] states step same is = absurd cc
  some_future (first ∷ steps) [] step same is = absurd cc
  some_future (first ∷ steps) (later ∷ states) step same is = (later, refl)

  all_last : (drawn most : ℕ) (front : List Standing) (last : Standing) → All (CanStand drawn most) (front ++ last ∷ []) → All (CanStand drawn most) front × CanStand drawn most last
  all_last drawn most front last all = All-pop (CanStand drawn most) (front ++ last ∷ []) front (Some last) refl all

  module _ (drawn most : ℕ) (log : Log StepOf) (now : Standing) (history : Log Standing) (is : IsHistory drawn most log history now) where
    -- where the log has no step that is taken back next there is no state
    pub no_past : length log.past ≡ 0 → last_item history.past ≡ None
    no_past none = ap last_item (nil_from_length history.past (sym (laws.counts drawn log history now is.stands).0 ∙ none))

    pub no_future : length log.future ≡ 0 → slice_get history.future 0 ≡ None
    no_future none = ap (λ (l : List Standing). slice_get l 0) (nil_from_length history.future (sym (laws.counts drawn log history now is.stands).1 ∙ none))

    pub goes_back : (step : StepOf) → next_back log ≡ Some step
        → (earlier : Standing) × (last_item history.past ≡ Some earlier) × Goes drawn most now step.back (gone_down log) earlier (record { past = but_last history.past; future = now ∷ history.future })
    goes_back step next =
        let ends = some_past log.past history.past step (laws.counts drawn log history now is.stands).0 next in
        let P : List Standing → Type 0 = λ (past : List Standing). StandsFor drawn log (record { past = past; future = history.future }) now in
        let went = laws.back drawn log ends.front history.future ends.last now (subst P ends.is is.stands) in
        let all = all_last drawn most ends.front ends.last (subst (λ (past : List Standing). All (CanStand drawn most) past) ends.is is.past) in
        let front : but_last history.past ≡ ends.front = ap but_last ends.is ∙ before_last ends.front ends.last in
        let same : went.0.step ≡ step = sym (same_Some step went.0.step (sym next ∙ went.0.is)) in (
          ends.last,
          ap last_item ends.is ∙ last_pushed ends.front ends.last,
          record {
            can = subst (λ (s : StepOf). CanBeDone (state_with drawn now) s.back) same (went.0.leads.can drawn (omega arith));
            leads = subst (λ (s : StepOf). exactly (state_with drawn now) s.back ≡ state_with drawn ends.last) same (went.0.leads.leads drawn (omega arith));
            is = subst (λ (past : List Standing). IsHistory drawn most (gone_down log) (record { past = past; future = now ∷ history.future }) ends.last) (sym front)
                (record { stands = went.1; here = all.1; past = all.0; future = All-cons (CanStand drawn most) now history.future is.here is.future });
          },
        )

    pub goes_ahead : (step : StepOf) → next_ahead log ≡ Some step
        → (later : Standing) × (slice_get history.future 0 ≡ Some later) × Goes drawn most now step.again (gone_up log) later (record { past = history.past ++ now ∷ []; future = drop 1 history.future })
    goes_ahead step next =
        let begin = some_future log.future history.future step (laws.counts drawn log history now is.stands).1 next in
        let P : List Standing → Type 0 = λ (future : List Standing). StandsFor drawn log (record { past = history.past; future = future }) now in
        let went = laws.ahead drawn log history.past (drop 1 history.future) begin.0 now (subst P begin.1 is.stands) in
        let all : All (CanStand drawn most) (begin.0 ∷ drop 1 history.future) = subst (λ (future : List Standing). All (CanStand drawn most) future) begin.1 is.future in
        let same : went.0.step ≡ step = sym (same_Some step went.0.step (sym next ∙ went.0.is)) in (
          begin.0,
          ap (λ (future : List Standing). slice_get future 0) begin.1,
          record {
            can = subst (λ (s : StepOf). CanBeDone (state_with drawn now) s.again) same (went.0.leads.can drawn (omega arith));
            leads = subst (λ (s : StepOf). exactly (state_with drawn now) s.again ≡ state_with drawn begin.0) same (went.0.leads.leads drawn (omega arith));
            is = record { stands = went.1; here = All-head (CanStand drawn most) begin.0 (drop 1 history.future) all; past = All-push (CanStand drawn most) history.past now is.past is.here; future = All-tail (CanStand drawn most) begin.0 (drop 1 history.future) all };
          },
        )

-- ---- an edit that is done

-- a document is as open where its texts may hold so many bytes
pub holding : (most much : ℕ) (state : State) → total bytes state.tree ≤ much → CanBeOpen most state → CanBeOpen much state
holding most much state short can = record {
  rooted = can.rooted;
  said = can.said;
  whole = can.whole;
  reached = can.reached;
  held = can.held;
  leaves = can.leaves;
  few = can.few;
  short = short;
  rules = can.rules;
  within = can.within;
}

-- no number is given back
tree_draws : (state : dom.State) (edit : EditOf) → state.next ≤ (trees.after state edit).next
tree_draws state (set_text number letters) = omega arith
tree_draws state (set_style number own) = omega arith
tree_draws state (set_class number words) = omega arith
tree_draws state (insert parent index nodes own) = omega arith
tree_draws state (remove number) = same (parent_at state number) where
  same : (parent : Option ℕ) → state.next ≤ (changed_if state parent (with_children (without number))).next
  same None = omega arith
  same (Some parent) = omega arith
tree_draws state (move_to number parent index) = same (parent_at state number) where
  same : (from : Option ℕ) → state.next ≤ (changed_if state from (with_children (without number))).next
  same None = omega arith
  same (Some from) = omega arith

none_mapped : (reason : Option EditError) → option_map by_tree reason ≡ None → reason ≡ None
none_mapped None is = refl
none_mapped (Some error) is = cc

-- after an edit there is no more text than before it and what it brings
pub bring_no_more : EditsWeigh → BringNoMore
bring_no_more law state (of_tree edit) taken = (law state.tree edit (none_mapped (tree_refusals.refusal state.tree edit) taken)).1
bring_no_more law state (metric face c upright value) taken = omega arith
bring_no_more law state (retire face) taken = omega arith
bring_no_more law state (rule rules) taken = omega arith
bring_no_more law state (unrule index) taken = omega arith

module _ (laws : StandForStates) (stay : DocumentsStayWhereMoreAreDrawn) (steps : StepsOfEditsLeadBothWays) (state : State) (most much : ℕ) (log : Log StepOf) (history : Log Standing)
    (is : IsHistory state.tree.next most log history (standing_of state)) (room : most ≤ much) where
  step_on : (change : Change) (step : StepOf) → IsFitting change → refusal state change ≡ None → step_of state change ≡ Some step → state.tree.next ≤ (after state change).tree.next → CanBeOpen much (after state change)
      → IsHistory (after state change).tree.next much (recorded step log) (recorded (standing_of state) history) (standing_of (after state change))
  step_on change step fitting taken own draws can =
      let here = is.here in
      goes_on laws stay state.tree.next (after state change).tree.next most much log history (standing_of state) (standing_of (after state change)) step draws room is can
      (steps state change step (record { fitting = fitting; rooted = here.rooted; whole = here.whole; reached = here.reached; held = here.held; unrefused = taken }) own)

  pub edit_on : (change : Change) → IsFitting change → refusal state change ≡ None → CanBeOpen much (after state change)
      → IsHistory (after state change).tree.next much (log_after state change log) (history_after state change history) (standing_of (after state change))
  edit_on (of_tree edit) fitting taken can = step_on (of_tree edit) (of_tree_step (tree_steps.step_of state.tree edit)) fitting taken refl (tree_draws state.tree edit) can
  edit_on (metric face c upright value) fitting taken can = begins laws state.tree.next much (standing_of (after state (metric face c upright value))) can
  edit_on (retire face) fitting taken can = begins laws state.tree.next much (standing_of (after state (retire face))) can
  edit_on (rule rules) fitting taken can = step_on (rule rules) (rule_step state.rules rules) fitting taken refl (omega arith) can
  edit_on (unrule index) fitting taken can = step_on (unrule index) (unrule_step state.rules index) fitting taken refl (omega arith) can

-- ---- sessions

module _ {I : Type 0} {D : I → Type 0} (laws : StandForStates) (stay : DocumentsStayWhereMoreAreDrawn) (steps : StepsOfEditsLeadBothWays) (before behind : List (Option Table)) (old new : Session I D)
    (change : Change) (fitting : IsFitting change) (taken : refusal (state_in before old) change ≡ None) (is_after : state_in behind new ≡ after (state_in before old) change)
    (logged : new.log ≡ log_after (state_in before old) change old.log) where
  history_by : (most much : ℕ) (history : Log Standing) → most ≤ much → HasHistory before most old history → CanBeOpen much (state_in behind new)
      → HasHistory behind much new (history_after (state_in before old) change history)
  history_by most much history room has can =
      let state = state_in before old in
      let on = edit_on laws stay steps state most much old.log history has room change fitting taken (subst (CanBeOpen much) is_after can) in
      let P : State → Log StepOf → Type 0 = λ (s : State) (l : Log StepOf). IsHistory s.tree.next much l (history_after state change history) (standing_of s) in
      subst (P (state_in behind new)) (sym logged) (subst (λ (s : State). P s (log_after state change old.log)) (sym is_after) on)

  -- it has a history
  pub some_history : IsSound before old → CanBeOpen most_bytes (state_in behind new) → (history : Log Standing) × HasHistory behind most_bytes new history
  some_history sound can = (history_after (state_in before old) change sound.history.0, history_by most_bytes most_bytes sound.history.0 (omega arith) sound.history.1 can)

  -- it keeps any that it had
  pub keeps_history : BringNoMore → CanBeOpen most_bytes (state_in behind new) → KeepsHistory before behind old new change
  keeps_history brings can = λ most history has.
      let state = state_in before old in
      let more = brings state change taken in
      let short = has.here.short in
      let now : total bytes (state_in behind new).tree ≡ total bytes (after state change).tree = ap (λ (s : State). total bytes s.tree) is_after in
      history_by most (most + bytes_brought change) history (omega arith) has (holding most_bytes (most + bytes_brought change) (state_in behind new) (omega (arith, more, short, now)) can)

-- so it does where an edit was applied
module _ {I : Type 0} {D : I → Type 0} (laws : StandForStates) (stay : DocumentsStayWhereMoreAreDrawn) (steps : StepsOfEditsLeadBothWays) (brings : BringNoMore) (before behind : List (Option Table))
    (old new : Session I D) (change : Change) (fitting : IsFitting change) where
  pub history_kept : (result : Result ⊤ ApplyError) → Applies before behind old new change result → IsSound behind new → OnOk result (KeepsHistory before behind old new change)
  history_kept (Ok done) (can, led, logged) sound = keeps_history laws stay steps before behind old new change fitting can.taken led logged brings sound.document
  history_kept (Err error) applies sound = tt

-- a document with other faces is as open, and with other rules under which its boxes can stand
pub open_with : (most : ℕ) (state : State) (faces : List (Option Table)) → CanBeOpen most state → CanBeOpen most (record state { faces = faces })
open_with most state faces can = record {
  rooted = can.rooted;
  said = can.said;
  whole = can.whole;
  reached = can.reached;
  held = can.held;
  leaves = can.leaves;
  few = can.few;
  short = can.short;
  rules = can.rules;
  within = can.within;
}

open_under : (most : ℕ) (state : State) (rules : List Ruling) → AreSaidRules rules → IsWithinLimits (styled_document rules state.tree) → CanBeOpen most state → CanBeOpen most (record state { rules = rules })
open_under most state rules said within can = record {
  rooted = can.rooted;
  said = can.said;
  whole = can.whole;
  reached = can.reached;
  held = can.held;
  leaves = can.leaves;
  few = can.few;
  short = can.short;
  rules = said;
  within = within;
}

module _ {I : Type 0} {D : I → Type 0} (laws : StandForStates) where
  -- a session with other faces is sound where no boxes are kept and nothing is logged
  pub sound_bare : (old new : List (Option Table)) (session : Session I D) (faces : Faces I D) (log : Log StepOf) → log ≡ empty → IsSound old session
      → IsSound new (record session { faces = faces; boxes = None; log = log })
  sound_bare old new session faces log none sound =
      let can = open_with most_bytes (state_in old session) new sound.document in
      record {
        document = can;
        index = sound.index;
        view = sound.view;
        ready = tt;
        history = (
          empty,
          subst (λ (l : Log StepOf). IsHistory (state_of session.document).next most_bytes l empty (standing_of (state_in new session))) (sym none)
              (begins laws (state_of session.document).next most_bytes (standing_of (state_in new session)) can),
        );
      }

  -- one with other rules is sound after an edit of the rules, where the boxes can stand under them and none are kept
  pub sound_under : DocumentsStayWhereMoreAreDrawn → StepsOfEditsLeadBothWays → (faces : List (Option Table)) (old new : Session I D) (change : Change) → IsFitting change → refusal (state_in faces old) change ≡ None
      → new ≡ record old { rules = new.rules; index = new.index; boxes = new.boxes; log = new.log } → new.boxes ≡ None → state_in faces new ≡ after (state_in faces old) change
      → new.log ≡ log_after (state_in faces old) change old.log → AreSaidRules (rules_in new) → IfSome new.index (λ index. index_rules index ≡ rules_in new)
      → IsWithinLimits (styled_document (rules_in new) (state_of old.document)) → IsSound faces old → IsSound faces new
  sound_under stay steps faces old new change fitting taken rest bare is_after logged said indexed within sound =
      let at = record old { rules = new.rules; index = new.index; boxes = new.boxes; log = new.log } in
      let can : CanBeOpen most_bytes (state_in faces at) = open_under most_bytes (state_in faces old) (rules_in new) said within sound.document in
      let same : state_in faces new ≡ state_in faces at = ap (λ (s : Session I D). state_in faces s) rest in
      subst (IsSound faces) (sym rest) (record {
        document = can;
        index = indexed;
        view = sound.view;
        ready = subst (λ (boxes : Option KeptBoxes). IfSome boxes (AreKept faces old.view (styled_document (rules_in new) (state_of old.document)))) (sym bare) tt;
        history = some_history laws stay steps faces faces old at change fitting taken (sym same ∙ is_after) logged sound can;
      })
