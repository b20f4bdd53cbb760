-- What an edit of an open document leads to, by what the document and its boxes answer.
use Rattle.std.proofs.Common.{◌≡◌, ◌⊎◌, ◌∙◌, ◌+◌, ◌≤◌, sym, ap, subst, refl, inl, inr, ℕ, List, Option, Some, None, option_map, Err}
use Rattle.css_types.specs.Rule.{Ruling}
use Rattle.dom_store.specs.declared.error.EditError.{EditError}
use Rattle.dom_store.specs.declared.error.EditError.TheVariants as refusals
use Rattle.dom_store.specs.Edited as tree
use Rattle.dom_store.specs.Edited.{accepted, edited, refused, unless}
use Rattle.dom_store.specs.Edits as trees
use Rattle.dom_store.specs.Edits.{EditOf, concerned}
use Rattle.dom_store.specs.Refusals as tree_refusals
use Rattle.dom_store.specs.Laws.{KeepRoots, KeepSaid}
use Rattle.dom_store.specs.Opening.{greatest_count}
use Rattle.dom_store.specs.Standing.{live_count}
use Rattle.dom_store.specs.State as dom
use Rattle.dom_store.specs.State.{IsRooted, IsSaidState}
use Rattle.edits.specs.Change.{Change, of_tree}
use Rattle.edits.specs.Edited.{Reason, after, by_tree, fixed, full, no_face, no_rule, refusal, too_many_rules}
use Rattle.edits.specs.State.{State}
use Rattle.edit_scope.specs.Leaves.{EditsKeepLeaves, TextsAreLeaves}
use Rattle.face_api.specs.Table.{Table}
use Rattle.tree_laws.specs.Held.{AreHeld, EditsKeepHeld}
use Rattle.tree_laws.specs.Laws.{AcceptedAreDone, ChildrenHaveParents, EditsKeepWhole, EditsWeigh}
use Rattle.tree_laws.specs.Reached.{EditsKeepReached, IsReached}
use Rattle.tree_laws.specs.Weight.{bytes, total}
use Rattle.tree_laws.specs.Wholeness.{IsWhole}
use Rattle.style_tree.specs.Styling.{styled_document}
use Rattle.box_gen.specs.declared.limit.BoxLimit.{BoxLimit}
use Rattle.box_gen.specs.Limit.{IsWithinLimits, Passes}
use Rattle.box_limits.specs.declared.error.LimitError.{LimitError}
use Rattle.box_limits.specs.declared.error.LimitError.TheVariants as limits
use Rattle.box_limits.specs.Limits.{Answers, IsEditedFrom}
use Rattle.session.specs.Document.{CanBeOpen}
use Rattle.session.specs.declared.error.ApplyError.{ApplyError}
use Rattle.session.specs.declared.error.ApplyError.TheVariants as applying
use Rattle.session.specs.Editing.{CanApply, HasOneOutcome, IsRefusedEdit, of_limit_error, of_refusal, styled_after}
use Rattle.session.proofs.Limiting.{IsWithinOrPasses, not_within, one_limit, within_or_passes}

-- ---- one outcome

-- why an edit is refused, in the session's words
abbrev error_of : Reason → ApplyError
error_of (by_tree error) = applying.Document error
error_of no_face = applying.NoFace
error_of fixed = applying.Fixed
error_of full = applying.Full
error_of too_many_rules = applying.TooManyRules
error_of no_rule = applying.NoRule

module _ (state : State) (change : Change) where
  not_both : (reason : Reason) → refusal state change ≡ Some reason → refusal state change ≡ None → ⊥
  not_both reason is none = absurd cc

  same_some : (one other : Reason) → refusal state change ≡ Some one → refusal state change ≡ Some other → other ≡ one
  same_some one other is also = cc

  -- an error is that of a reason, or of a limit
  abbrev IsOfReason : ApplyError → Type 0
  IsOfReason error = (reason : Reason) × (error ≡ error_of reason) × (refusal state change ≡ Some reason)

  abbrev IsOfLimit : ApplyError → Type 0
  IsOfLimit error = (limit : BoxLimit) × (error ≡ applying.Limit limit) × (refusal state change ≡ None) × Passes (styled_after state change) limit

  origin : (error : ApplyError) → IsRefusedEdit state change error → IsOfReason error ⊎ IsOfLimit error
  origin (applying.Document error) is = inl (by_tree error, refl, is)
  origin applying.NoFace is = inl (no_face, refl, is)
  origin applying.Fixed is = inl (fixed, refl, is)
  origin applying.Full is = inl (full, refl, is)
  origin applying.TooManyRules is = inl (too_many_rules, refl, is)
  origin applying.NoRule is = inl (no_rule, refl, is)
  origin (applying.Limit limit) (none, passes) = inr (limit, refl, none, passes)
  origin applying.Memory is = absurd is

  refused_for : (reason : Reason) → refusal state change ≡ Some reason → IsRefusedEdit state change (error_of reason)
  refused_for (by_tree error) is = is
  refused_for no_face is = is
  refused_for fixed is = is
  refused_for full is = is
  refused_for too_many_rules is = is
  refused_for no_rule is = is

  not_applied : (error : ApplyError) → IsOfReason error ⊎ IsOfLimit error → CanApply state change → ⊥
  not_applied error (inl (reason, of, is)) can = not_both reason is can.taken
  not_applied error (inr (limit, of, none, passes)) can = not_within (styled_after state change) limit passes can.within

  same : (error other : ApplyError) → IsOfReason error ⊎ IsOfLimit error → IsOfReason other ⊎ IsOfLimit other → other ≡ error
  same error other (inl (reason, of, is)) (inl (reason', of', is')) = of' ∙ ap error_of (same_some reason reason' is is') ∙ sym of
  same error other (inl (reason, of, is)) (inr (limit, of', none, passes)) = absurd (not_both reason is none)
  same error other (inr (limit, of, none, passes)) (inl (reason, of', is)) = absurd (not_both reason is none)
  same error other (inr (limit, of, none, passes)) (inr (limit', of', none', passes')) =
      of' ∙ ap (λ (x : BoxLimit). applying.Limit x) (one_limit (styled_after state change) limit limit' passes passes') ∙ sym of

  -- by what the edit, then its boxes are refused for
  abbrev HasOutcome : Type 0
  HasOutcome = CanApply state change ⊎ ((error : ApplyError) × IsRefusedEdit state change error)

  by_boxes : refusal state change ≡ None → IsWithinOrPasses (styled_after state change) → HasOutcome
  by_boxes none (inl within) = inl (record { taken = none; within = within })
  by_boxes none (inr (limit, passes)) = inr (applying.Limit limit, (none, passes))

  by_refusal : (reason : Option Reason) → refusal state change ≡ reason → HasOutcome
  by_refusal None is = by_boxes is (within_or_passes (styled_after state change))
  by_refusal (Some reason) is = inr (error_of reason, refused_for reason is)

pub one_outcome : HasOneOutcome
one_outcome = record {
  some = λ state change. by_refusal state change (refusal state change) refl;
  only = λ state change error is. (
    not_applied state change error (origin state change error is),
    λ other also. same state change error other (origin state change error is) (origin state change other also),
  );
}

-- ---- what the document refuses

refused_by : (reason : Option EditError) (next : dom.State) (elements : List ℕ) (error : EditError) → unless reason next elements ≡ refused error → reason ≡ Some error
refused_by None next elements error is = absurd cc
refused_by (Some reason) next elements error is = cc

module _ (state : State) (edit : EditOf) where
  by_document : (error : EditError) → tree_refusals.refusal state.tree edit ≡ Some error → refusal state (of_tree edit) ≡ Some (by_tree error)
  by_document error is = ap (option_map by_tree) is

  told : (error : EditError) → tree_refusals.refusal state.tree edit ≡ Some error → (of_refusal error ≡ applying.Memory) ⊎ IsRefusedEdit state (of_tree edit) (of_refusal error)
  told refusals.NoNode is = inr (by_document refusals.NoNode is)
  told refusals.IsRoot is = inr (by_document refusals.IsRoot is)
  told refusals.NotText is = inr (by_document refusals.NotText is)
  told refusals.NotElement is = inr (by_document refusals.NotElement is)
  told refusals.Inside is = inr (by_document refusals.Inside is)
  told refusals.BadIndex is = inr (by_document refusals.BadIndex is)
  told (refusals.TooManyNodes number) is = inr (by_document (refusals.TooManyNodes number) is)
  told (refusals.TooDeep number) is = inr (by_document (refusals.TooDeep number) is)
  told refusals.Memory is = inl refl

  -- the document refuses the step of an edit as the edit
  pub refused_step : (error : EditError) → (error ≡ refusals.Memory) ⊎ (tree_refusals.refusal state.tree edit ≡ Some error) → (of_refusal error ≡ applying.Memory) ⊎ IsRefusedEdit state (of_tree edit) (of_refusal error)
  refused_step error (inl is) = inl (ap of_refusal is)
  refused_step error (inr is) = told error is

  pub refused_edit : (error : EditError) → (error ≡ refusals.Memory) ⊎ (edited state.tree edit ≡ refused error)
      → (of_refusal error ≡ applying.Memory) ⊎ IsRefusedEdit state (of_tree edit) (of_refusal error)
  refused_edit error (inl is) = inl (ap of_refusal is)
  refused_edit error (inr is) = told error (refused_by (tree_refusals.refusal state.tree edit) (trees.after state.tree edit) (concerned state.tree edit) error is)

-- ---- an edit that the document takes

-- all of a document with this tree
abbrev pub with_tree : (faces : List (Option Table)) → List Ruling → dom.State → State
with_tree faces rules tree = record { tree = tree; rules = rules; faces = faces }

-- these are the tables of the faces
module _ (faces : List (Option Table)) (rules : List Ruling) (old next : dom.State) (edit : EditOf) (elements : List ℕ) (all : AcceptedAreDone) (is : edited old edit ≡ accepted next elements) where
  abbrev before : State
  before = with_tree faces rules old

  done : (tree_refusals.refusal old edit ≡ None) × (next ≡ trees.after old edit)
  done = all old next edit elements is

  pub is_after : next ≡ trees.after old edit
  is_after = done.1

  -- it isn't refused
  pub taken : refusal before (of_tree edit) ≡ None
  taken = ap (option_map by_tree) done.0

  -- what its boxes are refused for is what it is refused for
  pub boxes_refuse : (error : LimitError) → Answers rules next (Err error) → (of_limit_error error ≡ applying.Memory) ⊎ IsRefusedEdit before (of_tree edit) (of_limit_error error)
  boxes_refuse (limits.Limit limit) passes = inr (taken, subst (λ (s : dom.State). Passes (styled_document rules s) limit) done.1 passes)
  boxes_refuse limits.Memory answers = inl refl

  pub can_apply : IsWithinLimits (styled_document rules next) → CanApply before (of_tree edit)
  can_apply within = record { taken = taken; within = subst (λ (s : dom.State). IsWithinLimits (styled_document rules s)) done.1 within }

  pub state_after : with_tree faces rules next ≡ after before (of_tree edit)
  state_after = ap (with_tree faces rules) done.1

  -- its boxes may be judged
  pub edited_from : tree.IsFitting edit → IsRooted old → IsWhole old → IsReached old → IsWithinLimits (styled_document rules old) → IsEditedFrom rules edit next old
  edited_from fitting rooted whole reached within = record { fitting = fitting; rooted = rooted; whole = whole; reached = reached; taken = done.0; within = within; is = done.1 }

  pub rooted_after : KeepRoots → ChildrenHaveParents → IsWhole old → IsRooted old → IsRooted next
  rooted_after keep parents whole rooted = subst IsRooted (sym done.1) (keep old edit rooted (parents old whole) done.0)

  pub said_after : KeepSaid → tree.IsSaidEdit edit → IsSaidState old → IsSaidState next
  said_after keep said is = subst IsSaidState (sym done.1) (keep old edit is said)

  -- a document that can be open can be so after it, where its boxes can stand and its texts hold no more bytes than so many
  pub open_after : KeepRoots → ChildrenHaveParents → KeepSaid → EditsKeepWhole → EditsKeepReached → EditsKeepHeld → EditsKeepLeaves → EditsWeigh → tree.IsFitting edit → tree.IsSaidEdit edit
      → (most : ℕ) → CanBeOpen most before → IsWithinLimits (styled_document rules next) → total bytes next ≤ most → CanBeOpen most (with_tree faces rules next)
  open_after roots parents keep_said keep_whole keep_reached keep_held keep_leaves weigh fitting said most can within short = record {
    rooted = rooted_after roots parents can.whole can.rooted;
    said = said_after keep_said said can.said;
    whole = subst IsWhole (sym done.1) (keep_whole old edit can.whole done.0);
    reached = subst IsReached (sym done.1) (keep_reached old edit fitting can.rooted can.whole can.reached done.0);
    held = subst AreHeld (sym done.1) (keep_held old edit (record { fitting = fitting; rooted = can.rooted; whole = can.whole; reached = can.reached; unrefused = done.0 }) can.held);
    leaves = subst TextsAreLeaves (sym done.1) (keep_leaves old edit fitting can.whole done.0 can.leaves);
    few = subst (λ (s : dom.State). live_count s ≤ greatest_count) (sym done.1) ((weigh old edit done.0).0 can.few);
    short = short;
    rules = can.rules;
    within = within;
  }

  pub bytes_after : EditsWeigh → total bytes next ≤ total bytes old + tree.bytes_brought edit
  bytes_after weigh = subst (λ (s : dom.State). total bytes s ≤ total bytes old + tree.bytes_brought edit) (sym done.1) (weigh old edit done.0).1
