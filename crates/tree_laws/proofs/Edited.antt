-- Documents that are opened or edited are whole.
use Rattle.std.proofs.Common.{◌≡◌, ◌∙◌, ℕ, Bool, true, false, List, length, refl, ap, sym, subst, Option, Some, None}
use Rattle.std.proofs.lemmas.Bool.{false≢true}
use Rattle.dom_store.proofs.SameLaws.{are_equal}
use Rattle.css_types.specs.declared.value.Declaration.{Declaration}
use Rattle.html_read.specs.Shape.{IsShaped, kind_bytes, text_bytes}
use Rattle.html_read.specs.Values.{Node}
use Rattle.dom_store.specs.declared.error.EditError.{EditError}
use Rattle.dom_store.specs.State.{State, text}
use Rattle.dom_store.specs.Opening.{opened}
use Rattle.dom_store.specs.Edits.{set_text, set_style, set_class, insert, remove, move_to, after, concerned, with_classes, with_own}
use Rattle.dom_store.specs.Edited.{Outcome, accepted, refused, unless}
use Rattle.dom_store.specs.Refusals.{refusal}
use Rattle.tree_laws.specs.Laws.{AcceptedAreDone, EditsKeepWhole, OpenedAreWhole}
use Rattle.tree_laws.specs.Weight.{bytes, one, total}
use Rattle.tree_laws.specs.Wholeness.{IsWhole}
use Rattle.tree_laws.proofs.Inserting.{inserted_whole, opened_whole}
use Rattle.tree_laws.proofs.Keeping.{moved_whole, removed_whole, what_whole}
use Rattle.tree_laws.proofs.Refusing.{insert_passes, lives_below, move_passes}
use Rattle.tree_laws.proofs.Weighing.{all_bytes, all_ones, opened_total, read_bytes}

pub edits_keep_whole : EditsKeepWhole
edits_keep_whole state (set_text number letters) whole unrefused = what_whole state number (λ what. text letters) whole
edits_keep_whole state (set_style number own) whole unrefused = what_whole state number (with_own own) whole
edits_keep_whole state (set_class number words) whole unrefused = what_whole state number (with_classes words) whole
edits_keep_whole state (insert parent index nodes own) whole unrefused =
    let passes = insert_passes state parent index nodes own unrefused in
    inserted_whole state whole parent index nodes own (lives_below state whole parent passes.0)
edits_keep_whole state (remove number) whole unrefused = removed_whole state whole number
edits_keep_whole state (move_to number parent index) whole unrefused =
    let passes = move_passes state number parent index unrefused in
    moved_whole state whole number parent index passes.0 passes.1

of_opened : (nodes : List Node) (own : List (List Declaration)) → IsShaped nodes → IsWhole (opened nodes own) × (total one (opened nodes own) ≡ length nodes) × (total bytes (opened nodes own) ≡ text_bytes nodes)
of_opened nodes own shaped = (
  opened_whole nodes own shaped,
  opened_total one (λ kind. 1) (λ kind own. refl) nodes own ∙ all_ones nodes,
  opened_total bytes kind_bytes read_bytes nodes own ∙ all_bytes nodes,
)

pub opened_are_whole : OpenedAreWhole
opened_are_whole nodes own state shaped same =
    subst (λ (s : State). IsWhole s × (total one s ≡ length nodes) × (total bytes s ≡ text_bytes nodes)) (sym (are_equal state (opened nodes own) same)) (of_opened nodes own shaped)

-- ---- accepted edits

next_or : State → Outcome → State
next_or other (accepted next elements) = next
next_or other (refused error) = other

was_accepted : Outcome → Bool
was_accepted (accepted next elements) = true
was_accepted (refused error) = false

where_accepted : (reason : Option EditError) (done next : State) (concerned elements : List ℕ) → unless reason done concerned ≡ accepted next elements → (reason ≡ None) × (next ≡ done)
unfolding next_or was_accepted
where_accepted None done next concerned elements is = (refl, sym (ap (next_or done) is))
where_accepted (Some error) done next concerned elements is = absurd (false≢true (ap was_accepted is))

pub accepted_are_done : AcceptedAreDone
accepted_are_done state next edit elements is = where_accepted (refusal state edit) (after state edit) next (concerned state edit) elements is
