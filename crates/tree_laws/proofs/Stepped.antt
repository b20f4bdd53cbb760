-- Steps of edits lead back, and there again.
use Rattle.std.proofs.Common.{◌≡◌, ◌≢◌, ◌∙◌, ℕ, zero, suc, ◌<◌, true, [], ◌∷◌, refl, ap, sym, Option, Some}
use Rattle.std.specs.Prelude.{unwrap_or}
use Rattle.std.specs.List.{Contains}
use Rattle.dom_store.specs.State.{State, greatest_depth}
use Rattle.dom_store.specs.Standing.{children_at, lives, parent_at}
use Rattle.dom_store.specs.Edits.{EditOf, set_text, set_style, set_class, insert, remove, move_to, after, moved, removed}
use Rattle.dom_store.specs.Exact.{restored, taken}
use Rattle.dom_store.specs.Steps.{numbered_below, place_in}
use Rattle.tree_laws.specs.Reached.{IsAtLevel}
use Rattle.tree_laws.specs.Stepped.{CanStep, StepsLeadBack, StepsLeadThere}
use Rattle.tree_laws.proofs.Edited.{edits_keep_whole}
use Rattle.tree_laws.proofs.Levels.{parent_of_child}
use Rattle.tree_laws.proofs.Reaching.{edits_keep_reached}
use Rattle.tree_laws.proofs.Refusing.{insert_passes, move_passes, remove_passes}
use Rattle.tree_laws.proofs.Repeating.{inserted_again, taken_again}
use Rattle.tree_laws.proofs.Restoring.{removed_back, removed_next}
use Rattle.tree_laws.proofs.Stepping.{class_back, moved_and_back, moved_next, next_stays, stands_once, style_back, text_back}
use Rattle.tree_laws.proofs.Withdrawing.{inserted_back}

-- ---- where a node stands

pub record StandsIn (state : State) (number : ℕ) : Type 0 where
  pub parent : ℕ
  pub is : parent_at state number ≡ Some parent
  pub there : Contains (children_at state parent) number
  pub level : ℕ
  pub low : suc level < greatest_depth
  pub at : IsAtLevel state level parent

pub stands_in : (state : State) (edit : EditOf) (number : ℕ) → CanStep state edit → lives state number ≡ true → number ≢ 0 → StandsIn state number
stands_in state edit number can alive root =
    let (level, low, at) = can.reached.reached number alive in
    by level low at
  where
    by : (level : ℕ) → level < greatest_depth → IsAtLevel state level number → StandsIn state number
    by zero low at = absurd (root at)
    by (suc level) low (parent, at, there) = record { parent = parent; is = parent_of_child state can.whole parent number there; there = there; level = level; low = low; at = at }

module _ (state : State) (number : ℕ) (stands : StandsIn state number) where
  pub holder_is : unwrap_or (parent_at state number) 0 ≡ stands.parent
  holder_is = ap (λ (o : Option ℕ). unwrap_or o 0) stands.is

pub steps_lead_back : StepsLeadBack
steps_lead_back state (set_text number letters) can = text_back state number letters can.unrefused ∙ sym (next_stays state state.next refl)
steps_lead_back state (set_style number own) can = style_back state number own ∙ sym (next_stays state state.next refl)
steps_lead_back state (set_class number words) can = class_back state number words ∙ sym (next_stays state state.next refl)
steps_lead_back state (insert parent index nodes own) can =
    inserted_back state can.whole parent index nodes own (insert_passes state parent index nodes own can.unrefused).0
    (edits_keep_whole state (insert parent index nodes own) can.whole can.unrefused)
    (edits_keep_reached state (insert parent index nodes own) can.fitting can.rooted can.whole can.reached can.unrefused)
steps_lead_back state (remove number) can =
    let (alive, root) = remove_passes state number can.unrefused in
    let stands = stands_in state (remove number) number can alive root in
    ap (λ (p : ℕ). restored (removed state number) p (place_in number (children_at state p)) (numbered_below state number)) (holder_is state number stands)
    ∙ (removed_back state can.whole can.reached number stands.parent stands.is stands.there stands.level stands.low stands.at
    ∙ sym (next_stays state (removed state number).next (removed_next state can.whole can.reached number stands.parent stands.is stands.there stands.level stands.low stands.at)))
steps_lead_back state (move_to number parent index) can =
    let (alive, root) = move_passes state number parent index can.unrefused in
    let stands = stands_in state (move_to number parent index) number can alive root in
    let once = stands_once state can.whole number stands.parent stands.is stands.there in
    ap (λ (p : ℕ). moved (moved state number parent index) number p (place_in number (children_at state p))) (holder_is state number stands)
    ∙ (moved_and_back state can.whole number parent index stands.parent alive root stands.is once
    ∙ sym (next_stays state (moved state number parent index).next (moved_next state can.whole number parent index stands.parent alive root stands.is once)))

pub steps_lead_there : StepsLeadThere
steps_lead_there state (set_text number letters) can = ap (λ (s : State). after s (set_text number letters)) (next_stays state state.next refl)
steps_lead_there state (set_style number own) can = ap (λ (s : State). after s (set_style number own)) (next_stays state state.next refl)
steps_lead_there state (set_class number words) can = ap (λ (s : State). after s (set_class number words)) (next_stays state state.next refl)
steps_lead_there state (insert parent index nodes own) can = inserted_again state can.whole parent index _ nodes own refl
steps_lead_there state (remove number) can =
    let (alive, root) = remove_passes state number can.unrefused in
    let stands = stands_in state (remove number) number can alive root in
    let next = removed_next state can.whole can.reached number stands.parent stands.is stands.there stands.level stands.low stands.at in
    ap (λ (s : State). taken s (unwrap_or (parent_at state number) 0) (number ∷ [])) (next_stays state (removed state number).next next)
    ∙ (ap (λ (p : ℕ). taken state p (number ∷ [])) (holder_is state number stands) ∙ taken_again state number stands.parent stands.is)
steps_lead_there state (move_to number parent index) can =
    let (alive, root) = move_passes state number parent index can.unrefused in
    let stands = stands_in state (move_to number parent index) number can alive root in
    let once = stands_once state can.whole number stands.parent stands.is stands.there in
    ap (λ (s : State). moved s number parent index) (next_stays state (moved state number parent index).next (moved_next state can.whole number parent index stands.parent alive root stands.is once))
