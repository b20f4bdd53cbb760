use Rattle.std.proofs.Common.{sym, subst, map, ap, arith}
use Rattle.html_read.specs.Values.{nodes_of}
use Rattle.dom_store.specs.State.{State, state_of}
use Rattle.dom_store.specs.Edits.{remove, after}
use Rattle.dom_store.specs.Exact.{ExactEditOf, exact_of}
use Rattle.dom_store.specs.Exactly.{CanBeDone}
use Rattle.dom_store.specs.Steps.{StepOf}
use Rattle.tree_laws.specs.Stepped.{CanStep}
use Rattle.check_html.proofs.calls.a_node_that_went_is_restored.Goals as goal

-- the half of the step that leads back can be done in the state after the edit
pub apply_exact-requires : goal.apply_exact-requires
apply_exact-requires g c =
    let nodes = nodes_of c.in_ok-read.read.nodes.items in
    let own = map (λ own. own.items) c.in_ok-styles.styles.styles.items in
    let state = state_of c.in_ok-document.document in
    let shaped = c.in_ok-read.ensures.shaped in
    let opened = c.in_ok-document.ensures.opened in
    let can : CanStep state (remove 2) =
    record {
      fitting = tt;
      rooted = c.in_ok-document.ensures.rooted;
      whole = (c.opened_documents_are_whole.ensures nodes own state shaped opened.2).0;
      reached = c.opened_documents_are_reached.ensures nodes own state shaped c.in_ok-read.ensures.ordered opened.1 opened.2;
      unrefused = c.in_ok-step.ensures.0;
    } in
    let held = c.opened_documents_are_held.ensures nodes own state shaped opened.2 in
    let gone = after state (remove 2) in
    let done = c.accepted_edits_are_done.ensures state (state_of c.apply.new.self) (remove 2) c.in_ok-gone.gone.elements.items c.in_ok-gone.ensures.applies in
    let back = c.steps_can_be_taken_back.ensures state (remove 2) can held gone.next (omega arith) in
    record {
      can =
          subst (λ (s : State). CanBeDone s (exact_of c.in_ok-step.step.back)) (sym done.1)
          (subst (λ (e : ExactEditOf). CanBeDone gone e) (sym (ap (λ (s : StepOf). s.back) c.in_ok-step.ensures.1)) back);
    }
