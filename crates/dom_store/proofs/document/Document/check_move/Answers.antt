use Rattle.std.proofs.Common.{◌≡◌, ◌∙◌, ◌≤◌, ℕ, List, [], ◌∷◌, length, refl, ap, arith, inl, inr}
use Rattle.dom_store.specs.Edits.{move_to, without}
use Rattle.dom_store.specs.Refusals.{bad_index, placing, refusal, too_deep_moved}
use Rattle.dom_store.specs.Standing.{children_at}
use Rattle.dom_store.specs.State.{state_of}
use Rattle.dom_store.proofs.JudgeLaws.{alone, good_first, judged, not_before, refused_before}
use Rattle.dom_store.proofs.document.Document.check_move.Goals as goal

pub returns-in_err-check_placing-clause-judges : goal.returns-in_err-check_placing-clause-judges
returns-in_err-check_placing-clause-judges c =
    let state = state_of c.args.self.now in
    let n = c.args.n in
    let parent = c.args.parent in
    let later = bad_index c.args.index (without n (children_at state parent)) ∷ too_deep_moved state n parent ∷ [] in
    let error = c.in_err-check_placing.field-0.0 in
    judged (refusal state (move_to n parent c.args.index)) error c.from_residual.result c.from_residual.ensures.1 (inr (refused_before (placing state n parent) later error c.in_err-check_placing.ensures))

pub returns-in_err-check_move_depth-clause-judges : goal.returns-in_err-check_move_depth-clause-judges
returns-in_err-check_move_depth-clause-judges c =
    let state = state_of c.args.self.now in
    let n = c.args.n in
    let parent = c.args.parent in
    let index = c.args.index in
    let children = without n (children_at state parent) in
    let deep = too_deep_moved state n parent in
    let many = c.count_others.ensures n c.children-children.result.now c.in_ok-standing.ensures refl in
    let counted : length (without n c.children-children.result.now) ≡ length children = ap (λ (l : List ℕ). length (without n l)) c.children-children.ensures in
    let within : index ≤ length children = omega (arith, c.if-index-count_others.false, many, counted) in
    let first : refusal state (move_to n parent index) ≡ deep =
    not_before (placing state n parent) (bad_index index children ∷ deep ∷ []) c.in_ok-check_placing.ensures ∙ (good_first index children (deep ∷ []) within ∙ alone deep) in
    judged (refusal state (move_to n parent index)) c.in_err-check_move_depth.field-0.0 c.from_residual-in_err-check_move_depth.result c.from_residual-in_err-check_move_depth.ensures.1 (elim c.in_err-check_move_depth.ensures [
      | inl memory ↦ inl memory
      | inr some ↦ inr (first ∙ some)
    ])
