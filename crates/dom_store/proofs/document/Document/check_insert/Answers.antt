use Rattle.std.proofs.Common.{◌≡◌, ◌∙◌, [], ◌∷◌, ap, sym, length, inl, inr}
use Rattle.std.proofs.lemmas.List.{length-map}
use Rattle.html_read.specs.Values.{node_of, nodes_of}
use Rattle.dom_store.specs.Edits.{insert}
use Rattle.dom_store.specs.Refusals.{entering, refusal, too_deep_under, too_many}
use Rattle.dom_store.specs.State.{state_of}
use Rattle.dom_store.proofs.JudgeLaws.{alone, fits, has_room, judged, not_before, reason_first, reason_none, refused_before}
use Rattle.dom_store.proofs.document.Document.check_insert.Goals as goal

pub check_new_depths-requires-clause-few : goal.check_new_depths-requires-clause-few
check_new_depths-requires-clause-few c =
    let old = c.args.self.now in
    (fits (state_of old) (length c.args.nodes.now) (has_room (state_of old) (length c.args.nodes.now) c.in_ok-check_count.ensures) old.fits).0

pub check_new_depths-requires-clause-room : goal.check_new_depths-requires-clause-room
check_new_depths-requires-clause-room c =
    let old = c.args.self.now in
    (fits (state_of old) (length c.args.nodes.now) (has_room (state_of old) (length c.args.nodes.now) c.in_ok-check_count.ensures) old.fits).1

pub returns-in_err-check_entering : goal.returns-in_err-check_entering
returns-in_err-check_entering c =
    let state = state_of c.args.self.now in
    let nodes = nodes_of c.args.nodes.now in
    let error = c.in_err-check_entering.field-0.0 in
    judged (refusal state (insert c.args.parent c.args.index nodes [])) error c.from_residual.result c.from_residual.ensures.1
    (inr (refused_before (entering state c.args.parent c.args.index) (too_many state (length nodes) ∷ too_deep_under state c.args.parent nodes ∷ []) error c.in_err-check_entering.ensures))

pub returns-in_err-check_count : goal.returns-in_err-check_count
returns-in_err-check_count c =
    let state = state_of c.args.self.now in
    let nodes = nodes_of c.args.nodes.now in
    let error = c.in_err-check_count.field-0.0 in
    let many = too_many state (length nodes) in
    let deep = too_deep_under state c.args.parent nodes in
    let some = c.in_err-check_count.ensures ∙ ap (too_many state) (sym (length-map c.args.nodes.now node_of)) in
    judged (refusal state (insert c.args.parent c.args.index nodes [])) error c.from_residual-in_err-check_count.result c.from_residual-in_err-check_count.ensures.1
    (inr (not_before (entering state c.args.parent c.args.index) (many ∷ deep ∷ []) c.in_ok-check_entering.ensures ∙ reason_first many (deep ∷ []) error some))

pub returns-in_err-check_new_depths : goal.returns-in_err-check_new_depths
returns-in_err-check_new_depths c =
    let state = state_of c.args.self.now in
    let nodes = nodes_of c.args.nodes.now in
    let many = too_many state (length nodes) in
    let deep = too_deep_under state c.args.parent nodes in
    let none = c.in_ok-check_count.ensures ∙ ap (too_many state) (sym (length-map c.args.nodes.now node_of)) in
    let first : refusal state (insert c.args.parent c.args.index nodes []) ≡ deep =
    not_before (entering state c.args.parent c.args.index) (many ∷ deep ∷ []) c.in_ok-check_entering.ensures ∙ (reason_none many (deep ∷ []) none ∙ alone deep) in
    judged (refusal state (insert c.args.parent c.args.index nodes [])) c.in_err-check_new_depths.field-0.0 c.from_residual-in_err-check_new_depths.result c.from_residual-in_err-check_new_depths.ensures.1 (elim c.in_err-check_new_depths.ensures [
      | inl memory ↦ inl memory
      | inr some ↦ inr (first ∙ some)
    ])

pub returns : goal.returns
returns c =
    let state = state_of c.args.self.now in
    let nodes = nodes_of c.args.nodes.now in
    let many = too_many state (length nodes) in
    let deep = too_deep_under state c.args.parent nodes in
    let none = c.in_ok-check_count.ensures ∙ ap (too_many state) (sym (length-map c.args.nodes.now node_of)) in
    not_before (entering state c.args.parent c.args.index) (many ∷ deep ∷ []) c.in_ok-check_entering.ensures ∙ (reason_none many (deep ∷ []) none ∙ (alone deep ∙ c.in_ok-check_new_depths.ensures))
