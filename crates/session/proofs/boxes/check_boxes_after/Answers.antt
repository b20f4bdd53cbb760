use Rattle.std.proofs.Common.{subst}
use Rattle.css_types.specs.Rule.{rulings_of}
use Rattle.dom_store.specs.declared.edit.Edit.{Edit}
use Rattle.dom_store.specs.Edited.{edit_of}
use Rattle.dom_store.specs.State.{state_of}
use Rattle.box_limits.specs.Limits.{IsEditedFrom}
use Rattle.session.proofs.Within.{removed_within, text_within}
use Rattle.session.proofs.boxes.check_boxes_after.Goals as goal

pub returns-in-Remove-clause-answers : goal.returns-in-Remove-clause-answers
returns-in-Remove-clause-answers c =
    let rules = rulings_of c.args.rules.now in
    let next = state_of c.args.document.now in
    let before = c.requires.edited.0 in
    removed_within c.documents_are_judged_by_lines.ensures c.edits_are_judged_by_their_parts.ensures c.accepted_edits_keep_roots.ensures c.children_have_parents.ensures
    c.accepted_edits_keep_documents_whole.ensures c.accepted_edits_keep_documents_reached.ensures rules next before c.in-Remove.node
    (subst (λ (edit : Edit). IsEditedFrom rules (edit_of edit) next before) c.in-Remove.is c.requires.edited.1)

pub returns-in-Text-clause-answers : goal.returns-in-Text-clause-answers
returns-in-Text-clause-answers c =
    let rules = rulings_of c.args.rules.now in
    let next = state_of c.args.document.now in
    let before = c.requires.edited.0 in
    text_within c.documents_are_judged_by_lines.ensures c.edits_are_judged_by_their_parts.ensures c.accepted_edits_keep_roots.ensures c.children_have_parents.ensures
    c.accepted_edits_keep_documents_whole.ensures c.accepted_edits_keep_documents_reached.ensures rules next before c.in-Text.node _
    (subst (λ (edit : Edit). IsEditedFrom rules (edit_of edit) next before) c.in-Text.is c.requires.edited.1)
