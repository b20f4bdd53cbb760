use Rattle.std.proofs.Common.{◌≡◌, ◌∙◌, List, [], ◌∷◌, ap, subst, inl, inr}
use Rattle.html_read.specs.Values.{nodes_of}
use Rattle.html_read.specs.declared.node.ReadNode.{ReadNode}
use Rattle.dom_store.specs.declared.edit.Edit.{Edit}
use Rattle.dom_store.specs.State.{state_of}
use Rattle.dom_store.specs.Edited.{edit_of}
use Rattle.cascade.specs.Index.{index_rules}
use Rattle.box_limits.specs.Limits.{IsEditedFrom, touched}
use Rattle.box_limits.specs.Judging.{count_of_tops}
use Rattle.box_limits.proofs.Editing.{edited_tree, new_all, new_below, new_within, one_touched, untouched_all}
use Rattle.box_limits.proofs.judging.Judging.edited.Goals as goal

pub inserted-requires-clause-tree : goal.inserted-requires-clause-tree
inserted-requires-clause-tree c = edited_tree _ _ _ _ c.requires.edited.1 c.accepted_edits_keep_roots.ensures c.accepted_edits_keep_documents_whole.ensures c.accepted_edits_keep_documents_reached.ensures

pub changed-requires : goal.changed-requires
changed-requires c = record { tree = edited_tree _ _ _ _ c.requires.edited.1 c.accepted_edits_keep_roots.ensures c.accepted_edits_keep_documents_whole.ensures c.accepted_edits_keep_documents_reached.ensures }

pub returns-in-Text : goal.returns-in-Text
returns-in-Text c =
    let tree = edited_tree _ _ _ _ c.requires.edited.1 c.accepted_edits_keep_roots.ensures c.accepted_edits_keep_documents_whole.ensures c.accepted_edits_keep_documents_reached.ensures in
    let none : touched c.requires.edited.0 (edit_of c.args.edit.now) ≡ [] = elim c.in-Text.is [
      | inl e ↦ let (number, letters, is) = e in ap (λ (edit : Edit). touched c.requires.edited.0 (edit_of edit)) is
      | inr e ↦ let (number, is) = e in ap (λ (edit : Edit). touched c.requires.edited.0 (edit_of edit)) is
    ] in
    untouched_all _ _ _ _ c.requires.edited.1 tree c.edits_are_judged_by_their_parts.ensures none c.nothing.result c.nothing.ensures

pub returns-in_ok-found-in-Style : goal.returns-in_ok-found-in-Style
returns-in_ok-found-in-Style c =
    let one : touched c.requires.edited.0 (edit_of c.args.edit.now) ≡ c.in-Style.node ∷ [] = elim c.in-Style.is [
      | inl e ↦ let (own, is) = e in ap (λ (edit : Edit). touched c.requires.edited.0 (edit_of edit)) is
      | inr others ↦ elim others [
        | inl e ↦ let (words, is) = e in ap (λ (edit : Edit). touched c.requires.edited.0 (edit_of edit)) is
        | inr e ↦ let (parent, index, is) = e in ap (λ (edit : Edit). touched c.requires.edited.0 (edit_of edit)) is
      ]
    ] in
    one_touched _ _ _ _ c.requires.edited.1 c.edits_are_judged_by_their_parts.ensures c.in-Style.node one c.in_ok-found-in-Style.found c.in_ok-found-in-Style.ensures

pub returns-in_ok-found-in-Insert : goal.returns-in_ok-found-in-Insert
returns-in_ok-found-in-Insert c =
    let state = c.requires.edited.0 in
    let tree = edited_tree _ _ _ _ c.requires.edited.1 c.accepted_edits_keep_roots.ensures c.accepted_edits_keep_documents_whole.ensures c.accepted_edits_keep_documents_reached.ensures in
    let edited = subst (λ (edit : Edit). IsEditedFrom (index_rules c.args.self.now.styling.rules.now) (edit_of edit) (state_of c.args.self.now.styling.document.now) state) c.in-Insert.is c.requires.edited.1 in
    let count : c.count_of_tops-count.result ≡ count_of_tops (nodes_of c.in-Insert.nodes.read.items) = c.count_of_tops-count.ensures.value ∙ ap (λ (l : List ReadNode). count_of_tops (nodes_of l)) c.deref.ensures.value in
    new_all (index_rules c.args.self.now.styling.rules.now) c.in-Insert.parent c.in-Insert.index _ _ _ _ edited tree c.edits_are_judged_by_their_parts.ensures c.count_of_tops-count.result count c.in_ok-found-in-Insert.found c.in_ok-found-in-Insert.ensures

pub inserted-requires-clause-below : goal.inserted-requires-clause-below
inserted-requires-clause-below c =
    let state = c.requires.edited.0 in
    let tree = edited_tree _ _ _ _ c.requires.edited.1 c.accepted_edits_keep_roots.ensures c.accepted_edits_keep_documents_whole.ensures c.accepted_edits_keep_documents_reached.ensures in
    let edited = subst (λ (edit : Edit). IsEditedFrom (index_rules c.args.self.now.styling.rules.now) (edit_of edit) (state_of c.args.self.now.styling.document.now) state) c.in-Insert.is c.requires.edited.1 in
    new_below (index_rules c.args.self.now.styling.rules.now) c.in-Insert.parent c.in-Insert.index _ _ _ _ edited tree

pub inserted-requires-clause-within : goal.inserted-requires-clause-within
inserted-requires-clause-within c =
    let state = c.requires.edited.0 in
    let edited = subst (λ (edit : Edit). IsEditedFrom (index_rules c.args.self.now.styling.rules.now) (edit_of edit) (state_of c.args.self.now.styling.document.now) state) c.in-Insert.is c.requires.edited.1 in
    let count : c.count_of_tops-count.result ≡ count_of_tops (nodes_of c.in-Insert.nodes.read.items) = c.count_of_tops-count.ensures.value ∙ ap (λ (l : List ReadNode). count_of_tops (nodes_of l)) c.deref.ensures.value in
    new_within (index_rules c.args.self.now.styling.rules.now) c.in-Insert.parent c.in-Insert.index _ _ _ _ edited c.count_of_tops-count.result count
