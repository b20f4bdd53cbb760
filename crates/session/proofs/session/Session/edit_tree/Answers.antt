use Rattle.std.proofs.Common.{◌≡◌, ◌∙◌, ◌≤◌, refl, sym, ap, subst, arith, List, Option, IfSome, Err}
use Rattle.std.proofs.lemmas.Result.{err_from_is_err_and}
use Rattle.face_api.specs.Faces.{faces_of}
use Rattle.css_types.specs.Rule.{Ruling, rulings_of}
use Rattle.cascade.specs.Index.{index_rules}
use Rattle.style_tree.specs.Styling.{styled_document}
use Rattle.box_gen.specs.Boxes.{root_boxes}
use Rattle.box_gen.specs.Limit.{IsWithinLimits}
use Rattle.box_limits.specs.Limits.{Answers, IsEditedFrom}
use Rattle.dom_store.specs.Edited.{edit_of}
use Rattle.dom_store.specs.Edits.{after}
use Rattle.dom_store.specs.State.{State, state_of}
use Rattle.dom_store.specs.Taking.{before_of}
use Rattle.tree_laws.specs.Weight.{bytes, total}
use Rattle.edits.specs.Change.{of_tree}
use Rattle.edits.specs.Exact.{StepOf, of_tree_step}
use Rattle.undo_log.specs.Log.{recorded}
use Rattle.session.specs.Found.{KeepsAll}
use Rattle.session.specs.State.{AreKept, AreRooted, rules_in, state_in, styled_in}
use Rattle.session.specs.declared.keeping.KeptBoxes.{KeptBoxes}
use Rattle.session.proofs.Losing.{loses_touched}
use Rattle.session.proofs.Histories.{some_history}
use Rattle.session.proofs.Outcomes.{boxes_refuse, bytes_after, can_apply, edited_from, is_after, open_after, refused_edit, refused_step, rooted_after, said_after, state_after, taken, with_tree}
use Rattle.session.proofs.SetTexts.{are_rooted, can_set_by}
use Rattle.session.proofs.Standing.{sound_by, sound_in}
use Rattle.session.proofs.Within.{leads_back}
use Rattle.session.proofs.session.Session.edit_tree.Goals as goal

pub returns-in_err-step-clause-applies : goal.returns-in_err-step-clause-applies
returns-in_err-step-clause-applies g c =
    let tables = faces_of (λ vtable. (g.dyn-1.0.entry vtable).1) c.args.self.now.faces in
    let p = err_from_is_err_and c.from_residual.result c.from_residual.ensures.1 in
    rw (p.1, p.2) (refused_step (state_in tables c.args.self.now) (edit_of c.args.edit.now) c.in_err-step.field-0.0 c.in_err-step.ensures, refl, refl, refl)

pub returns-in_err-change-clause-applies : goal.returns-in_err-change-clause-applies
returns-in_err-change-clause-applies g c =
    let tables = faces_of (λ vtable. (g.dyn-1.0.entry vtable).1) c.args.self.now.faces in
    let p = err_from_is_err_and c.from_residual-in_err-change.result c.from_residual-in_err-change.ensures.1 in
    rw (p.1, p.2) (refused_edit (state_in tables c.args.self.now) (edit_of c.args.edit.now) c.in_err-change.field-0.0 c.in_err-change.ensures.applies.0, ap (with_tree tables (rules_in c.args.self.now)) c.in_err-change.ensures.applies.1, refl, refl)

pub returns-in_err-change-clause-sound : goal.returns-in_err-change-clause-sound
returns-in_err-change-clause-sound g c =
    let tables = faces_of (λ vtable. (g.dyn-1.0.entry vtable).1) c.args.self.now.faces in
    sound_in tables c.args.self.now c.apply.new.self c.in_err-change.ensures.applies.1 c.requires.sound

pub check_boxes_after-requires-clause-index : goal.check_boxes_after-requires-clause-index
check_boxes_after-requires-clause-index g c =
    subst (λ (r : List Ruling). IfSome c.args.self.now.index (λ index. index_rules index ≡ r)) (sym (ap rulings_of c.deref.ensures.value)) c.requires.sound.index

pub check_boxes_after-requires-clause-own : goal.check_boxes_after-requires-clause-own
check_boxes_after-requires-clause-own g c =
    let old = state_of c.args.self.now.document in
    let next = state_of c.apply.new.self in
    let rules = rules_in c.args.self.now in
    let edit = edit_of c.args.edit.now in
    let tables = faces_of (λ vtable. (g.dyn-1.0.entry vtable).1) c.args.self.now.faces in
    let elements = c.in_ok-change.change.elements.items in
    let done = c.accepted_edits_are_done.ensures in
    let is = c.in_ok-change.ensures.applies in
    let ruled = ap rulings_of c.deref.ensures.value in
    said_after tables rules old next edit elements done is c.accepted_edits_stay_said.ensures c.requires.said c.requires.sound.document.said

pub check_boxes_after-requires-clause-edited : goal.check_boxes_after-requires-clause-edited
check_boxes_after-requires-clause-edited g c =
    let old = state_of c.args.self.now.document in
    let next = state_of c.apply.new.self in
    let rules = rules_in c.args.self.now in
    let edit = edit_of c.args.edit.now in
    let tables = faces_of (λ vtable. (g.dyn-1.0.entry vtable).1) c.args.self.now.faces in
    let elements = c.in_ok-change.change.elements.items in
    let done = c.accepted_edits_are_done.ensures in
    let is = c.in_ok-change.ensures.applies in
    let ruled = ap rulings_of c.deref.ensures.value in
    let sound = c.requires.sound.document in
    (old, subst (λ (r : List Ruling). IsEditedFrom r edit next old) (sym ruled) (edited_from tables rules old next edit elements done is c.requires.fitting sound.rooted sound.whole sound.reached sound.within))

pub edited_boxes-requires : goal.edited_boxes-requires
edited_boxes-requires g c =
    let tables = faces_of (λ vtable. (g.dyn-1.0.entry vtable).1) c.args.self.now.faces in
    let rooted = are_rooted tables c.args.self.now.view (styled_in c.args.self.now) c.args.self.now.boxes c.requires.sound.ready in
    record { rooted = subst (λ (boxes : Option KeptBoxes). IfSome boxes AreRooted) (sym c.take.ensures.value) rooted }

pub returns-in-Ok-clause-applies : goal.returns-in-Ok-clause-applies
returns-in-Ok-clause-applies g c =
    let old = state_of c.args.self.now.document in
    let next = state_of c.apply.new.self in
    let rules = rules_in c.args.self.now in
    let edit = edit_of c.args.edit.now in
    let tables = faces_of (λ vtable. (g.dyn-1.0.entry vtable).1) c.args.self.now.faces in
    let elements = c.in_ok-change.change.elements.items in
    let done = c.accepted_edits_are_done.ensures in
    let is = c.in_ok-change.ensures.applies in
    let ruled = ap rulings_of c.deref.ensures.value in
    let within = subst (λ (r : List Ruling). IsWithinLimits (styled_document r next)) ruled c.in-Ok.ensures.answers in
    let log = c.args.self.now.log in (
      can_apply tables rules old next edit elements done is within,
      state_after tables rules old next edit elements done is,
      c.record.ensures ∙ ap (λ (step : StepOf). recorded step log) (c.step_of_tree.ensures ∙ ap of_tree_step c.in_ok-step.ensures.1),
    )

pub returns-in-Ok-clause-loses : goal.returns-in-Ok-clause-loses
returns-in-Ok-clause-loses g c =
    let old = state_of c.args.self.now.document in
    let next = state_of c.apply.new.self in
    let rules = rules_in c.args.self.now in
    let edit = edit_of c.args.edit.now in
    let tables = faces_of (λ vtable. (g.dyn-1.0.entry vtable).1) c.args.self.now.faces in
    let elements = c.in_ok-change.change.elements.items in
    let done = c.accepted_edits_are_done.ensures in
    let is = c.in_ok-change.ensures.applies in
    let ruled = ap rulings_of c.deref.ensures.value in
    let within = subst (λ (r : List Ruling). IsWithinLimits (styled_document r next)) ruled c.in-Ok.ensures.answers in
    let sound = c.requires.sound.document in
    let can = can_apply tables rules old next edit elements done is within in
    let room : total bytes (after old edit) ≤ 1048576 = c.requires.room can in
    let short : total bytes next ≤ 1048576 = subst (λ (state : State). total bytes state ≤ 1048576) (sym (is_after tables rules old next edit elements done is)) room in
    let opened =
    open_after tables rules old next edit elements done is c.accepted_edits_keep_roots.ensures c.children_have_parents.ensures c.accepted_edits_stay_said.ensures c.accepted_edits_keep_documents_whole.ensures
    c.accepted_edits_keep_documents_reached.ensures c.accepted_edits_keep_documents_held.ensures c.accepted_edits_keep_texts_leaves.ensures c.accepted_edits_weigh.ensures c.requires.fitting c.requires.said
    1048576 sound within short in
    let ready = subst (λ (boxes : Option KeptBoxes). IfSome boxes (AreKept tables c.args.self.now.view (styled_document rules old))) (sym c.take.ensures.value) c.requires.sound.ready in
    loses_touched tables c.args.self.now (record c.args.self.now { document = c.apply.new.self; index = c.check_boxes_after.new.index; boxes = c.edited_boxes.result; log = c.record.new.self }) (of_tree edit)
    c.pages_are_boxes_of_html.ensures c.names_are_of_places.ensures c.boxes_outside_the_scope_were_there.ensures c.untouched_boxes_were_there.ensures
    (record { fitting = c.requires.fitting; rooted = sound.rooted; whole = sound.whole; reached = sound.reached; leaves = sound.leaves; unrefused = can.taken })
    (rooted_after tables rules old next edit elements done is c.accepted_edits_keep_roots.ensures c.children_have_parents.ensures sound.whole sound.rooted)
    (state_after tables rules old next edit elements done is)
    (subst (λ (boxes : Option KeptBoxes). KeepsAll boxes c.edited_boxes.result (root_boxes (styled_document rules (after old edit)))) c.take.ensures.value
    (c.edited_boxes.ensures.keeps tables c.args.self.now.view rules old (λ alike. can_set_by (state_in tables c.args.self.now) (with_tree tables rules next) edit sound opened (is_after tables rules old next edit elements done is) (c.sets_alike-alike.ensures alike)) ready))

pub returns-in-Ok-clause-bytes : goal.returns-in-Ok-clause-bytes
returns-in-Ok-clause-bytes g c =
    let old = state_of c.args.self.now.document in
    let next = state_of c.apply.new.self in
    let rules = rules_in c.args.self.now in
    let edit = edit_of c.args.edit.now in
    let tables = faces_of (λ vtable. (g.dyn-1.0.entry vtable).1) c.args.self.now.faces in
    let elements = c.in_ok-change.change.elements.items in
    let done = c.accepted_edits_are_done.ensures in
    let is = c.in_ok-change.ensures.applies in
    let ruled = ap rulings_of c.deref.ensures.value in
    bytes_after tables rules old next edit elements done is c.accepted_edits_weigh.ensures

pub returns-in-Ok-clause-sound : goal.returns-in-Ok-clause-sound
returns-in-Ok-clause-sound g c =
    let old = state_of c.args.self.now.document in
    let next = state_of c.apply.new.self in
    let rules = rules_in c.args.self.now in
    let edit = edit_of c.args.edit.now in
    let tables = faces_of (λ vtable. (g.dyn-1.0.entry vtable).1) c.args.self.now.faces in
    let elements = c.in_ok-change.change.elements.items in
    let done = c.accepted_edits_are_done.ensures in
    let is = c.in_ok-change.ensures.applies in
    let ruled = ap rulings_of c.deref.ensures.value in
    let sound = c.requires.sound in
    let within = subst (λ (r : List Ruling). IsWithinLimits (styled_document r next)) ruled c.in-Ok.ensures.answers in
    let room : total bytes (after old edit) ≤ 1048576 = c.requires.room (can_apply tables rules old next edit elements done is within) in
    let short : total bytes next ≤ 1048576 = subst (λ (state : State). total bytes state ≤ 1048576) (sym (is_after tables rules old next edit elements done is)) room in
    let can =
    open_after tables rules old next edit elements done is c.accepted_edits_keep_roots.ensures c.children_have_parents.ensures c.accepted_edits_stay_said.ensures c.accepted_edits_keep_documents_whole.ensures
    c.accepted_edits_keep_documents_reached.ensures c.accepted_edits_keep_documents_held.ensures c.accepted_edits_keep_texts_leaves.ensures c.accepted_edits_weigh.ensures c.requires.fitting c.requires.said
    1048576 sound.document within short in
    let after_is = is_after tables rules old next edit elements done is in
    let logged = c.record.ensures ∙ ap (λ (step : StepOf). recorded step c.args.self.now.log) (c.step_of_tree.ensures ∙ ap of_tree_step c.in_ok-step.ensures.1) in
    record {
      document = can;
      index = subst (λ (r : List Ruling). IfSome c.check_boxes_after.new.index (λ index. index_rules index ≡ r)) ruled c.in-Ok.ensures.index;
      view = sound.view;
      ready =
          subst (λ (state : State). IfSome c.edited_boxes.result (AreKept tables c.args.self.now.view (styled_document rules state))) (sym after_is)
          (c.edited_boxes.ensures.kept tables c.args.self.now.view rules old (λ alike. can_set_by (state_in tables c.args.self.now) (with_tree tables rules next) edit sound.document can after_is (c.sets_alike-alike.ensures alike))
          (subst (λ (boxes : Option KeptBoxes). IfSome boxes (AreKept tables c.args.self.now.view (styled_document rules old))) (sym c.take.ensures.value) sound.ready));
      history =
          some_history c.logs_stand_for_states.ensures c.documents_stay_where_more_are_drawn.ensures c.steps_of_edits_lead_both_ways.ensures tables tables c.args.self.now
          (record c.args.self.now { document = c.apply.new.self; index = c.check_boxes_after.new.index; boxes = c.edited_boxes.result; log = c.record.new.self }) (of_tree edit) c.requires.fitting
          (taken tables rules old next edit elements done is) (state_after tables rules old next edit elements done is) logged sound can;
    }

pub returns-in-Err-clause-applies : goal.returns-in-Err-clause-applies
returns-in-Err-clause-applies g c =
    let old = state_of c.args.self.now.document in
    let next = state_of c.apply.new.self in
    let rules = rules_in c.args.self.now in
    let edit = edit_of c.args.edit.now in
    let tables = faces_of (λ vtable. (g.dyn-1.0.entry vtable).1) c.args.self.now.faces in
    let elements = c.in_ok-change.change.elements.items in
    let done = c.accepted_edits_are_done.ensures in
    let is = c.in_ok-change.ensures.applies in
    let ruled = ap rulings_of c.deref.ensures.value in
    let same : state_of c.take_back.new.self ≡ old = c.take_back.ensures ∙ leads_back edit (before_of c.in_ok-change.change.before) next old c.in-Err.ensures.back c.in_ok-change.ensures.back in
    rw c.from.ensures (boxes_refuse tables rules old next edit elements done is c.in-Err.error (subst (λ (r : List Ruling). Answers r next (Err c.in-Err.error)) ruled c.in-Err.ensures.answers), ap (with_tree tables rules) same, refl, refl)

pub returns-in-Err-clause-bytes : goal.returns-in-Err-clause-bytes
returns-in-Err-clause-bytes g c =
    let old = state_of c.args.self.now.document in
    let next = state_of c.apply.new.self in
    let rules = rules_in c.args.self.now in
    let edit = edit_of c.args.edit.now in
    let tables = faces_of (λ vtable. (g.dyn-1.0.entry vtable).1) c.args.self.now.faces in
    let elements = c.in_ok-change.change.elements.items in
    let done = c.accepted_edits_are_done.ensures in
    let is = c.in_ok-change.ensures.applies in
    let ruled = ap rulings_of c.deref.ensures.value in
    let same : state_of c.take_back.new.self ≡ old = c.take_back.ensures ∙ leads_back edit (before_of c.in_ok-change.change.before) next old c.in-Err.ensures.back c.in_ok-change.ensures.back in
    let much : total bytes (state_of c.take_back.new.self) ≡ total bytes old = ap (λ (state : State). total bytes state) same in
    omega (arith, much)

pub returns-in-Err-clause-sound : goal.returns-in-Err-clause-sound
returns-in-Err-clause-sound g c =
    let old = state_of c.args.self.now.document in
    let next = state_of c.apply.new.self in
    let rules = rules_in c.args.self.now in
    let edit = edit_of c.args.edit.now in
    let tables = faces_of (λ vtable. (g.dyn-1.0.entry vtable).1) c.args.self.now.faces in
    let elements = c.in_ok-change.change.elements.items in
    let done = c.accepted_edits_are_done.ensures in
    let is = c.in_ok-change.ensures.applies in
    let ruled = ap rulings_of c.deref.ensures.value in
    let same : state_of c.take_back.new.self ≡ old = c.take_back.ensures ∙ leads_back edit (before_of c.in_ok-change.change.before) next old c.in-Err.ensures.back c.in_ok-change.ensures.back in
    sound_by tables (record c.args.self.now { document = c.take_back.new.self }) c.check_boxes_after.new.index
    (subst (λ (r : List Ruling). IfSome c.check_boxes_after.new.index (λ index. index_rules index ≡ r)) ruled c.in-Err.ensures.index)
    (sound_in tables c.args.self.now c.take_back.new.self same c.requires.sound)
