use Rattle.std.proofs.Common.{◌∙◌, ℕ, Option, IfSome, refl, subst, sym}
use Rattle.std.proofs.lemmas.Option.{same_Some}
use Rattle.dom_store.specs.State.{state_of}
use Rattle.cascade.specs.declared.index.RuleIndex.{RuleIndex}
use Rattle.face_api.specs.Faces.{faces_of}
use Rattle.edits.specs.Exact.{StepOf, step_as}
use Rattle.undo_log.specs.History.{Standing}
use Rattle.undo_log.specs.Log.{Log, gone_down}
use Rattle.session.specs.declared.keeping.KeptBoxes.{KeptBoxes}
use Rattle.session.specs.Document.{most_bytes}
use Rattle.session.specs.Found.{LosesExactly}
use Rattle.session.specs.History.{undone}
use Rattle.session.specs.State.{AreRooted, HasHistory, rules_in, state_in, styled_in}
use Rattle.session.specs.Undoing.{BoxesGoOn, IndexStays, IsDoneBy}
use Rattle.session.proofs.Moves.{MovesTo, can_bare, done_whole, leads_to, loses_there, moves_back, sound_there}
use Rattle.session.proofs.SetTexts.{are_rooted}
use Rattle.session.proofs.session.Session.undo.Goals as goal

pub do_exactly-requires : goal.do_exactly-requires
do_exactly-requires g c =
    let old = c.args.self.now in
    let faces = faces_of (λ vtable. (g.dyn-1.0.entry vtable).1) old.faces in
    let step = step_as c.in-Some.step.now in
    let history = c.requires.sound.history in
    let moves = moves_back c.logs_stand_for_states.ensures (state_in faces old) old.log step most_bytes history.0 history.1 (sym c.in-Some.ensures.step) in
    can_bare (state_in faces old) step.back moves.goes_there.can

pub boxes_after-requires : goal.boxes_after-requires
boxes_after-requires g c =
    let faces = faces_of (λ vtable. (g.dyn-1.0.entry vtable).1) c.args.self.now.faces in
    let rooted = are_rooted faces c.args.self.now.view (styled_in c.args.self.now) c.args.self.now.boxes c.requires.sound.ready in
    record { rooted = subst (λ (boxes : Option KeptBoxes). IfSome boxes AreRooted) (sym c.take-in-Some.ensures.value) rooted }

pub returns-in_ok-do_exactly-in-Some-clause-undoes : goal.returns-in_ok-do_exactly-in-Some-clause-undoes
returns-in_ok-do_exactly-in-Some-clause-undoes g c =
    let old = c.args.self.now in
    let faces = faces_of (λ vtable. (g.dyn-1.0.entry vtable).1) old.faces in
    let step = step_as c.in-Some.step.now in
    let new = record old { document = c.do_exactly.new.document; rules = c.do_exactly.new.rules; index = c.index_after.result; boxes = c.boxes_after.result; log = c.down.new.self } in
    let moves : (most : ℕ) (history : Log Standing) → HasHistory faces most old history → MovesTo undone (state_in faces old) old.log (gone_down old.log) step.back most history =
    λ most history has. moves_back c.logs_stand_for_states.ensures (state_in faces old) old.log step most history has (sym c.in-Some.ensures.step) in
    let done : IsDoneBy faces faces old new step.back (gone_down old.log) = record {
      state = done_whole faces (state_of old.document) (state_of new.document) (rules_in old) (rules_in new) step.back c.in_ok-do_exactly-in-Some.ensures.done;
      log = c.down.ensures;
    } in
    leads_to faces old new step.back (gone_down old.log) undone moves done

pub returns-in_ok-do_exactly-in-Some-clause-loses : goal.returns-in_ok-do_exactly-in-Some-clause-loses
returns-in_ok-do_exactly-in-Some-clause-loses g c =
    let old = c.args.self.now in
    let faces = faces_of (λ vtable. (g.dyn-1.0.entry vtable).1) old.faces in
    let step = step_as c.in-Some.step.now in
    let new = record old { document = c.do_exactly.new.document; rules = c.do_exactly.new.rules; index = c.index_after.result; boxes = c.boxes_after.result; log = c.down.new.self } in
    let moves : (most : ℕ) (history : Log Standing) → HasHistory faces most old history → MovesTo undone (state_in faces old) old.log (gone_down old.log) step.back most history =
    λ most history has. moves_back c.logs_stand_for_states.ensures (state_in faces old) old.log step most history has (sym c.in-Some.ensures.step) in
    let done : IsDoneBy faces faces old new step.back (gone_down old.log) = record {
      state = done_whole faces (state_of old.document) (state_of new.document) (rules_in old) (rules_in new) step.back c.in_ok-do_exactly-in-Some.ensures.done;
      log = c.down.ensures;
    } in
    let index = subst (λ (o : Option RuleIndex). IndexStays o step.back new.index) c.take.ensures.value c.index_after.ensures in
    let boxes = subst (λ (o : Option KeptBoxes). BoxesGoOn c.sets_exactly_alike-alike.result o step.back new.boxes) c.take-in-Some.ensures.value c.boxes_after.ensures in
    λ other is.
    subst (λ (s : StepOf). LosesExactly faces old new s.back) (same_Some step other (c.in-Some.ensures.step ∙ is))
    (loses_there faces old new step.back (gone_down old.log) undone moves done c.requires.sound refl index c.sets_exactly_alike-alike.result c.sets_exactly_alike-alike.ensures boxes c.pages_are_boxes_of_html.ensures c.names_are_of_places.ensures
    c.boxes_are_of_elements.ensures c.boxes_outside_the_scope_of_an_exact_edit_were_there.ensures c.boxes_untouched_by_an_exact_edit_were_there.ensures)

pub returns-in_ok-do_exactly-in-Some-clause-sound : goal.returns-in_ok-do_exactly-in-Some-clause-sound
returns-in_ok-do_exactly-in-Some-clause-sound g c =
    let old = c.args.self.now in
    let faces = faces_of (λ vtable. (g.dyn-1.0.entry vtable).1) old.faces in
    let step = step_as c.in-Some.step.now in
    let new = record old { document = c.do_exactly.new.document; rules = c.do_exactly.new.rules; index = c.index_after.result; boxes = c.boxes_after.result; log = c.down.new.self } in
    let moves : (most : ℕ) (history : Log Standing) → HasHistory faces most old history → MovesTo undone (state_in faces old) old.log (gone_down old.log) step.back most history =
    λ most history has. moves_back c.logs_stand_for_states.ensures (state_in faces old) old.log step most history has (sym c.in-Some.ensures.step) in
    let done : IsDoneBy faces faces old new step.back (gone_down old.log) = record {
      state = done_whole faces (state_of old.document) (state_of new.document) (rules_in old) (rules_in new) step.back c.in_ok-do_exactly-in-Some.ensures.done;
      log = c.down.ensures;
    } in
    let index = subst (λ (o : Option RuleIndex). IndexStays o step.back new.index) c.take.ensures.value c.index_after.ensures in
    let boxes = subst (λ (o : Option KeptBoxes). BoxesGoOn c.sets_exactly_alike-alike.result o step.back new.boxes) c.take-in-Some.ensures.value c.boxes_after.ensures in
    sound_there faces old new step.back (gone_down old.log) undone moves done c.requires.sound refl index c.sets_exactly_alike-alike.result c.sets_exactly_alike-alike.ensures boxes
