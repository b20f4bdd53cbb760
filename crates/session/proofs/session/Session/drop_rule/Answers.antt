use Rattle.std.proofs.Common.{◌≡◌, ◌∙◌, ap, refl, subst, sym, List, Option, take, drop, None, IfSome, true, arith}
use Rattle.cascade.specs.Winners.{AreSaidRules}
use Rattle.css_types.specs.Rule.{Ruling, rulings_of}
use Rattle.dom_store.specs.State.{state_of}
use Rattle.style_tree.specs.Styling.{styled_document}
use Rattle.box_gen.specs.Limit.{IsWithinLimits}
use Rattle.box_limits.specs.Rules.{turn_none}
use Rattle.edits.specs.Edited.{without}
use Rattle.edits.specs.Change.{unrule}
use Rattle.edits.specs.Exact.{StepOf, unrule_step}
use Rattle.undo_log.specs.Log.{recorded}
use Rattle.face_api.specs.Faces.{faces_of}
use Rattle.cascade.specs.Index.{index_rules}
use Rattle.face_api.specs.Table.{Table}
use Rattle.session.specs.State.{IsSound, rules_in, state_in}
use Rattle.session.specs.declared.session.Session.{Session}
use Rattle.session.proofs.Losing.{loses_all}
use Rattle.session.proofs.RuleEdits as edits
use Rattle.session.proofs.Histories.{sound_under}
use Rattle.session.proofs.session.Session.drop_rule.Goals as goal

pub returns-then-turns_none-clause-applies : goal.returns-then-turns_none-clause-applies
returns-then-turns_none-clause-applies g c =
    let tables = faces_of (λ vtable. (g.dyn-1.0.entry vtable).1) c.args.self.now.faces in
    let state = state_in tables c.args.self.now in
    let tree = state_of c.args.self.now.document in
    let old = rules_in c.args.self.now in
    let at = c.args.number in
    let many = c.len.ensures in
    let low = c.if-at-len.false in
    let has = edits.has_rule at c.args.self.now.rules.items (omega (arith, many, low)) in
    let items = c.deref-2.ensures.value in
    let turn : turn_none (take 1 (drop at old)) ≡ true = ap (λ (rules : List _). turn_none (take 1 (drop at (rulings_of rules)))) (sym items) ∙ sym c.turns_none.ensures ∙ c.if-turns_none.true in
    let put : rulings_of c.remove.new.self.items ≡ without at old = ap rulings_of c.remove.ensures.by_index.2 ∙ edits.rulings_without at c.args.self.now.rules.items in
    let within = edits.within_without c.rules_that_turn_none.ensures old at tree turn c.requires.sound.document.within in (
      record { taken = edits.is_there state at has; within = within },
      ap (edits.with_rules state) put,
      c.record.ensures ∙ ap (λ (step : StepOf). recorded step c.args.self.now.log) (c.in_ok-step.ensures ∙ ap (λ (rules : List Ruling). unrule_step rules at) (ap rulings_of c.deref.ensures.value)),
    )

pub returns-then-turns_none-clause-sound : goal.returns-then-turns_none-clause-sound
returns-then-turns_none-clause-sound g c =
    let tables = faces_of (λ vtable. (g.dyn-1.0.entry vtable).1) c.args.self.now.faces in
    let state = state_in tables c.args.self.now in
    let tree = state_of c.args.self.now.document in
    let old = rules_in c.args.self.now in
    let at = c.args.number in
    let many = c.len.ensures in
    let low = c.if-at-len.false in
    let has = edits.has_rule at c.args.self.now.rules.items (omega (arith, many, low)) in
    let items = c.deref-2.ensures.value in
    let turn : turn_none (take 1 (drop at old)) ≡ true = ap (λ (rules : List _). turn_none (take 1 (drop at (rulings_of rules)))) (sym items) ∙ sym c.turns_none.ensures ∙ c.if-turns_none.true in
    let put : rulings_of c.remove.new.self.items ≡ without at old = ap rulings_of c.remove.ensures.by_index.2 ∙ edits.rulings_without at c.args.self.now.rules.items in
    let within = edits.within_without c.rules_that_turn_none.ensures old at tree turn c.requires.sound.document.within in
    let new = record c.args.self.now { rules = c.remove.new.self; index = None; boxes = None; log = c.record.new.self } in
    let logged = c.record.ensures ∙ ap (λ (step : StepOf). recorded step c.args.self.now.log) (c.in_ok-step.ensures ∙ ap (λ (rules : List Ruling). unrule_step rules at) (ap rulings_of c.deref.ensures.value)) in
    sound_under c.logs_stand_for_states.ensures c.documents_stay_where_more_are_drawn.ensures c.steps_of_edits_lead_both_ways.ensures tables c.args.self.now new (unrule at) tt
    (edits.is_there state at has) refl refl (ap (edits.with_rules state) put) logged
    (subst AreSaidRules (sym put) (edits.said_without at old c.requires.sound.document.rules)) tt
    (subst (λ (rules : List Ruling). IsWithinLimits (styled_document rules tree)) (sym put) within) c.requires.sound

pub returns-then-turns_none-clause-loses : goal.returns-then-turns_none-clause-loses
returns-then-turns_none-clause-loses g c =
    loses_all c.names_are_of_places.ensures c.boxes_are_of_elements.ensures (faces_of (λ vtable. (g.dyn-1.0.entry vtable).1) c.args.self.now.faces) c.args.self.now
    (record c.args.self.now { rules = c.remove.new.self; index = None; boxes = None; log = c.record.new.self }) refl c.requires.sound (unrule c.args.number) refl

pub returns-in_ok-change_rules-clause-loses : goal.returns-in_ok-change_rules-clause-loses
returns-in_ok-change_rules-clause-loses g c =
    loses_all c.names_are_of_places.ensures c.boxes_are_of_elements.ensures (faces_of (λ vtable. (g.dyn-1.0.entry vtable).1) c.args.self.now.faces) c.args.self.now
    c.change_rules.new.self (ap (λ (s : Session _ _). state_of s.document) c.change_rules.ensures.rest) c.requires.sound (unrule c.args.number) refl

pub returns-in_ok-change_rules-clause-sound : goal.returns-in_ok-change_rules-clause-sound
returns-in_ok-change_rules-clause-sound g c =
    let tables = faces_of (λ vtable. (g.dyn-1.0.entry vtable).1) c.args.self.now.faces in
    let state = state_in tables c.args.self.now in
    let old = rules_in c.args.self.now in
    let at = c.args.number in
    let new = c.change_rules.new.self in
    let many = c.len.ensures in
    let low = c.if-at-len.false in
    let has = edits.has_rule at c.args.self.now.rules.items (omega (arith, many, low)) in
    let behind = c.in_ok-rules.ensures ∙ ap (λ (rules : List Ruling). without at rules) (ap rulings_of c.deref-else-turns_none.ensures.value) in
    let put = c.in_ok-change_rules.ensures.done ∙ behind in
    let step = c.in_ok-step.ensures ∙ ap (λ (rules : List Ruling). unrule_step rules at) (ap rulings_of c.deref.ensures.value) in
    let logged = c.in_ok-change_rules.ensures.logged ∙ ap (λ (step : StepOf). recorded step c.args.self.now.log) step in
    let within = c.in_ok-change_rules.ensures.answers in
    let taken = edits.is_there state at has in
    let rest = c.change_rules.ensures.rest in
    let tree = state_of c.args.self.now.document in
    let own =
    sound_under c.logs_stand_for_states.ensures c.documents_stay_where_more_are_drawn.ensures c.steps_of_edits_lead_both_ways.ensures tables c.args.self.now new (unrule at) tt taken rest
    c.in_ok-change_rules.ensures.bare (ap (λ (s : Session _ _). state_in tables s) rest ∙ ap (edits.with_rules state) put) logged
    (subst AreSaidRules (sym put) (edits.said_without at old c.requires.sound.document.rules))
    (subst (λ (rules : List Ruling). IfSome new.index (λ index. index_rules index ≡ rules)) (sym c.in_ok-change_rules.ensures.done) c.in_ok-change_rules.ensures.index)
    (subst (λ (rules : List Ruling). IsWithinLimits (styled_document rules tree)) (sym c.in_ok-change_rules.ensures.done) within) c.requires.sound in
    subst (λ (t : List (Option Table)). IsSound t new) (sym (ap (λ (s : Session _ _). faces_of (λ vtable. (g.dyn-1.0.entry vtable).1) s.faces) rest)) own

pub returns-in_ok-change_rules-clause-applies : goal.returns-in_ok-change_rules-clause-applies
returns-in_ok-change_rules-clause-applies g c =
    let tables = faces_of (λ vtable. (g.dyn-1.0.entry vtable).1) c.args.self.now.faces in
    let state = state_in tables c.args.self.now in
    let old = rules_in c.args.self.now in
    let at = c.args.number in
    let new = c.change_rules.new.self in
    let many = c.len.ensures in
    let low = c.if-at-len.false in
    let has = edits.has_rule at c.args.self.now.rules.items (omega (arith, many, low)) in
    let behind = c.in_ok-rules.ensures ∙ ap (λ (rules : List Ruling). without at rules) (ap rulings_of c.deref-else-turns_none.ensures.value) in
    let put = c.in_ok-change_rules.ensures.done ∙ behind in
    let step = c.in_ok-step.ensures ∙ ap (λ (rules : List Ruling). unrule_step rules at) (ap rulings_of c.deref.ensures.value) in
    let logged = c.in_ok-change_rules.ensures.logged ∙ ap (λ (step : StepOf). recorded step c.args.self.now.log) step in
    let within = c.in_ok-change_rules.ensures.answers in
    let taken = edits.is_there state at has in
    let tree = state_of c.args.self.now.document in (
      record { taken = taken; within = subst (λ (rules : List Ruling). IsWithinLimits (styled_document rules tree)) behind within },
      ap (λ (s : Session _ _). state_in (faces_of (λ vtable. (g.dyn-1.0.entry vtable).1) s.faces) s) c.change_rules.ensures.rest ∙ ap (edits.with_rules state) put,
      logged,
    )
