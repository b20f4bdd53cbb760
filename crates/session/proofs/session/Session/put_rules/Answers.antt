use Rattle.std.proofs.Common.{◌≡◌, ◌∙◌, ◌++◌, ap, refl, subst, sym, List, Option, None, IfSome, true, false}
use Rattle.cascade.specs.Winners.{AreSaidRules}
use Rattle.css_types.specs.Rule.{Ruling, rulings_of}
use Rattle.dom_store.specs.State.{state_of}
use Rattle.style_tree.specs.Styling.{styled_document}
use Rattle.box_gen.specs.Limit.{IsWithinLimits}
use Rattle.box_limits.specs.Rules.{turn_none}
use Rattle.edits.specs.Edited.{are_too_many}
use Rattle.edits.specs.Change.{rule}
use Rattle.edits.specs.Exact.{StepOf, rule_step}
use Rattle.undo_log.specs.Log.{recorded}
use Rattle.face_api.specs.Faces.{faces_of}
use Rattle.cascade.specs.Index.{index_rules}
use Rattle.face_api.specs.Table.{Table}
use Rattle.session.specs.State.{IsSound, rules_in, state_in}
use Rattle.session.specs.declared.session.Session.{Session}
use Rattle.session.proofs.Histories.{sound_under}
use Rattle.session.proofs.Losing.{loses_all}
use Rattle.session.proofs.RuleEdits as edits
use Rattle.session.proofs.session.Session.put_rules.Goals as goal

pub step_of_rules-requires : goal.step_of_rules-requires
step_of_rules-requires g c =
    let old = rules_in c.args.self.now in
    let both = λ (one other : List Ruling). are_too_many (one ++ other) in
    ap (λ (one : List Ruling). both one (rulings_of c.deref-4.result.now)) (ap rulings_of c.deref-3.ensures.value ∙ sym (ap rulings_of c.deref.ensures.value))
    ∙ ap (both (rulings_of c.deref.result.now)) (ap rulings_of c.deref-4.ensures.value ∙ sym (ap rulings_of c.deref-2.ensures.value)) ∙ sym c.are_too_many.ensures ∙ c.if-are_too_many.false

pub returns-in_ok-put_behind-clause-applies : goal.returns-in_ok-put_behind-clause-applies
returns-in_ok-put_behind-clause-applies g c =
    let tables = faces_of (λ vtable. (g.dyn-1.0.entry vtable).1) c.args.self.now.faces in
    let state = state_in tables c.args.self.now in
    let tree = state_of c.args.self.now.document in
    let old = rules_in c.args.self.now in
    let more = rulings_of c.args.more.now.items in
    let joined = ap (λ (front : List Ruling). front ++ rulings_of c.deref-2.result.now) (ap rulings_of c.deref.ensures.value) ∙ ap (λ (back : List Ruling). old ++ back) (ap rulings_of c.deref-2.ensures.value) in
    let few : are_too_many (old ++ more) ≡ false = ap are_too_many (sym joined) ∙ sym c.are_too_many.ensures ∙ c.if-are_too_many.false in
    let step = c.in_ok-step.ensures ∙ ap (λ (rules : List Ruling). rule_step rules (rulings_of c.deref-4.result.now)) (ap rulings_of c.deref-3.ensures.value) ∙ ap (rule_step old) (ap rulings_of c.deref-4.ensures.value) in
    let turn : turn_none more ≡ true = ap turn_none (sym (ap rulings_of c.deref-5.ensures.value)) ∙ sym c.turn_none.ensures ∙ c.if-turn_none.true in
    let put = c.in_ok-put_behind.ensures.put ∙ ap (λ (back : List Ruling). old ++ back) (ap rulings_of c.deref-then-turn_none.ensures.value) in
    let within = edits.within_behind c.rules_that_turn_none.ensures old more tree turn c.requires.sound.document.within in
    let logged = c.record.ensures ∙ ap (λ (step : StepOf). recorded step c.args.self.now.log) step in
    (record { taken = edits.not_too_many state more few; within = within }, ap (edits.with_rules state) put, logged)

pub returns-in_ok-put_behind-clause-sound : goal.returns-in_ok-put_behind-clause-sound
returns-in_ok-put_behind-clause-sound g c =
    let tables = faces_of (λ vtable. (g.dyn-1.0.entry vtable).1) c.args.self.now.faces in
    let state = state_in tables c.args.self.now in
    let tree = state_of c.args.self.now.document in
    let old = rules_in c.args.self.now in
    let more = rulings_of c.args.more.now.items in
    let joined = ap (λ (front : List Ruling). front ++ rulings_of c.deref-2.result.now) (ap rulings_of c.deref.ensures.value) ∙ ap (λ (back : List Ruling). old ++ back) (ap rulings_of c.deref-2.ensures.value) in
    let few : are_too_many (old ++ more) ≡ false = ap are_too_many (sym joined) ∙ sym c.are_too_many.ensures ∙ c.if-are_too_many.false in
    let step = c.in_ok-step.ensures ∙ ap (λ (rules : List Ruling). rule_step rules (rulings_of c.deref-4.result.now)) (ap rulings_of c.deref-3.ensures.value) ∙ ap (rule_step old) (ap rulings_of c.deref-4.ensures.value) in
    let turn : turn_none more ≡ true = ap turn_none (sym (ap rulings_of c.deref-5.ensures.value)) ∙ sym c.turn_none.ensures ∙ c.if-turn_none.true in
    let put = c.in_ok-put_behind.ensures.put ∙ ap (λ (back : List Ruling). old ++ back) (ap rulings_of c.deref-then-turn_none.ensures.value) in
    let within = edits.within_behind c.rules_that_turn_none.ensures old more tree turn c.requires.sound.document.within in
    let logged = c.record.ensures ∙ ap (λ (step : StepOf). recorded step c.args.self.now.log) step in
    let new = record c.args.self.now { rules = c.put_behind.new.rules; index = None; boxes = None; log = c.record.new.self } in
    sound_under c.logs_stand_for_states.ensures c.documents_stay_where_more_are_drawn.ensures c.steps_of_edits_lead_both_ways.ensures tables c.args.self.now new (rule more) tt
    (edits.not_too_many state more few) refl refl (ap (edits.with_rules state) put) logged
    (subst AreSaidRules (sym put) (edits.said_behind old more c.requires.sound.document.rules c.requires.said)) tt
    (subst (λ (rules : List Ruling). IsWithinLimits (styled_document rules tree)) (sym put) within) c.requires.sound

pub returns-in_ok-put_behind-clause-loses : goal.returns-in_ok-put_behind-clause-loses
returns-in_ok-put_behind-clause-loses g c =
    loses_all c.names_are_of_places.ensures c.boxes_are_of_elements.ensures (faces_of (λ vtable. (g.dyn-1.0.entry vtable).1) c.args.self.now.faces) c.args.self.now
    (record c.args.self.now { rules = c.put_behind.new.rules; index = None; boxes = None; log = c.record.new.self }) refl c.requires.sound (rule (rulings_of c.args.more.now.items)) refl

pub returns-in_ok-change_rules-clause-loses : goal.returns-in_ok-change_rules-clause-loses
returns-in_ok-change_rules-clause-loses g c =
    loses_all c.names_are_of_places.ensures c.boxes_are_of_elements.ensures (faces_of (λ vtable. (g.dyn-1.0.entry vtable).1) c.args.self.now.faces) c.args.self.now
    c.change_rules.new.self (ap (λ (s : Session _ _). state_of s.document) c.change_rules.ensures.rest) c.requires.sound (rule (rulings_of c.args.more.now.items)) refl

pub returns-in_ok-change_rules-clause-sound : goal.returns-in_ok-change_rules-clause-sound
returns-in_ok-change_rules-clause-sound g c =
    let tables = faces_of (λ vtable. (g.dyn-1.0.entry vtable).1) c.args.self.now.faces in
    let state = state_in tables c.args.self.now in
    let old = rules_in c.args.self.now in
    let more = rulings_of c.args.more.now.items in
    let new = c.change_rules.new.self in
    let joined = ap (λ (front : List Ruling). front ++ rulings_of c.deref-2.result.now) (ap rulings_of c.deref.ensures.value) ∙ ap (λ (back : List Ruling). old ++ back) (ap rulings_of c.deref-2.ensures.value) in
    let few : are_too_many (old ++ more) ≡ false = ap are_too_many (sym joined) ∙ sym c.are_too_many.ensures ∙ c.if-are_too_many.false in
    let behind = c.in_ok-rules.ensures ∙ ap (λ (front : List Ruling). front ++ rulings_of c.deref-else-turn_none-2.result.now) (ap rulings_of c.deref-else-turn_none.ensures.value)
    ∙ ap (λ (back : List Ruling). old ++ back) (ap rulings_of c.deref-else-turn_none-2.ensures.value) in
    let put = c.in_ok-change_rules.ensures.done ∙ behind in
    let step = c.in_ok-step.ensures ∙ ap (λ (rules : List Ruling). rule_step rules (rulings_of c.deref-4.result.now)) (ap rulings_of c.deref-3.ensures.value) ∙ ap (rule_step old) (ap rulings_of c.deref-4.ensures.value) in
    let logged = c.in_ok-change_rules.ensures.logged ∙ ap (λ (step : StepOf). recorded step c.args.self.now.log) step in
    let within = c.in_ok-change_rules.ensures.answers in
    let taken = edits.not_too_many state more few in
    let rest = c.change_rules.ensures.rest in
    let tree = state_of c.args.self.now.document in
    let own =
    sound_under c.logs_stand_for_states.ensures c.documents_stay_where_more_are_drawn.ensures c.steps_of_edits_lead_both_ways.ensures tables c.args.self.now new (rule more) tt taken rest
    c.in_ok-change_rules.ensures.bare (ap (λ (s : Session _ _). state_in tables s) rest ∙ ap (edits.with_rules state) put) logged
    (subst AreSaidRules (sym put) (edits.said_behind old more c.requires.sound.document.rules c.requires.said))
    (subst (λ (rules : List Ruling). IfSome new.index (λ index. index_rules index ≡ rules)) (sym c.in_ok-change_rules.ensures.done) c.in_ok-change_rules.ensures.index)
    (subst (λ (rules : List Ruling). IsWithinLimits (styled_document rules tree)) (sym c.in_ok-change_rules.ensures.done) within) c.requires.sound in
    subst (λ (t : List (Option Table)). IsSound t new) (sym (ap (λ (s : Session _ _). faces_of (λ vtable. (g.dyn-1.0.entry vtable).1) s.faces) rest)) own

pub returns-in_ok-change_rules-clause-applies : goal.returns-in_ok-change_rules-clause-applies
returns-in_ok-change_rules-clause-applies g c =
    let tables = faces_of (λ vtable. (g.dyn-1.0.entry vtable).1) c.args.self.now.faces in
    let state = state_in tables c.args.self.now in
    let old = rules_in c.args.self.now in
    let more = rulings_of c.args.more.now.items in
    let new = c.change_rules.new.self in
    let joined = ap (λ (front : List Ruling). front ++ rulings_of c.deref-2.result.now) (ap rulings_of c.deref.ensures.value) ∙ ap (λ (back : List Ruling). old ++ back) (ap rulings_of c.deref-2.ensures.value) in
    let few : are_too_many (old ++ more) ≡ false = ap are_too_many (sym joined) ∙ sym c.are_too_many.ensures ∙ c.if-are_too_many.false in
    let behind = c.in_ok-rules.ensures ∙ ap (λ (front : List Ruling). front ++ rulings_of c.deref-else-turn_none-2.result.now) (ap rulings_of c.deref-else-turn_none.ensures.value)
    ∙ ap (λ (back : List Ruling). old ++ back) (ap rulings_of c.deref-else-turn_none-2.ensures.value) in
    let put = c.in_ok-change_rules.ensures.done ∙ behind in
    let step = c.in_ok-step.ensures ∙ ap (λ (rules : List Ruling). rule_step rules (rulings_of c.deref-4.result.now)) (ap rulings_of c.deref-3.ensures.value) ∙ ap (rule_step old) (ap rulings_of c.deref-4.ensures.value) in
    let logged = c.in_ok-change_rules.ensures.logged ∙ ap (λ (step : StepOf). recorded step c.args.self.now.log) step in
    let within = c.in_ok-change_rules.ensures.answers in
    let taken = edits.not_too_many state more few in
    let tree = state_of c.args.self.now.document in (
      record { taken = taken; within = subst (λ (rules : List Ruling). IsWithinLimits (styled_document rules tree)) behind within },
      ap (λ (s : Session _ _). state_in (faces_of (λ vtable. (g.dyn-1.0.entry vtable).1) s.faces) s) c.change_rules.ensures.rest ∙ ap (edits.with_rules state) put,
      logged,
    )
