use Rattle.std.proofs.Common.{subst, sym}
use Rattle.face_api.specs.Faces.{faces_of}
use Rattle.edits.specs.Change.{change_of}
use Rattle.edits.specs.declared.edit.Edit.{Edit}
use Rattle.session.specs.Editing.{Applies}
use Rattle.session.proofs.Histories.{history_kept}
use Rattle.session.proofs.session.Session.apply.Goals as goal

pub returns-in-Tree-clause-loses : goal.returns-in-Tree-clause-loses
returns-in-Tree-clause-loses g c = rw c.in-Tree.is c.edit_tree.ensures.loses

pub returns-in-Metric-clause-loses : goal.returns-in-Metric-clause-loses
returns-in-Metric-clause-loses g c = rw c.in-Metric.is c.set_metric.ensures.loses

pub returns-in-Retire-clause-loses : goal.returns-in-Retire-clause-loses
returns-in-Retire-clause-loses g c = rw c.in-Retire.is c.retire.ensures.loses

pub returns-in-Rule-clause-loses : goal.returns-in-Rule-clause-loses
returns-in-Rule-clause-loses g c = rw c.in-Rule.is c.put_rules.ensures.loses

pub returns-in-Unrule-clause-loses : goal.returns-in-Unrule-clause-loses
returns-in-Unrule-clause-loses g c = rw c.in-Unrule.is c.drop_rule.ensures.loses

pub returns-in-Tree-clause-history : goal.returns-in-Tree-clause-history
returns-in-Tree-clause-history g c =
    let old = c.args.self.now in
    let new = c.edit_tree.new.self in
    let before = faces_of (λ vtable. (g.dyn-1.0.entry vtable).1) old.faces in
    let behind = faces_of (λ vtable. (g.dyn-1.0.entry vtable).1) new.faces in
    history_kept c.logs_stand_for_states.ensures c.documents_stay_where_more_are_drawn.ensures c.steps_of_edits_lead_both_ways.ensures c.edits_bring_no_more.ensures before behind old new
    (change_of c.args.edit.now) c.requires.fitting c.edit_tree.result
    (subst (λ (e : Edit). Applies before behind old new (change_of e) c.edit_tree.result) (sym c.in-Tree.is) c.edit_tree.ensures.applies) c.edit_tree.ensures.sound

pub returns-in-Metric-clause-history : goal.returns-in-Metric-clause-history
returns-in-Metric-clause-history g c =
    let old = c.args.self.now in
    let new = c.set_metric.new.self in
    let before = faces_of (λ vtable. (g.dyn-1.0.entry vtable).1) old.faces in
    let behind = faces_of (λ vtable. (g.dyn-1.0.entry vtable).1) new.faces in
    history_kept c.logs_stand_for_states.ensures c.documents_stay_where_more_are_drawn.ensures c.steps_of_edits_lead_both_ways.ensures c.edits_bring_no_more.ensures before behind old new
    (change_of c.args.edit.now) c.requires.fitting c.set_metric.result
    (subst (λ (e : Edit). Applies before behind old new (change_of e) c.set_metric.result) (sym c.in-Metric.is) c.set_metric.ensures.applies) c.set_metric.ensures.sound

pub returns-in-Retire-clause-history : goal.returns-in-Retire-clause-history
returns-in-Retire-clause-history g c =
    let old = c.args.self.now in
    let new = c.retire.new.self in
    let before = faces_of (λ vtable. (g.dyn-1.0.entry vtable).1) old.faces in
    let behind = faces_of (λ vtable. (g.dyn-1.0.entry vtable).1) new.faces in
    history_kept c.logs_stand_for_states.ensures c.documents_stay_where_more_are_drawn.ensures c.steps_of_edits_lead_both_ways.ensures c.edits_bring_no_more.ensures before behind old new
    (change_of c.args.edit.now) c.requires.fitting c.retire.result
    (subst (λ (e : Edit). Applies before behind old new (change_of e) c.retire.result) (sym c.in-Retire.is) c.retire.ensures.applies) c.retire.ensures.sound

pub returns-in-Rule-clause-history : goal.returns-in-Rule-clause-history
returns-in-Rule-clause-history g c =
    let old = c.args.self.now in
    let new = c.put_rules.new.self in
    let before = faces_of (λ vtable. (g.dyn-1.0.entry vtable).1) old.faces in
    let behind = faces_of (λ vtable. (g.dyn-1.0.entry vtable).1) new.faces in
    history_kept c.logs_stand_for_states.ensures c.documents_stay_where_more_are_drawn.ensures c.steps_of_edits_lead_both_ways.ensures c.edits_bring_no_more.ensures before behind old new
    (change_of c.args.edit.now) c.requires.fitting c.put_rules.result
    (subst (λ (e : Edit). Applies before behind old new (change_of e) c.put_rules.result) (sym c.in-Rule.is) c.put_rules.ensures.applies) c.put_rules.ensures.sound

pub returns-in-Unrule-clause-history : goal.returns-in-Unrule-clause-history
returns-in-Unrule-clause-history g c =
    let old = c.args.self.now in
    let new = c.drop_rule.new.self in
    let before = faces_of (λ vtable. (g.dyn-1.0.entry vtable).1) old.faces in
    let behind = faces_of (λ vtable. (g.dyn-1.0.entry vtable).1) new.faces in
    history_kept c.logs_stand_for_states.ensures c.documents_stay_where_more_are_drawn.ensures c.steps_of_edits_lead_both_ways.ensures c.edits_bring_no_more.ensures before behind old new
    (change_of c.args.edit.now) c.requires.fitting c.drop_rule.result
    (subst (λ (e : Edit). Applies before behind old new (change_of e) c.drop_rule.result) (sym c.in-Unrule.is) c.drop_rule.ensures.applies) c.drop_rule.ensures.sound
