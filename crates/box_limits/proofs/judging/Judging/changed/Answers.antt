use Rattle.std.proofs.Common.{arith, sym, [], ◌∷◌}
use Rattle.dom_store.specs.State.{state_of}
use Rattle.cascade.specs.Index.{index_rules}
use Rattle.box_limits.proofs.Editing.{all_from, nobody_found, one_inside}
use Rattle.box_limits.proofs.judging.Judging.changed.Goals as goal

pub returns-in_default : goal.returns-in_default
returns-in_default c =
    all_from (index_rules c.args.self.now.styling.rules.now) (state_of c.args.self.now.styling.document.now) c.requires.tree (c.args.number ∷ []) c.nothing.result
    (nobody_found (index_rules c.args.self.now.styling.rules.now) (state_of c.args.self.now.styling.document.now) c.requires.tree c.args.number (omega (arith, c.if-number-le-BODY.false)) (sym c.in_default.ensures) c.nothing.result c.nothing.ensures)

pub children-requires-clause-inside : goal.children-requires-clause-inside
children-requires-clause-inside c =
    one_inside (index_rules c.args.self.now.styling.rules.now) (state_of c.args.self.now.styling.document.now) c.requires.tree c.args.number c.in-Some.parent (omega (arith, c.if-number-le-BODY.false)) (sym c.in-Some.ensures)

pub returns : goal.returns
returns c = all_from (index_rules c.args.self.now.styling.rules.now) (state_of c.args.self.now.styling.document.now) c.requires.tree (c.args.number ∷ []) c.in_ok-found-2.found c.in_ok-found-2.ensures
