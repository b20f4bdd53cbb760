use Rattle.std.proofs.Common.{length, subst, List}
use Rattle.fragment_types.specs.Item.{Entry}
use Rattle.para_lines.specs.Boxes.{AreBoxes}
use Rattle.para_lines.proofs.Chaining.{begun_within, has_none, has_told, some_within}
use Rattle.para_lines.proofs.boxes.Boxes.stands_round.Goals as goal

pub returns-then-beginning-place : goal.returns-then-beginning-place
returns-then-beginning-place c =
    let Own : List Entry → Type 0 = λ entries. AreBoxes entries c.self.inside.rounds.items c.self.inside.ends.items in
    let own = subst Own c.self.view_is c.self.invariant in
    let lt = some_within c.args.other c.in-Some.place (length c.args.self.now) c.in-Some.is c.requires.other in
    has_told c.args.self.now c.self.inside.ends.items c.args.beginning c.in-Some.place c.index.result.now c.args.other own.ends_are c.requires.begins
    (begun_within c.args.self.now c.args.beginning c.requires.begins) c.in-Some.is lt c.if-beginning-place.true c.index.ensures

pub returns-else-beginning-place : goal.returns-else-beginning-place
returns-else-beginning-place c =
    let lt = some_within c.args.other c.in-Some.place (length c.args.self.now) c.in-Some.is c.requires.other in
    has_none c.args.self.now c.args.beginning c.in-Some.place c.args.other c.in-Some.is lt c.if-beginning-place.false
