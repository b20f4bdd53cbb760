use Rattle.std.proofs.Common.{arith, subst, List}
use Rattle.fragment_types.specs.Item.{Entry}
use Rattle.para_lines.specs.Boxes.{AreBoxes}
use Rattle.para_lines.proofs.Chaining.{round_near, round_read, table_count}
use Rattle.para_lines.proofs.boxes.Boxes.round.Goals as goal

pub index-requires : goal.index-requires
index-requires c =
    let Own : List Entry → Type 0 = λ entries. AreBoxes entries c.self.inside.rounds.items c.self.inside.ends.items in
    let own = subst Own c.self.view_is c.self.invariant in
    let rounds = table_count c.args.self.now c.self.inside.rounds.items own.rounds_are in
    let lt = c.requires in
    omega arith

pub returns-clause-is : goal.returns-clause-is
returns-clause-is c =
    let Own : List Entry → Type 0 = λ entries. AreBoxes entries c.self.inside.rounds.items c.self.inside.ends.items in
    let own = subst Own c.self.view_is c.self.invariant in
    round_read c.args.self.now c.self.inside.rounds.items c.args.place c.index.result.now own.rounds_are c.requires c.index.ensures

pub returns-clause-near : goal.returns-clause-near
returns-clause-near c =
    let Own : List Entry → Type 0 = λ entries. AreBoxes entries c.self.inside.rounds.items c.self.inside.ends.items in
    let own = subst Own c.self.view_is c.self.invariant in
    round_near c.args.self.now c.args.place c.index.result.now own.bounded.bounds c.requires own.bounded.few
    (round_read c.args.self.now c.self.inside.rounds.items c.args.place c.index.result.now own.rounds_are c.requires c.index.ensures)
