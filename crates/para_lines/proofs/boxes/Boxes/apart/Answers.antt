use Rattle.std.proofs.Common.{◌∙◌, sym, arith, subst, List}
use Rattle.fragment_types.specs.Item.{Entry}
use Rattle.para_lines.specs.Boxes.{AreBoxes}
use Rattle.para_lines.proofs.Chaining.{climbing_ends, climbing_first, climbing_on, climbing_stops, climbing_within, inside_read, less_left, table_count}
use Rattle.para_lines.proofs.boxes.Boxes.apart.Goals.{in-Some+then-stands_round, in_default}
use Rattle.para_lines.proofs.boxes.Boxes.apart.Goals as goal

pub index-requires : goal.index-requires
index-requires c =
    let Own : List Entry → Type 0 = λ entries. AreBoxes entries c.self.inside.rounds.items c.self.inside.ends.items in
    let own = subst Own c.self.view_is c.self.invariant in
    let rounds = table_count c.args.self.now c.self.inside.rounds.items own.rounds_are in
    let lt = c.requires.place in
    omega arith

pub loop-inside-init : goal.loop-inside-init
loop-inside-init c =
    let Own : List Entry → Type 0 = λ entries. AreBoxes entries c.self.inside.rounds.items c.self.inside.ends.items in
    let own = subst Own c.self.view_is c.self.invariant in
    rw c.new-places.ensures.items (climbing_first c.args.self.now c.args.place _ c.index.result.now.inside c.requires.place
    (inside_read c.args.self.now c.self.inside.rounds.items c.args.place c.index.result.now own.rounds_are c.requires.place c.index.ensures))

pub index-requires-in-Some : goal.index-requires-in-Some
index-requires-in-Some c =
    let Own : List Entry → Type 0 = λ entries. AreBoxes entries c.self.inside.rounds.items c.self.inside.ends.items in
    let own = subst Own c.self.view_is c.self.invariant in
    let rounds = table_count c.args.self.now c.self.inside.rounds.items own.rounds_are in
    let box = climbing_within c.args.self.now _ _ _ _ c.in-Some.beginning c.in-Some.is c.loop-inside.invariant in
    let lt = box.0 in
    omega arith

pub loop-inside-smaller : goal.loop-inside-smaller
loop-inside-smaller c =
    let Own : List Entry → Type 0 = λ entries. AreBoxes entries c.self.inside.rounds.items c.self.inside.ends.items in
    let own = subst Own c.self.view_is c.self.invariant in
    let box = climbing_within c.args.self.now _ _ _ _ c.in-Some.beginning c.in-Some.is c.loop-inside.invariant in
    less_left c.args.self.now c.loop-inside.inside c.index-in-Some.result.now.inside c.in-Some.beginning c.in-Some.is box.0
    (inside_read c.args.self.now c.self.inside.rounds.items c.in-Some.beginning c.index-in-Some.result.now own.rounds_are box.0 c.index-in-Some.ensures)

pub loop-inside-preserved : goal.loop-inside-preserved
loop-inside-preserved c =
    let Own : List Entry → Type 0 = λ entries. AreBoxes entries c.self.inside.rounds.items c.self.inside.ends.items in
    let own = subst Own c.self.view_is c.self.invariant in
    let box = climbing_within c.args.self.now _ _ _ _ c.in-Some.beginning c.in-Some.is c.loop-inside.invariant in
    climbing_on c.args.self.now _ _ c.loop-inside.inside c.index-in-Some.result.now.inside c.loop-inside.places.items _ c.in-Some.beginning c.in-Some.is
    (sym c.stands_round.ensures ∙ c.if-stands_round.false) c.in_ok-push.ensures.items
    (inside_read c.args.self.now c.self.inside.rounds.items c.in-Some.beginning c.index-in-Some.result.now own.rounds_are box.0 c.index-in-Some.ensures)
    c.loop-inside.invariant

pub returns : goal.returns
returns c =
    elim c.match-inside.branch [
      | in-Some+then-stands_round w ↦
          climbing_stops c.args.self.now _ c.args.other c.loop-inside.inside c.loop-inside.places.items w.in-Some.beginning w.in-Some.is c.requires.other (sym w.stands_round.ensures ∙ w.if-stands_round.true) c.loop-inside.invariant
      | in_default w ↦ climbing_ends c.args.self.now _ _ c.loop-inside.inside c.loop-inside.places.items w.in_default.is c.loop-inside.invariant
    ]
