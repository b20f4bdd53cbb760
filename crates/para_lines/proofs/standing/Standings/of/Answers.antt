use Rattle.para_lines.specs.Prepared.{preparation_of}
use Rattle.para_lines.proofs.StandLaws.{alone_are, counted_within, standings_able, standings_are, standings_forward, standings_length, whole_lists}
use Rattle.para_lines.proofs.standing.Standings.of.Goals as goal

pub invariant_of-result : goal.invariant_of-result
invariant_of-result c = counted_within c.args.lists.now.items.now c.args.atoms.now c.args.skipped.now c.requires

pub returns-clause-are : goal.returns-clause-are
returns-clause-are c inline entries = standings_are inline entries (preparation_of c.args.lists.now) c.args.skipped.now c.args.atoms.now (whole_lists c.args.lists.now) c.requires

pub returns-clause-fills : goal.returns-clause-fills
returns-clause-fills c inline entries one sources = alone_are inline entries (preparation_of c.args.lists.now) c.args.skipped.now c.args.atoms.now (whole_lists c.args.lists.now) c.requires one sources

pub returns-clause-able : goal.returns-clause-able
returns-clause-able c count sources some near =
    let own = c.args.lists.now in
    standings_able count own.items.now own.levels.now own.classes.now own.bases.now own.breaks.now c.args.skipped.now c.args.atoms.now c.requires sources some near

pub returns-clause-forward : goal.returns-clause-forward
returns-clause-forward c bounds none =
    let own = c.args.lists.now in
    standings_forward own.items.now own.levels.now own.classes.now own.bases.now own.breaks.now c.args.skipped.now c.args.atoms.now bounds none

pub returns-clause-count : goal.returns-clause-count
returns-clause-count c =
    let own = c.args.lists.now in
    standings_length own.items.now own.levels.now own.classes.now own.bases.now own.breaks.now c.args.skipped.now c.args.atoms.now own.each_level own.each_class own.each_base own.each_break
