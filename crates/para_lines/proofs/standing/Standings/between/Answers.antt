use Rattle.std.proofs.Common.{◌∙◌, arith, ap, length, List}
use Rattle.std.specs.List.{slice_range}
use Rattle.para_lines.specs.Standing.{Standing}
use Rattle.para_lines.proofs.StandLaws.{standings_length, standings_range}
use Rattle.para_lines.proofs.standing.Standings.between.Goals as goal

pub between-requires-clause-within : goal.between-requires-clause-within
between-requires-clause-within c =
    let own = c.self.inside.lists in
    let n = standings_length own.items.now own.levels.now own.classes.now own.bases.now own.breaks.now c.self.inside.skipped.now c.self.inside.atoms.now own.each_level own.each_class own.each_base own.each_break in
    omega (arith, n, ap length c.self.view_is, c.requires.within)

pub counts_between-requires-clause-within : goal.counts_between-requires-clause-within
counts_between-requires-clause-within c = λ some.
    let own = c.self.inside.lists in
    let n = standings_length own.items.now own.levels.now own.classes.now own.bases.now own.breaks.now c.self.inside.skipped.now c.self.inside.atoms.now own.each_level own.each_class own.each_base own.each_break in
    let each = c.self.invariant.each some in
    omega (arith, n, each, ap length c.self.view_is, c.requires.within)

pub returns : goal.returns
returns c =
    let own = c.self.inside.lists in
    let made = c.between.ensures in
    rw (made.items, made.levels, made.classes, made.bases, made.breaks, c.counts_between.ensures)
    (standings_range own.items.now own.levels.now own.classes.now own.bases.now own.breaks.now c.self.inside.skipped.now c.self.inside.atoms.now c.args.from c.args.end own.each_level own.each_class own.each_base own.each_break)
    ∙ ap (λ (s : List Standing). slice_range s c.args.from c.args.end) c.self.view_is
