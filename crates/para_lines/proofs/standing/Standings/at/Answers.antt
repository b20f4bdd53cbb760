use Rattle.std.proofs.Common.{rules, w64, ◌∙◌, ◌<◌, arith, ap, length, slice_index_or, List}
use Rattle.std.proofs.lemmas.Int.{to_z-of_z}
use Rattle.std.proofs.lemmas.List.{get_or_default}
use Rattle.para_lines.specs.Standing.{Standing}
use Rattle.para_lines.proofs.StandLaws.{read_at, standings_length}
use Rattle.para_lines.proofs.standing.Standings.at.Goals as goal

pub offset_bounds-items-place : goal.offset_bounds-items-place
offset_bounds-items-place c =
    let own = c.self.inside.lists in
    let n = standings_length own.items.now own.levels.now own.classes.now own.bases.now own.breaks.now c.self.inside.skipped.now c.self.inside.atoms.now own.each_level own.each_class own.each_base own.each_break in
    omega (arith, n, ap length c.self.view_is, c.requires)

pub bounds-items-place : goal.bounds-items-place
bounds-items-place c =
    let own = c.self.inside.lists in
    let n = standings_length own.items.now own.levels.now own.classes.now own.bases.now own.breaks.now c.self.inside.skipped.now c.self.inside.atoms.now own.each_level own.each_class own.each_base own.each_break in
    omega (arith, n, ap length c.self.view_is, c.requires)

pub rest_at-atoms-requires-clause-place : goal.rest_at-atoms-requires-clause-place
rest_at-atoms-requires-clause-place c = λ some.
    let own = c.self.inside.lists in
    let n = standings_length own.items.now own.levels.now own.classes.now own.bases.now own.breaks.now c.self.inside.skipped.now c.self.inside.atoms.now own.each_level own.each_class own.each_base own.each_break in
    let each = c.self.invariant.each some in
    omega (arith, n, each, ap length c.self.view_is, c.requires)

pub bounds-self-inside-place : goal.bounds-self-inside-place
bounds-self-inside-place c =
    let own = c.self.inside.lists in
    let n = standings_length own.items.now own.levels.now own.classes.now own.bases.now own.breaks.now c.self.inside.skipped.now c.self.inside.atoms.now own.each_level own.each_class own.each_base own.each_break in
    omega (arith, n, ap length c.self.view_is, c.requires, own.each_level)

pub bounds-self-inside-place-2 : goal.bounds-self-inside-place-2
bounds-self-inside-place-2 c =
    let own = c.self.inside.lists in
    let n = standings_length own.items.now own.levels.now own.classes.now own.bases.now own.breaks.now c.self.inside.skipped.now c.self.inside.atoms.now own.each_level own.each_class own.each_base own.each_break in
    omega (arith, n, ap length c.self.view_is, c.requires, own.each_class)

pub bounds-self-inside-place-3 : goal.bounds-self-inside-place-3
bounds-self-inside-place-3 c =
    let own = c.self.inside.lists in
    let n = standings_length own.items.now own.levels.now own.classes.now own.bases.now own.breaks.now c.self.inside.skipped.now c.self.inside.atoms.now own.each_level own.each_class own.each_base own.each_break in
    omega (arith, n, ap length c.self.view_is, c.requires, own.each_base)

pub bounds-self-inside-place-4 : goal.bounds-self-inside-place-4
bounds-self-inside-place-4 c =
    let own = c.self.inside.lists in
    let n = standings_length own.items.now own.levels.now own.classes.now own.bases.now own.breaks.now c.self.inside.skipped.now c.self.inside.atoms.now own.each_level own.each_class own.each_base own.each_break in
    omega (arith, n, ap length c.self.view_is, c.requires, own.each_break)

pub returns : goal.returns
returns c d =
    let own = c.self.inside.lists in
    let n = standings_length own.items.now own.levels.now own.classes.now own.bases.now own.breaks.now c.self.inside.skipped.now c.self.inside.atoms.now own.each_level own.each_class own.each_base own.each_break in
    let lt : c.args.place < length own.items.now = omega (arith, n, ap length c.self.view_is, c.requires) in
    read_at own.items.now own.levels.now own.classes.now own.bases.now own.breaks.now c.self.inside.skipped.now c.self.inside.atoms.now _ c.args.place _ _ _ _ _ _ d lt
    own.each_level own.each_class own.each_base own.each_break c.index-items-place.is
    (get_or_default own.levels.now c.args.place _ _ (omega (arith, lt, own.each_level))) (get_or_default own.classes.now c.args.place _ _ (omega (arith, lt, own.each_class)))
    (get_or_default own.bases.now c.args.place _ _ (omega (arith, lt, own.each_base))) (get_or_default own.breaks.now c.args.place _ _ (omega (arith, lt, own.each_break)))
    c.rest_at-atoms.ensures (to_z-of_z w64 c.extent_of.result (search rules) ∙ c.extent_of.ensures)
    ∙ ap (λ (s : List Standing). slice_index_or s c.args.place d) c.self.view_is
