use Rattle.std.proofs.Common.{◌∙◌, ap, sym, map}
use Rattle.para_lines.specs.Standing.{Standing}
use Rattle.para_lines.proofs.StandLaws.{standings_classes}
use Rattle.para_lines.proofs.standing.Standings.classes.Goals as goal

pub returns : goal.returns
returns c =
    let own = c.self.inside.lists in
    sym (standings_classes own.items.now own.levels.now own.classes.now own.bases.now own.breaks.now c.self.inside.skipped.now c.self.inside.atoms.now own.each_level own.each_class own.each_base own.each_break)
    ∙ ap (map (λ (s : Standing). s.class)) c.self.view_is
