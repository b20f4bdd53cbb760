use Rattle.std.specs.Prelude.{◌≡◌, ◌++◌, map, drop}
use Rattle.std.specs.List.{slice_range}
use Rattle.para_prepare.specs.Glyph.{last_class}
use Rattle.para_prepare.proofs.inside.classes_of.Given as goal

abbrev pub invariant-loop-unit : goal.invariant-loop-unit
invariant-loop-unit l = l.classes.items ++ map (λ u. last_class l.cut.upright (slice_range l.cut.letters.now u.first u.end)) (drop l.unit-index l.cut.units.now) ≡ map (λ u. last_class l.cut.upright (slice_range l.cut.letters.now u.first u.end)) l.cut.units.now
