use Rattle.std.specs.Prelude.{◌≡◌, ◌++◌, map, drop}
use Rattle.std.specs.List.{slice_range}
use Rattle.fragment_types.specs.Glyphs.{lists_of}
use Rattle.para_prepare.specs.Inside.{seen_at}
use Rattle.para_prepare.proofs.inside.glyphs_of.Given as goal

abbrev pub invariant-loop-i : goal.invariant-loop-i
invariant-loop-i l = lists_of l.seen.items ++ seen_at l.levels (map (λ u. slice_range l.cut.letters.now u.first u.end) l.cut.units.now) (drop l.i l.order) ≡ seen_at l.levels (map (λ u. slice_range l.cut.letters.now u.first u.end) l.cut.units.now) l.order
