use Rattle.std.proofs.Common.{map}
use Rattle.std.specs.Str.{chars}
use Rattle.unicode_segmentation.specs.Iter.{graphemes_left}
use Rattle.cluster_units.specs.Gathering.{made_of}
use Rattle.cluster_units.specs.Unit.{units_of}
use Rattle.cluster_units.proofs.Walk.{IsUnderway}
use Rattle.cluster_units.proofs.text.all_units.Given as goal

abbrev pub invariant-loop-piece : goal.invariant-loop-piece
invariant-loop-piece g l =
    (goal.iterator-loop-piece g).can_next l.piece-iterator ×
    (goal.iterator-loop-piece g).is_finite l.piece-iterator ×
    IsUnderway l.style ((goal.Face-dyn g l.face.now).table l.face.now.1) (chars l.fn.text) (units_of l.style ((goal.Face-dyn g l.face.now).table l.face.now.1) (chars l.fn.text)) (made_of l.gathering) l.place (map chars (graphemes_left l.piece-iterator))
