use Rattle.std.proofs.Common.{arith}
use Rattle.std.proofs.lemmas.Int.{ints}
use Rattle.line_place.proofs.Fragments.{atom_moved}
use Rattle.line_place.proofs.walk.LineStage.atom.Goals as goal

pub returns : goal.returns
returns c next =
    atom_moved c.in_ok-made.made c.args.fragment.now _ _ _ next c.in_ok-made.ensures
    (omega (arith, ints, c.requires.left, c.requires.margins)) (omega (arith, ints, c.args.self.now.near, c.requires.margins))
    (omega (arith, ints, c.requires.size)) (omega (arith, ints, c.requires.size))
