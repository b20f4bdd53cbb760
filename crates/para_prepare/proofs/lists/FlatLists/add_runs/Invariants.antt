use Rattle.std.specs.Prelude.{drop}
use Rattle.face_api.specs.Faces.{faces_of}
use Rattle.para_prepare.specs.Content.{raw_of}
use Rattle.para_prepare.specs.Flat.{flat_of}
use Rattle.para_prepare.specs.Parts.{sets_upright}
use Rattle.para_prepare.specs.Views.{letters_at}
use Rattle.para_prepare.proofs.FlatRuns.{AreGrown}
use Rattle.para_prepare.proofs.lists.FlatLists.add_runs.Given as goal

abbrev pub invariant-loop-i : goal.invariant-loop-i
invariant-loop-i g l =
    AreGrown (flat_of l.self) (flat_of l.fn.self) (sets_upright l.text.style.now)
    (raw_of (faces_of (λ vtable. (g.dyn-1.0.entry vtable).1) l.resources.faces.now) l.text.place.source l.text.node l.text.style.now) (letters_at l.text.place.letters.now l.text.place.span) l.at (drop l.i l.units) l.units
