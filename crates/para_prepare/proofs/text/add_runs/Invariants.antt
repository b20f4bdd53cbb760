use Rattle.std.specs.Prelude.{drop}
use Rattle.face_api.specs.Faces.{faces_of}
use Rattle.para_prepare.proofs.PartsLaws.{AreAdded}
use Rattle.para_prepare.specs.Parts.{sets_upright}
use Rattle.para_prepare.specs.Views.{letters_at, stored_run}
use Rattle.para_prepare.proofs.text.add_runs.Given as goal

abbrev pub invariant-loop-i : goal.invariant-loop-i
invariant-loop-i g l =
    AreAdded l.parts.items l.fn.parts.items (sets_upright l.text.style.now)
    (stored_run (faces_of (λ vtable. (g.dyn-1.0.entry vtable).1) l.resources.faces.now) l.text.place.letters.now l.text.place.source l.text.node l.text.style.now l.text.place.span.from)
    (letters_at l.text.place.letters.now l.text.place.span) l.at (drop l.i l.units) l.units
