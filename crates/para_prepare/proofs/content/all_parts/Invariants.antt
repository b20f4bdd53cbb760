use Rattle.std.specs.Prelude.{◌≤◌, ◌+◌, All, drop, length}
use Rattle.face_api.specs.Faces.{faces_of}
use Rattle.fragment_types.specs.Item.{entries_of}
use Rattle.para_prepare.proofs.ContentLaws.{AreCut}
use Rattle.para_prepare.specs.Content.{parts}
use Rattle.para_prepare.specs.Views.{IsSound, parts_of}
use Rattle.para_prepare.proofs.content.all_parts.Given as goal

abbrev pub invariant-loop-i : goal.invariant-loop-i
invariant-loop-i g l =
    let faces = faces_of (λ vtable. (g.dyn-1.0.entry vtable).1) l.resources.faces.now in
    AreCut faces (entries_of (drop l.i l.items)) l.i l.from l.letters (drop l.i l.ends) (parts_of l.letters l.parts.items) (parts faces (entries_of l.items))
    × All (IsSound (length l.letters)) l.parts.items
    × (length l.parts.items ≤ l.from + l.i)
