use Rattle.std.specs.Prelude.{◌≤◌, ◌+◌, drop, length}
use Rattle.face_api.specs.Faces.{faces_of}
use Rattle.fragment_types.specs.Item.{entries_of}
use Rattle.para_prepare.specs.Content.{parts}
use Rattle.para_prepare.specs.Flat.{flat_of}
use Rattle.para_prepare.proofs.FlatRuns.{AreLaid}
use Rattle.para_prepare.proofs.flat.flat_lists.Given as goal

abbrev pub invariant-loop-i : goal.invariant-loop-i
invariant-loop-i g l =
    let faces = faces_of (λ vtable. (g.dyn-1.0.entry vtable).1) l.resources.faces.now in
    AreLaid faces (entries_of (drop l.i l.items)) l.i l.from l.letters (drop l.i l.ends) (flat_of l.made) (parts faces (entries_of l.items))
    × (length l.made.items.items ≤ l.from + l.i)
