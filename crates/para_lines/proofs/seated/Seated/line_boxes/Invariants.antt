use Rattle.std.proofs.Common.{◌≡◌, map, take}
use Rattle.std.specs.Prelude.{All}
use Rattle.face_api.specs.Faces.{faces_of}
use Rattle.line_place.specs.Reach.{AreNear}
use Rattle.para_lines.specs.Boxes.{chain_behind}
use Rattle.para_lines.specs.Lines as rule
use Rattle.para_lines.proofs.seated.Seated.line_boxes.Given as goal

abbrev pub invariant-loop-k : goal.invariant-loop-k
invariant-loop-k g l =
    (l.made.items
    ≡ map (rule.line_box (faces_of {I = g.dyn-1.0.I} {D = λ x. (g.dyn-1.0.entry x).0.Denot} (λ vtable. (g.dyn-1.0.entry vtable).1) l.faces) l.self.container.now l.self.boxes.now l.self.places.now
    (chain_behind l.self.boxes.now l.self.sides.before) (chain_behind l.self.boxes.now l.self.sides.after)) (take l.k l.self.places.now))
    × All (λ b. AreNear b.extents) l.made.items
