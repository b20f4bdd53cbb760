use Rattle.std.proofs.Common.{◌≡◌, ◌++◌, map, Some}
use Rattle.face_api.proofs.faces.Faces.new.Given as goal

abbrev pub invariant-loop-face : goal.invariant-loop-face
invariant-loop-face g l = l.seats.items ++ map Some l.face-iterator.rest.items ≡ map Some l.fn.faces.items
