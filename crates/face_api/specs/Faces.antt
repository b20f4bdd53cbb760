-- What a contract sees of faces in boxes.
use Rattle.std.specs.Prelude.{List, map, Option, Some, option_map}
use Rattle.std.specs.declared.alloc.Global.{Global}
use Rattle.std.specs.declared.dyn_box.DynBox.{DynBox}
use Rattle.face_api.specs.Table.{Table}
use Rattle.face_api.specs.declared.face.Face.{Ghosts}
use Rattle.face_api.specs.declared.faces.Faces.{Faces}

module _ {I : Type 0} {D : I → Type 0} (members : (x : I) → Ghosts (D x)) where
  -- the table behind a box, if there is one
  abbrev pub table_in : Option (DynBox I Global D) → Option Table
  table_in seat = option_map (λ b. (members b.vtable).table b.value) seat

  -- the tables behind the boxes, with their marks of life
  abbrev pub faces_of : Faces I D → List (Option Table)
  faces_of faces = map table_in faces.seats.items

  -- the tables of faces in boxes that all live
  abbrev pub all_living : List (DynBox I Global D) → List (Option Table)
  all_living boxes = map (λ b. Some ((members b.vtable).table b.value)) boxes
