-- Where the fragments of a line stand depends on its strut and its boxes, and not on its items.
use Rattle.std.proofs.Common.{◌≡◌, ◌∙◌, ap, refl, ℕ, List, [], ◌∷◌, Option, Some, None, ℤ, ◌+ℤ◌}
use Rattle.fragment_types.specs.declared.unit_kind.UnitKind.{UnitKind}
use Rattle.fragment_types.specs.declared.unit_kind.UnitKind.TheVariants.{Combined}
use Rattle.fragment_types.specs.Fragment.{Pieces, none}
use Rattle.line_place.specs.declared.line.LineFrame.{LineFrame}
use Rattle.line_place.specs.Line.{Content, unit, combined, atom, nothing, Item, line_in}
use Rattle.line_place.specs.Leaves.{Leaf}
use Rattle.line_place.specs.Marks.{Mark, begins, ends, shows, box_at, inside_of}
use Rattle.line_place.specs.Placing.{Row, advance, extents_in, left_margin, put_box, put_first, right, rows, run_as, run_piece, text_piece}

extents_of : (frame : LineFrame) (items : List Item) (inside : Option ℕ) → extents_in (line_in frame []) inside ≡ extents_in (line_in frame items) inside
extents_of frame items None = refl
extents_of frame items (Some p) = refl

text_of : (frame : LineFrame) (items : List Item) (over left : ℤ) (node : ℕ) (form : UnitKind) (natural : Option ℤ) (run : List Leaf) (next : Pieces)
    → text_piece (line_in frame []) over left node form natural run next ≡ text_piece (line_in frame items) over left node form natural run next
text_of frame items over left node form natural run next = rw (extents_of frame items (inside_of run)) refl

run_of : (frame : LineFrame) (items : List Item) (over left : ℤ) (what : Content) (run : List Leaf) (next : Pieces)
    → run_as what (line_in frame []) over left run next ≡ run_as what (line_in frame items) over left run next
run_of frame items over left (unit node first end_ form glyphs) run next = text_of frame items over left node form None run next
run_of frame items over left (combined node first end_ natural glyphs) run next = text_of frame items over left node Combined (Some natural) run next
run_of frame items over left (atom fragment left_margin over_margin atom_over under) run next = refl
run_of frame items over left nothing run next = refl

first_in : (frame : LineFrame) (items : List Item) (over left : ℤ) (run : List Leaf) (rows : List Row)
    → put_first (run_piece (line_in frame []) over left run) rows ≡ put_first (run_piece (line_in frame items) over left run) rows
first_in frame items over left run [] = refl
first_in frame items over left [] (row ∷ others) = refl
first_in frame items over left (leaf ∷ leaves) (row ∷ others) =
    ap (λ (pieces : Pieces). record { pieces = pieces; right = row.right } ∷ others) (run_of frame items over left leaf.what (leaf ∷ leaves) row.pieces)

pub rows_in : (frame : LineFrame) (items : List Item) (over at : ℤ) (marks : List Mark) → rows (line_in frame []) over at marks ≡ rows (line_in frame items) over at marks
rows_in frame items over at [] = refl
rows_in frame items over at (begins p edge ∷ marks) =
    ap (put_box (box_at frame.boxes.now p) over (at +ℤ left_margin (box_at frame.boxes.now p) edge)) (rows_in frame items over (at +ℤ advance frame.boxes.now (begins p edge)) marks)
rows_in frame items over at (ends p edge ∷ marks) =
    ap (λ (others : List Row). record { pieces = none; right = at +ℤ right (box_at frame.boxes.now p) edge } ∷ others) (rows_in frame items over (at +ℤ advance frame.boxes.now (ends p edge)) marks)
rows_in frame items over at (shows run ∷ marks) =
    first_in frame items over at run (rows (line_in frame []) over (at +ℤ advance frame.boxes.now (shows run)) marks)
    ∙ ap (put_first (run_piece (line_in frame items) over at run)) (rows_in frame items over (at +ℤ advance frame.boxes.now (shows run)) marks)
