-- Where the fragments of a line stand. CSS 2, 8.3, 9.4.2, 10.8 and 16.2; CSS Writing Modes 4, 2.4.
use Rattle.std.specs.Prelude.{ℕ, zero, suc, Bool, ◌&&◌, cond, List, [], ◌∷◌, map, Option, Some, None, ℤ, pos, negsuc, ◌+ℤ◌, ◌-ℤ◌, length}
use Rattle.std.specs.Int.{int_max}
use Rattle.std.specs.List.{fold, flat_map}
use Rattle.wm_units.specs.Numbers.{half}
use Rattle.wm_modes.specs.declared.mode.Direction.{Direction}
use Rattle.wm_modes.specs.declared.mode.Direction.TheVariants.{Ltr, Rtl}
use Rattle.wm_modes.specs.declared.rects.FlowRect.{FlowRect}
use Rattle.style_types.specs.declared.style.Align.{Align}
use Rattle.style_types.specs.declared.style.Align.TheVariants.{Start, End, Left, Right, Center}
use Rattle.fragment_types.specs.declared.unit_kind.UnitKind.{UnitKind}
use Rattle.fragment_types.specs.declared.unit_kind.UnitKind.TheVariants.{Combined}
use Rattle.fragment_types.specs.declared.item.BoxName.{BoxName}
use Rattle.fragment_types.specs.RunUnit.{RunUnit}
use Rattle.fragment_types.specs.Fragment.{Pieces, none, piece, span}
use Rattle.fragment_types.specs.Fragment as fragments
use Rattle.line_place.specs.declared.line.Extents.{Extents}
use Rattle.line_place.specs.declared.line.LineBox.{LineBox}
use Rattle.line_place.specs.Line.{Content, unit, combined, atom, nothing, Line}
use Rattle.line_place.specs.Leaves.{Leaf}
use Rattle.line_place.specs.Marks.{Mark, begins, ends, shows, box_at, inside_of, marks}

-- ---- along the line

abbrev pub by_direction : Direction → (ltr rtl : Bool) → Bool
by_direction Ltr ltr rtl = ltr
by_direction Rtl ltr rtl = rtl

-- whether the line-left edges of a box stand on this line: its inline-start edges or its inline-end edges by its direction
abbrev pub has_left : LineBox → Bool
has_left box = by_direction box.dir box.first box.last

abbrev pub has_right : LineBox → Bool
has_right box = by_direction box.dir box.last box.first

abbrev pub if_edge : Bool → ℤ → ℤ
if_edge edge length = cond edge length (pos 0)

-- the margin, and border with padding, where a fragment of the box begins and where it ends
abbrev pub left_margin : LineBox → (edge : Bool) → ℤ
left_margin box edge = if_edge (edge && has_left box) box.left_margin

abbrev pub left : LineBox → (edge : Bool) → ℤ
left box edge = if_edge (edge && has_left box) box.left

abbrev pub right : LineBox → (edge : Bool) → ℤ
right box edge = if_edge (edge && has_right box) box.right

abbrev pub right_margin : LineBox → (edge : Bool) → ℤ
right_margin box edge = if_edge (edge && has_right box) box.right_margin

abbrev pub extent_of : List Leaf → ℤ
extent_of [] = pos 0
extent_of (leaf ∷ leaves) = leaf.extent +ℤ extent_of leaves

abbrev pub advance : List LineBox → Mark → ℤ
advance boxes (begins p edge) = left_margin (box_at boxes p) edge +ℤ left (box_at boxes p) edge
advance boxes (ends p edge) = right (box_at boxes p) edge +ℤ right_margin (box_at boxes p) edge
advance boxes (shows run) = extent_of run

-- the width of a line: all its extents and edges
abbrev pub width : List LineBox → List Mark → ℤ
width boxes [] = pos 0
width boxes (mark ∷ marks) = advance boxes mark +ℤ width boxes marks

-- where the content starts for this value of `text-align`, where that much is left
abbrev pub at_start : (base : ℕ) → (rest : ℤ) → ℤ
at_start zero rest = pos 0
at_start (suc _) rest = rest

abbrev pub at_end : (base : ℕ) → (rest : ℤ) → ℤ
at_end zero rest = rest
at_end (suc _) rest = pos 0

abbrev pub aligned : Align → (base : ℕ) → (rest : ℤ) → ℤ
aligned Start base rest = at_start base rest
aligned End base rest = at_end base rest
aligned Left base rest = pos 0
aligned Right base rest = rest
aligned Center base rest = half rest

-- where too little is left every value acts as `start`
abbrev pub offset : Align → (base : ℕ) → (rest : ℤ) → ℤ
offset align base (pos rest) = aligned align base (pos rest)
offset align base (negsuc less) = at_start base (negsuc less)

-- ---- across the line

abbrev pub atom_over : Content → List ℤ
atom_over (atom fragment left_margin over_margin over under) = over ∷ []
atom_over _ = []

abbrev pub atom_under : Content → List ℤ
atom_under (atom fragment left_margin over_margin over under) = under ∷ []
atom_under _ = []

-- how far what begins or stands there reaches over the baseline, and under it
abbrev pub over_of : List LineBox → Mark → List ℤ
over_of boxes (begins p edge) = (box_at boxes p).extents.over ∷ []
over_of boxes (ends p edge) = []
over_of boxes (shows run) = flat_map (λ leaf. atom_over leaf.what) run

abbrev pub under_of : List LineBox → Mark → List ℤ
under_of boxes (begins p edge) = (box_at boxes p).extents.under ∷ []
under_of boxes (ends p edge) = []
under_of boxes (shows run) = flat_map (λ leaf. atom_under leaf.what) run

-- a line reaches as far as the strut, its inline boxes and its atoms do
abbrev pub line_over : Line → ℤ
line_over line = fold int_max line.strut.over (flat_map (over_of line.boxes) (marks line))

abbrev pub line_under : Line → ℤ
line_under line = fold int_max line.strut.under (flat_map (under_of line.boxes) (marks line))

-- ---- fragments

abbrev pub unnumbered : ℕ → BoxName
unnumbered node = record { node = node; ordinal = 0 }

-- the extents of the innermost box, or of the strut
abbrev pub extents_in : Line → (inside : Option ℕ) → Extents
extents_in line None = line.strut
extents_in line (Some p) = (box_at line.boxes p).extents

-- text from `left` on, in a line that reaches so far over its baseline
abbrev pub text_rect : Extents → (over left extent : ℤ) → FlowRect
text_rect extents over left extent =
    record { i = left; b = over -ℤ extents.raised -ℤ extents.ascent; inline = extent; block = extents.ascent +ℤ extents.descent }

-- a fragment of an inline box: its text with the borders and paddings over and under it
abbrev pub box_rect : LineBox → (over left right : ℤ) → FlowRect
box_rect box over left right = record {
  i = left;
  b = over -ℤ box.extents.raised -ℤ box.extents.ascent -ℤ box.over;
  inline = right -ℤ left;
  block = box.over +ℤ (box.extents.ascent +ℤ box.extents.descent) +ℤ box.under;
}

-- a fragment that is laid out stands there, with its own sizes
abbrev pub atom_at : (i b : ℤ) → Pieces → (next : Pieces) → Pieces
atom_at i b none next = next
atom_at i b (piece name rect kind inner _) next = piece name (record { i = i; b = b; inline = rect.inline; block = rect.block }) kind inner next

abbrev pub glyphs_of : Content → List (List ℕ)
glyphs_of (unit node first end_ form glyphs) = glyphs
glyphs_of (combined node first end_ natural glyphs) = glyphs
glyphs_of _ = []

abbrev pub first_of : Content → ℕ
first_of (unit node first end_ form glyphs) = first
first_of (combined node first end_ natural glyphs) = first
first_of _ = 0

abbrev pub end_of : Content → ℕ
end_of (unit node first end_ form glyphs) = end_
end_of (combined node first end_ natural glyphs) = end_
end_of _ = 0

abbrev pub unit_with : Content → (extent : ℤ) → RunUnit
unit_with what extent = record { first = first_of what; end = end_of what; extent = extent; glyphs = glyphs_of what }

abbrev pub unit_of : Leaf → RunUnit
unit_of leaf = unit_with leaf.what leaf.extent

abbrev pub level_of : List Leaf → ℕ
level_of [] = 0
level_of (leaf ∷ leaves) = leaf.level

-- units of one text node as a fragment from `left` on
abbrev pub text_piece : Line → (over left : ℤ) → (node : ℕ) → UnitKind → (natural : Option ℤ) → List Leaf → (next : Pieces) → Pieces
text_piece line over left node form natural run next =
    piece (unnumbered node) (text_rect (extents_in line (inside_of run)) over left (extent_of run)) (fragments.run form (level_of run) natural (map unit_of run)) none next

-- a run of leaves as a fragment from `left` on, by what its first leaf is
abbrev pub run_as : Content → Line → (over left : ℤ) → List Leaf → (next : Pieces) → Pieces
run_as (unit node first end_ form glyphs) line over left run next = text_piece line over left node form None run next
run_as (combined node first end_ natural glyphs) line over left run next = text_piece line over left node Combined (Some natural) run next
run_as (atom fragment left_margin over_margin atom_over under) line over left run next =
    atom_at (left +ℤ left_margin) (over -ℤ atom_over +ℤ over_margin) fragment next
run_as nothing line over left run next = next

abbrev pub run_piece : Line → (over left : ℤ) → List Leaf → (next : Pieces) → Pieces
run_piece line over left [] next = next
run_piece line over left (leaf ∷ leaves) next = run_as leaf.what line over left (leaf ∷ leaves) next

-- what stands inside a box that is open, up to its end, and where it ends
pub record Row : Type 0 where
  pub pieces : Pieces
  pub right : ℤ

abbrev pub put_first : (Pieces → Pieces) → List Row → List Row
put_first put [] = []
put_first put (row ∷ others) = record { pieces = put row.pieces; right = row.right } ∷ others

-- the innermost row is what stands inside this box
abbrev pub put_box : LineBox → (over left : ℤ) → List Row → List Row
put_box box over left [] = []
put_box box over left (inner ∷ []) = inner ∷ []
put_box box over left (inner ∷ outer ∷ others) =
    record { pieces = piece (unnumbered box.node) (box_rect box over left inner.right) span inner.pieces outer.pieces; right = outer.right } ∷ others

-- the rows from here on, innermost first
abbrev pub rows : Line → (over left : ℤ) → List Mark → List Row
rows line over at [] = record { pieces = none; right = at } ∷ []
rows line over at (begins p edge ∷ marks) =
    put_box (box_at line.boxes p) over (at +ℤ left_margin (box_at line.boxes p) edge) (rows line over (at +ℤ advance line.boxes (begins p edge)) marks)
rows line over at (ends p edge ∷ marks) =
    record { pieces = none; right = at +ℤ right (box_at line.boxes p) edge } ∷ rows line over (at +ℤ advance line.boxes (ends p edge)) marks
rows line over at (shows run ∷ marks) = put_first (run_piece line over at run) (rows line over (at +ℤ advance line.boxes (shows run)) marks)

abbrev pub outermost : List Row → Pieces
outermost [] = none
outermost (row ∷ others) = row.pieces

-- the fragments of a line, from line-left
abbrev pub parts : Line → Pieces
parts line =
    outermost (rows line (line_over line) (offset line.align line.base (line.available -ℤ width line.boxes (marks line))) (marks line))
