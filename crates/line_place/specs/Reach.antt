-- How far the lengths of a line reach.
use Rattle.std.specs.Prelude.{◌≡◌, ℕ, suc, ◌+◌, ◌-◌, ◌<◌, ◌≤◌, ◌^◌, ⊤, Bool, true, false, List, [], ◌∷◌, length, Option, IfSome, slice_index_or, unsigned_abs, ℤ, pos, ◌≤ℤ◌}
use Rattle.std.specs.List.{All, list_any}
use Rattle.line_place.specs.declared.leading.TextExtents.{TextExtents}
use Rattle.line_place.specs.declared.line.Extents.{Extents}
use Rattle.line_place.specs.declared.line.LineBox.{LineBox}
use Rattle.wm_modes.specs.declared.rects.FlowRect.{FlowRect}
use Rattle.fragment_types.specs.Fragment.{Pieces, none, piece, span}
use Rattle.line_place.specs.Line.{Content, unit, combined, atom, nothing, Item, Line}
use Rattle.line_place.specs.Leaves.{Leaf}
use Rattle.line_place.specs.Marks.{Mark, ShowAtomsFirst, begins, ends, shows, box_at, inside_of}

-- the extents of an inline box in a style
pub record AreNear (extents : Extents) : Type 0 where
  pub ascent : unsigned_abs extents.ascent ≤ 2 ^ 18
  pub descent : unsigned_abs extents.descent ≤ 2 ^ 19
  pub over : unsigned_abs extents.over ≤ 2 ^ 34
  pub under : unsigned_abs extents.under ≤ 2 ^ 34
  pub raised : unsigned_abs extents.raised ≤ 2 ^ 32

-- how far text reaches over and under its own baseline in a style
pub record IsTextNear (text : TextExtents) : Type 0 where
  pub over_low : pos 0 ≤ℤ text.over
  pub over_high : text.over ≤ℤ pos (2 ^ 18)
  pub under_low : pos 0 ≤ℤ text.under
  pub under_high : text.under ≤ℤ pos (2 ^ 19)

-- the font size of a style
pub record IsFontSize (size : ℤ) : Type 0 where
  pub low : pos 0 ≤ℤ size
  pub high : size ≤ℤ pos 65536

-- a share of a font size, of at most four of it
pub record IsShare (length : ℤ) : Type 0 where
  pub low : pos 0 ≤ℤ length
  pub high : length ≤ℤ pos (2 ^ 18)

-- no box, or one before that place
abbrev pub IsBefore : (end_ : ℕ) → Option ℕ → Type 0
IsBefore end_ box = IfSome box (λ p. p < end_)

-- the box round another one stands before it
abbrev pub AreNested : List LineBox → Type 0
AreNested boxes = (p : ℕ) → p < length boxes → IsBefore p (box_at boxes p).outer

-- what stands in boxes stands in boxes that there are
abbrev pub AreWithin : (count : ℕ) → List Leaf → Type 0
AreWithin count [] = ⊤
AreWithin count (leaf ∷ leaves) = IsBefore count leaf.inside × AreWithin count leaves

-- marks are of boxes that there are
abbrev pub IsOfBox : (count : ℕ) → Mark → Type 0
IsOfBox count (begins p edge) = p < count
IsOfBox count (ends p edge) = p < count
IsOfBox count (shows run) = ⊤

abbrev pub AreOfBoxes : (count : ℕ) → List Mark → Type 0
AreOfBoxes count [] = ⊤
AreOfBoxes count (mark ∷ marks) = IsOfBox count mark × AreOfBoxes count marks

-- what stands there has a first leaf, which stands in boxes that there are
abbrev pub IsInBox : (count : ℕ) → Mark → Type 0
IsInBox count (begins p edge) = ⊤
IsInBox count (ends p edge) = ⊤
IsInBox count (shows run) = (0 < length run) × IsBefore count (inside_of run)

abbrev pub AreInBoxes : (count : ℕ) → List Mark → Type 0
AreInBoxes count [] = ⊤
AreInBoxes count (mark ∷ marks) = IsInBox count mark × AreInBoxes count marks

-- a flag for each box says whether a mark of the kind that is looked for is of it
abbrev pub Tells : (test : ℕ → Mark → Bool) → (flags : List Bool) → List Mark → Type 0
Tells test flags marks = (p : ℕ) → p < length flags → slice_index_or flags p false ≡ list_any (test p) marks

-- ---- lengths without their signs

abbrev pub extents_reach : Extents → ℕ
extents_reach e = unsigned_abs e.ascent + unsigned_abs e.descent + unsigned_abs e.over + unsigned_abs e.under + unsigned_abs e.raised

abbrev pub left_reach : LineBox → ℕ
left_reach box = unsigned_abs box.left_margin + unsigned_abs box.left

abbrev pub right_reach : LineBox → ℕ
right_reach box = unsigned_abs box.right + unsigned_abs box.right_margin

abbrev pub box_reach : LineBox → ℕ
box_reach box = extents_reach box.extents + left_reach box + right_reach box + unsigned_abs box.over + unsigned_abs box.under

abbrev pub piece_reach : Pieces → ℕ
piece_reach none = 0
piece_reach (piece name rect kind inner next) = unsigned_abs rect.inline + unsigned_abs rect.block

-- the natural width of a combined run is only handed on
abbrev pub content_reach : Content → ℕ
content_reach (unit node first end_ form glyphs) = 0
content_reach (combined node first end_ natural glyphs) = 0
content_reach (atom fragment left_margin over_margin over under) =
    piece_reach fragment + unsigned_abs left_margin + unsigned_abs over_margin + unsigned_abs over + unsigned_abs under
content_reach nothing = 0

abbrev pub total : {X : Type 0} → (X → ℕ) → List X → ℕ
total reach [] = 0
total reach (x ∷ xs) = reach x + total reach xs

abbrev pub item_reach : Item → ℕ
item_reach item = unsigned_abs item.extent + content_reach item.what

-- the lengths that come in, but for those inside an atom
abbrev pub line_reach : Line → ℕ
line_reach line = unsigned_abs line.available + extents_reach line.strut + total item_reach line.items + total box_reach line.boxes

-- ---- over and under the baseline

-- an atom reaches no further over or under the baseline
abbrev pub IsInLimit : (limit : ℕ) → Content → Type 0
IsInLimit limit (unit node first end_ form glyphs) = ⊤
IsInLimit limit (combined node first end_ natural glyphs) = ⊤
IsInLimit limit (atom fragment left_margin over_margin over under) = (unsigned_abs over ≤ limit) × (unsigned_abs under ≤ limit)
IsInLimit limit nothing = ⊤

-- neither the strut nor a box nor an atom reaches further over or under the baseline
pub record HasLimit (limit : ℕ) (line : Line) : Type 0 where
  pub strut_over : unsigned_abs line.strut.over ≤ limit
  pub strut_under : unsigned_abs line.strut.under ≤ limit
  pub boxes : All (λ box. (unsigned_abs box.extents.over ≤ limit) × (unsigned_abs box.extents.under ≤ limit)) line.boxes
  pub items : All (λ item. IsInLimit limit item.what) line.items

-- ---- fragments

-- an atom is no piece of an inline box
abbrev pub IsAtomic : Content → Type 0
IsAtomic (atom (piece name rect span inner next) left_margin over_margin over under) = ⊥
IsAtomic _ = ⊤

-- no coordinate and no size is further from 0
abbrev pub IsRectInLimit : (limit : ℕ) → FlowRect → Type 0
IsRectInLimit limit rect = (unsigned_abs rect.i ≤ limit) × (unsigned_abs rect.b ≤ limit) × (unsigned_abs rect.inline ≤ limit) × (unsigned_abs rect.block ≤ limit)

-- nor are those of these fragments, also inside the pieces of inline boxes
abbrev pub AreInLimit : (limit : ℕ) → Pieces → Type 0
AreInLimit limit none = ⊤
AreInLimit limit (piece name rect span inner next) = IsRectInLimit limit rect × AreInLimit limit inner × AreInLimit limit next
AreInLimit limit (piece name rect _ inner next) = IsRectInLimit limit rect × AreInLimit limit next

-- ---- the lengths of a row of marks

abbrev pub leaf_reach : Leaf → ℕ
leaf_reach leaf = unsigned_abs leaf.extent + content_reach leaf.what

abbrev pub mark_reach : List LineBox → Mark → ℕ
mark_reach boxes (begins p true) = left_reach (box_at boxes p)
mark_reach boxes (begins p false) = 0
mark_reach boxes (ends p true) = right_reach (box_at boxes p)
mark_reach boxes (ends p false) = 0
mark_reach boxes (shows run) = total leaf_reach run

-- the boxes that are open behind a mark, by their number before it
abbrev pub open_behind : (open_before : ℕ) → Mark → ℕ
open_behind n (begins p edge) = suc n
open_behind n (ends p edge) = n - 1
open_behind n (shows run) = n

-- a box ends where one is open
abbrev pub CanStand : (open_before : ℕ) → Mark → Type 0
CanStand n (begins p edge) = ⊤
CanStand n (ends p edge) = 0 < n
CanStand n (shows run) = ⊤

-- each box that begins ends
abbrev pub ArePaired : (open_before : ℕ) → List Mark → Type 0
ArePaired n [] = n ≡ 0
ArePaired n (mark ∷ marks) = CanStand n mark × ArePaired (open_behind n mark) marks

-- marks of a line with so many boxes: each is of boxes that there are, each box that begins ends, and in each run only the first leaf
-- can be an atom
pub record AreLineMarks (count : ℕ) (marks : List Mark) : Type 0 where
  pub of_boxes : AreOfBoxes count marks
  pub in_boxes : AreInBoxes count marks
  pub atoms : ShowAtomsFirst marks
  pub paired : ArePaired 0 marks

-- no box reaches further than that
abbrev pub AreReached : List LineBox → Type 0
AreReached boxes = (p : ℕ) → p < length boxes → box_reach (box_at boxes p) ≤ 2 ^ 60
