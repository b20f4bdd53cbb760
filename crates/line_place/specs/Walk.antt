-- The walk along a row of marks: what is made so far, and what the line comes to by it.
use Rattle.std.specs.Prelude.{ℕ, ◌<◌, ◌≤◌, ◌^◌, ⊤, unsigned_abs, ℤ, List, [], ◌∷◌, reverse, Option, Some, None}
use Rattle.fragment_types.specs.declared.fragment.Fragment.{Fragment}
use Rattle.fragment_types.specs.Fragment.{Pieces, none, before}
use Rattle.line_place.specs.declared.walk.Open.{Open}
use Rattle.line_place.specs.declared.walk.Walk.{Walk}
use Rattle.line_place.specs.Line.{Line}
use Rattle.line_place.specs.Marks.{Mark, box_at}
use Rattle.line_place.specs.Placing.{Row, put_box, rows}

-- fragments before what follows them
abbrev pub followed : List Fragment → (next : Pieces) → Pieces
followed [] next = next
followed (fragment ∷ fragments) next = before fragment (followed fragments next)

-- a fragment before what follows it, where there is one
abbrev pub followed_if : Option Fragment → (next : Pieces) → Pieces
followed_if None next = next
followed_if (Some fragment) next = before fragment next

-- where these boxes are open, innermost first, and these parts stand in the innermost one: the line by the rows that go on
-- there
abbrev pub closed : Line → (over : ℤ) → (opened : List Open) → (parts : List Fragment) → List Row → Pieces
closed line over [] parts [] = none
closed line over [] parts (row ∷ others) = followed parts row.pieces
closed line over (open_box ∷ opened) parts [] = none
closed line over (open_box ∷ opened) parts (row ∷ others) =
    closed line over opened open_box.before.items
    (put_box (box_at line.boxes open_box.place) over open_box.left (record { pieces = followed parts row.pieces; right = row.right } ∷ others))

-- the line by the marks that are still to come
abbrev pub whole : Line → (over : ℤ) → Walk → List Mark → Pieces
whole line over walk marks = closed line over (reverse walk.opened.items) walk.parts.items (rows line over walk.at marks)

-- the boxes that are open are boxes of the line, and their fragments begin near it
abbrev pub AreOpen : (count : ℕ) → List Open → Type 0
AreOpen count [] = ⊤
AreOpen count (open_box ∷ opened) = (open_box.place < count) × (unsigned_abs open_box.left ≤ 2 ^ 61) × AreOpen count opened
