-- How far the fragments of a line reach, with all inside them.
use Rattle.std.proofs.Common.{ap, arith, ℕ, ◌+◌, ◌*◌, ◌≤◌, max, Bool, true, false, List, [], ◌∷◌, ℤ, ◌+ℤ◌, ◌-ℤ◌, unsigned_abs}
use Rattle.std.specs.Prelude.{⊤}
use Rattle.std.specs.List.{All}
use Rattle.std.proofs.Math.Nat.{le-max_left, max-le}
use Rattle.std.proofs.lemmas.List.Elements.{All-weaker}
use Rattle.wm_modes.specs.declared.rects.FlowRect.{FlowRect}
use Rattle.fragment_types.specs.Fragment.{Pieces, none, piece, block, span, measure}
use Rattle.fragment_types.specs.Fragment as fragments
use Rattle.line_place.specs.declared.line.LineBox.{LineBox}
use Rattle.line_place.specs.Laws.{SpreadOfLine, content_inside}
use Rattle.line_place.specs.Leaves.{Leaf, leaf, leaves}
use Rattle.line_place.specs.Line.{Content, unit, combined, atom, nothing, Item, Line}
use Rattle.line_place.specs.Marks.{Mark, begins, ends, shows, box_at, marks}
use Rattle.line_place.specs.Placing.{Row, advance, atom_at, left_margin, line_over, offset, outermost, parts, put_box, put_first, rows, run_as, run_piece, width}
use Rattle.line_place.specs.Reach.{AreInLimit, IsAtomic, IsRectInLimit, box_reach, item_reach, line_reach, mark_reach, total}
use Rattle.line_place.specs.Spread.{inside, inside_in, spread, stretch}
use Rattle.line_place.proofs.EdgeLaws.{marks_reach}
use Rattle.line_place.proofs.FragmentLaws.{parts_in}
use Rattle.line_place.proofs.OrderLaws.{leaves_total}
use Rattle.line_place.proofs.PlaceLaws.{line_shows, marks_are}
use Rattle.line_place.proofs.ShownLaws.{Each, IsShown, leaves_each}

-- what stands inside these fragments, also inside those in pieces of inline boxes, reaches no further
abbrev AreHeld : (most : ℕ) → Pieces → Type 0
AreHeld most none = ⊤
AreHeld most (piece name rect (block mode dir content definite start end_ through) inner next) = (inside_in (block mode dir content definite start end_ through) (spread inner) ≤ most) × AreHeld most next
AreHeld most (piece name rect (fragments.line index base mode baseline) inner next) = (spread inner ≤ most) × AreHeld most next
AreHeld most (piece name rect span inner next) = AreHeld most inner × AreHeld most next
AreHeld most (piece name rect (fragments.run form level natural units) inner next) = (spread inner ≤ most) × AreHeld most next
AreHeld most (piece name rect (measure min max) inner next) = (spread inner ≤ most) × AreHeld most next

-- ---- fragments within a limit

stretch_most : (limit : ℕ) (rect : FlowRect) → IsRectInLimit limit rect → stretch rect ≤ 3 * limit
stretch_most limit rect h =
    let far : max (unsigned_abs rect.i) (unsigned_abs rect.b) ≤ limit = max-le h.0 h.1 in
    let size : max (unsigned_abs rect.inline) (unsigned_abs rect.block) ≤ limit = max-le h.2 h.3 in
    omega (arith, far, size)

spread_most : (limit most : ℕ) (ps : Pieces) → AreInLimit limit ps → AreHeld most ps → spread ps ≤ 3 * limit + most
spread_most limit most none h k = omega arith
spread_most limit most (piece name rect (block mode dir content definite start end_ through) inner next) h k =
    let own = stretch_most limit rect h.0 in
    let in_ = k.0 in
    max-le (omega (arith, own, in_)) (spread_most limit most next h.1 k.1)
spread_most limit most (piece name rect (fragments.line index base mode baseline) inner next) h k =
    let own = stretch_most limit rect h.0 in
    let in_ = k.0 in
    max-le (omega (arith, own, in_)) (spread_most limit most next h.1 k.1)
spread_most limit most (piece name rect span inner next) h k =
    let own = stretch_most limit rect h.0 in
    max-le (max-le (omega (arith, own)) (spread_most limit most inner h.1 k.0)) (spread_most limit most next h.2 k.1)
spread_most limit most (piece name rect (fragments.run form level natural units) inner next) h k =
    let own = stretch_most limit rect h.0 in
    let in_ = k.0 in
    max-le (max-le (omega (arith, own)) (omega (arith, in_))) (spread_most limit most next h.1 k.1)
spread_most limit most (piece name rect (measure min max_) inner next) h k =
    let own = stretch_most limit rect h.0 in
    let in_ = k.0 in
    max-le (max-le (omega (arith, own)) (omega (arith, in_))) (spread_most limit most next h.1 k.1)

-- ---- one fragment

left_most : (a b n : ℕ) → max a b ≤ n → a ≤ n
left_most a b n le = let l = le-max_left a b in omega (arith, l, le)

atom_held : (most : ℕ) (i b : ℤ) (fragment : Pieces) (left_margin over_margin over under : ℤ) (next : Pieces) → IsAtomic (atom fragment left_margin over_margin over under)
    → inside fragment ≤ most → AreHeld most next → AreHeld most (atom_at i b fragment next)
atom_held most i b none left_margin over_margin over under next own h more = more
atom_held most i b (piece name rect (block mode dir content definite start end_ through) inner others) left_margin over_margin over under next own h more =
    (left_most _ (inside others) most h, more)
atom_held most i b (piece name rect (fragments.line index base mode baseline) inner others) left_margin over_margin over under next own h more =
    (left_most _ (inside others) most h, more)
atom_held most i b (piece name rect span inner others) left_margin over_margin over under next own h more = absurd own
atom_held most i b (piece name rect (fragments.run form level natural units) inner others) left_margin over_margin over under next own h more =
    (left_most _ (inside others) most h, more)
atom_held most i b (piece name rect (measure min max_) inner others) left_margin over_margin over under next own h more =
    (left_most _ (inside others) most h, more)

abbrev IsHeld : (most : ℕ) → Content → Type 0
IsHeld most what = IsAtomic what × (content_inside what ≤ most)

abbrev IsHeldLeaf : (most : ℕ) → Leaf → Type 0
IsHeldLeaf most l = IsHeld most l.what

shown_held : (most : ℕ) (line : Line) (over left : ℤ) (what : Content) (run : List Leaf) (next : Pieces) → IsHeld most what → AreHeld most next → AreHeld most (run_as what line over left run next)
shown_held most line over left (unit node first end_ form glyphs) run next h more = (omega arith, more)
shown_held most line over left (combined node first end_ natural glyphs) run next h more = (omega arith, more)
shown_held most line over left (atom fragment left_margin over_margin atom_over under) run next h more =
    atom_held most (left +ℤ left_margin) (over -ℤ atom_over +ℤ over_margin) fragment left_margin over_margin atom_over under next h.0 h.1 more
shown_held most line over left nothing run next h more = more

run_held : (most : ℕ) (line : Line) (over left : ℤ) (run : List Leaf) (next : Pieces) → Each (IsHeldLeaf most) run → AreHeld most next → AreHeld most (run_piece line over left run next)
run_held most line over left [] next h more = more
run_held most line over left (first ∷ run) next h more = shown_held most line over left first.what (first ∷ run) next h.0 more

-- ---- rows of fragments

abbrev IsHeldRow : (most : ℕ) → Row → Type 0
IsHeldRow most row = AreHeld most row.pieces

box_held : (most : ℕ) (b : LineBox) (over left : ℤ) (made : List Row) → Each (IsHeldRow most) made → Each (IsHeldRow most) (put_box b over left made)
box_held most b over left [] h = h
box_held most b over left (inner ∷ []) h = h
box_held most b over left (inner ∷ outer ∷ others) h = ((h.0, h.1.0), h.1.1)

first_held : (most : ℕ) (put : Pieces → Pieces) (made : List Row) → ((next : Pieces) → AreHeld most next → AreHeld most (put next)) → Each (IsHeldRow most) made
    → Each (IsHeldRow most) (put_first put made)
first_held most put [] keeps h = h
first_held most put (row ∷ others) keeps h = (keeps row.pieces h.0, h.1)

rows_held : (most : ℕ) (line : Line) (over at : ℤ) (ms : List Mark) → Each (IsShown (Each (IsHeldLeaf most))) ms → Each (IsHeldRow most) (rows line over at ms)
rows_held most line over at [] h = (tt, tt)
rows_held most line over at (begins p edge ∷ ms) h =
    box_held most (box_at line.boxes p) over (at +ℤ left_margin (box_at line.boxes p) edge) (rows line over (at +ℤ advance line.boxes (begins p edge)) ms)
    (rows_held most line over (at +ℤ advance line.boxes (begins p edge)) ms h.1)
rows_held most line over at (ends p edge ∷ ms) h = (tt, rows_held most line over (at +ℤ advance line.boxes (ends p edge)) ms h.1)
rows_held most line over at (shows run ∷ ms) h =
    first_held most (run_piece line over at run) (rows line over (at +ℤ advance line.boxes (shows run)) ms) (λ next more. run_held most line over at run next h.0 more)
    (rows_held most line over (at +ℤ advance line.boxes (shows run)) ms h.1)

outermost_held : (most : ℕ) (made : List Row) → Each (IsHeldRow most) made → AreHeld most (outermost made)
outermost_held most [] h = tt
outermost_held most (row ∷ others) h = h.0

-- ---- a whole line

hung_held : (most place level : ℕ) (item : Item) (hangs : Bool) → IsHeld most item.what → IsHeldLeaf most (leaf place level item hangs)
hung_held most place level item true h = (tt, omega arith)
hung_held most place level item false h = h

held_leaves : (most : ℕ) (line : Line) → All (λ item. IsHeld most item.what) line.items → Each (IsHeldLeaf most) (leaves line)
held_leaves most line h =
    leaves_each (IsHeldLeaf most) line
    (All-weaker (λ (i : Item). IsHeld most i.what) (λ (i : Item). (place level : ℕ) (hangs : Bool) → IsHeldLeaf most (leaf place level i hangs)) (λ i k place level hangs. hung_held most place level i hangs k) line.items h)

parts_held : (most : ℕ) (line : Line) → All (λ item. IsHeld most item.what) line.items → AreHeld most (parts line)
parts_held most line h =
    let at = offset line.align line.base (line.available -ℤ width line.boxes (marks line)) in
    outermost_held most (rows line (line_over line) at (marks line)) (rows_held most line (line_over line) at (marks line) (line_shows (IsHeldLeaf most) line (held_leaves most line h)))

pub marks_total : (line : Line) → total (mark_reach line.boxes) (marks line) ≤ total box_reach line.boxes + total item_reach line.items
marks_total line =
    let m = ap (total (mark_reach line.boxes)) (marks_are line) in
    let r = marks_reach line.boxes (leaves line) in
    let l = leaves_total line in
    omega (arith, m, r, l)

pub spread_of_line : SpreadOfLine
spread_of_line line most own inside_boxes inner =
    let s = spread_most (4 * line_reach line) most (parts line) (parts_in line own inside_boxes (marks_total line)) (parts_held most line (λ k d lt. (own k d lt, inner k d lt))) in
    omega (arith, s)
