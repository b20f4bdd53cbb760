-- How far the fragments of a line reach.
use Rattle.std.proofs.Common.{arith, ℕ, zero, suc, ◌+◌, ◌*◌, ◌<◌, ◌≤◌, Bool, true, false, List, [], ◌∷◌, length, Option, Some, None, ℤ, pos, negsuc, ◌+ℤ◌, ◌-ℤ◌, unsigned_abs}
use Rattle.std.specs.List.{All}
use Rattle.std.proofs.lemmas.Int.{ints}
use Rattle.std.proofs.lemmas.List.Elements.{All-cons, All-nil, All-weaker}
use Rattle.wm_modes.specs.declared.rects.FlowRect.{FlowRect}
use Rattle.style_types.specs.declared.style.Align.{Align}
use Rattle.style_types.specs.declared.style.Align.TheVariants.{Start, End, Left, Right, Center}
use Rattle.fragment_types.specs.Fragment.{Pieces, none, piece, block, span, measure}
use Rattle.fragment_types.specs.Fragment as fragments
use Rattle.line_place.specs.declared.line.Extents.{Extents}
use Rattle.line_place.specs.declared.line.LineBox.{LineBox}
use Rattle.line_place.specs.Line.{Content, unit, combined, atom, nothing, Item, Line, no_box}
use Rattle.line_place.specs.Leaves.{Leaf, leaf, leaves}
use Rattle.line_place.specs.Marks.{Mark, begins, ends, shows, box_at, inside_of, marks}
use Rattle.line_place.specs.Placing.{Row, advance, aligned, at_end, at_start, atom_at, box_rect, extent_of, extents_in, left_margin, line_over, offset, outermost, parts, put_box, put_first, right, rows, run_as, run_piece, text_rect, width}
use Rattle.line_place.specs.Reach.{AreInBoxes, AreInLimit, AreOfBoxes, HasLimit, IsAtomic, IsBefore, IsInLimit, IsRectInLimit, box_reach, content_reach, extents_reach, item_reach, leaf_reach, line_reach, mark_reach, total}
use Rattle.line_place.proofs.Lengths.{half_near}
use Rattle.line_place.proofs.PlaceLaws.{in_limit, index_reach, leaf_low, line_in, line_of_boxes, line_shows}
use Rattle.line_place.proofs.ShownLaws.{Each, IsShown, leaves_each}
use Rattle.line_place.proofs.WalkLaws.{advance_near, begin_near, end_near, extent_near, sum_near}

-- ---- what is in a limit is in a greater one

rect_further : (m n : ℕ) (rect : FlowRect) → m ≤ n → IsRectInLimit m rect → IsRectInLimit n rect
rect_further m n rect le h =
    let i = h.0 in
    let b = h.1 in
    let inline = h.2 in
    let block = h.3 in
    (omega (arith, le, i), omega (arith, le, b), omega (arith, le, inline), omega (arith, le, block))

pub further : (m n : ℕ) (ps : Pieces) → m ≤ n → AreInLimit m ps → AreInLimit n ps
further m n none le h = tt
further m n (piece name rect (block mode dir content definite start end_ through) inner next) le h = (rect_further m n rect le h.0, further m n next le h.1)
further m n (piece name rect (fragments.line index base mode baseline) inner next) le h = (rect_further m n rect le h.0, further m n next le h.1)
further m n (piece name rect span inner next) le h = (rect_further m n rect le h.0, further m n inner le h.1, further m n next le h.2)
further m n (piece name rect (fragments.run form level natural units) inner next) le h = (rect_further m n rect le h.0, further m n next le h.1)
further m n (piece name rect (measure min max) inner next) le h = (rect_further m n rect le h.0, further m n next le h.1)

-- ---- one fragment

text_in : (reach : ℕ) (e : Extents) (over left extent : ℤ) → extents_reach e ≤ reach → unsigned_abs over ≤ reach → unsigned_abs left ≤ 2 * reach → unsigned_abs extent ≤ 2 * reach
    → IsRectInLimit (4 * reach) (text_rect e over left extent)
text_in reach e over left extent h o l x = (omega (arith, l), omega (arith, ints, h, o), omega (arith, x), omega (arith, ints, h))

box_in : (reach : ℕ) (b : LineBox) (over left right : ℤ) → box_reach b ≤ reach → unsigned_abs over ≤ reach → unsigned_abs left ≤ 2 * reach → unsigned_abs right ≤ 2 * reach
    → IsRectInLimit (4 * reach) (box_rect b over left right)
box_in reach b over left right h o l r = (omega (arith, l), omega (arith, ints, h, o), omega (arith, ints, l, r), omega (arith, ints, h))

extents_near : (reach : ℕ) (line : Line) (inside : Option ℕ) → IsBefore (length line.boxes) inside → extents_reach line.strut ≤ reach → ((p : ℕ) → p < length line.boxes → box_reach (box_at line.boxes p) ≤ reach)
    → extents_reach (extents_in line inside) ≤ reach
extents_near reach line None below strut boxes = strut
extents_near reach line (Some p) below strut boxes = let h = boxes p below in omega (arith, h)

-- an atom that is no piece of an inline box, at its place
atom_in : (reach : ℕ) (i b : ℤ) (fragment : Pieces) (left_margin over_margin over under : ℤ) (next : Pieces) → IsAtomic (atom fragment left_margin over_margin over under)
    → content_reach (atom fragment left_margin over_margin over under) ≤ 2 * reach → unsigned_abs i ≤ 4 * reach → unsigned_abs b ≤ 4 * reach → AreInLimit (4 * reach) next
    → AreInLimit (4 * reach) (atom_at i b fragment next)
atom_in reach i b none left_margin over_margin over under next own h k l more = more
atom_in reach i b (piece name rect (block mode dir content definite start end_ through) inner _) left_margin over_margin over under next own h k l more =
    ((k, l, omega (arith, h), omega (arith, h)), more)
atom_in reach i b (piece name rect (fragments.line index base mode baseline) inner _) left_margin over_margin over under next own h k l more =
    ((k, l, omega (arith, h), omega (arith, h)), more)
atom_in reach i b (piece name rect span inner _) left_margin over_margin over under next own h k l more = absurd own
atom_in reach i b (piece name rect (fragments.run form level natural units) inner _) left_margin over_margin over under next own h k l more =
    ((k, l, omega (arith, h), omega (arith, h)), more)
atom_in reach i b (piece name rect (measure min max) inner _) left_margin over_margin over under next own h k l more =
    ((k, l, omega (arith, h), omega (arith, h)), more)

-- what a run shows
abbrev pub IsAtomicLeaf : Leaf → Type 0
IsAtomicLeaf l = IsAtomic l.what

shown_in : (reach : ℕ) (line : Line) (over left : ℤ) (what : Content) (run : List Leaf) (next : Pieces) → IsAtomic what → content_reach what ≤ total leaf_reach run
    → IsBefore (length line.boxes) (inside_of run) → unsigned_abs over ≤ reach → extents_reach line.strut ≤ reach → ((p : ℕ) → p < length line.boxes → box_reach (box_at line.boxes p) ≤ reach)
    → unsigned_abs left + total leaf_reach run ≤ 2 * reach → AreInLimit (4 * reach) next → AreInLimit (4 * reach) (run_as what line over left run next)
shown_in reach line over left (unit node first end_ form glyphs) run next own h inside o strut boxes l more =
    let x = extent_near run in
    (text_in reach (extents_in line (inside_of run)) over left (extent_of run) (extents_near reach line (inside_of run) inside strut boxes) o (omega (arith, l)) (omega (arith, x, l)), more)
shown_in reach line over left (combined node first end_ natural glyphs) run next own h inside o strut boxes l more =
    let x = extent_near run in
    (text_in reach (extents_in line (inside_of run)) over left (extent_of run) (extents_near reach line (inside_of run) inside strut boxes) o (omega (arith, l)) (omega (arith, x, l)), more)
shown_in reach line over left (atom fragment left_margin over_margin atom_over under) run next own h inside o strut boxes l more =
    atom_in reach (left +ℤ left_margin) (over -ℤ atom_over +ℤ over_margin) fragment left_margin over_margin atom_over under next own
    (omega (arith, h, l)) (omega (arith, ints, h, l)) (omega (arith, ints, h, l, o)) more
shown_in reach line over left nothing run next own h inside o strut boxes l more = more

run_in : (reach : ℕ) (line : Line) (over left : ℤ) (run : List Leaf) (next : Pieces) → Each IsAtomicLeaf run
    → IsBefore (length line.boxes) (inside_of run) → unsigned_abs over ≤ reach → extents_reach line.strut ≤ reach → ((p : ℕ) → p < length line.boxes → box_reach (box_at line.boxes p) ≤ reach)
    → unsigned_abs left + total leaf_reach run ≤ 2 * reach → AreInLimit (4 * reach) next → AreInLimit (4 * reach) (run_piece line over left run next)
run_in reach line over left [] next own inside o strut boxes l more = more
run_in reach line over left (first ∷ run) next own inside o strut boxes l more =
    shown_in reach line over left first.what (first ∷ run) next own.0 (omega arith) inside o strut boxes l more

-- ---- rows of fragments

abbrev IsRowIn : (reach : ℕ) → Row → Type 0
IsRowIn reach row = AreInLimit (4 * reach) row.pieces × (unsigned_abs row.right ≤ 2 * reach)

box_put : (reach : ℕ) (b : LineBox) (over left : ℤ) (made : List Row) → box_reach b ≤ reach → unsigned_abs over ≤ reach → unsigned_abs left ≤ 2 * reach
    → Each (IsRowIn reach) made → Each (IsRowIn reach) (put_box b over left made)
box_put reach b over left [] h o l k = k
box_put reach b over left (inner ∷ []) h o l k = k
box_put reach b over left (inner ∷ outer ∷ others) h o l k = (((box_in reach b over left inner.right h o l k.0.1, k.0.0, k.1.0.0), k.1.0.1), k.1.1)

first_put : (reach : ℕ) (put : Pieces → Pieces) (made : List Row) → ((next : Pieces) → AreInLimit (4 * reach) next → AreInLimit (4 * reach) (put next))
    → Each (IsRowIn reach) made → Each (IsRowIn reach) (put_first put made)
first_put reach put [] keeps k = k
first_put reach put (row ∷ others) keeps k = ((keeps row.pieces k.0.0, k.0.1), k.1)

rows_in : (reach : ℕ) (line : Line) (over at : ℤ) (ms : List Mark) → AreOfBoxes (length line.boxes) ms → AreInBoxes (length line.boxes) ms → Each (IsShown (Each IsAtomicLeaf)) ms
    → unsigned_abs over ≤ reach → extents_reach line.strut ≤ reach → ((p : ℕ) → p < length line.boxes → box_reach (box_at line.boxes p) ≤ reach)
    → unsigned_abs at + total (mark_reach line.boxes) ms ≤ 2 * reach → Each (IsRowIn reach) (rows line over at ms)
rows_in reach line over at [] of inside own o strut boxes le = ((tt, omega (arith, le)), tt)
rows_in reach line over at (begins p edge ∷ ms) of inside own o strut boxes le =
    let a = advance_near line.boxes (begins p edge) in
    let s = sum_near at (advance line.boxes (begins p edge)) in
    let m = sum_near at (left_margin (box_at line.boxes p) edge) in
    let n = begin_near line.boxes p edge in
    box_put reach (box_at line.boxes p) over (at +ℤ left_margin (box_at line.boxes p) edge) (rows line over (at +ℤ advance line.boxes (begins p edge)) ms)
    (boxes p of.0) o (omega (arith, m, n, le))
    (rows_in reach line over (at +ℤ advance line.boxes (begins p edge)) ms of.1 inside.1 own.1 o strut boxes (omega (arith, a, s, le)))
rows_in reach line over at (ends p edge ∷ ms) of inside own o strut boxes le =
    let a = advance_near line.boxes (ends p edge) in
    let s = sum_near at (advance line.boxes (ends p edge)) in
    let m = sum_near at (right (box_at line.boxes p) edge) in
    let n = end_near line.boxes p edge in (
      (tt, omega (arith, m, n, le)),
      rows_in reach line over (at +ℤ advance line.boxes (ends p edge)) ms of.1 inside.1 own.1 o strut boxes (omega (arith, a, s, le)),
    )
rows_in reach line over at (shows run ∷ ms) of inside own o strut boxes le =
    let a = advance_near line.boxes (shows run) in
    let s = sum_near at (advance line.boxes (shows run)) in
    first_put reach (run_piece line over at run) (rows line over (at +ℤ advance line.boxes (shows run)) ms)
    (λ next more. run_in reach line over at run next own.0 inside.0.1 o strut boxes (omega (arith, le)) more)
    (rows_in reach line over (at +ℤ advance line.boxes (shows run)) ms of.1 inside.1 own.1 o strut boxes (omega (arith, a, s, le)))

outermost_in : (reach : ℕ) (made : List Row) → Each (IsRowIn reach) made → AreInLimit (4 * reach) (outermost made)
outermost_in reach [] h = tt
outermost_in reach (row ∷ others) h = h.0.0

-- ---- where the content starts

start_near : (base : ℕ) (rest : ℤ) → unsigned_abs (at_start base rest) ≤ unsigned_abs rest
start_near zero rest = omega arith
start_near (suc base) rest = omega arith

end_near_rest : (base : ℕ) (rest : ℤ) → unsigned_abs (at_end base rest) ≤ unsigned_abs rest
end_near_rest zero rest = omega arith
end_near_rest (suc base) rest = omega arith

aligned_near : (align : Align) (base : ℕ) (rest : ℤ) → unsigned_abs (aligned align base rest) ≤ unsigned_abs rest
aligned_near Start base rest = start_near base rest
aligned_near End base rest = end_near_rest base rest
aligned_near Left base rest = omega arith
aligned_near Right base rest = omega arith
aligned_near Center base rest = half_near rest

offset_near : (align : Align) (base : ℕ) (rest : ℤ) → unsigned_abs (offset align base rest) ≤ unsigned_abs rest
offset_near align base (pos rest) = aligned_near align base (pos rest)
offset_near align base (negsuc less) = start_near base (negsuc less)

width_near : (boxes : List LineBox) (ms : List Mark) → unsigned_abs (width boxes ms) ≤ total (mark_reach boxes) ms
width_near boxes [] = omega arith
width_near boxes (m ∷ ms) =
    let a = advance_near boxes m in
    let s = sum_near (advance boxes m) (width boxes ms) in
    let h = width_near boxes ms in
    omega (arith, a, s, h)

difference_near : (a b : ℤ) → unsigned_abs (a -ℤ b) ≤ unsigned_abs a + unsigned_abs b
difference_near a b = omega (arith, ints)

-- ---- a whole line

each_total : {X : Type 0} (reach : X → ℕ) (xs : List X) (n : ℕ) → total reach xs ≤ n → All (λ x. reach x ≤ n) xs
each_total {X = X} reach [] n le = All-nil (λ (x : X). reach x ≤ n)
each_total {X = X} reach (x ∷ xs) n le = All-cons (λ (y : X). reach y ≤ n) x xs (omega (arith, le)) (each_total reach xs n (omega (arith, le)))

-- a line reaches no further over and under its baseline than its lengths sum to
own_limit : (line : Line) → HasLimit (line_reach line) line
own_limit line = record {
  strut_over = omega arith;
  strut_under = omega arith;
  boxes = All-weaker (λ (b : LineBox). box_reach b ≤ line_reach line)
      (λ (b : LineBox). (unsigned_abs b.extents.over ≤ line_reach line) × (unsigned_abs b.extents.under ≤ line_reach line))
      (λ b h. (omega (arith, h), omega (arith, h))) line.boxes (each_total box_reach line.boxes (line_reach line) (omega arith));
  items = All-weaker (λ (i : Item). item_reach i ≤ line_reach line) (λ (i : Item). IsInLimit (line_reach line) i.what)
      (λ i h. leaf_low (line_reach line) i.what (omega (arith, h))) line.items (each_total item_reach line.items (line_reach line) (omega arith));
}

hung_atomic : (place level : ℕ) (item : Item) (hangs : Bool) → IsAtomic item.what → IsAtomicLeaf (leaf place level item hangs)
hung_atomic place level item true h = tt
hung_atomic place level item false h = h

atomic_leaves : (line : Line) → All (λ item. IsAtomic item.what) line.items → Each IsAtomicLeaf (leaves line)
atomic_leaves line own =
    leaves_each IsAtomicLeaf line
    (All-weaker (λ (i : Item). IsAtomic i.what) (λ (i : Item). (place level : ℕ) (hangs : Bool) → IsAtomicLeaf (leaf place level i hangs)) (λ i k place level hangs. hung_atomic place level i hangs k) line.items own)

pub parts_in : (line : Line) → All (λ item. IsAtomic item.what) line.items → All (λ item. IsBefore (length line.boxes) item.inside) line.items
    → total (mark_reach line.boxes) (marks line) ≤ total box_reach line.boxes + total item_reach line.items → AreInLimit (4 * line_reach line) (parts line)
parts_in line own inside le =
    let w = width_near line.boxes (marks line) in
    let d = difference_near line.available (width line.boxes (marks line)) in
    let f = offset_near line.align line.base (line.available -ℤ width line.boxes (marks line)) in
    let o = in_limit (line_reach line) line (own_limit line) in
    outermost_in (line_reach line)
    (rows line (line_over line) (offset line.align line.base (line.available -ℤ width line.boxes (marks line))) (marks line))
    (rows_in (line_reach line) line (line_over line) (offset line.align line.base (line.available -ℤ width line.boxes (marks line))) (marks line)
    (line_of_boxes line) (line_in line inside) (line_shows IsAtomicLeaf line (atomic_leaves line own)) o.0 (omega arith)
    (λ p lt. let h = index_reach box_reach line.boxes p no_box lt in omega (arith, h)) (omega (arith, w, d, f, le)))
