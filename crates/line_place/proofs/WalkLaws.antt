-- The walk along a row of marks.
use Rattle.std.proofs.Common.{◌≡◌, ◌∙◌, ap, sym, refl, arith, subst, ℕ, zero, suc, ◌+◌, ◌-◌, ◌<◌, ◌≤◌, ◌^◌, Bool, true, false, cond, List, [], ◌∷◌, ◌++◌, length, map, drop, get_or, reverse, ℤ, pos, ◌+ℤ◌, unsigned_abs}
use Rattle.std.proofs.lemmas.Int.{ints}
use Rattle.std.proofs.lemmas.List.{drop_more, get_or-map, length-map, length-append, reverse-append}
use Rattle.fragment_types.specs.declared.fragment.Fragment.{Fragment}
use Rattle.fragment_types.specs.Fragment.{Pieces, before, none, piece, pieces_of, span}
use Rattle.line_place.specs.declared.line.LineBox.{LineBox}
use Rattle.line_place.specs.declared.walk.Open.{Open}
use Rattle.line_place.specs.declared.walk.Walk.{Walk}
use Rattle.line_place.specs.declared.marks.Mark as code
use Rattle.line_place.specs.Leaves.{Leaf}
use Rattle.line_place.specs.Line.{Line}
use Rattle.line_place.specs.Marks.{Mark, begins, ends, shows, box_at, mark_of}
use Rattle.line_place.specs.Placing.{Row, advance, box_rect, extent_of, has_left, has_right, left, left_margin, put_box, put_first, right, right_margin, rows, run_piece, unnumbered}
use Rattle.line_place.specs.Reach.{AreInBoxes, ArePaired, IsInBox, leaf_reach, mark_reach, total}
use Rattle.line_place.specs.Walk.{AreOpen, closed, followed, whole}

-- the innermost box that is open
pub last_open : (n : ℕ) (os : List Open) (o : Open) → AreOpen n (os ++ o ∷ []) → (o.place < n) × (unsigned_abs o.left ≤ 2 ^ 61)
last_open n [] o h = (h.0, h.1)
last_open n (first ∷ os) o h = last_open n os o h.2

pub innermost : (n : ℕ) (all os : List Open) (o : Open) → AreOpen n all → all ≡ os ++ o ∷ [] → (o.place < n) × (unsigned_abs o.left ≤ 2 ^ 61)
innermost n all os o h is = let P : List Open → Type 0 = λ l. AreOpen n l in last_open n os o (subst P is h)

-- a fragment that ends, as the code has it
pub ended_as : (boxes : List LineBox) (place : ℕ) (o : Open) (over end_ own left stop : ℤ) (before_ parts all : List Fragment) (made next : Pieces)
    → made ≡ followed before_ (piece (unnumbered (box_at boxes place).node) (box_rect (box_at boxes place) own left stop) span (pieces_of parts) next)
    → place ≡ o.place → left ≡ o.left → before_ ≡ o.before.items → own ≡ over → stop ≡ end_ → parts ≡ all
    → made ≡ followed o.before.items (piece (unnumbered (box_at boxes o.place).node) (box_rect (box_at boxes o.place) over o.left end_) span (pieces_of all) next)
ended_as boxes place o over end_ own left stop before_ parts all made next is p q r s t u = rw (is, p, q, r, s, t, u) refl

-- ---- there is always a row

put_box_there : (box : LineBox) (over left : ℤ) (rows : List Row) → 0 < length rows → 0 < length (put_box box over left rows)
put_box_there box over left [] some = some
put_box_there box over left (inner ∷ []) some = some
put_box_there box over left (inner ∷ outer ∷ others) some = omega arith

put_first_there : (put : Pieces → Pieces) (rows : List Row) → 0 < length rows → 0 < length (put_first put rows)
put_first_there put [] some = some
put_first_there put (row ∷ others) some = omega arith

pub row_there : (line : Line) (over at : ℤ) (marks : List Mark) → 0 < length (rows line over at marks)
row_there line over at [] = omega arith
row_there line over at (begins p edge ∷ marks) =
    put_box_there (box_at line.boxes p) over (at +ℤ left_margin (box_at line.boxes p) edge) (rows line over (at +ℤ advance line.boxes (begins p edge)) marks)
    (row_there line over (at +ℤ advance line.boxes (begins p edge)) marks)
row_there line over at (ends p edge ∷ marks) = omega arith
row_there line over at (shows run ∷ marks) =
    put_first_there (run_piece line over at run) (rows line over (at +ℤ advance line.boxes (shows run)) marks)
    (row_there line over (at +ℤ advance line.boxes (shows run)) marks)

-- ---- one mark more

without_rows : (line : Line) (over : ℤ) (opened : List Open) (parts : List Fragment) → closed line over opened parts [] ≡ none
without_rows line over [] parts = refl
without_rows line over (o ∷ opened) parts = refl

pub begun_rows : (line : Line) (over : ℤ) (opened : List Open) (o : Open) (made : List Row)
    → closed line over (o ∷ opened) [] made ≡ closed line over opened o.before.items (put_box (box_at line.boxes o.place) over o.left made)
begun_rows line over opened o [] = sym (without_rows line over opened o.before.items)
begun_rows line over opened o (row ∷ others) = refl

pub shown_rows : (line : Line) (over : ℤ) (opened : List Open) (parts more : List Fragment) (put : Pieces → Pieces) (made : List Row)
    → ((next : Pieces) → followed more next ≡ followed parts (put next)) → closed line over opened more made ≡ closed line over opened parts (put_first put made)
shown_rows line over [] parts more put [] is = refl
shown_rows line over [] parts more put (row ∷ others) is = is row.pieces
shown_rows line over (o ∷ opened) parts more put [] is = refl
shown_rows line over (o ∷ opened) parts more put (row ∷ others) is =
    ap (λ (ps : Pieces). closed line over opened o.before.items (put_box (box_at line.boxes o.place) over o.left (record { pieces = ps; right = row.right } ∷ others))) (is row.pieces)

pub followed_all : (parts : List Fragment) → followed parts none ≡ pieces_of parts
followed_all [] = refl
followed_all (part ∷ parts) = ap (before part) (followed_all parts)

ended_at : (line : Line) (over : ℤ) (opened : List Open) (o : Open) (parts more : List Fragment) (right : ℤ) (made : List Row) → 0 < length made
    → ((next : Pieces) → followed more next ≡ followed o.before.items (piece (unnumbered (box_at line.boxes o.place).node) (box_rect (box_at line.boxes o.place) over o.left right) span (followed parts none) next))
    → closed line over opened more made ≡ closed line over (o ∷ opened) parts (record { pieces = none; right = right } ∷ made)
ended_at line over opened o parts more right [] some is = absurd (omega arith)
ended_at line over [] o parts more right (row ∷ others) some is = is row.pieces
ended_at line over (outer ∷ opened) o parts more right (row ∷ others) some is =
    ap (λ (ps : Pieces). closed line over opened outer.before.items (put_box (box_at line.boxes outer.place) over outer.left (record { pieces = ps; right = row.right } ∷ others))) (is row.pieces)

pub ended_rows : (line : Line) (over : ℤ) (opened : List Open) (o : Open) (parts more : List Fragment) (right : ℤ) (made : List Row) → 0 < length made
    → ((next : Pieces) → followed more next ≡ followed o.before.items (piece (unnumbered (box_at line.boxes o.place).node) (box_rect (box_at line.boxes o.place) over o.left right) span (pieces_of parts) next))
    → closed line over opened more made ≡ closed line over (o ∷ opened) parts (record { pieces = none; right = right } ∷ made)
ended_rows line over opened o parts more right made some is =
    ended_at line over opened o parts more right made some
    (λ next. is next ∙ ap (λ (inner : Pieces). followed o.before.items (piece (unnumbered (box_at line.boxes o.place).node) (box_rect (box_at line.boxes o.place) over o.left right) span inner next)) (sym (followed_all parts)))

pub innermost_first : (os : List Open) (o : Open) → reverse (os ++ o ∷ []) ≡ o ∷ reverse os
innermost_first os o = reverse-append os (o ∷ [])

-- what is open has an innermost box
pub split_last : (first : Open) (opened : List Open) → (os : List Open) × (o : Open) × (first ∷ opened ≡ os ++ o ∷ [])
split_last first [] = ([], first, refl)
split_last first (second ∷ opened) = let s = split_last second opened in (first ∷ s.0, s.1, ap (λ (l : List Open). first ∷ l) s.2)

pub as_last : (opened : List Open) → 0 < length opened → (os : List Open) × (o : Open) × (opened ≡ os ++ o ∷ [])
as_last [] some = absurd (omega arith)
as_last (first ∷ opened) some = split_last first opened

-- ---- the whole line by one mark more

pub begin_whole : (line : Line) (over : ℤ) (old new : Walk) (p : ℕ) (edge : Bool) (b : LineBox) (o : Open) (marks : List Mark) → b ≡ box_at line.boxes p
    → new.at ≡ old.at +ℤ (left_margin b edge +ℤ left b edge) → new.opened.items ≡ old.opened.items ++ o ∷ [] → new.parts.items ≡ []
    → o.place ≡ p → o.left ≡ old.at +ℤ left_margin b edge → o.before.items ≡ old.parts.items
    → whole line over new marks ≡ whole line over old (begins p edge ∷ marks)
begin_whole line over old new p edge b o marks is at opened parts place stands before_ =
    let there : List Row = rows line over (old.at +ℤ advance line.boxes (begins p edge)) marks in
    let at' : new.at ≡ old.at +ℤ advance line.boxes (begins p edge) = at ∙ ap (λ (x : LineBox). old.at +ℤ (left_margin x edge +ℤ left x edge)) is in
    let stands' : o.left ≡ old.at +ℤ left_margin (box_at line.boxes p) edge = stands ∙ ap (λ (x : LineBox). old.at +ℤ left_margin x edge) is in
    ap (λ (os : List Open). closed line over (reverse os) new.parts.items (rows line over new.at marks)) opened
    ∙ ap (λ (os : List Open). closed line over os new.parts.items (rows line over new.at marks)) (innermost_first old.opened.items o)
    ∙ ap (λ (ps : List Fragment). closed line over (o ∷ reverse old.opened.items) ps (rows line over new.at marks)) parts
    ∙ ap (λ (x : ℤ). closed line over (o ∷ reverse old.opened.items) [] (rows line over x marks)) at'
    ∙ begun_rows line over (reverse old.opened.items) o there
    ∙ ap (λ (ps : List Fragment). closed line over (reverse old.opened.items) ps (put_box (box_at line.boxes o.place) over o.left there)) before_
    ∙ ap (λ (q : ℕ). closed line over (reverse old.opened.items) old.parts.items (put_box (box_at line.boxes q) over o.left there)) place
    ∙ ap (λ (x : ℤ). closed line over (reverse old.opened.items) old.parts.items (put_box (box_at line.boxes p) over x there)) stands'

pub end_whole : (line : Line) (over : ℤ) (old new : Walk) (p : ℕ) (edge : Bool) (marks : List Mark) → 0 < length old.opened.items
    → new.at ≡ old.at +ℤ advance line.boxes (ends p edge)
    → ((os : List Open) (o : Open) → old.opened.items ≡ os ++ o ∷ [] → (new.opened.items ≡ os) × ((next : Pieces) → followed new.parts.items next ≡ followed o.before.items
    (piece (unnumbered (box_at line.boxes o.place).node) (box_rect (box_at line.boxes o.place) over o.left (old.at +ℤ right (box_at line.boxes p) edge)) span (pieces_of old.parts.items) next)))
    → whole line over new marks ≡ whole line over old (ends p edge ∷ marks)
end_whole line over old new p edge marks some at is =
    let s = as_last old.opened.items some in
    let k = is s.0 s.1 s.2 in
    ap (λ (os : List Open). closed line over (reverse os) new.parts.items (rows line over new.at marks)) k.0
    ∙ ap (λ (x : ℤ). closed line over (reverse s.0) new.parts.items (rows line over x marks)) at
    ∙ ended_rows line over (reverse s.0) s.1 old.parts.items new.parts.items (old.at +ℤ right (box_at line.boxes p) edge)
    (rows line over (old.at +ℤ advance line.boxes (ends p edge)) marks) (row_there line over (old.at +ℤ advance line.boxes (ends p edge)) marks) k.1
    ∙ sym (ap (λ (os : List Open). closed line over os old.parts.items (rows line over old.at (ends p edge ∷ marks))) (ap reverse s.2 ∙ innermost_first s.0 s.1))

pub show_whole : (line : Line) (over own : ℤ) (old new : Walk) (run : List Leaf) (marks : List Mark)
    → new.at ≡ old.at +ℤ extent_of run → new.opened.items ≡ old.opened.items → own ≡ over
    → ((next : Pieces) → followed new.parts.items next ≡ followed old.parts.items (run_piece line own old.at run next))
    → whole line over new marks ≡ whole line over old (shows run ∷ marks)
show_whole line over own old new run marks at opened same is =
    ap (λ (os : List Open). closed line over (reverse os) new.parts.items (rows line over new.at marks)) opened
    ∙ ap (λ (x : ℤ). closed line over (reverse old.opened.items) new.parts.items (rows line over x marks)) at
    ∙ shown_rows line over (reverse old.opened.items) old.parts.items new.parts.items (run_piece line over old.at run) (rows line over (old.at +ℤ extent_of run) marks)
    (λ next. is next ∙ ap (λ (x : ℤ). followed old.parts.items (run_piece line x old.at run next)) same)

-- ---- what is open

pub open_more : (n : ℕ) (os : List Open) (o : Open) → AreOpen n os → o.place < n → unsigned_abs o.left ≤ 2 ^ 61 → AreOpen n (os ++ o ∷ [])
open_more n [] o h place near = (place, near, tt)
open_more n (first ∷ os) o h place near = (h.0, h.1, open_more n os o h.2 place near)

pub front_open : (n : ℕ) (os : List Open) (o : Open) → AreOpen n (os ++ o ∷ []) → AreOpen n os
front_open n [] o h = tt
front_open n (first ∷ os) o h = (h.0, h.1, front_open n os o h.2)

pub fewer_open : (n : ℕ) (old new : List Open) → 0 < length old → AreOpen n old → ((os : List Open) (o : Open) → old ≡ os ++ o ∷ [] → new ≡ os) → AreOpen n new
fewer_open n old new some h is =
    let s = as_last old some in
    let P : List Open → Type 0 = λ l. AreOpen n l in
    subst P (sym (is s.0 s.1 s.2)) (front_open n s.0 s.1 (subst P s.2 h))

pub one_fewer : (old new : List Open) → 0 < length old → ((os : List Open) (o : Open) → old ≡ os ++ o ∷ [] → new ≡ os) → length new ≡ length old - 1
one_fewer old new some is =
    let s = as_last old some in
    let e : length new ≡ length s.0 = ap length (is s.0 s.1 s.2) in
    let f : length old ≡ length s.0 + 1 = ap length s.2 ∙ length-append s.0 (s.1 ∷ []) in
    omega (arith, e, f)

-- ---- how far a mark advances

if_near : (is : Bool) (z : ℤ) → unsigned_abs (cond is z (pos 0)) ≤ unsigned_abs z
if_near true z = omega arith
if_near false z = omega arith

pub begin_near : (boxes : List LineBox) (p : ℕ) (edge : Bool)
    → unsigned_abs (left_margin (box_at boxes p) edge) + unsigned_abs (left (box_at boxes p) edge) ≤ mark_reach boxes (begins p edge)
begin_near boxes p true =
    let m = if_near (has_left (box_at boxes p)) (box_at boxes p).left_margin in
    let l = if_near (has_left (box_at boxes p)) (box_at boxes p).left in
    omega (arith, m, l)
begin_near boxes p false = omega arith

pub end_near : (boxes : List LineBox) (p : ℕ) (edge : Bool)
    → unsigned_abs (right (box_at boxes p) edge) + unsigned_abs (right_margin (box_at boxes p) edge) ≤ mark_reach boxes (ends p edge)
end_near boxes p true =
    let m = if_near (has_right (box_at boxes p)) (box_at boxes p).right_margin in
    let r = if_near (has_right (box_at boxes p)) (box_at boxes p).right in
    omega (arith, m, r)
end_near boxes p false = omega arith

pub sum_near : (a b : ℤ) → unsigned_abs (a +ℤ b) ≤ unsigned_abs a + unsigned_abs b
sum_near a b = omega (arith, ints)

pub extent_near : (run : List Leaf) → unsigned_abs (extent_of run) ≤ total leaf_reach run
extent_near [] = omega arith
extent_near (leaf ∷ run) = let s = sum_near leaf.extent (extent_of run) in let h = extent_near run in omega (arith, s, h)

pub advance_near : (boxes : List LineBox) (mark : Mark) → unsigned_abs (advance boxes mark) ≤ mark_reach boxes mark
advance_near boxes (begins p edge) =
    let s = sum_near (left_margin (box_at boxes p) edge) (left (box_at boxes p) edge) in let h = begin_near boxes p edge in omega (arith, s, h)
advance_near boxes (ends p edge) =
    let s = sum_near (right (box_at boxes p) edge) (right_margin (box_at boxes p) edge) in let h = end_near boxes p edge in omega (arith, s, h)
advance_near boxes (shows run) = extent_near run

-- ---- one mark more of the code's

pub next_mark : {S : Type 0} (marks : List (code.Mark S)) (k : ℕ) (x : code.Mark S) → k < length marks → x ≡ get_or marks k x → drop k (map mark_of marks) ≡ mark_of x ∷ drop (k + 1) (map mark_of marks)
next_mark marks k x lt is =
    let l = length-map marks mark_of in
    drop_more (map mark_of marks) k (mark_of x) (omega arith) ∙ ap (λ (m : Mark). m ∷ drop (k + 1) (map mark_of marks)) (get_or-map mark_of marks k x (mark_of x) lt ∙ ap mark_of (sym is))

in_rest : (n k : ℕ) (marks : List Mark) → AreInBoxes n marks → AreInBoxes n (drop k marks)
in_rest n zero marks h = h
in_rest n (suc k) [] h = h
in_rest n (suc k) (mark ∷ marks) h = in_rest n k marks h.1

pub in_box : {S : Type 0} (n k : ℕ) (marks : List (code.Mark S)) (x : code.Mark S) → AreInBoxes n (map mark_of marks) → k < length marks → x ≡ get_or marks k x → IsInBox n (mark_of x)
in_box n k marks x h lt is =
    let P : List Mark → Type 0 = λ l. AreInBoxes n l in
    (subst P (next_mark marks k x lt is) (in_rest n k (map mark_of marks) h)).0

pub none_open : (opened : List Open) → length opened ≡ 0 → opened ≡ []
none_open [] is = refl
none_open (first ∷ opened) is = absurd (omega (arith, is))

pub at_the_end : (line : Line) (over : ℤ) (walk : Walk) (marks : List Mark) → marks ≡ [] → ArePaired (length walk.opened.items) marks
    → pieces_of walk.parts.items ≡ whole line over walk marks
at_the_end line over walk marks is paired =
    let P : List Mark → Type 0 = λ l. ArePaired (length walk.opened.items) l in
    let e : walk.opened.items ≡ [] = none_open walk.opened.items (subst P is paired) in
    sym (followed_all walk.parts.items)
    ∙ sym (ap (λ (os : List Open). closed line over (reverse os) walk.parts.items (rows line over walk.at [])) e)
    ∙ sym (ap (λ (ms : List Mark). whole line over walk ms) is)
