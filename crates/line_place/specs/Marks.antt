-- A line from line-left as a row of marks: where an inline box begins, where one ends, and what stands there. CSS 2, 9.4.2.
use Rattle.std.specs.Prelude.{ℕ, zero, suc, ⊤, Bool, false, not, ◌==◌, cond, List, [], ◌∷◌, ◌++◌, map, reverse, Option, Some, None, length, slice_index_or}
use Rattle.std.specs.List.{filter, list_any}
use Rattle.line_place.specs.declared.marks.Mark as code
use Rattle.line_place.specs.declared.marks.Mark.TheVariants as codes
use Rattle.line_place.specs.declared.line.LineBox.{LineBox}
use Rattle.line_place.specs.Line.{no_box, Line}
use Rattle.line_place.specs.Leaves.{Leaf, leaves}
use Rattle.line_place.specs.Runs.{HasAtomFirst, runs, is_place}

-- a fragment of a box, by the box's place, begins or ends: `edge` says that it is the leftmost one where it begins, and the
-- rightmost one where it ends
pub data Mark : Type 0 where
  begins : (box : ℕ) (edge : Bool) → Mark
  ends : (box : ℕ) (edge : Bool) → Mark
  shows : (run : List Leaf) → Mark

abbrev pub box_at : List LineBox → ℕ → LineBox
box_at boxes place = slice_index_or boxes place no_box

-- the innermost box that isn't passed, and those round it, innermost first; the box round another one stands before it
abbrev pub chain_below : (boxes : List LineBox) → (below : ℕ) → (inside : Option ℕ) → List ℕ
chain_below boxes zero inside = []
chain_below boxes (suc p) inside =
    cond (is_place inside (Some p)) (p ∷ []) [] ++ chain_below boxes p (cond (is_place inside (Some p)) (box_at boxes p).outer inside)

-- the boxes round something that stands inside this one, innermost first
abbrev pub chain : List LineBox → (inside : Option ℕ) → List ℕ
chain boxes inside = chain_below boxes (length boxes) inside

abbrev pub has : List ℕ → ℕ → Bool
has places place = list_any (λ p. p == place) places

-- the boxes round the one and not round the other, innermost first
abbrev pub left_behind : List LineBox → (one other : Option ℕ) → List ℕ
left_behind boxes one other = filter (λ p. not (has (chain boxes other) p)) (chain boxes one)

abbrev pub inside_of : List Leaf → Option ℕ
inside_of [] = None
inside_of (leaf ∷ leaves) = leaf.inside

-- between what stands inside the one and what stands inside the other
abbrev pub between : List LineBox → (one other : Option ℕ) → List Mark
between boxes one other =
    map (λ p. ends p false) (left_behind boxes one other) ++ map (λ p. begins p false) (reverse (left_behind boxes other one))

-- what follows something that stands inside this box
abbrev pub marks_after : List LineBox → (inside : Option ℕ) → List (List Leaf) → List Mark
marks_after boxes inside [] = between boxes inside None
marks_after boxes inside (run ∷ runs) = between boxes inside (inside_of run) ++ shows run ∷ marks_after boxes (inside_of run) runs

abbrev pub is_begin_of : ℕ → Mark → Bool
is_begin_of box (begins p edge) = p == box
is_begin_of box _ = false

abbrev pub is_end_of : ℕ → Mark → Bool
is_end_of box (ends p edge) = p == box
is_end_of box _ = false

-- a fragment of a box that has not begun before is its leftmost one
abbrev pub at_left : (before : List Mark) → Mark → Mark
at_left before (begins p edge) = begins p (not (list_any (is_begin_of p) before))
at_left before (ends p edge) = ends p edge
at_left before (shows run) = shows run

-- a fragment of a box that doesn't end again behind it is its rightmost one
abbrev pub at_right : (after : List Mark) → Mark → Mark
at_right after (begins p edge) = begins p edge
at_right after (ends p edge) = ends p (not (list_any (is_end_of p) after))
at_right after (shows run) = shows run

abbrev pub leftmost : (before : List Mark) → List Mark → List Mark
leftmost before [] = []
leftmost before (mark ∷ marks) = at_left before mark ∷ leftmost (before ++ mark ∷ []) marks

abbrev pub rightmost : List Mark → List Mark
rightmost [] = []
rightmost (mark ∷ marks) = at_right marks mark ∷ rightmost marks

-- the marks of leaves that stand in these boxes
abbrev pub marks_of : List LineBox → List Leaf → List Mark
marks_of boxes leaves = leftmost [] (rightmost (marks_after boxes None (runs leaves)))

unfoldable pub marks : Line → List Mark
marks line = marks_of line.boxes (leaves line)

-- the same of a mark of the code
abbrev pub mark_of : {S : Type 0} → code.Mark S → Mark
mark_of (codes.Begins p edge) = begins p edge
mark_of (codes.Ends p edge) = ends p edge
mark_of (codes.Shows run) = shows run

-- in each run that is shown only the first leaf can be an atom
abbrev pub ShowsAtomFirst : Mark → Type 0
ShowsAtomFirst (begins p edge) = ⊤
ShowsAtomFirst (ends p edge) = ⊤
ShowsAtomFirst (shows run) = HasAtomFirst run

abbrev pub ShowAtomsFirst : List Mark → Type 0
ShowAtomsFirst [] = ⊤
ShowAtomsFirst (mark ∷ marks) = ShowsAtomFirst mark × ShowAtomsFirst marks
