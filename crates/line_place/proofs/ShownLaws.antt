-- What holds of each item of a line holds of each leaf that its marks show.
use Rattle.std.proofs.Common.{arith, Bool, true, false, cond, ℕ, zero, suc, ◌+◌, ◌<◌, List, [], ◌∷◌, ◌++◌, length, map, reverse, Option, Some, None}
use Rattle.std.specs.Prelude.{IfSome, slice_get}
use Rattle.std.specs.List.{All, cons_option, filter_map}
use Rattle.std.proofs.lemmas.List.Elements.{All-head, All-tail}
use Rattle.bidi_order.specs.Visual.{visual_order}
use Rattle.line_place.specs.declared.line.LineBox.{LineBox}
use Rattle.line_place.specs.Line.{Item, Line}
use Rattle.line_place.specs.Leaves.{Leaf, are_spaces, leaf, leaves, leaves_from, levels_of}
use Rattle.line_place.specs.Runs.{goes_on, joined, runs}
use Rattle.line_place.specs.Marks.{Mark, begins, ends, shows, at_left, at_right, between, inside_of, left_behind, leftmost, marks_after, marks_of, rightmost}

abbrev pub Each : {X : Type 0} → (X → Type 0) → List X → Type 0
Each Q [] = Unit {0}
Each Q (x ∷ xs) = Q x × Each Q xs

each_append : {X : Type 0} (Q : X → Type 0) (xs ys : List X) → Each Q xs → Each Q ys → Each Q (xs ++ ys)
each_append Q [] ys h k = k
each_append Q (x ∷ xs) ys h k = (h.0, each_append Q xs ys h.1 k)

-- ---- leaves

abbrev Hung : (Leaf → Type 0) → Item → Type 0
Hung Q item = (place level : ℕ) (hangs : Bool) → Q (leaf place level item hangs)

from_each : (Q : Leaf → Type 0) (place : ℕ) (levels : List ℕ) (items : List Item) → All (Hung Q) items → Each Q (leaves_from place levels items)
from_each Q place [] items h = tt
from_each Q place (level ∷ levels) [] h = tt
from_each Q place (level ∷ levels) (item ∷ items) h =
    (All-head (Hung Q) item items h place level (are_spaces (item ∷ items)), from_each Q (place + 1) levels items (All-tail (Hung Q) item items h))

one_of : (Q : Leaf → Type 0) (ls : List Leaf) (p : ℕ) → Each Q ls → IfSome (slice_get ls p) Q
one_of Q [] p h = tt
one_of Q (l ∷ ls) zero h = h.0
one_of Q (l ∷ ls) (suc p) h = one_of Q ls p h.1

with_one : (Q : Leaf → Type 0) (o : Option Leaf) (rest : List Leaf) → IfSome o Q → Each Q rest → Each Q (cons_option o rest)
with_one Q None rest h k = k
with_one Q (Some l) rest h k = (h, k)

some_of : (Q : Leaf → Type 0) (ls : List Leaf) (places : List ℕ) → Each Q ls → Each Q (filter_map (λ place. slice_get ls place) places)
some_of Q ls [] h = tt
some_of Q ls (p ∷ places) h = with_one Q (slice_get ls p) (filter_map (λ place. slice_get ls place) places) (one_of Q ls p h) (some_of Q ls places h)

-- where it holds of each item, in whatever place, on whatever level, and whether it hangs or not
pub leaves_each : (Q : Leaf → Type 0) (line : Line) → All (λ item. (place level : ℕ) (hangs : Bool) → Q (leaf place level item hangs)) line.items → Each Q (leaves line)
unfolding leaves
leaves_each Q line h =
    some_of Q (leaves_from 0 (levels_of line) line.items) (visual_order (levels_of line) (map (λ (item : Item). item.apart) line.items)) (from_each Q 0 (levels_of line) line.items h)

-- ---- runs

-- a run has a first leaf
abbrev pub IsRunOf : (Leaf → Type 0) → List Leaf → Type 0
IsRunOf Q run = (0 < length run) × Each Q run

joined_by : (Q : Leaf → Type 0) (go : Bool) (l next : Leaf) (run : List Leaf) (rs : List (List Leaf)) → Q l → Each (IsRunOf Q) ((next ∷ run) ∷ rs)
    → Each (IsRunOf Q) (cond go ((l ∷ next ∷ run) ∷ rs) ((l ∷ []) ∷ (next ∷ run) ∷ rs))
joined_by Q true l next run rs h k = ((omega arith, (h, k.0.1)), k.1)
joined_by Q false l next run rs h k = ((omega arith, (h, tt)), k)

joined_each : (Q : Leaf → Type 0) (l : Leaf) (rs : List (List Leaf)) → Q l → Each (IsRunOf Q) rs → Each (IsRunOf Q) (joined l rs)
joined_each Q l [] h k = ((omega arith, (h, tt)), tt)
joined_each Q l ([] ∷ rs) h k = let z : 0 < 0 = k.0.0 in absurd (omega (arith, z))
joined_each Q l ((next ∷ run) ∷ rs) h k = joined_by Q (goes_on l next) l next run rs h k

pub runs_each : (Q : Leaf → Type 0) (ls : List Leaf) → Each Q ls → Each (IsRunOf Q) (runs ls)
runs_each Q [] h = tt
runs_each Q (l ∷ ls) h = joined_each Q l (runs ls) h.0 (runs_each Q ls h.1)

-- ---- marks

-- what holds of a run that is shown
abbrev pub IsShown : (List Leaf → Type 0) → Mark → Type 0
IsShown R (begins p edge) = Unit {0}
IsShown R (ends p edge) = Unit {0}
IsShown R (shows run) = R run

ends_each : (R : List Leaf → Type 0) (ps : List ℕ) → Each (IsShown R) (map (λ p. ends p false) ps)
ends_each R [] = tt
ends_each R (p ∷ ps) = (tt, ends_each R ps)

begins_each : (R : List Leaf → Type 0) (ps : List ℕ) → Each (IsShown R) (map (λ p. begins p false) ps)
begins_each R [] = tt
begins_each R (p ∷ ps) = (tt, begins_each R ps)

between_each : (R : List Leaf → Type 0) (boxes : List LineBox) (one other : Option ℕ) → Each (IsShown R) (between boxes one other)
between_each R boxes one other =
    each_append (IsShown R) (map (λ p. ends p false) (left_behind boxes one other)) (map (λ p. begins p false) (reverse (left_behind boxes other one)))
    (ends_each R (left_behind boxes one other)) (begins_each R (reverse (left_behind boxes other one)))

pub after_each : (R : List Leaf → Type 0) (boxes : List LineBox) (inside : Option ℕ) (rs : List (List Leaf)) → Each R rs → Each (IsShown R) (marks_after boxes inside rs)
after_each R boxes inside [] h = between_each R boxes inside None
after_each R boxes inside (run ∷ rs) h =
    each_append (IsShown R) (between boxes inside (inside_of run)) (shows run ∷ marks_after boxes (inside_of run) rs) (between_each R boxes inside (inside_of run))
    (h.0, after_each R boxes (inside_of run) rs h.1)

left_one : (R : List Leaf → Type 0) (before : List Mark) (m : Mark) → IsShown R m → IsShown R (at_left before m)
left_one R before (begins p edge) h = tt
left_one R before (ends p edge) h = tt
left_one R before (shows run) h = h

right_one : (R : List Leaf → Type 0) (after : List Mark) (m : Mark) → IsShown R m → IsShown R (at_right after m)
right_one R after (begins p edge) h = tt
right_one R after (ends p edge) h = tt
right_one R after (shows run) h = h

pub left_each : (R : List Leaf → Type 0) (before marks : List Mark) → Each (IsShown R) marks → Each (IsShown R) (leftmost before marks)
left_each R before [] h = tt
left_each R before (m ∷ marks) h = (left_one R before m h.0, left_each R (before ++ m ∷ []) marks h.1)

pub right_each : (R : List Leaf → Type 0) (marks : List Mark) → Each (IsShown R) marks → Each (IsShown R) (rightmost marks)
right_each R [] h = tt
right_each R (m ∷ marks) h = (right_one R marks m h.0, right_each R marks h.1)

pub marks_each : (Q : Leaf → Type 0) (boxes : List LineBox) (ls : List Leaf) → Each Q ls → Each (IsShown (IsRunOf Q)) (marks_of boxes ls)
marks_each Q boxes ls h =
    left_each (IsRunOf Q) [] (rightmost (marks_after boxes None (runs ls)))
    (right_each (IsRunOf Q) (marks_after boxes None (runs ls)) (after_each (IsRunOf Q) boxes None (runs ls) (runs_each Q ls h)))
