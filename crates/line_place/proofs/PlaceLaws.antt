-- What a line's own lengths and places give its row of marks.
use Rattle.std.proofs.Common.{◌≡◌, refl, sym, arith, subst, Bool, true, false, ℕ, zero, suc, ◌<◌, ◌≤◌, ◌^◌, List, [], ◌∷◌, ◌++◌, length, None, ℤ, unsigned_abs, slice_index_or}
use Rattle.std.specs.Int.{int_max}
use Rattle.std.specs.List.{All, flat_map, fold}
use Rattle.std.proofs.lemmas.Int.{ints, clamps}
use Rattle.std.proofs.lemmas.List.Elements.{All-weaker}
use Rattle.line_place.specs.declared.line.LineBox.{LineBox}
use Rattle.line_place.specs.Line.{Content, unit, combined, atom, nothing, Item, Line, no_box}
use Rattle.line_place.specs.Leaves.{Leaf, leaf, leaves}
use Rattle.line_place.specs.Runs.{runs}
use Rattle.line_place.specs.Marks.{Mark, begins, ends, shows, at_left, box_at, inside_of, leftmost, marks, marks_after, marks_of, rightmost}
use Rattle.line_place.specs.Placing.{atom_over, atom_under, line_over, line_under, over_of, under_of}
use Rattle.line_place.specs.Reach.{AreInBoxes, AreNested, AreOfBoxes, ArePaired, AreReached, AreWithin, HasLimit, IsBefore, IsInBox, IsInLimit, IsOfBox, box_reach, content_reach, leaf_reach, mark_reach, total}
use Rattle.line_place.proofs.MarkLaws.{of_boxes, of_right}
use Rattle.line_place.proofs.PairLaws.{AreRunsIn, paired}
use Rattle.line_place.proofs.ShownLaws.{Each, IsRunOf, IsShown, leaves_each, marks_each, runs_each}

-- ---- the leaves stand in boxes that there are

abbrev StandsIn : ℕ → Leaf → Type 0
StandsIn n l = IsBefore n l.inside

each_within : (n : ℕ) (ls : List Leaf) → Each (StandsIn n) ls → AreWithin n ls
each_within n [] h = tt
each_within n (l ∷ ls) h = (h.0, each_within n ls h.1)

within_each : (n : ℕ) (ls : List Leaf) → AreWithin n ls → Each (StandsIn n) ls
within_each n [] h = tt
within_each n (l ∷ ls) h = (h.0, within_each n ls h.1)

pub leaves_within : (n : ℕ) (line : Line) → All (λ item. IsBefore n item.inside) line.items → AreWithin n (leaves line)
leaves_within n line h =
    each_within n (leaves line)
    (leaves_each (StandsIn n) line (All-weaker (λ (i : Item). IsBefore n i.inside) (λ (i : Item). (place level : ℕ) (hangs : Bool) → StandsIn n (leaf place level i hangs)) (λ i k place level hangs. k) line.items h))

-- ---- so do the runs

first_in : (n : ℕ) (run : List Leaf) → 0 < length run → Each (StandsIn n) run → IsBefore n (inside_of run)
first_in n [] some h = absurd (omega (arith, some))
first_in n (l ∷ run) some h = h.0

runs_in : (n : ℕ) (rs : List (List Leaf)) → Each (IsRunOf (StandsIn n)) rs → AreRunsIn n rs
runs_in n [] h = tt
runs_in n (run ∷ rs) h = (first_in n run h.0.0 h.0.1, runs_in n rs h.1)

pub marks_paired : (boxes : List LineBox) (ls : List Leaf) → AreNested boxes → AreWithin (length boxes) ls → ArePaired 0 (marks_of boxes ls)
marks_paired boxes ls nested h = paired boxes (runs ls) nested (runs_in (length boxes) (runs ls) (runs_each (StandsIn (length boxes)) ls (within_each (length boxes) ls h)))

-- ---- and what is shown

one_in : (n : ℕ) (mark : Mark) → IsShown (IsRunOf (StandsIn n)) mark → IsInBox n mark
one_in n (begins p edge) h = tt
one_in n (ends p edge) h = tt
one_in n (shows run) h = (h.0, first_in n run h.0 h.1)

all_in : (n : ℕ) (marks : List Mark) → Each (IsShown (IsRunOf (StandsIn n))) marks → AreInBoxes n marks
all_in n [] h = tt
all_in n (mark ∷ marks) h = (one_in n mark h.0, all_in n marks h.1)

pub marks_in : (boxes : List LineBox) (ls : List Leaf) → AreWithin (length boxes) ls → AreInBoxes (length boxes) (marks_of boxes ls)
marks_in boxes ls h = all_in (length boxes) (marks_of boxes ls) (marks_each (StandsIn (length boxes)) boxes ls (within_each (length boxes) ls h))

-- ---- lengths

pub index_reach : {X : Type 0} (reach : X → ℕ) (xs : List X) (p : ℕ) (d : X) → p < length xs → reach (slice_index_or xs p d) ≤ total reach xs
index_reach reach [] p d lt = absurd (omega (arith, lt))
index_reach reach (x ∷ xs) zero d lt = omega arith
index_reach reach (x ∷ xs) (suc p) d lt = let h = index_reach reach xs p d (omega (arith, lt)) in omega (arith, h)

pub reached : (boxes : List LineBox) → total box_reach boxes ≤ 2 ^ 60 → AreReached boxes
reached boxes le p lt = let h = index_reach box_reach boxes p no_box lt in omega (arith, h, le)

-- no length of these is greater
abbrev AreClose : (limit : ℕ) → List ℤ → Type 0
AreClose limit [] = Unit {0}
AreClose limit (z ∷ zs) = (unsigned_abs z ≤ limit) × AreClose limit zs

close_append : (limit : ℕ) (xs ys : List ℤ) → AreClose limit xs → AreClose limit ys → AreClose limit (xs ++ ys)
close_append limit [] ys h k = k
close_append limit (x ∷ xs) ys h k = (h.0, close_append limit xs ys h.1 k)

greater_close : (limit : ℕ) (a b : ℤ) → unsigned_abs a ≤ limit → unsigned_abs b ≤ limit → unsigned_abs (int_max a b) ≤ limit
greater_close limit a b h k = omega (arith, ints, clamps, h, k)

greatest_close : (limit : ℕ) (a : ℤ) (zs : List ℤ) → unsigned_abs a ≤ limit → AreClose limit zs → unsigned_abs (fold int_max a zs) ≤ limit
greatest_close limit a [] h k = h
greatest_close limit a (z ∷ zs) h k = greatest_close limit (int_max a z) zs (greater_close limit a z h k.0) k.1

-- ---- over and under the baseline

abbrev pub IsLow : (limit : ℕ) → Leaf → Type 0
IsLow limit l = IsInLimit limit l.what

-- no box reaches further over or under the baseline
abbrev AreLow : (limit : ℕ) → List LineBox → Type 0
AreLow limit boxes = (p : ℕ) → p < length boxes → (unsigned_abs (box_at boxes p).extents.over ≤ limit) × (unsigned_abs (box_at boxes p).extents.under ≤ limit)

atom_low : (limit : ℕ) (what : Content) → IsInLimit limit what → AreClose limit (atom_over what) × AreClose limit (atom_under what)
atom_low limit (unit node first end_ form glyphs) h = (tt, tt)
atom_low limit (combined node first end_ natural glyphs) h = (tt, tt)
atom_low limit (atom fragment left_margin over_margin over under) h = ((h.0, tt), (h.1, tt))
atom_low limit nothing h = (tt, tt)

run_low : (limit : ℕ) (run : List Leaf) → Each (IsLow limit) run
    → AreClose limit (flat_map (λ leaf. atom_over leaf.what) run) × AreClose limit (flat_map (λ leaf. atom_under leaf.what) run)
run_low limit [] h = (tt, tt)
run_low limit (l ∷ run) h =
    let one = atom_low limit l.what h.0 in
    let k = run_low limit run h.1 in (
      close_append limit (atom_over l.what) (flat_map (λ leaf. atom_over leaf.what) run) one.0 k.0,
      close_append limit (atom_under l.what) (flat_map (λ leaf. atom_under leaf.what) run) one.1 k.1,
    )

marks_low : (limit : ℕ) (boxes : List LineBox) (marks : List Mark) → AreOfBoxes (length boxes) marks → AreLow limit boxes → Each (IsShown (Each (IsLow limit))) marks
    → AreClose limit (flat_map (over_of boxes) marks) × AreClose limit (flat_map (under_of boxes) marks)
marks_low limit boxes [] of low h = (tt, tt)
marks_low limit boxes (begins p edge ∷ marks) of low h =
    let b = low p of.0 in
    let k = marks_low limit boxes marks of.1 low h.1 in
    ((b.0, k.0), (b.1, k.1))
marks_low limit boxes (ends p edge ∷ marks) of low h = marks_low limit boxes marks of.1 low h.1
marks_low limit boxes (shows run ∷ marks) of low h =
    let one = run_low limit run h.0 in
    let k = marks_low limit boxes marks of.1 low h.1 in (
      close_append limit (over_of boxes (shows run)) (flat_map (over_of boxes) marks) one.0 k.0,
      close_append limit (under_of boxes (shows run)) (flat_map (under_of boxes) marks) one.1 k.1,
    )

-- a row of marks reaches at most as far as its lengths sum to
pub leaf_low : (limit : ℕ) (what : Content) → content_reach what ≤ limit → IsInLimit limit what
leaf_low limit (unit node first end_ form glyphs) le = tt
leaf_low limit (combined node first end_ natural glyphs) le = tt
leaf_low limit (atom fragment left_margin over_margin over under) le = (omega (arith, le), omega (arith, le))
leaf_low limit nothing le = tt

leaves_low : (run : List Leaf) → total leaf_reach run ≤ 2 ^ 60 → Each (IsLow (2 ^ 60)) run
leaves_low [] le = tt
leaves_low (l ∷ run) le = (leaf_low (2 ^ 60) l.what (omega (arith, le)), leaves_low run (omega (arith, le)))

shown_low : (boxes : List LineBox) (marks : List Mark) → total (mark_reach boxes) marks ≤ 2 ^ 60 → Each (IsShown (Each (IsLow (2 ^ 60)))) marks
shown_low boxes [] le = tt
shown_low boxes (begins p edge ∷ marks) le = (tt, shown_low boxes marks (omega (arith, le)))
shown_low boxes (ends p edge ∷ marks) le = (tt, shown_low boxes marks (omega (arith, le)))
shown_low boxes (shows run ∷ marks) le = (leaves_low run (omega (arith, le)), shown_low boxes marks (omega (arith, le)))

boxes_low : (boxes : List LineBox) → AreReached boxes → AreLow (2 ^ 60) boxes
boxes_low boxes within p lt = let h = within p lt in (omega (arith, h), omega (arith, h))

pub over_close : (boxes : List LineBox) (marks : List Mark) (strut : ℤ) → AreOfBoxes (length boxes) marks → AreReached boxes → total (mark_reach boxes) marks ≤ 2 ^ 60
    → unsigned_abs strut ≤ 2 ^ 60 → unsigned_abs (fold int_max strut (flat_map (over_of boxes) marks)) ≤ 2 ^ 60
over_close boxes marks strut of within le h =
    greatest_close (2 ^ 60) strut (flat_map (over_of boxes) marks) h (marks_low (2 ^ 60) boxes marks of (boxes_low boxes within) (shown_low boxes marks le)).0

pub under_close : (boxes : List LineBox) (marks : List Mark) (strut : ℤ) → AreOfBoxes (length boxes) marks → AreReached boxes → total (mark_reach boxes) marks ≤ 2 ^ 60
    → unsigned_abs strut ≤ 2 ^ 60 → unsigned_abs (fold int_max strut (flat_map (under_of boxes) marks)) ≤ 2 ^ 60
under_close boxes marks strut of within le h =
    greatest_close (2 ^ 60) strut (flat_map (under_of boxes) marks) h (marks_low (2 ^ 60) boxes marks of (boxes_low boxes within) (shown_low boxes marks le)).1

of_left_one : (n : ℕ) (before : List Mark) (m : Mark) → IsOfBox n m → IsOfBox n (at_left before m)
of_left_one n before (begins p edge) h = h
of_left_one n before (ends p edge) h = h
of_left_one n before (shows run) h = h

of_left : (n : ℕ) (before marks : List Mark) → AreOfBoxes n marks → AreOfBoxes n (leftmost before marks)
of_left n before [] h = tt
of_left n before (m ∷ marks) h = (of_left_one n before m h.0, of_left n (before ++ m ∷ []) marks h.1)

pub marks_of_boxes : (boxes : List LineBox) (ls : List Leaf) → AreOfBoxes (length boxes) (marks_of boxes ls)
marks_of_boxes boxes ls =
    of_left (length boxes) [] (rightmost (marks_after boxes None (runs ls))) (of_right (length boxes) (marks_after boxes None (runs ls)) (of_boxes boxes None (runs ls)))

pub marks_are : (line : Line) → marks line ≡ marks_of line.boxes (leaves line)
unfolding marks
marks_are line = refl

-- ---- a whole line

each_run : (Q : Leaf → Type 0) (marks : List Mark) → Each (IsShown (IsRunOf Q)) marks → Each (IsShown (Each Q)) marks
each_run Q [] h = tt
each_run Q (begins p edge ∷ marks) h = (tt, each_run Q marks h.1)
each_run Q (ends p edge ∷ marks) h = (tt, each_run Q marks h.1)
each_run Q (shows run ∷ marks) h = (h.0.1, each_run Q marks h.1)

-- what holds of each leaf of a line holds of each that its marks show
pub line_shows : (Q : Leaf → Type 0) (line : Line) → Each Q (leaves line) → Each (IsShown (Each Q)) (marks line)
line_shows Q line h =
    let P : List Mark → Type 0 = λ ms. Each (IsShown (Each Q)) ms in
    subst P (sym (marks_are line)) (each_run Q (marks_of line.boxes (leaves line)) (marks_each Q line.boxes (leaves line) h))

pub line_of_boxes : (line : Line) → AreOfBoxes (length line.boxes) (marks line)
line_of_boxes line =
    let P : List Mark → Type 0 = λ ms. AreOfBoxes (length line.boxes) ms in
    subst P (sym (marks_are line)) (marks_of_boxes line.boxes (leaves line))

pub line_in : (line : Line) → All (λ item. IsBefore (length line.boxes) item.inside) line.items → AreInBoxes (length line.boxes) (marks line)
line_in line h =
    let P : List Mark → Type 0 = λ ms. AreInBoxes (length line.boxes) ms in
    subst P (sym (marks_are line)) (marks_in line.boxes (leaves line) (leaves_within (length line.boxes) line h))

hung_low : (limit place level : ℕ) (item : Item) (hangs : Bool) → IsInLimit limit item.what → IsLow limit (leaf place level item hangs)
hung_low limit place level item true h = tt
hung_low limit place level item false h = h

leaves_in_limit : (limit : ℕ) (line : Line) → HasLimit limit line → Each (IsLow limit) (leaves line)
leaves_in_limit limit line has =
    leaves_each (IsLow limit) line
    (All-weaker (λ (i : Item). IsInLimit limit i.what) (λ (i : Item). (place level : ℕ) (hangs : Bool) → IsLow limit (leaf place level i hangs)) (λ i k place level hangs. hung_low limit place level i hangs k) line.items has.items)

pub in_limit : (limit : ℕ) (line : Line) → HasLimit limit line → (unsigned_abs (line_over line) ≤ limit) × (unsigned_abs (line_under line) ≤ limit)
in_limit limit line has =
    let low = marks_low limit line.boxes (marks line) (line_of_boxes line) (λ p lt. has.boxes p no_box lt) (line_shows (IsLow limit) line (leaves_in_limit limit line has)) in (
      greatest_close limit line.strut.over (flat_map (over_of line.boxes) (marks line)) has.strut_over low.0,
      greatest_close limit line.strut.under (flat_map (under_of line.boxes) (marks line)) has.strut_under low.1,
    )

pub within_limit : (limit : ℕ) (line : Line) (over under : ℤ) → over ≡ line_over line → under ≡ line_under line → HasLimit limit line → (unsigned_abs over ≤ limit) × (unsigned_abs under ≤ limit)
within_limit limit line over under o u has =
    let k = in_limit limit line has in
    let P : ℤ → Type 0 = λ z. unsigned_abs z ≤ limit in
    (subst P (sym o) k.0, subst P (sym u) k.1)
