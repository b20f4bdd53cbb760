-- Rows of marks.
use Rattle.std.proofs.Common.{◌≡◌, ◌∙◌, ◌==◌, ap, refl, sym, arith, Bool, true, false, not, cond, ℕ, zero, suc, ◌+◌, ◌-◌, ◌<◌, ◌≤◌, List, [], ◌∷◌, ◌++◌, length, map, get_or, take, drop, reverse, Option, Some, None, append_assoc, subst}
use Rattle.std.specs.List.{filter}
use Rattle.std.proofs.lemmas.List.{drop_more, take_more, get_or-map, get_or-reverse, length-map, length-reverse, map_push, reverse-append}
use Rattle.line_place.specs.declared.line.LineBox.{LineBox}
use Rattle.line_place.specs.declared.marks.Mark as code
use Rattle.line_place.specs.Leaves.{Leaf}
use Rattle.line_place.specs.Runs.{is_place, runs}
use Rattle.line_place.specs.Marks.{Mark, begins, ends, shows, at_left, at_right, between, chain, chain_below, has, inside_of, left_behind, leftmost, mark_of, marks_after, marks_of, rightmost}
use Rattle.line_place.specs.Reach.{AreOfBoxes, IsOfBox}

-- a run more
pub one_run : (boxes : List LineBox) (inside next : Option ℕ) (run : List Leaf) (rest all : List (List Leaf)) (done total : List Mark)
    → all ≡ run ∷ rest → next ≡ inside_of run → done ++ marks_after boxes inside all ≡ total
    → ((done ++ between boxes inside next) ++ shows run ∷ []) ++ marks_after boxes next rest ≡ total
one_run boxes inside next run rest all done total is at whole =
    append_assoc (done ++ between boxes inside next) (shows run ∷ []) (marks_after boxes next rest)
    ∙ append_assoc done (between boxes inside next) (shows run ∷ marks_after boxes next rest)
    ∙ ap (λ (o : Option ℕ). done ++ (between boxes inside o ++ shows run ∷ marks_after boxes o rest)) at
    ∙ ap (λ (rs : List (List Leaf)). done ++ marks_after boxes inside rs) (sym is)
    ∙ whole

-- ---- marks are of boxes that there are

abbrev below : ℕ → List ℕ → Type 0
below n [] = Unit {0}
below n (p ∷ ps) = (p < n) × below n ps

below_append : (n : ℕ) (xs ys : List ℕ) → below n xs → below n ys → below n (xs ++ ys)
below_append n [] ys h k = k
below_append n (x ∷ xs) ys h k = (h.0, below_append n xs ys h.1 k)

below_reverse : (n : ℕ) (xs : List ℕ) → below n xs → below n (reverse xs)
below_reverse n [] h = tt
below_reverse n (x ∷ xs) h =
    let P : List ℕ → Type 0 = λ l. below n l in
    subst P (sym (reverse-append (x ∷ []) xs)) (below_append n (reverse xs) (x ∷ []) (below_reverse n xs h.1) (h.0, tt))

below_kept : (n x : ℕ) (xs : List ℕ) (keep : Bool) → x < n → below n xs → below n (cond keep (x ∷ xs) xs)
below_kept n x xs true lt h = (lt, h)
below_kept n x xs false lt h = h

below_filter : (n : ℕ) (f : ℕ → Bool) (xs : List ℕ) → below n xs → below n (filter f xs)
below_filter n f [] h = tt
below_filter n f (x ∷ xs) h = below_kept n x (filter f xs) (f x) h.0 (below_filter n f xs h.1)

below_here : (n m : ℕ) (here : Bool) → m < n → below n (cond here (m ∷ []) [])
below_here n m true lt = (lt, tt)
below_here n m false lt = tt

chain_is_below : (boxes : List LineBox) (n m : ℕ) (inside : Option ℕ) → m ≤ n → below n (chain_below boxes m inside)
chain_is_below boxes n zero inside le = tt
chain_is_below boxes n (suc m) inside le =
    below_append n (cond (is_place inside (Some m)) (m ∷ []) []) _ (below_here n m (is_place inside (Some m)) (omega arith)) (chain_is_below boxes n m _ (omega arith))

left_is_below : (boxes : List LineBox) (one other : Option ℕ) → below (length boxes) (left_behind boxes one other)
left_is_below boxes one other = below_filter (length boxes) (λ p. not (has (chain boxes other) p)) (chain boxes one) (chain_is_below boxes (length boxes) (length boxes) one (omega arith))

of_append : (n : ℕ) (xs ys : List Mark) → AreOfBoxes n xs → AreOfBoxes n ys → AreOfBoxes n (xs ++ ys)
of_append n [] ys h k = k
of_append n (x ∷ xs) ys h k = (h.0, of_append n xs ys h.1 k)

of_ends : (n : ℕ) (ps : List ℕ) → below n ps → AreOfBoxes n (map (λ p. ends p false) ps)
of_ends n [] h = tt
of_ends n (p ∷ ps) h = (h.0, of_ends n ps h.1)

of_begins : (n : ℕ) (ps : List ℕ) → below n ps → AreOfBoxes n (map (λ p. begins p false) ps)
of_begins n [] h = tt
of_begins n (p ∷ ps) h = (h.0, of_begins n ps h.1)

of_between : (boxes : List LineBox) (one other : Option ℕ) → AreOfBoxes (length boxes) (between boxes one other)
of_between boxes one other =
    of_append (length boxes) (map (λ p. ends p false) (left_behind boxes one other)) (map (λ p. begins p false) (reverse (left_behind boxes other one)))
    (of_ends (length boxes) (left_behind boxes one other) (left_is_below boxes one other))
    (of_begins (length boxes) (reverse (left_behind boxes other one)) (below_reverse (length boxes) (left_behind boxes other one) (left_is_below boxes other one)))

pub of_boxes : (boxes : List LineBox) (inside : Option ℕ) (runs : List (List Leaf)) → AreOfBoxes (length boxes) (marks_after boxes inside runs)
of_boxes boxes inside [] = of_between boxes inside None
of_boxes boxes inside (run ∷ runs) =
    of_append (length boxes) (between boxes inside (inside_of run)) (shows run ∷ marks_after boxes (inside_of run) runs) (of_between boxes inside (inside_of run))
    (tt, of_boxes boxes (inside_of run) runs)

pub of_at : (n k : ℕ) (marks : List Mark) (d : Mark) → AreOfBoxes n marks → k < length marks → IsOfBox n (get_or marks k d)
of_at n k [] d h lt = absurd (omega arith)
of_at n zero (mark ∷ marks) d h lt = h.0
of_at n (suc k) (mark ∷ marks) d h lt = of_at n k marks d h.1 (omega arith)

-- ---- one mark more

pub left_step : (marks : List Mark) (k : ℕ) (d : Mark) → k < length marks
    → leftmost (take k marks) (drop k marks) ≡ at_left (take k marks) (get_or marks k d) ∷ leftmost (take (k + 1) marks) (drop (k + 1) marks)
left_step marks k d lt =
    ap (leftmost (take k marks)) (drop_more marks k d lt)
    ∙ ap (λ (before : List Mark). at_left (take k marks) (get_or marks k d) ∷ leftmost before (drop (k + 1) marks)) (sym (take_more marks k d lt))

-- ---- the same for the code's marks

pub mark_there : {S : Type 0} (marks : List (code.Mark S)) (k : ℕ) (x : code.Mark S) → k < length marks → x ≡ get_or marks k x → get_or (map mark_of marks) k (mark_of x) ≡ mark_of x
mark_there marks k x lt is = get_or-map mark_of marks k x (mark_of x) lt ∙ ap mark_of (sym is)

pub of_box : {S : Type 0} (n k : ℕ) (marks : List (code.Mark S)) (x : code.Mark S) → AreOfBoxes n (map mark_of marks) → k < length marks → x ≡ get_or marks k x → IsOfBox n (mark_of x)
of_box n k marks x h lt is =
    let l = length-map marks mark_of in
    let P : Mark → Type 0 = λ m. IsOfBox n m in
    subst P (mark_there marks k x lt is) (of_at n k (map mark_of marks) (mark_of x) h (omega arith))

pub left_front : (marks : List Mark) (k : ℕ) (m : Mark) → k < length marks → get_or marks k m ≡ m → take (k + 1) marks ≡ take k marks ++ m ∷ []
left_front marks k m lt is = take_more marks k m lt ∙ ap (λ (x : Mark). take k marks ++ x ∷ []) is

pub left_more : (marks : List Mark) (k : ℕ) (m own : Mark) (done total : List Mark) → k < length marks → get_or marks k m ≡ m
    → own ≡ at_left (take k marks) m
    → done ++ leftmost (take k marks) (drop k marks) ≡ total
    → (done ++ own ∷ []) ++ leftmost (take (k + 1) marks) (drop (k + 1) marks) ≡ total
left_more marks k m own done total lt is at all =
    append_assoc done (own ∷ []) (leftmost (take (k + 1) marks) (drop (k + 1) marks))
    ∙ ap (λ (x : Mark). done ++ x ∷ leftmost (take (k + 1) marks) (drop (k + 1) marks)) (at ∙ ap (at_left (take k marks)) (sym is))
    ∙ ap (λ (ms : List Mark). done ++ ms) (sym (left_step marks k m lt))
    ∙ all

-- the mark at a place from line-right
pub from_right_there : {S : Type 0} (marks : List (code.Mark S)) (left : ℕ) (x : code.Mark S) → 0 < left → left ≤ length marks → x ≡ get_or marks (left - 1) x
    → get_or (reverse (map mark_of marks)) (length marks - left) (mark_of x) ≡ mark_of x
from_right_there marks left x some le is =
    let l = length-map marks mark_of in
    let e : length (map mark_of marks) - 1 - (length marks - left) ≡ left - 1 = omega arith in
    get_or-reverse (map mark_of marks) (length marks - left) (mark_of x) (omega arith)
    ∙ ap (λ (k : ℕ). get_or (map mark_of marks) k (mark_of x)) e
    ∙ mark_there marks (left - 1) x (omega arith) is

pub length_from_right : {S : Type 0} (marks : List (code.Mark S)) → length (reverse (map mark_of marks)) ≡ length marks
length_from_right marks = length-reverse (map mark_of marks) ∙ length-map marks mark_of

pub right_back : {S : Type 0} (marks : List (code.Mark S)) (from : ℕ) (x : code.Mark S) → 0 < from → from ≤ length marks → x ≡ get_or marks (from - 1) x
    → drop (from - 1) (map mark_of marks) ≡ mark_of x ∷ drop from (map mark_of marks)
right_back marks from x some le is =
    let l = length-map marks mark_of in
    let e : from - 1 + 1 ≡ from = omega arith in
    drop_more (map mark_of marks) (from - 1) (mark_of x) (omega arith)
    ∙ ap (λ (m : Mark). m ∷ drop (from - 1 + 1) (map mark_of marks)) (mark_there marks (from - 1) x (omega arith) is)
    ∙ ap (λ (k : ℕ). mark_of x ∷ drop k (map mark_of marks)) e

pub right_more : {S : Type 0} (marks made : List (code.Mark S)) (from : ℕ) (x own : code.Mark S) → 0 < from → from ≤ length marks → x ≡ get_or marks (from - 1) x
    → mark_of own ≡ at_right (drop from (map mark_of marks)) (mark_of x)
    → reverse (map mark_of made) ≡ rightmost (drop from (map mark_of marks))
    → reverse (map mark_of (made ++ own ∷ [])) ≡ rightmost (drop (from - 1) (map mark_of marks))
right_more marks made from x own some le is at done =
    ap reverse (map_push mark_of made own)
    ∙ reverse-append (map mark_of made) (mark_of own ∷ [])
    ∙ ap (λ (m : Mark). m ∷ reverse (map mark_of made)) at
    ∙ ap (λ (ms : List Mark). at_right (drop from (map mark_of marks)) (mark_of x) ∷ ms) done
    ∙ ap rightmost (sym (right_back marks from x some le is))

pub of_right_one : (n : ℕ) (after : List Mark) (mark : Mark) → IsOfBox n mark → IsOfBox n (at_right after mark)
of_right_one n after (begins p edge) h = h
of_right_one n after (ends p edge) h = h
of_right_one n after (shows run) h = h

pub of_right : (n : ℕ) (marks : List Mark) → AreOfBoxes n marks → AreOfBoxes n (rightmost marks)
of_right n [] h = tt
of_right n (mark ∷ marks) h = (of_right_one n marks mark h.0, of_right n marks h.1)

-- ---- a line without boxes is a row of what it shows

pub after_are : (inside : Option ℕ) (rs : List (List Leaf)) → marks_after [] inside rs ≡ map shows rs
after_are inside [] = refl
after_are inside (run ∷ rs) = ap (λ (ms : List Mark). shows run ∷ ms) (after_are (inside_of run) rs)

pub right_are : (rs : List (List Leaf)) → rightmost (map shows rs) ≡ map shows rs
right_are [] = refl
right_are (run ∷ rs) = ap (λ (ms : List Mark). shows run ∷ ms) (right_are rs)

pub left_are : (before : List Mark) (rs : List (List Leaf)) → leftmost before (map shows rs) ≡ map shows rs
left_are before [] = refl
left_are before (run ∷ rs) = ap (λ (ms : List Mark). shows run ∷ ms) (left_are (before ++ shows run ∷ []) rs)

pub bare_alone : (boxes : List LineBox) (ls : List Leaf) → (length boxes == 0) ≡ true → marks_after boxes None (runs ls) ≡ marks_of boxes ls
bare_alone [] ls is_none =
    sym (ap (λ (ms : List Mark). leftmost [] (rightmost ms)) (after_are None (runs ls)) ∙ ap (leftmost []) (right_are (runs ls)) ∙ left_are [] (runs ls) ∙ sym (after_are None (runs ls)))
bare_alone (box ∷ boxes) ls is_none = let some : (length (box ∷ boxes) == 0) ≡ false = grind arith in absurd (cc)
