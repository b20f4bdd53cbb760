-- Each edge of an inline box stands once on a line, and each item.
use Rattle.std.proofs.Common.{◌≡◌, ◌∙◌, ap, sym, refl, arith, Bool, true, false, not, ◌||◌, cond, ℕ, zero, suc, ◌+◌, ◌<◌, ◌≤◌, List, [], ◌∷◌, ◌++◌, length, map, reverse, Option, None, inl, inr}
use Rattle.std.specs.List.{list_any, range_with_len}
use Rattle.line_place.specs.declared.line.LineBox.{LineBox}
use Rattle.line_place.specs.Line.{no_box}
use Rattle.line_place.specs.Leaves.{Leaf, leaf}
use Rattle.line_place.specs.Runs.{goes_on, joined, runs}
use Rattle.line_place.specs.Marks.{Mark, begins, ends, shows, between, box_at, inside_of, is_begin_of, is_end_of, left_behind, leftmost, marks_after, marks_of, rightmost}
use Rattle.line_place.specs.Reach.{AreOfBoxes, box_reach, leaf_reach, left_reach, mark_reach, right_reach, total}
use Rattle.line_place.proofs.Chains.{same_place, other_place, or_true}
use Rattle.line_place.proofs.MarkLaws.{of_boxes, of_right}
use Rattle.line_place.proofs.PairLaws.{lies}
use Rattle.line_place.proofs.ReachLaws.{by_index, same_total, total_append}

-- ---- what isn't spent yet

abbrev unspent : (spent : ℕ → Bool) → (reach : ℕ → ℕ) → ℕ → ℕ
unspent spent reach p = cond (spent p) 0 (reach p)

abbrev left_over : (spent : ℕ → Bool) → (reach : ℕ → ℕ) → (a n : ℕ) → ℕ
left_over spent reach a n = total (unspent spent reach) (range_with_len a n)

same_over : (spent more : ℕ → Bool) (reach : ℕ → ℕ) (a n : ℕ) → ((q : ℕ) → a ≤ q → more q ≡ spent q) → left_over more reach a n ≡ left_over spent reach a n
same_over spent more reach a zero same = refl
same_over spent more reach a (suc n) same =
    let e : unspent more reach a ≡ unspent spent reach a = ap (λ (b : Bool). cond b 0 (reach a)) (same a (omega arith)) in
    let h = same_over spent more reach (a + 1) n (λ q le. same q (omega (arith, le))) in
    omega (arith, e, h)

spend : (spent more : ℕ → Bool) (reach : ℕ → ℕ) (p a n : ℕ) → a ≤ p → p < a + n → spent p ≡ false → more p ≡ true → ((q : ℕ) → (q ≡ p → ⊥) → more q ≡ spent q)
    → reach p + left_over more reach a n ≡ left_over spent reach a n
spend spent more reach p a zero le lt was now same = absurd (omega (arith, le, lt))
spend spent more reach p a (suc n) le lt was now same =
    elim (lies a p) [
      | inl e ↦
          let u : unspent more reach a ≡ 0 = ap (λ (b : Bool). cond b 0 (reach a)) (ap more e ∙ now) in
          let v : unspent spent reach a ≡ reach p = ap (λ (b : Bool). cond b 0 (reach a)) (ap spent e ∙ was) ∙ ap reach e in
          let h = same_over spent more reach (a + 1) n (λ q l. same q (λ f. omega (arith, l, e, f))) in
          omega (arith, u, v, h)
      | inr o ↦ elim o [
        | inl less ↦
            let u : unspent more reach a ≡ unspent spent reach a = ap (λ (b : Bool). cond b 0 (reach a)) (same a (λ f. omega (arith, less, f))) in
            let h = spend spent more reach p (a + 1) n (omega (arith, less)) (omega (arith, lt)) was now same in
            omega (arith, u, h)
        | inr behind ↦ absurd (omega (arith, le, behind))
      ]
    ]

-- ---- left edges

or_none : (a : Bool) → (a || false) ≡ a
or_none true = refl
or_none false = refl

or_more : (a b c : Bool) → (a || (b || c)) ≡ ((a || b) || c)
or_more true b c = refl
or_more false b c = refl

any_push : (f : Mark → Bool) (xs : List Mark) (x : Mark) → list_any f (xs ++ x ∷ []) ≡ (list_any f xs || f x)
any_push f [] x = or_none (f x)
any_push f (y ∷ xs) x = ap (λ (b : Bool). f y || b) (any_push f xs x) ∙ or_more (f y) (list_any f xs) (f x)

abbrev begun : List Mark → ℕ → Bool
begun before p = list_any (is_begin_of p) before

abbrev ended : List Mark → ℕ → Bool
ended after p = list_any (is_end_of p) after

begun_same : (before : List Mark) (m : Mark) (q : ℕ) → is_begin_of q m ≡ false → begun (before ++ m ∷ []) q ≡ begun before q
begun_same before m q is = any_push (is_begin_of q) before m ∙ ap (λ (b : Bool). list_any (is_begin_of q) before || b) is ∙ or_none (list_any (is_begin_of q) before)

begun_now : (before : List Mark) (p : ℕ) (edge : Bool) → begun (before ++ begins p edge ∷ []) p ≡ true
begun_now before p edge =
    any_push (is_begin_of p) before (begins p edge) ∙ ap (λ (b : Bool). list_any (is_begin_of p) before || b) (same_place p) ∙ or_true (list_any (is_begin_of p) before)

abbrev left_of : (ℕ → ℕ) → Mark → ℕ
left_of reach (begins p true) = reach p
left_of reach (begins p false) = 0
left_of reach (ends p edge) = 0
left_of reach (shows run) = 0

abbrev right_of : (ℕ → ℕ) → Mark → ℕ
right_of reach (begins p edge) = 0
right_of reach (ends p true) = reach p
right_of reach (ends p false) = 0
right_of reach (shows run) = 0

abbrev run_of : Mark → ℕ
run_of (begins p edge) = 0
run_of (ends p edge) = 0
run_of (shows run) = total leaf_reach run

one_begins : (n : ℕ) (reach : ℕ → ℕ) (before rest : List Mark) (p : ℕ) (edge was : Bool) → p < n → begun before p ≡ was
    → total (left_of reach) rest ≤ left_over (begun (before ++ begins p edge ∷ [])) reach 0 n
    → left_of reach (begins p (not was)) + total (left_of reach) rest ≤ left_over (begun before) reach 0 n
one_begins n reach before rest p edge true lt is h =
    let e = same_over (begun before) (begun (before ++ begins p edge ∷ [])) reach 0 n (λ q le. elim (lies q p) [
      | inl same ↦ ap (begun (before ++ begins p edge ∷ [])) same ∙ begun_now before p edge ∙ sym is ∙ sym (ap (begun before) same)
      | inr o ↦ begun_same before (begins p edge) q (other_place p q (λ f. elim o [ inl l ↦ omega (arith, l, f) | inr l ↦ omega (arith, l, f) ]))
    ]) in
    omega (arith, e, h)
one_begins n reach before rest p edge false lt is h =
    let e = spend (begun before) (begun (before ++ begins p edge ∷ [])) reach p 0 n (omega arith) (omega (arith, lt)) is (begun_now before p edge)
    (λ q ne. begun_same before (begins p edge) q (other_place p q (λ f. ne (sym f)))) in
    omega (arith, e, h)

left_edges : (n : ℕ) (reach : ℕ → ℕ) (before marks : List Mark) → AreOfBoxes n marks → total (left_of reach) (leftmost before marks) ≤ left_over (begun before) reach 0 n
left_edges n reach before [] h = omega arith
left_edges n reach before (begins p edge ∷ marks) h =
    one_begins n reach before (leftmost (before ++ begins p edge ∷ []) marks) p edge (begun before p) h.0 refl (left_edges n reach (before ++ begins p edge ∷ []) marks h.1)
left_edges n reach before (ends p edge ∷ marks) h =
    let e = same_over (begun before) (begun (before ++ ends p edge ∷ [])) reach 0 n (λ q le. begun_same before (ends p edge) q refl) in
    let k = left_edges n reach (before ++ ends p edge ∷ []) marks h.1 in
    omega (arith, e, k)
left_edges n reach before (shows run ∷ marks) h =
    let e = same_over (begun before) (begun (before ++ shows run ∷ [])) reach 0 n (λ q le. begun_same before (shows run) q refl) in
    let k = left_edges n reach (before ++ shows run ∷ []) marks h.1 in
    omega (arith, e, k)

-- ---- right edges

ended_same : (after : List Mark) (p q : ℕ) (edge : Bool) → (p ≡ q → ⊥) → ended (ends p edge ∷ after) q ≡ ended after q
ended_same after p q edge ne = ap (λ (b : Bool). b || ended after q) (other_place p q ne)

ended_now : (after : List Mark) (p : ℕ) (edge : Bool) → ended (ends p edge ∷ after) p ≡ true
ended_now after p edge = ap (λ (b : Bool). b || ended after p) (same_place p)

one_ends : (n : ℕ) (reach : ℕ → ℕ) (after rest : List Mark) (p : ℕ) (edge was : Bool) → p < n → ended after p ≡ was
    → total (right_of reach) rest + left_over (ended after) reach 0 n ≤ total reach (range_with_len 0 n)
    → right_of reach (ends p (not was)) + total (right_of reach) rest + left_over (ended (ends p edge ∷ after)) reach 0 n ≤ total reach (range_with_len 0 n)
one_ends n reach after rest p edge true lt is h =
    let e = same_over (ended after) (ended (ends p edge ∷ after)) reach 0 n (λ q le. elim (lies q p) [
      | inl same ↦ ap (ended (ends p edge ∷ after)) same ∙ ended_now after p edge ∙ sym is ∙ sym (ap (ended after) same)
      | inr o ↦ ended_same after p q edge (λ f. elim o [ inl l ↦ omega (arith, l, f) | inr l ↦ omega (arith, l, f) ])
    ]) in
    omega (arith, e, h)
one_ends n reach after rest p edge false lt is h =
    let e = spend (ended after) (ended (ends p edge ∷ after)) reach p 0 n (omega arith) (omega (arith, lt)) is (ended_now after p edge)
    (λ q ne. ended_same after p q edge (λ f. ne (sym f))) in
    omega (arith, e, h)

right_edges : (n : ℕ) (reach : ℕ → ℕ) (marks : List Mark) → AreOfBoxes n marks
    → total (right_of reach) (rightmost marks) + left_over (ended marks) reach 0 n ≤ total reach (range_with_len 0 n)
right_edges n reach [] h = let e = same_total (unspent (ended []) reach) reach (range_with_len 0 n) (λ p. refl) in omega (arith, e)
right_edges n reach (begins p edge ∷ marks) h =
    let e = same_over (ended marks) (ended (begins p edge ∷ marks)) reach 0 n (λ q le. refl) in
    let k = right_edges n reach marks h.1 in
    omega (arith, e, k)
right_edges n reach (ends p edge ∷ marks) h = one_ends n reach marks (rightmost marks) p edge (ended marks p) h.0 refl (right_edges n reach marks h.1)
right_edges n reach (shows run ∷ marks) h =
    let e = same_over (ended marks) (ended (shows run ∷ marks)) reach 0 n (λ q le. refl) in
    let k = right_edges n reach marks h.1 in
    omega (arith, e, k)

-- ---- the parts of a row

one_part : (boxes : List LineBox) (m : Mark) → mark_reach boxes m ≡ left_of (λ p. left_reach (box_at boxes p)) m + right_of (λ p. right_reach (box_at boxes p)) m + run_of m
one_part boxes (begins p true) = omega arith
one_part boxes (begins p false) = omega arith
one_part boxes (ends p true) = omega arith
one_part boxes (ends p false) = omega arith
one_part boxes (shows run) = omega arith

parts_total : (boxes : List LineBox) (marks : List Mark) → total (mark_reach boxes) marks
    ≡ total (left_of (λ p. left_reach (box_at boxes p))) marks + total (right_of (λ p. right_reach (box_at boxes p))) marks + total run_of marks
parts_total boxes [] = omega arith
parts_total boxes (m ∷ marks) = let o = one_part boxes m in let h = parts_total boxes marks in omega (arith, o, h)

left_keeps : (reach : ℕ → ℕ) (before marks : List Mark) → (total (right_of reach) (leftmost before marks) ≡ total (right_of reach) marks) × (total run_of (leftmost before marks) ≡ total run_of marks)
left_keeps reach before [] = (refl, refl)
left_keeps reach before (begins p edge ∷ marks) =
    let h = left_keeps reach (before ++ begins p edge ∷ []) marks in (ap (λ (n : ℕ). 0 + n) h.0, ap (λ (n : ℕ). 0 + n) h.1)
left_keeps reach before (ends p edge ∷ marks) =
    let h = left_keeps reach (before ++ ends p edge ∷ []) marks in (ap (λ (n : ℕ). right_of reach (ends p edge) + n) h.0, ap (λ (n : ℕ). 0 + n) h.1)
left_keeps reach before (shows run ∷ marks) =
    let h = left_keeps reach (before ++ shows run ∷ []) marks in (ap (λ (n : ℕ). 0 + n) h.0, ap (λ (n : ℕ). run_of (shows run) + n) h.1)

right_keeps : (marks : List Mark) → total run_of (rightmost marks) ≡ total run_of marks
right_keeps [] = refl
right_keeps (begins p edge ∷ marks) = ap (λ (n : ℕ). 0 + n) (right_keeps marks)
right_keeps (ends p edge ∷ marks) = ap (λ (n : ℕ). 0 + n) (right_keeps marks)
right_keeps (shows run ∷ marks) = ap (λ (n : ℕ). run_of (shows run) + n) (right_keeps marks)

ends_none : (ps : List ℕ) → total run_of (map (λ p. ends p false) ps) ≡ 0
ends_none [] = refl
ends_none (p ∷ ps) = let h = ends_none ps in omega (arith, h)

begins_none : (ps : List ℕ) → total run_of (map (λ p. begins p false) ps) ≡ 0
begins_none [] = refl
begins_none (p ∷ ps) = let h = begins_none ps in omega (arith, h)

between_none : (boxes : List LineBox) (one other : Option ℕ) → total run_of (between boxes one other) ≡ 0
between_none boxes one other =
    let a = total_append run_of (map (λ p. ends p false) (left_behind boxes one other)) (map (λ p. begins p false) (reverse (left_behind boxes other one))) in
    let e = ends_none (left_behind boxes one other) in
    let b = begins_none (reverse (left_behind boxes other one)) in
    omega (arith, a, e, b)

after_total : (boxes : List LineBox) (inside : Option ℕ) (rs : List (List Leaf)) → total run_of (marks_after boxes inside rs) ≡ total (total leaf_reach) rs
after_total boxes inside [] = between_none boxes inside None
after_total boxes inside (run ∷ rs) =
    let a = total_append run_of (between boxes inside (inside_of run)) (shows run ∷ marks_after boxes (inside_of run) rs) in
    let b = between_none boxes inside (inside_of run) in
    let h = after_total boxes (inside_of run) rs in
    omega (arith, a, b, h)

joined_by : (go : Bool) (leaf next : Leaf) (run : List Leaf) (rs : List (List Leaf))
    → total (total leaf_reach) (cond go ((leaf ∷ next ∷ run) ∷ rs) ((leaf ∷ []) ∷ (next ∷ run) ∷ rs)) ≡ leaf_reach leaf + total (total leaf_reach) ((next ∷ run) ∷ rs)
joined_by true leaf next run rs = omega arith
joined_by false leaf next run rs = omega arith

joined_total : (leaf : Leaf) (rs : List (List Leaf)) → total (total leaf_reach) (joined leaf rs) ≡ leaf_reach leaf + total (total leaf_reach) rs
joined_total leaf [] = omega arith
joined_total leaf ([] ∷ rs) = omega arith
joined_total leaf ((next ∷ run) ∷ rs) = joined_by (goes_on leaf next) leaf next run rs

runs_total : (ls : List Leaf) → total (total leaf_reach) (runs ls) ≡ total leaf_reach ls
runs_total [] = refl
runs_total (l ∷ ls) = let j = joined_total l (runs ls) in let h = runs_total ls in omega (arith, j, h)

edges_total : (boxes : List LineBox) → total left_reach boxes + total right_reach boxes ≤ total box_reach boxes
edges_total [] = omega arith
edges_total (b ∷ boxes) = let h = edges_total boxes in omega (arith, h)

-- the lengths of a row of marks are within those of its boxes and its leaves
pub marks_reach : (boxes : List LineBox) (ls : List Leaf) → total (mark_reach boxes) (marks_of boxes ls) ≤ total box_reach boxes + total leaf_reach ls
marks_reach boxes ls =
    let bare : List Mark = marks_after boxes None (runs ls) in
    let of : AreOfBoxes (length boxes) bare = of_boxes boxes None (runs ls) in
    let p = parts_total boxes (leftmost [] (rightmost bare)) in
    let l = left_edges (length boxes) (λ p. left_reach (box_at boxes p)) [] (rightmost bare) (of_right (length boxes) bare of) in
    let s = same_total (unspent (begun []) (λ p. left_reach (box_at boxes p))) (λ p. left_reach (box_at boxes p)) (range_with_len 0 (length boxes)) (λ p. refl) in
    let i = by_index left_reach boxes no_box in
    let k = left_keeps (λ p. right_reach (box_at boxes p)) [] (rightmost bare) in
    let k0 = k.0 in
    let k1 = k.1 in
    let r = right_edges (length boxes) (λ p. right_reach (box_at boxes p)) bare of in
    let j = by_index right_reach boxes no_box in
    let q = right_keeps bare in
    let t = after_total boxes None (runs ls) in
    let u = runs_total ls in
    let e = edges_total boxes in
    omega (arith, p, l, s, i, k0, k1, r, j, q, t, u, e)
