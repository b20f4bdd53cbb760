-- An atom stands in a run of its own.
use Rattle.std.proofs.Common.{◌≡◌, ◌∙◌, ap, sym, refl, subst, Bool, true, false, ◌&&◌, cond, ℕ, zero, suc, ◌<◌, List, [], ◌∷◌, ◌++◌, append-nil, length, map, get_or, drop, None, ℤ}
use Rattle.std.specs.List.{flat_map}
use Rattle.line_place.specs.declared.line.LineBox.{LineBox}
use Rattle.line_place.specs.declared.marks.Mark as code_mark
use Rattle.line_place.specs.Line.{Content, unit, combined, atom, nothing}
use Rattle.line_place.specs.Leaves.{Leaf, what_of}
use Rattle.line_place.specs.Runs.{HasAtomFirst, HaveNoAtom, IsNoAtom, are_alike, goes_on, joined, runs}
use Rattle.line_place.specs.Marks.{Mark, ShowAtomsFirst, ShowsAtomFirst, begins, ends, shows, mark_of, marks_after, marks_of, rightmost}
use Rattle.line_place.specs.Placing.{atom_over, atom_under}
use Rattle.line_place.proofs.ShownLaws.{Each, IsShown, after_each, left_each, right_each}
use Rattle.line_place.proofs.WalkLaws.{next_mark}

-- ---- runs

alike_no : (one other : Content) → are_alike one other ≡ true → IsNoAtom other
alike_no one (unit node first end_ form glyphs) h = tt
alike_no one (combined node first end_ natural glyphs) h = tt
alike_no one nothing h = tt
alike_no (unit node first end_ form glyphs) (atom fragment left_margin over_margin over under) h = cc
alike_no (combined node first end_ natural glyphs) (atom fragment left_margin over_margin over under) h = cc
alike_no (atom inner left over_left top bottom) (atom fragment left_margin over_margin over under) h = cc
alike_no nothing (atom fragment left_margin over_margin over under) h = cc

first_true : (a b c d : Bool) → (a && b && c && d) ≡ true → a ≡ true
first_true true b c d h = refl
first_true false b c d h = cc

joined_by : (go : Bool) (l next : Leaf) (run : List Leaf) (rs : List (List Leaf)) → goes_on l next ≡ go → Each HasAtomFirst ((next ∷ run) ∷ rs)
    → Each HasAtomFirst (cond go ((l ∷ next ∷ run) ∷ rs) ((l ∷ []) ∷ (next ∷ run) ∷ rs))
joined_by true l next run rs is h = ((alike_no l.what next.what (first_true (are_alike l.what next.what) _ _ _ is), h.0), h.1)
joined_by false l next run rs is h = (tt, h)

joined_first : (l : Leaf) (rs : List (List Leaf)) → Each HasAtomFirst rs → Each HasAtomFirst (joined l rs)
joined_first l [] h = (tt, tt)
joined_first l ([] ∷ rs) h = (tt, h.1)
joined_first l ((next ∷ run) ∷ rs) h = joined_by (goes_on l next) l next run rs refl h

runs_first : (ls : List Leaf) → Each HasAtomFirst (runs ls)
runs_first [] = tt
runs_first (l ∷ ls) = joined_first l (runs ls) (runs_first ls)

-- ---- marks

one_first : (mark : Mark) → IsShown HasAtomFirst mark → ShowsAtomFirst mark
one_first (begins p edge) h = tt
one_first (ends p edge) h = tt
one_first (shows run) h = h

all_first : (marks : List Mark) → Each (IsShown HasAtomFirst) marks → ShowAtomsFirst marks
all_first [] h = tt
all_first (mark ∷ marks) h = (one_first mark h.0, all_first marks h.1)

pub marks_first : (boxes : List LineBox) (ls : List Leaf) → ShowAtomsFirst (marks_of boxes ls)
marks_first boxes ls =
    all_first (marks_of boxes ls)
    (left_each HasAtomFirst [] (rightmost (marks_after boxes None (runs ls)))
    (right_each HasAtomFirst (marks_after boxes None (runs ls)) (after_each HasAtomFirst boxes None (runs ls) (runs_first ls))))

first_rest : (k : ℕ) (marks : List Mark) → ShowAtomsFirst marks → ShowAtomsFirst (drop k marks)
first_rest zero marks h = h
first_rest (suc k) [] h = h
first_rest (suc k) (mark ∷ marks) h = first_rest k marks h.1

pub shows_first : {S : Type 0} (k : ℕ) (marks : List (code_mark.Mark S)) (x : code_mark.Mark S) → ShowAtomsFirst (map mark_of marks) → k < length marks → x ≡ get_or marks k x → ShowsAtomFirst (mark_of x)
shows_first k marks x h lt is = (subst ShowAtomsFirst (next_mark marks k x lt is) (first_rest k (map mark_of marks) h)).0

-- ---- how far they reach

over_no : (what : Content) → IsNoAtom what → atom_over what ≡ []
over_no (unit node first end_ form glyphs) h = refl
over_no (combined node first end_ natural glyphs) h = refl
over_no (atom fragment left_margin over_margin over under) h = absurd h
over_no nothing h = refl

under_no : (what : Content) → IsNoAtom what → atom_under what ≡ []
under_no (unit node first end_ form glyphs) h = refl
under_no (combined node first end_ natural glyphs) h = refl
under_no (atom fragment left_margin over_margin over under) h = absurd h
under_no nothing h = refl

module _ (reach : Content → List ℤ) (no : (what : Content) → IsNoAtom what → reach what ≡ []) where
  none : (run : List Leaf) → HaveNoAtom run → flat_map (λ leaf. reach leaf.what) run ≡ []
  none [] h = refl
  none (leaf ∷ run) h = ap (λ (zs : List ℤ). zs ++ flat_map (λ leaf. reach leaf.what) run) (no leaf.what h.0) ∙ none run h.1

  by_first : (run : List Leaf) → HasAtomFirst run → reach nothing ≡ [] → flat_map (λ leaf. reach leaf.what) run ≡ reach (what_of run)
  by_first [] h is = sym is
  by_first (leaf ∷ run) h is = ap (λ (zs : List ℤ). reach leaf.what ++ zs) (none run h) ∙ append-nil (reach leaf.what)

pub over_first : (run : List Leaf) → HasAtomFirst run → flat_map (λ leaf. atom_over leaf.what) run ≡ atom_over (what_of run)
over_first run h = by_first atom_over over_no run h refl

pub under_first : (run : List Leaf) → HasAtomFirst run → flat_map (λ leaf. atom_under leaf.what) run ≡ atom_under (what_of run)
under_first run h = by_first atom_under under_no run h refl
