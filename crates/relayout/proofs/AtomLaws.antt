-- Last lines, fragment by fragment.
use Rattle.std.proofs.Common.{◌≡◌, ◌∙◌, refl, sym, ap, subst, arith, ℕ, zero, suc, ◌+◌, ◌-◌, ◌*◌, ◌<◌, ◌≤◌, ◌^◌, List, [], ◌∷◌, ◌++◌, length, get_or, take, Option, Some, None, Bool, true, ℤ, pos, negsuc, ◌+ℤ◌, unsigned_abs, w64}
use Rattle.std.specs.Prelude.{max}
use Rattle.std.specs.Int.{saturate_signed}
use Rattle.std.proofs.lemmas.Int.{clamps, ints}
use Rattle.std.proofs.lemmas.Option.{same_Some}
use Rattle.wm_modes.specs.declared.mode.Direction.{Direction}
use Rattle.wm_modes.specs.declared.mode.WritingMode.{WritingMode}
use Rattle.wm_modes.specs.declared.rects.FlowRect.{FlowRect}
use Rattle.margin_collapse.specs.declared.margins.Margins.{Margins}
use Rattle.fragment_types.specs.declared.fragment.Fragment.{Fragment}
use Rattle.fragment_types.specs.Fragment.{Kind, Pieces, before, block, line, measure, none, piece, pieces_of, run, span}
use Rattle.line_place.specs.Reach.{piece_reach}
use Rattle.line_place.specs.Spread.{spread, spread_in}
use Rattle.line_place.proofs.Fragments.{as_piece}
use Rattle.para_lines.specs.Lines.{Atom}
use Rattle.para_lines.specs.Reach.{atom_reach}
use Rattle.relayout.specs.declared.atoms.LastLine.{LastLine}
use Rattle.relayout.specs.Atoms.{further, held_distance, if_same, last_line, line_of, or_later, own_line, same_mode}
use Rattle.relayout.specs.Flowed.{Part, at, part_of}
use Rattle.relayout.specs.Near.{IsNearLine, line_reach, own_reach, reach_in}

line_before : (mode : WritingMode) (f : Fragment) (next : Pieces) → last_line mode (before f next) ≡ or_later (own_line mode (part_of f)) (last_line mode next)
line_before mode f next = ap (last_line mode) (as_piece f next)

later_both : (a b c : Option LastLine) → or_later a (or_later b c) ≡ or_later (or_later a b) c
later_both a b None = refl
later_both a b (Some found) = refl

pub last_push : (mode : WritingMode) (fs : List Fragment) (f : Fragment) → last_line mode (pieces_of (fs ++ f ∷ [])) ≡ or_later (last_line mode (pieces_of fs)) (own_line mode (part_of f))
last_push mode [] f = line_before mode f (pieces_of []) ∙ none_later (own_line mode (part_of f)) where
  none_later : (a : Option LastLine) → or_later a None ≡ or_later None a
  none_later None = refl
  none_later (Some found) = refl
last_push mode (x ∷ fs) f =
    line_before mode x (pieces_of (fs ++ f ∷ []))
    ∙ ap (or_later (own_line mode (part_of x))) (last_push mode fs f)
    ∙ later_both (own_line mode (part_of x)) (last_line mode (pieces_of fs)) (own_line mode (part_of f))
    ∙ ap (λ o. or_later o (own_line mode (part_of f))) (sym (line_before mode x (pieces_of fs)))

-- the first so many of a list, with the next one
pub take_next : {X : Type 0} (xs : List X) (k : ℕ) (d : X) → k < length xs → take (suc k) xs ≡ take k xs ++ get_or xs k d ∷ []
take_next [] k d lt = absurd (omega arith)
take_next (x ∷ xs) zero d lt = refl
take_next (x ∷ xs) (suc k) d lt = ap (λ ys. x ∷ ys) (take_next xs k d (omega arith))

-- ---- from the last fragment back

-- of the first so many fragments the last one has this line
pub line_there : (mode : WritingMode) (fs : List Fragment) (k : ℕ) (d : Fragment) (found : LastLine) → k < length fs → own_line mode (part_of (get_or fs k d)) ≡ Some found
    → last_line mode (pieces_of (take (suc k) fs)) ≡ Some found
line_there mode fs k d found lt is =
    ap (λ xs. last_line mode (pieces_of xs)) (take_next fs k d lt)
    ∙ last_push mode (take k fs) (get_or fs k d)
    ∙ ap (or_later (last_line mode (pieces_of (take k fs)))) is

-- it has none
pub line_not_there : (mode : WritingMode) (fs : List Fragment) (k : ℕ) (d : Fragment) → k < length fs → own_line mode (part_of (get_or fs k d)) ≡ None
    → last_line mode (pieces_of (take (suc k) fs)) ≡ last_line mode (pieces_of (take k fs))
line_not_there mode fs k d lt is =
    ap (λ xs. last_line mode (pieces_of xs)) (take_next fs k d lt)
    ∙ last_push mode (take k fs) (get_or fs k d)
    ∙ ap (or_later (last_line mode (pieces_of (take k fs)))) is

-- ---- how far

reach_before : (f : Fragment) (next : Pieces) → line_reach (before f next) ≡ max (own_reach f) (line_reach next)
reach_before f next = ap line_reach (as_piece f next)

pub reach_there : (fs : List Fragment) (k : ℕ) (d : Fragment) → k < length fs → own_reach (get_or fs k d) ≤ line_reach (pieces_of fs)
reach_there [] k d lt = absurd (omega arith)
reach_there (x ∷ fs) zero d lt = let e = reach_before x (pieces_of fs) in omega arith
reach_there (x ∷ fs) (suc k) d lt = let e = reach_before x (pieces_of fs) in let others = reach_there fs k d (omega arith) in omega arith

pub near_back : (fs : List Fragment) (k : ℕ) (f : Fragment) → k < length fs → f ≡ get_or fs (length fs - 1 - k) f → own_reach f ≤ line_reach (pieces_of fs)
near_back fs k f lt is =
    let P : Fragment → Type 0 = λ x. own_reach x ≤ line_reach (pieces_of fs) in
    subst P (sym is) (reach_there fs (length fs - 1 - k) f (omega arith))

pub line_back : (mode : WritingMode) (fs : List Fragment) (k : ℕ) (f : Fragment) (found : LastLine) → k < length fs → f ≡ get_or fs (length fs - 1 - k) f
    → own_line mode (part_of f) ≡ Some found → last_line mode (pieces_of (take (length fs - k) fs)) ≡ Some found
line_back mode fs k f found lt is here =
    let n : length fs - k ≡ suc (length fs - 1 - k) = omega arith in
    ap (λ m. last_line mode (pieces_of (take m fs))) n
    ∙ line_there mode fs (length fs - 1 - k) f found (omega arith) (ap (λ x. own_line mode (part_of x)) (sym is) ∙ here)

pub none_back : (mode : WritingMode) (fs : List Fragment) (k : ℕ) (f : Fragment) → k < length fs → f ≡ get_or fs (length fs - 1 - k) f
    → own_line mode (part_of f) ≡ None → last_line mode (pieces_of (take (length fs - (k + 1)) fs)) ≡ last_line mode (pieces_of (take (length fs - k) fs))
none_back mode fs k f lt is here =
    let n : length fs - k ≡ suc (length fs - 1 - k) = omega arith in
    let m : length fs - (k + 1) ≡ length fs - 1 - k = omega arith in
    ap (λ m. last_line mode (pieces_of (take m fs))) m
    ∙ sym (ap (λ m. last_line mode (pieces_of (take m fs))) n
    ∙ line_not_there mode fs (length fs - 1 - k) f (omega arith) (ap (λ x. own_line mode (part_of x)) (sym is) ∙ here))

in_spread : (rect : FlowRect) (kind : Kind) (lines inner : ℕ) → lines ≤ inner → reach_in rect kind lines ≤ spread_in rect kind inner
in_spread rect (block mode dir content definite start end_ through) lines inner less = omega arith
in_spread rect (line index base mode baseline) lines inner less = omega arith
in_spread rect span lines inner less = omega arith
in_spread rect (run form level natural units) lines inner less = omega arith
in_spread rect (measure min max) lines inner less = omega arith

-- lines reach no further than fragments do
pub lines_in_spread : (pieces : Pieces) → line_reach pieces ≤ spread pieces
lines_in_spread none = omega arith
lines_in_spread (piece name rect kind inner next) =
    let first = in_spread rect kind (line_reach inner) (spread inner) (lines_in_spread inner) in
    let others = lines_in_spread next in
    omega arith

-- ---- a block child in exactly this mode

pub block_line : (mode m : WritingMode) (dir : Direction) (content : FlowRect) (definite : Option ℤ) (start finish : Margins) (through : Bool) (part : Part) (distance : ℤ) (found far : LastLine)
    → part.kind ≡ block m dir content definite start finish through → same_mode m mode ≡ true → Some found ≡ last_line mode part.inner → Some far ≡ further distance (Some found)
    → distance ≡ part.rect.b +ℤ content.b → Some far ≡ own_line mode part
block_line mode m dir content definite start finish through part distance found far kind same here is there =
    is
    ∙ ap (λ d. further d (Some found)) there
    ∙ ap (further (part.rect.b +ℤ content.b)) here
    ∙ sym (ap (λ b. if_same b (further (part.rect.b +ℤ content.b) (last_line mode part.inner))) same)
    ∙ sym (ap (λ (k : Kind). line_of mode part.rect k (last_line mode part.inner)) kind)

pub block_reach : (m : WritingMode) (dir : Direction) (content : FlowRect) (definite : Option ℤ) (start finish : Margins) (through : Bool) (part : Part)
    → part.kind ≡ block m dir content definite start finish through
    → reach_in part.rect part.kind (line_reach part.inner) ≡ unsigned_abs part.rect.b + unsigned_abs content.b + line_reach part.inner
block_reach m dir content definite start finish through part kind = ap (λ (k : Kind). reach_in part.rect k (line_reach part.inner)) kind

abbrev moved : (distance : ℤ) → LastLine → LastLine
moved distance found = record found { from = distance +ℤ found.from }

pub far_near : (distance : ℤ) (found far : LastLine) (reach : ℕ) → Some far ≡ further distance (Some found) → IsNearLine reach found → IsNearLine (unsigned_abs distance + reach) far
far_near distance found far reach is near =
    let P : LastLine → Type 0 = λ l. IsNearLine (unsigned_abs distance + reach) l in
    let e : far ≡ moved distance found = same_Some far (moved distance found) is in
    subst P (sym e) (omega (arith, ints))

pub sum_is : (sum a a2 b b2 : ℤ) → a2 ≡ a → b2 ≡ b → (unsigned_abs a2 + unsigned_abs b2 ≤ 2 ^ 61 → sum ≡ a2 +ℤ b2) → unsigned_abs a + unsigned_abs b ≤ 2 ^ 61 → sum ≡ a +ℤ b
sum_is sum a a2 b b2 p q is near =
    let P : ℤ → ℤ → Type 0 = λ x y. (unsigned_abs x + unsigned_abs y ≤ 2 ^ 61 → sum ≡ x +ℤ y) in
    subst (λ y. P a y) q (subst (λ x. P x b2) p is) near

pub far_is : (distance d : ℤ) (found far : LastLine) → d ≡ distance → (unsigned_abs d + unsigned_abs found.from ≤ 2 ^ 61 → Some far ≡ further d (Some found)) → unsigned_abs distance + unsigned_abs found.from ≤ 2 ^ 61
    → Some far ≡ further distance (Some found)
far_is distance d found far p is near =
    let P : ℤ → Type 0 = λ x. (unsigned_abs x + unsigned_abs found.from ≤ 2 ^ 61 → Some far ≡ further x (Some found)) in
    subst P p is near

-- ---- the lengths of an atom together

pub atom_near : (atom : Atom) (part : Part) → atom.fragment ≡ at (pos 0) (pos 0) part none → unsigned_abs part.rect.inline ≤ 2 ^ 36 → unsigned_abs part.rect.block ≤ 2 ^ 36
    → unsigned_abs atom.extent ≤ 2 ^ 36 + 2 ^ 33 → unsigned_abs atom.left_margin ≤ 2 ^ 32 → unsigned_abs atom.over_margin ≤ 2 ^ 32 → unsigned_abs atom.over ≤ 2 ^ 33
    → unsigned_abs atom.under ≤ 2 ^ 36 + 2 ^ 34 → unsigned_abs atom.shift ≤ 2 ^ 32 → atom_reach atom ≤ 5 * 2 ^ 36
atom_near atom part is inline across extent left over_margin over under shift =
    let whole : piece_reach atom.fragment ≡ unsigned_abs part.rect.inline + unsigned_abs part.rect.block = ap piece_reach is in
    omega arith

pub same_near : (z held : ℤ) (most : ℕ) → held ≡ z → unsigned_abs z ≤ most → unsigned_abs held ≤ most
same_near z held most is near = rw is near

-- ---- distances that are held in the end

held_once : (margin z w reached whole : ℤ) → unsigned_abs margin ≤ 2 ^ 32 → reached ≡ saturate_signed w64 z → w ≡ margin +ℤ reached → whole ≡ saturate_signed w64 w
    → held_distance whole ≡ held_distance (margin +ℤ z)
held_once margin (pos n) (pos m) reached whole near a b c = omega (arith, ints, clamps)
held_once margin (pos n) (negsuc m) reached whole near a b c = omega (arith, ints, clamps)
held_once margin (negsuc n) (pos m) reached whole near a b c = omega (arith, ints, clamps)
held_once margin (negsuc n) (negsuc m) reached whole near a b c = omega (arith, ints, clamps)

pub held_twice : (margin from over reached whole : ℤ) → unsigned_abs margin ≤ 2 ^ 32 → reached ≡ saturate_signed w64 (from +ℤ over) → whole ≡ saturate_signed w64 (margin +ℤ reached)
    → held_distance whole ≡ held_distance (margin +ℤ (from +ℤ over))
held_twice margin from over reached whole near first second = held_once margin (from +ℤ over) (margin +ℤ reached) reached whole near first refl second
