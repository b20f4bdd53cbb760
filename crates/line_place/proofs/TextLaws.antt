-- What a line that is one run of text outside all inline boxes comes to.
use Rattle.std.proofs.Common.{◌≡◌, ◌∙◌, refl, sym, ap, arith, subst, ℕ, zero, suc, ◌+◌, ◌-◌, ◌<◌, Bool, true, false, ◌&&◌, List, [], ◌∷◌, length, map, get_or, take, drop, Option, None, ℤ, pos, ◌+ℤ◌, ◌-ℤ◌, ◌*◌, ◌≤◌, unsigned_abs}
use Rattle.std.specs.Prelude.{⊤, ◌==◌}
use Rattle.std.specs.Int.{int_max}
use Rattle.std.specs.List.{All, flat_map, fold}
use Rattle.std.proofs.lemmas.Int.{ints}
use Rattle.std.proofs.lemmas.Bool.{eq-eqb}
use Rattle.std.proofs.lemmas.List.{length-take-le}
use Rattle.std.proofs.lemmas.List.Elements.{All-weaker}
use Rattle.fragment_types.specs.declared.unit_kind.UnitKind.{UnitKind}
use Rattle.fragment_types.specs.declared.unit_kind.UnitKind.TheVariants.{Along, Turned, Upright, Combined}
use Rattle.fragment_types.specs.RunUnit.{RunUnit}
use Rattle.fragment_types.specs.Fragment as fragments
use Rattle.fragment_types.specs.Fragment.{Pieces, none, piece}
use Rattle.bidi_order.specs.Laws.{LevelZeroStays}
use Rattle.line_place.specs.declared.line.LineBox.{LineBox}
use Rattle.line_place.specs.Line.{Content, unit, combined, atom, nothing, Item, Line}
use Rattle.line_place.specs.Leaves.{Leaf, are_spaces, leaf, leaves, leaves_from}
use Rattle.line_place.specs.Runs.{are_alike, follows, goes_on, is_form, is_place, joined, runs}
use Rattle.line_place.specs.Marks.{Mark, shows, leftmost, marks, marks_of, rightmost}
use Rattle.line_place.specs.Placing as rule
use Rattle.line_place.specs.Placing.{Row, extent_of, line_over, line_under, offset, outermost, over_of, parts, put_first, rows, run_as, run_piece, under_of, unit_of, width}
use Rattle.line_place.specs.LineText as text
use Rattle.line_place.specs.LineText.{IsLineText, IsTextItem, IsUnit, Text, extent_in, shown, unit_in}
use Rattle.line_place.specs.Reach.{AreInLimit, IsAtomic, IsBefore, item_reach, leaf_reach, line_reach, mark_reach, total}
use Rattle.line_place.proofs.EdgeLaws.{marks_reach}
use Rattle.line_place.proofs.FragmentLaws.{parts_in}
use Rattle.line_place.proofs.LevelZero.{in_order}
use Rattle.line_place.proofs.MarkLaws.{after_are, left_are, right_are}
use Rattle.line_place.proofs.PlaceLaws.{marks_are}
use Rattle.line_place.proofs.ReachLaws.{from_reach}
use Rattle.line_place.proofs.WalkLaws.{sum_near}

-- ---- a line without boxes is a row of what it shows

marks_shown : (line : Line) → line.boxes ≡ [] → marks line ≡ map shows (runs (leaves line))
unfolding marks
marks_shown line bare =
    ap (λ (bs : List LineBox). marks_of bs (leaves line)) bare
    ∙ ap (λ (ms : List Mark). leftmost [] (rightmost ms)) (after_are None (runs (leaves line)))
    ∙ ap (leftmost []) (right_are (runs (leaves line)))
    ∙ left_are [] (runs (leaves line))

-- ---- what hangs

abbrev single : Leaf → List Leaf
single l = l ∷ []

pub record IsNone (l : Leaf) : Type 0 where
  pub what : l.what ≡ nothing
  pub extent : l.extent ≡ pos 0

abbrev AreNone : List Leaf → Type 0
AreNone [] = ⊤
AreNone (l ∷ ls) = IsNone l × AreNone ls

abbrev levels_in : List Item → List ℕ
levels_in items = map (λ (item : Item). item.level) items

none_leaf : (place level : ℕ) (item : Item) (hangs : Bool) → hangs ≡ true → IsNone (leaf place level item hangs)
none_leaf place level item hangs is = rw is (record { what = refl; extent = refl })

both : (a b : Bool) → (a && b) ≡ true → b ≡ true
both true b h = h
both false b h = cc

none_leaves : (place : ℕ) (items : List Item) → are_spaces items ≡ true → AreNone (leaves_from place (levels_in items) items)
none_leaves place [] is = tt
none_leaves place (item ∷ items) is =
    (none_leaf place item.level item (are_spaces (item ∷ items)) is, none_leaves (place + 1) items (both item.space (are_spaces items) is))

not_on : (l m : Leaf) → l.what ≡ nothing → goes_on l m ≡ false
not_on l m is = rw is refl

none_runs : (ls : List Leaf) → AreNone ls → runs ls ≡ map single ls
none_runs [] h = refl
none_runs (l ∷ []) h = refl
none_runs (l ∷ m ∷ ls) h =
    ap (joined l) (none_runs (m ∷ ls) h.1) ∙ rw (not_on l m h.0.what) refl

none_width : (boxes : List LineBox) (ls : List Leaf) → AreNone ls → width boxes (map shows (map single ls)) ≡ pos 0
none_width boxes [] h = refl
none_width boxes (l ∷ ls) h = rw (h.0.extent, none_width boxes ls h.1) refl

none_over : (boxes : List LineBox) (ls : List Leaf) → AreNone ls → flat_map (over_of boxes) (map shows (map single ls)) ≡ []
none_over boxes [] h = refl
none_over boxes (l ∷ ls) h = rw (h.0.what, none_over boxes ls h.1) refl

none_under : (boxes : List LineBox) (ls : List Leaf) → AreNone ls → flat_map (under_of boxes) (map shows (map single ls)) ≡ []
none_under boxes [] h = refl
none_under boxes (l ∷ ls) h = rw (h.0.what, none_under boxes ls h.1) refl

-- where a row of runs ends
abbrev right_of : (left : ℤ) → List (List Leaf) → ℤ
right_of left [] = left
right_of left (run ∷ rs) = right_of (left +ℤ extent_of run) rs

abbrev row_with : Pieces → ℤ → Row
row_with pieces right = record { pieces = pieces; right = right }

rows_shown : (line : Line) (over left : ℤ) (rs : List (List Leaf)) → rows line over left (map shows rs) ≡ row_with (shown line over left rs) (right_of left rs) ∷ []
rows_shown line over left [] = refl
rows_shown line over left (run ∷ rs) = ap (put_first (run_piece line over left run)) (rows_shown line over (left +ℤ extent_of run) rs)

none_shown : (line : Line) (over left : ℤ) (ls : List Leaf) → AreNone ls → shown line over left (map single ls) ≡ none
none_shown line over left [] h = refl
none_shown line over left (l ∷ ls) h =
    ap (λ (w : Content). run_as w line over left (l ∷ []) (shown line over (left +ℤ extent_of (l ∷ [])) (map single ls))) h.0.what
    ∙ none_shown line over (left +ℤ extent_of (l ∷ [])) ls h.1

-- ---- the run

abbrev AreText : (node : ℕ) → UnitKind → List Item → Type 0
AreText node form [] = ⊤
AreText node form (item ∷ items) = IsTextItem node form item × AreText node form items

each_text : (node : ℕ) (form : UnitKind) (items : List Item) → All (IsTextItem node form) items → AreText node form items
each_text node form [] all = tt
each_text node form (item ∷ items) all = (all 0 item (omega arith), each_text node form items (λ k d lt. all (suc k) d (omega arith)))

take_text : (node : ℕ) (form : UnitKind) (n : ℕ) (items : List Item) → AreText node form items → AreText node form (take n items)
take_text node form zero items h = tt
take_text node form (suc n) [] h = tt
take_text node form (suc n) (item ∷ items) h = (h.0, take_text node form n items h.1)

levels_zero : (node : ℕ) (form : UnitKind) (items : List Item) → All (IsTextItem node form) items → All (λ (item : Item). item.level ≡ 0) items
levels_zero node form items are k d lt = (are k d lt).level

abbrev solid_leaf : (place : ℕ) → Item → Leaf
solid_leaf place item = leaf place item.level item false

abbrev front : (place : ℕ) → List Item → List Leaf
front place [] = []
front place (item ∷ items) = solid_leaf place item ∷ front (place + 1) items

same_form : (form : UnitKind) → is_form form form ≡ true
same_form Along = refl
same_form Turned = refl
same_form Upright = refl
same_form Combined = refl

alike : (node : ℕ) (form : UnitKind) (a b : Content) → IsUnit node form a → IsUnit node form b → are_alike a b ≡ true
alike node form (unit n f e k g) (unit m f2 e2 l g2) p q =
    ap (λ (x : UnitKind). (n == m) && is_form x l) p.1
    ∙ ap (λ (x : UnitKind). (n == m) && is_form form x) q.1
    ∙ rw (eq-eqb n m (p.0 ∙ sym q.0), same_form form) refl
alike node form (unit n f e k g) (combined m f2 e2 natural g2) p q = absurd q
alike node form (unit n f e k g) (atom fragment left over top bottom) p q = absurd q
alike node form (unit n f e k g) nothing p q = absurd q
alike node form (combined n f e natural g) b p q = absurd p
alike node form (atom fragment left over top bottom) b p q = absurd p
alike node form nothing b p q = absurd p

goes_solid : (node : ℕ) (form : UnitKind) (place : ℕ) (item next : Item) → IsTextItem node form item → IsTextItem node form next
    → goes_on (solid_leaf place item) (solid_leaf (place + 1) next) ≡ true
goes_solid node form place item next p q =
    rw (alike node form item.what next.what p.what q.what, p.inside, q.inside, p.level, q.level, eq-eqb (place + 1) (place + 1) refl) refl

none_alike : (w : Content) → are_alike w nothing ≡ false
none_alike (unit node first end_ form glyphs) = refl
none_alike (combined node first end_ natural glyphs) = refl
none_alike (atom fragment left_margin over_margin over under) = refl
none_alike nothing = refl

not_to : (l m : Leaf) → m.what ≡ nothing → goes_on l m ≡ false
not_to l m is =
    ap (λ (w : Content). are_alike l.what w && is_place l.inside m.inside && (l.level == m.level) && follows l.level l.place m.place) is
    ∙ rw (none_alike l.what) refl

alone : (l : Leaf) (ls : List Leaf) → AreNone ls → joined l (map single ls) ≡ (l ∷ []) ∷ map single ls
alone l [] h = refl
alone l (m ∷ ls) h = rw (not_to l m h.0.what) refl

not_spaces : (items : List Item) (n : ℕ) → n < length items → ((d : Item) → (get_or items n d).space ≡ false) → are_spaces items ≡ false
not_spaces [] n lt last = absurd (omega arith)
not_spaces (item ∷ items) zero lt last = rw (last item) refl
not_spaces (item ∷ items) (suc n) lt last = and_false item.space (are_spaces items) (not_spaces items n (omega arith) last) where
  and_false : (a b : Bool) → b ≡ false → (a && b) ≡ false
  and_false true b h = h
  and_false false b h = refl

abbrev leaves_of : (place : ℕ) → List Item → List Leaf
leaves_of place items = leaves_from place (levels_in items) items

first_solid : (place : ℕ) (item : Item) (items : List Item) → are_spaces (item ∷ items) ≡ false → leaves_of place (item ∷ items) ≡ solid_leaf place item ∷ leaves_of (place + 1) items
first_solid place item items is = ap (λ (hangs : Bool). leaf place item.level item hangs ∷ leaves_of (place + 1) items) is

joined_solid : (l next : Leaf) (run : List Leaf) (rs : List (List Leaf)) → goes_on l next ≡ true → joined l ((next ∷ run) ∷ rs) ≡ (l ∷ next ∷ run) ∷ rs
joined_solid l next run rs is = rw is refl

solid_runs : (node : ℕ) (form : UnitKind) (place : ℕ) (items : List Item) (n : ℕ) → AreText node form items → n < length items → ((d : Item) → (get_or items n d).space ≡ false)
    → are_spaces (drop (suc n) items) ≡ true → runs (leaves_of place items) ≡ front place (take (suc n) items) ∷ map single (leaves_of (place + suc n) (drop (suc n) items))
solid_runs node form place [] n h lt last spaces = absurd (omega arith)
solid_runs node form place (item ∷ items) zero h lt last spaces =
    let none : AreNone (leaves_of (place + 1) items) = none_leaves (place + 1) items spaces in
    ap runs (first_solid place item items (not_spaces (item ∷ items) 0 lt last))
    ∙ ap (joined (solid_leaf place item)) (none_runs (leaves_of (place + 1) items) none)
    ∙ alone (solid_leaf place item) (leaves_of (place + 1) items) none
solid_runs node form place (item ∷ []) (suc n) h lt last spaces = absurd (omega arith)
solid_runs node form place (item ∷ next ∷ items) (suc n) h lt last spaces =
    let e : place + 1 + suc n ≡ place + suc (suc n) = omega arith in
    ap runs (first_solid place item (next ∷ items) (not_spaces (item ∷ next ∷ items) (suc n) lt last))
    ∙ ap (joined (solid_leaf place item)) (solid_runs node form (place + 1) (next ∷ items) n h.1 (omega arith) last spaces)
    ∙ joined_solid (solid_leaf place item) (solid_leaf (place + 1) next) (front (place + 1 + 1) (take n items)) (map single (leaves_of (place + 1 + suc n) (drop n items)))
    (goes_solid node form place item next h.0 h.1.0)
    ∙ ap (λ (p : ℕ). front place (item ∷ next ∷ take n items) ∷ map single (leaves_of p (drop n items))) e

front_extent : (place : ℕ) (items : List Item) → extent_of (front place items) ≡ extent_in items
front_extent place [] = refl
front_extent place (item ∷ items) = ap (λ z. item.extent +ℤ z) (front_extent (place + 1) items)

front_units : (place : ℕ) (items : List Item) → map unit_of (front place items) ≡ map unit_in items
front_units place [] = refl
front_units place (item ∷ items) = ap (λ (us : List RunUnit). unit_in item ∷ us) (front_units (place + 1) items)

no_over : (node : ℕ) (form : UnitKind) (what : Content) → IsUnit node form what → rule.atom_over what ≡ []
no_over node form (unit n f e k g) h = refl
no_over node form (combined n f e natural g) h = refl
no_over node form (atom fragment left over top bottom) h = absurd h
no_over node form nothing h = refl

no_under : (node : ℕ) (form : UnitKind) (what : Content) → IsUnit node form what → rule.atom_under what ≡ []
no_under node form (unit n f e k g) h = refl
no_under node form (combined n f e natural g) h = refl
no_under node form (atom fragment left over top bottom) h = absurd h
no_under node form nothing h = refl

front_over : (node : ℕ) (form : UnitKind) (place : ℕ) (items : List Item) → AreText node form items → flat_map (λ leaf. rule.atom_over leaf.what) (front place items) ≡ []
front_over node form place [] h = refl
front_over node form place (item ∷ items) h = rw (no_over node form item.what h.0.what) (front_over node form (place + 1) items h.1)

front_under : (node : ℕ) (form : UnitKind) (place : ℕ) (items : List Item) → AreText node form items → flat_map (λ leaf. rule.atom_under leaf.what) (front place items) ≡ []
front_under node form place [] h = refl
front_under node form place (item ∷ items) h = rw (no_under node form item.what h.0.what) (front_under node form (place + 1) items h.1)

-- ---- the line

what_by : (t : Text) (line : Line) (over left : ℤ) (run : List Leaf) (next : Pieces) (what : Content) → IsUnit t.node t.form what
    → run_as what line over left run next ≡ rule.text_piece line over left t.node t.form None run next
what_by t line over left run next (unit n f e k g) h = rw (h.0, h.1) refl
what_by t line over left run next (combined n f e natural g) h = absurd h
what_by t line over left run next (atom fragment l o top bottom) h = absurd h
what_by t line over left run next nothing h = absurd h

piece_is : (t : Text) (line : Line) (over left : ℤ) (items : List Item) (next : Pieces) → AreText t.node t.form items → 0 < length items
    → run_piece line over left (front 0 items) next
    ≡ piece (rule.unnumbered t.node) (rule.text_rect line.strut over left (extent_in items)) (fragments.run t.form 0 None (map unit_in items)) none next
piece_is t line over left [] next h some = absurd (omega arith)
piece_is t line over left (item ∷ items) next h some =
    what_by t line over left (front 0 (item ∷ items)) next item.what h.0.what
    ∙ rw (h.0.inside, h.0.level, front_extent 0 (item ∷ items), front_units 0 (item ∷ items)) refl

abbrev IsOn : Text → Line → Type 0
IsOn t line = IsLineText t line.items

runs_are : LevelZeroStays → (t : Text) (line : Line) (is : IsOn t line) → line.base ≡ 0
    → runs (leaves line) ≡ front 0 (take is.count line.items) ∷ map single (leaves_of is.count (drop is.count line.items))
runs_are stays t line is base =
    let some = is.solid.some in
    let within = is.solid.within in
    let own : AreText t.node t.form line.items = each_text t.node t.form line.items is.are in
    let e : suc (is.count - 1) ≡ is.count = omega arith in
    let z : 0 + suc (is.count - 1) ≡ is.count = omega arith in
    let P : ℕ → Type 0 = λ n. are_spaces (drop n line.items) ≡ true in
    ap runs (in_order stays line base (levels_zero t.node t.form line.items is.are))
    ∙ solid_runs t.node t.form 0 line.items (is.count - 1) own (omega arith) is.solid.last (subst P (sym e) is.solid.spaces)
    ∙ ap (λ (p : ℕ). front 0 (take (suc (is.count - 1)) line.items) ∷ map single (leaves_of p (drop (suc (is.count - 1)) line.items))) z
    ∙ ap (λ (n : ℕ). front 0 (take n line.items) ∷ map single (leaves_of is.count (drop n line.items))) e

abbrev marks_with : List Leaf → List Leaf → List Mark
marks_with run nones = map shows (run ∷ map single nones)

marks_text : LevelZeroStays → (t : Text) (line : Line) (is : IsOn t line) → line.base ≡ 0 → line.boxes ≡ []
    → marks line ≡ marks_with (front 0 (take is.count line.items)) (leaves_of is.count (drop is.count line.items))
marks_text stays t line is base boxes = marks_shown line boxes ∙ ap (map shows) (runs_are stays t line is base)

pub text_over : LevelZeroStays → (t : Text) (line : Line) → IsOn t line → line.base ≡ 0 → line.boxes ≡ [] → line.strut.over ≡ line_over line
text_over stays t line is base boxes =
    let own = take_text t.node t.form is.count line.items (each_text t.node t.form line.items is.are) in
    sym (ap (λ (ms : List Mark). fold int_max line.strut.over (flat_map (over_of line.boxes) ms)) (marks_text stays t line is base boxes)
    ∙ rw (front_over t.node t.form 0 (take is.count line.items) own, none_over line.boxes (leaves_of is.count (drop is.count line.items)) (none_leaves is.count (drop is.count line.items) is.solid.spaces)) refl)

pub text_under : LevelZeroStays → (t : Text) (line : Line) → IsOn t line → line.base ≡ 0 → line.boxes ≡ [] → line.strut.under ≡ line_under line
text_under stays t line is base boxes =
    let own = take_text t.node t.form is.count line.items (each_text t.node t.form line.items is.are) in
    sym (ap (λ (ms : List Mark). fold int_max line.strut.under (flat_map (under_of line.boxes) ms)) (marks_text stays t line is base boxes)
    ∙ rw (front_under t.node t.form 0 (take is.count line.items) own, none_under line.boxes (leaves_of is.count (drop is.count line.items)) (none_leaves is.count (drop is.count line.items) is.solid.spaces)) refl)

width_text : (boxes : List LineBox) (run nones : List Leaf) → AreNone nones → width boxes (marks_with run nones) ≡ extent_of run
width_text boxes run nones h = ap (λ z. extent_of run +ℤ z) (none_width boxes nones h) ∙ and_zero (extent_of run) where
  and_zero : (z : ℤ) → z +ℤ pos 0 ≡ z
  and_zero z = omega (arith, ints)

abbrev start_of : Line → ℤ → ℤ
start_of line wide = offset line.align line.base (line.available -ℤ wide)

abbrev start_in : Line → ℤ → ℤ
start_in line wide = offset line.align 0 (line.available -ℤ wide)

pub text_parts : LevelZeroStays → (t : Text) (line : Line) → IsOn t line → line.base ≡ 0 → line.boxes ≡ []
    → text.text_piece line.strut line.strut.over (start_in line t.extent) t none ≡ parts line
text_parts stays t line is base boxes =
    let items : List Item = take is.count line.items in
    let nones : List Leaf = leaves_of is.count (drop is.count line.items) in
    let hang : AreNone nones = none_leaves is.count (drop is.count line.items) is.solid.spaces in
    let own : AreText t.node t.form items = take_text t.node t.form is.count line.items (each_text t.node t.form line.items is.are) in
    let some = is.solid.some in
    let within = is.solid.within in
    let l = length-take-le is.count line.items within in
    let w : width line.boxes (marks_with (front 0 items) nones) ≡ t.extent = width_text line.boxes (front 0 items) nones hang ∙ front_extent 0 items ∙ sym is.extent in
    let o : line_over line ≡ line.strut.over = sym (text_over stays t line is base boxes) in
    let at : start_of line t.extent ≡ start_in line t.extent = ap (λ b. offset line.align b (line.available -ℤ t.extent)) base in
    sym (ap (λ (ms : List Mark). outermost (rows line (line_over line) (start_of line (width line.boxes ms)) ms)) (marks_text stays t line is base boxes)
    ∙ ap outermost (rows_shown line (line_over line) (start_of line (width line.boxes (marks_with (front 0 items) nones))) (front 0 items ∷ map single nones))
    ∙ ap (λ z. shown line (line_over line) (start_of line z) (front 0 items ∷ map single nones)) w
    ∙ ap (λ z. shown line z (start_of line t.extent) (front 0 items ∷ map single nones)) o
    ∙ ap (λ z. shown line line.strut.over z (front 0 items ∷ map single nones)) at
    ∙ ap (run_piece line line.strut.over (start_in line t.extent) (front 0 items)) (none_shown line line.strut.over (start_in line t.extent +ℤ extent_of (front 0 items)) nones hang)
    ∙ piece_is t line line.strut.over (start_in line t.extent) items none own (omega arith)
    ∙ ap (λ z. piece (rule.unnumbered t.node) (rule.text_rect line.strut line.strut.over (start_in line t.extent) z) (fragments.run t.form 0 None (map unit_in items)) none none) (sym is.extent)
    ∙ ap (λ (us : List RunUnit). piece (rule.unnumbered t.node) (rule.text_rect line.strut line.strut.over (start_in line t.extent) t.extent) (fragments.run t.form 0 None us) none none) (sym is.units))

-- ---- how far it reaches

extent_near : (items : List Item) (n : ℕ) → unsigned_abs (extent_in (take n items)) ≤ total item_reach items
extent_near items zero = omega arith
extent_near [] (suc n) = omega arith
extent_near (item ∷ items) (suc n) = let h = extent_near items n in let s = sum_near item.extent (extent_in (take n items)) in omega (arith, h, s)

pub text_near : (t : Text) (items : List Item) → IsLineText t items → unsigned_abs t.extent ≤ total item_reach items
text_near t items is = let h = extent_near items is.count in let e = is.extent in omega (arith, h, ap unsigned_abs e)

text_reach : LevelZeroStays → (t : Text) (line : Line) → IsOn t line → line.base ≡ 0 → total leaf_reach (leaves line) ≤ total item_reach line.items
text_reach stays t line is base =
    let e = ap (total leaf_reach) (in_order stays line base (levels_zero t.node t.form line.items is.are)) in
    let r = from_reach 0 (levels_in line.items) line.items in
    omega (arith, e, r)

one_atomic : (node : ℕ) (form : UnitKind) (what : Content) → IsUnit node form what → IsAtomic what
one_atomic node form (unit n f e k g) h = tt
one_atomic node form (combined n f e natural g) h = tt
one_atomic node form (atom fragment left over top bottom) h = absurd h
one_atomic node form nothing h = tt

pub text_parts_in : LevelZeroStays → (t : Text) (line : Line) → IsOn t line → line.base ≡ 0 → AreInLimit (4 * line_reach line) (parts line)
text_parts_in stays t line is base =
    let m = ap (total (mark_reach line.boxes)) (marks_are line) in
    let r = marks_reach line.boxes (leaves line) in
    let l = text_reach stays t line is base in
    let own : All (λ (item : Item). IsAtomic item.what) line.items = All-weaker (IsTextItem t.node t.form) (λ (item : Item). IsAtomic item.what) (λ item k. one_atomic t.node t.form item.what k.what) line.items is.are in
    let inside : All (λ (item : Item). IsBefore (length line.boxes) item.inside) line.items =
    All-weaker (IsTextItem t.node t.form) (λ (item : Item). IsBefore (length line.boxes) item.inside) (λ item k. let P : Option ℕ → Type 0 = λ o. IsBefore (length line.boxes) o in subst P (sym k.inside) tt) line.items is.are in
    parts_in line own inside (omega (arith, m, r, l))
