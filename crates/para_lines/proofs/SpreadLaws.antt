-- How far the lines of a paragraph reach with all inside them.
use Rattle.std.proofs.Common.{◌≡◌, ◌∙◌, sym, ap, arith, subst, ℕ, suc, ◌+◌, ◌*◌, ◌<◌, ◌≤◌, ◌^◌, max, List, [], ◌∷◌, length, map, get_or, drop, take, Option, ℤ, pos, ◌+ℤ◌, ◌-ℤ◌, unsigned_abs}
use Rattle.std.specs.Prelude.{All, ◌≤ℤ◌}
use Rattle.std.specs.List.{slice_range}
use Rattle.std.proofs.Math.Nat.{le-max_left, max-le, suc-mul}
use Rattle.std.proofs.lemmas.Int.{ints}
use Rattle.std.proofs.lemmas.List.{length-map}
use Rattle.std.proofs.lemmas.List.Elements.{All-cons, All-map}
use Rattle.face_api.specs.Table.{Table}
use Rattle.wm_chars.specs.declared.classes.BidiClass.{BidiClass}
use Rattle.fragment_types.specs.declared.breaking.Breaking.{Breaking}
use Rattle.fragment_types.specs.declared.fragment.Fragment.{Fragment}
use Rattle.fragment_types.specs.Fragment.{Pieces, before, block, measure, none, piece, pieces_of, span}
use Rattle.fragment_types.specs.Fragment as fragments
use Rattle.fragment_types.specs.Item.{Entry}
use Rattle.line_fill.specs.declared.item.FillItem.{FillItem}
use Rattle.line_place.specs.Laws.{content_inside}
use Rattle.line_place.specs.Line as place
use Rattle.line_place.specs.Line.{Item, Line}
use Rattle.line_place.specs.Placing.{line_over, line_under, parts}
use Rattle.line_place.specs.Reach.{IsAtomic, line_reach, total}
use Rattle.line_place.specs.Spread.{spread}
use Rattle.line_place.proofs.Fragments.{as_piece}
use Rattle.line_place.proofs.SpreadLaws.{spread_of_line}
use Rattle.para_prepare.specs.Preparation.{Preparation, atoms_first, atoms_in}
use Rattle.para_prepare.specs.declared.item.PreparedItem.{PreparedItem}
use Rattle.para_prepare.specs.declared.item.PreparedContent.{PreparedContent}
use Rattle.para_prepare.specs.declared.item.PreparedContent.TheVariants.{Unit, Combined, Atom, Break}
use Rattle.para_lines.specs.declared.paragraph.Container.{Container}
use Rattle.para_lines.specs.Standing as code
use Rattle.para_lines.specs.Boxes.{chain_at}
use Rattle.para_lines.specs.Edges.{raised_in}
use Rattle.para_lines.specs.Filling.{advance_of, fill_items, fill_items_from, item_chains, past}
use Rattle.para_lines.specs.Line.{IsAble, standing_of}
use Rattle.para_lines.specs.Lines as rule
use Rattle.para_lines.specs.Lines.{Standing, atom_extents, chain_of_first, chain_of_last, line_piece, no_atom, standings_by}
use Rattle.para_lines.specs.Reach.{HasAdvance, HoldsWithin, IsAtomWithin, IsBoxed, IsInReach, IsLineWithin, atom_part, atom_reach, standing_reach}
use Rattle.para_lines.specs.Setting.{line_between, lines_reach, room_between}
use Rattle.para_lines.proofs.LineReach.{size_near}
use Rattle.para_lines.proofs.Nesting.{line_inside}
use Rattle.para_lines.proofs.RoomLaws.{fills_count, past_extents, standings_count}
use Rattle.para_lines.proofs.StandLaws.{AreWhole}
use Rattle.para_lines.proofs.SettingLaws.{all_range, between_is}
use Rattle.para_lines.proofs.Spreading.{AdvanceAll, all_advance}
use Rattle.para_lines.proofs.StackLaws.{room_on, total_part}

-- ---- the atoms of items

boxed_atomic : (fragment : Pieces) → IsBoxed fragment → (left_margin over_margin over under : ℤ) → IsAtomic (place.atom fragment left_margin over_margin over under)
boxed_atomic none h left_margin over_margin over under = tt
boxed_atomic (piece name rect (block mode dir content definite start end_ through) inner next) h left_margin over_margin over under = tt
boxed_atomic (piece name rect (fragments.line index base mode baseline) inner next) h left_margin over_margin over under = tt
boxed_atomic (piece name rect span inner next) h left_margin over_margin over under = absurd h
boxed_atomic (piece name rect (fragments.run form level natural units) inner next) h left_margin over_margin over under = tt
boxed_atomic (piece name rect (measure min max_) inner next) h left_margin over_margin over under = tt

first_within : (each most : ℕ) (what : PreparedContent) (atoms : List rule.Atom) → All (IsInReach each most) atoms → IsAtomWithin most what (get_or atoms 0 no_atom)
first_within each most (Unit form space node first end_ advance glyphs) atoms h = tt
first_within each most (Combined node first end_ advance natural glyphs) atoms h = tt
first_within each most (Break node) atoms h = tt
first_within each most (Atom name) [] h = (λ left_margin over_margin over under. tt, omega arith)
first_within each most (Atom name) (atom ∷ atoms) h = let own = h 0 atom (omega arith) in (boxed_atomic atom.fragment own.boxed, own.inner)

others_all : (P : rule.Atom → Type 0) (what : PreparedContent) (atoms : List rule.Atom) → All P atoms → All P (past what atoms)
others_all P (Unit form space node first end_ advance glyphs) atoms h = h
others_all P (Combined node first end_ advance natural glyphs) atoms h = h
others_all P (Break node) atoms h = h
others_all P (Atom name) [] h = h
others_all P (Atom name) (atom ∷ atoms) h = λ k d lt. h (suc k) d (omega arith)

within_by : (each most : ℕ) (entries : List Entry) (items : List PreparedItem) (levels : List ℕ) (classes : List BidiClass) (bases : List ℕ) (extents : List ℤ) (atoms : List rule.Atom)
    → All (IsInReach each most) atoms → All (HoldsWithin most) (standings_by items levels classes bases extents (item_chains entries items) atoms)
within_by each most entries [] levels classes bases extents atoms h = λ k d lt. absurd (omega arith)
within_by each most entries (item ∷ items) [] classes bases extents atoms h = λ k d lt. absurd (omega arith)
within_by each most entries (item ∷ items) (level ∷ levels) [] bases extents atoms h = λ k d lt. absurd (omega arith)
within_by each most entries (item ∷ items) (level ∷ levels) (class ∷ classes) [] extents atoms h = λ k d lt. absurd (omega arith)
within_by each most entries (item ∷ items) (level ∷ levels) (class ∷ classes) (base ∷ bases) [] atoms h = λ k d lt. absurd (omega arith)
within_by each most entries (item ∷ items) (level ∷ levels) (class ∷ classes) (base ∷ bases) (extent ∷ extents) atoms h =
    let own : Standing = record { item = item; level = level; class = class; base = base; extent = extent; chain = chain_at entries item.source; atom = get_or atoms 0 no_atom } in
    All-cons (HoldsWithin most) own (standings_by items levels classes bases extents (item_chains entries items) (past item.what atoms))
    (first_within each most item.what atoms h) (within_by each most entries items levels classes bases extents (past item.what atoms) (others_all (IsInReach each most) item.what atoms h))

-- ---- how far the items reach, where each atom reaches no further than `each`

abbrev AreShort : (each : ℕ) → List rule.Atom → Type 0
AreShort each = All (λ atom. atom_reach atom ≤ each)

one_far : (each share others : ℕ) (what : PreparedContent) (atoms : List rule.Atom) → 16 * each + 2 ^ 38 ≤ share → HasAdvance what → AreShort each atoms
    → 16 * (unsigned_abs (advance_of what (atom_extents atoms)) + atom_part what (get_or atoms 0 no_atom)) + others * share ≤ 2 ^ 24 + atoms_first what others * share
one_far each share others (Unit form space node first end_ advance glyphs) atoms le h short = omega (arith, h)
one_far each share others (Combined node first end_ advance natural glyphs) atoms le h short = omega (arith, h)
one_far each share others (Break node) atoms le h short = omega (arith, ints)
one_far each share others (Atom name) [] le h short = let more = suc-mul others share in omega (arith, ints, le, more)
one_far each share others (Atom name) (atom ∷ atoms) le h short =
    let own : atom_reach atom ≤ each = short 0 atom (omega arith) in
    let more = suc-mul others share in
    omega (arith, le, own, more)

far_by : (each share : ℕ) (inline : Option ℤ) (entries : List Entry) (before : List ℕ) (items : List PreparedItem) (levels : List ℕ) (classes : List BidiClass) (bases : List ℕ) (breaks : List Breaking) (atoms : List rule.Atom)
    → 16 * each + 2 ^ 38 ≤ share → AdvanceAll items → AreShort each atoms
    → 16 * total standing_reach (standings_by items levels classes bases (map (λ item. item.advance) (fill_items_from inline entries before items breaks (item_chains entries items) (atom_extents atoms))) (item_chains entries items) atoms)
    ≤ length items * 2 ^ 24 + atoms_in items * share
far_by each share inline entries before [] levels classes bases breaks atoms le h short = omega arith
far_by each share inline entries before (item ∷ items) [] classes bases breaks atoms le h short = omega arith
far_by each share inline entries before (item ∷ items) (level ∷ levels) [] bases breaks atoms le h short = omega arith
far_by each share inline entries before (item ∷ items) (level ∷ levels) (class ∷ classes) [] breaks atoms le h short = omega arith
far_by each share inline entries before (item ∷ items) (level ∷ levels) (class ∷ classes) (base ∷ bases) [] atoms le h short = omega arith
far_by each share inline entries before (item ∷ items) (level ∷ levels) (class ∷ classes) (base ∷ bases) (end_ ∷ breaks) atoms le h short =
    let one = one_far each share (atoms_in items) item.what atoms le h.0 short in
    let chain : List ℕ = chain_at entries item.source in
    let P : List ℤ → Type 0 = λ es.
    16 * total standing_reach (standings_by items levels classes bases (map (λ item. item.advance) (fill_items_from inline entries chain items breaks (item_chains entries items) es)) (item_chains entries items) (past item.what atoms))
    ≤ length items * 2 ^ 24 + atoms_in items * share in
    let others = subst P (sym (past_extents item.what atoms)) (far_by each share inline entries chain items levels classes bases breaks (past item.what atoms) le h.1 (others_all (λ (atom : rule.Atom). atom_reach atom ≤ each) item.what atoms short)) in
    omega (arith, one, others)

abbrev filled : Option ℤ → List Entry → Preparation → List rule.Atom → List ℤ
filled inline entries prepared atoms = map (λ (item : FillItem). item.advance) (fill_items inline entries prepared (atom_extents atoms))

standings_far : (each : ℕ) (inline : Option ℤ) (entries : List Entry) (prepared : Preparation) (atoms : List rule.Atom) → All (λ item. HasAdvance item.what) prepared.items → AreShort each atoms
    → 16 * total standing_reach (rule.standings entries prepared atoms (filled inline entries prepared atoms)) ≤ length prepared.items * 2 ^ 24 + atoms_in prepared.items * (16 * each + 2 ^ 38)
unfolding fill_items
standings_far each inline entries prepared atoms h short =
    far_by each (16 * each + 2 ^ 38) inline entries [] prepared.items prepared.levels prepared.classes prepared.bases prepared.breaks atoms (omega arith) (all_advance prepared.items h) short

standings_many : (inline : Option ℤ) (entries : List Entry) (prepared : Preparation) (atoms : List rule.Atom) → AreWhole prepared
    → length (rule.standings entries prepared atoms (filled inline entries prepared atoms)) ≡ length prepared.items
standings_many inline entries prepared atoms whole =
    let fills : List FillItem = fill_items inline entries prepared (atom_extents atoms) in
    let m = length-map fills (λ (item : FillItem). item.advance) in
    let n = fills_count inline entries prepared (atom_extents atoms) whole.breaks in
    standings_count entries prepared.items prepared.levels prepared.classes prepared.bases (filled inline entries prepared atoms) atoms whole.levels whole.classes whole.bases (m ∙ n)

-- ---- one line

content_within : (most : ℕ) (entries : List Entry) (chain : List ℕ) (atom : rule.Atom) (what : PreparedContent) → IsAtomWithin most what atom
    → IsAtomic (rule.content_of entries chain atom what) × (content_inside (rule.content_of entries chain atom what) ≤ most)
content_within most entries chain atom (Unit form space node first end_ advance glyphs) h = (tt, omega arith)
content_within most entries chain atom (Combined node first end_ advance natural glyphs) h = (tt, omega arith)
content_within most entries chain atom (Break node) h = (tt, omega arith)
content_within most entries chain atom (Atom name) h =
    (h.0 atom.left_margin atom.over_margin (atom.over +ℤ raised_in entries atom.shift chain) (atom.under -ℤ raised_in entries atom.shift chain), h.1)

-- a line's fragments reach no further than its lengths, and what stands inside its atoms
pub between_spread : (tables : List (Option Table)) (container : Container) (entries : List Entry) (standings : List code.Standing) (from end_ reach most : ℕ) (made : Pieces) → from ≤ end_ → end_ ≤ length standings
    → made ≡ parts (line_between tables container entries (map (standing_of entries) standings) from end_)
    → line_reach (line_between tables container entries (map (standing_of entries) standings) from end_) ≤ reach
    → All (HoldsWithin most) (map (standing_of entries) standings) → spread made ≤ 12 * reach + most
between_spread tables container entries standings from end_ reach most made le within is far h =
    let all : List Standing = map (standing_of entries) standings in
    let own : List Standing = slice_range all from end_ in
    let l : Line = line_between tables container entries all from end_ in
    let n = length-map standings (standing_of entries) in
    let held : All (HoldsWithin most) own = all_range (HoldsWithin most) all from end_ le (omega (arith, within, n)) h in
    let boxes : List ℕ = rule.boxes_on [] own in
    let s : spread (parts l) ≤ 12 * line_reach l + most =
    spread_of_line l most
    (All-map (λ (item : Item). IsAtomic item.what) (rule.line_item entries boxes) own (λ k d lt. let s : Standing = get_or own k d in (content_within most entries s.chain s.atom s.item.what (held k d lt)).0))
    (line_inside tables container entries (chain_of_last [] (take from all)) (chain_of_first (drop end_ all)) (slice_range standings from end_) l
    (sym (between_is tables container entries standings from end_)))
    (All-map (λ (item : Item). content_inside item.what ≤ most) (rule.line_item entries boxes) own (λ k d lt. let s : Standing = get_or own k d in (content_within most entries s.chain s.atom s.item.what (held k d lt)).1)) in
    let P : Pieces → Type 0 = λ ps. spread ps ≤ 12 * reach + most in
    subst P (sym is) (omega (arith, s, far))

sum_near : (a b : ℤ) → unsigned_abs (a +ℤ b) ≤ unsigned_abs a + unsigned_abs b
sum_near a b = omega (arith, ints)

-- the fragment of a line
pub piece_within : (container : Container) (index : ℕ) (b over under : ℤ) (inner : Pieces) (l : Line) (count room most bound : ℕ) → over ≡ line_over l → under ≡ line_under l → inner ≡ parts l
    → pos 0 ≤ℤ container.size → container.size ≤ℤ pos (2 ^ 32) → unsigned_abs over ≤ 2 ^ 34 + room → unsigned_abs under ≤ 2 ^ 34 + room
    → spread inner ≤ 12 * (2 ^ 32 + 2 ^ 36 + room + count * 2 ^ 37) + most → unsigned_abs b + 14 * 2 ^ 36 + 16 * room + count * (3 * 2 ^ 39) + most ≤ bound
    → spread (line_piece container index b l none) ≤ bound
piece_within container index b over under inner l count room most bound o u p low high over_near under_near own most_near =
    let size = size_near container.size low high in
    let P : ℤ → Type 0 = λ z. unsigned_abs z ≤ 2 * (2 ^ 34 + room) in
    let Q : Pieces → Type 0 = λ ps. spread ps ≤ 12 * (2 ^ 32 + 2 ^ 36 + room + count * 2 ^ 37) + most in
    let sum : over +ℤ under ≡ line_over l +ℤ line_under l = ap (λ z. z +ℤ under) o ∙ ap (λ z. line_over l +ℤ z) u in
    let tall : unsigned_abs (line_over l +ℤ line_under l) ≤ 2 * (2 ^ 34 + room) = subst P sum (let s = sum_near over under in omega (arith, s, over_near, under_near)) in
    let inside_ : spread (parts l) ≤ 12 * (2 ^ 32 + 2 ^ 36 + room + count * 2 ^ 37) + most = subst Q p own in
    let far : max 0 (unsigned_abs b) ≤ unsigned_abs b = max-le (omega arith) (omega arith) in
    let wide : max (unsigned_abs container.size) (unsigned_abs (line_over l +ℤ line_under l)) ≤ 2 ^ 35 + 2 * room = max-le (omega (arith, size)) (omega (arith, tall)) in
    max-le (omega (arith, far, wide, inside_, most_near)) (omega arith)

-- ---- lines one under the other

left_most : (a b n : ℕ) → max a b ≤ n → a ≤ n
left_most a b n le = let l = le-max_left a b in omega (arith, l, le)

before_within : (bound : ℕ) (f : Fragment) (next : Pieces) → IsLineWithin bound f → spread next ≤ bound → spread (before f next) ≤ bound
before_within bound f next own others =
    let P : Pieces → Type 0 = λ ps. spread ps ≤ bound in
    let alone = subst P (as_piece f none) own in
    subst P (sym (as_piece f next)) (max-le (left_most _ 0 bound alone) others)

pub pieces_within : (bound : ℕ) (fs : List Fragment) → All (IsLineWithin bound) fs → spread (pieces_of fs) ≤ bound
pieces_within bound [] h = omega arith
pieces_within bound (f ∷ fs) h = before_within bound f (pieces_of fs) (h 0 f (omega arith)) (pieces_within bound fs (λ k d lt. h (suc k) d (omega arith)))

pub source_there : (standings : List code.Standing) (count : ℕ) → All (IsAble count) standings → 0 < length standings → 0 < count
source_there [] count able some = absurd (omega (arith, some))
source_there (s ∷ standings) count able some = let below = (able 0 s (omega arith)).source in omega (arith, below)

-- a line more is within what bounds all of them
pub bound_on : (count k from end_ most : ℕ) (all : List Standing) (b : ℤ) → k ≤ from → from < end_ → end_ ≤ length all → 0 < count
    → unsigned_abs b ≤ k * 2 ^ 35 + 2 * total standing_reach (take from all)
    → unsigned_abs b + 14 * 2 ^ 36 + 16 * room_between all from end_ + count * (3 * 2 ^ 39) + most ≤ lines_reach count all + most
bound_on count k from end_ most all b some later within there near =
    let room = room_on all from end_ (omega arith) in
    let part = total_part standing_reach all end_ in
    omega (arith, some, later, within, there, near, room, part)

pub lines_within : (each most count : ℕ) (inline : Option ℤ) (entries : List Entry) (prepared : Preparation) (atoms : List rule.Atom) (standings : List Standing) → AreWhole prepared
    → All (λ item. HasAdvance item.what) prepared.items → All (IsInReach each most) atoms → standings ≡ rule.standings entries prepared atoms (filled inline entries prepared atoms)
    → All (HoldsWithin most) standings × (lines_reach count standings ≤ count * (5 * 2 ^ 39) + length prepared.items * 2 ^ 36 + atoms_in prepared.items * (16 * each + 2 ^ 38))
lines_within each most count inline entries prepared atoms standings whole advances h is =
    let own : List Standing = rule.standings entries prepared atoms (filled inline entries prepared atoms) in
    let P : List Standing → Type 0 = λ ss.
    All (HoldsWithin most) ss × (lines_reach count ss ≤ count * (5 * 2 ^ 39) + length prepared.items * 2 ^ 36 + atoms_in prepared.items * (16 * each + 2 ^ 38)) in
    let far = standings_far each inline entries prepared atoms advances (λ k d lt. (h k d lt).lengths) in
    let many = standings_many inline entries prepared atoms whole in
    subst P (sym is) (
      within_by each most entries prepared.items prepared.levels prepared.classes prepared.bases (filled inline entries prepared atoms) atoms h,
      omega (arith, far, many),
    )
