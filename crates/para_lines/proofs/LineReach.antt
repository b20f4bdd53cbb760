-- How far the lengths of a line reach.
use Rattle.std.proofs.Common.{◌≡◌, sym, arith, subst, ℕ, suc, ◌+◌, ◌-◌, ◌*◌, ◌<◌, ◌≤◌, ◌^◌, List, [], ◌∷◌, ◌++◌, length, map, get_or, Option, Some, ℤ, pos, ◌+ℤ◌, ◌-ℤ◌, unsigned_abs}
use Rattle.std.specs.Prelude.{All, ◌≤ℤ◌}
use Rattle.std.proofs.lemmas.Int.{ints, clamps}
use Rattle.std.proofs.lemmas.List.{get_or-map, length-append, length-map, length-reverse}
use Rattle.std.proofs.lemmas.List.Elements.{All-map}
use Rattle.wm_units.specs.Numbers.{cap}
use Rattle.wm_modes.specs.Sides.{side_of}
use Rattle.wm_modes.specs.declared.mode.Direction.TheVariants.{Ltr}
use Rattle.wm_modes.specs.declared.sides.FlowSide.TheVariants.{LineOver, LineUnder, LineLeft, LineRight}
use Rattle.face_api.specs.Table.{Table}
use Rattle.fragment_types.specs.Item.{Entry}
use Rattle.style_types.specs.Style.{IsBounded}
use Rattle.line_place.specs.declared.line.Extents.{Extents}
use Rattle.line_place.specs.declared.line.LineBox.{LineBox}
use Rattle.line_place.specs.Line.{Line}
use Rattle.line_place.specs.Reach.{AreNear, box_reach, content_reach, extents_reach, item_reach, line_reach, total}
use Rattle.para_prepare.specs.declared.item.PreparedContent.{PreparedContent}
use Rattle.para_prepare.specs.declared.item.PreparedContent.TheVariants.{Unit, Combined, Atom, Break}
use Rattle.para_lines.specs.declared.paragraph.Container.{Container}
use Rattle.para_lines.specs.Standing as code
use Rattle.para_lines.specs.Around.{box_at, fresh}
use Rattle.para_lines.specs.Boxes.{HasBounds, apart, chain_at}
use Rattle.para_lines.specs.Edges.{raised_in, shifts}
use Rattle.para_lines.specs.Line.{IsAble, RiseIn, on_line, standing_of}
use Rattle.para_lines.specs.Lines as rule
use Rattle.para_lines.specs.Reach.{atom_part, standing_reach}
use Rattle.para_lines.proofs.Chaining.{at, there}
use Rattle.para_lines.proofs.OnLine.{all_on_line, on_line_there}
use Rattle.para_lines.proofs.Spreading.{before_near, box_bounded, inner_near, margin_near}

-- ---- how many boxes stand on a line

count_from : (entries : List Entry) (from : ℕ) (standings : List code.Standing) → from ≤ length entries → All (IsAble (length entries)) standings → RiseIn from standings
    → length (on_line entries (at 0 [] entries from) standings) ≤ length entries - from
count_from entries from [] le able rise = omega arith
count_from entries from (s ∷ standings) le able rise =
    let source : ℕ = s.item.source in
    let lt : source < length entries = (able 0 s (omega arith)).source in
    let first : from ≤ source = rise.0 in
    let before : List ℕ = at 0 [] entries from in
    let chain : List ℕ = chain_at entries source in
    let rest : List ℕ = on_line entries chain standings in
    let own : length (apart chain before) ≤ source - from = before_near entries from source first lt in
    let turned : length (fresh chain before) ≡ length (apart chain before) = length-reverse (apart chain before) in
    let P : List ℕ → Type 0 = λ c. length (on_line entries c standings) ≤ length entries - source in
    let others : length rest ≤ length entries - source = subst P (sym (there entries source [] lt)) (count_from entries source standings (omega arith) (λ k d k_lt. able (suc k) d (omega arith)) rise.1) in
    let sum : length (fresh chain before ++ rest) ≡ length (fresh chain before) + length rest = length-append (fresh chain before) rest in
    rw sum (omega arith)

-- ---- one box

pub extents_near : (e : Extents) → AreNear e → extents_reach e ≤ 2 ^ 36
extents_near e h =
    let a = h.ascent in
    let b = h.descent in
    let c = h.over in
    let d = h.under in
    let r = h.raised in
    omega arith

box_near : (tables : List (Option Table)) (container : Container) (entries : List Entry) (boxes before after : List ℕ) (box : ℕ) → IsBounded (box_at entries box).style
    → AreNear (rule.line_box tables container entries boxes before after box).extents → box_reach (rule.line_box tables container entries boxes before after box) ≤ 2 ^ 37
box_near tables container entries boxes before after box bounded near =
    let style = (box_at entries box).style in
    let e = extents_near (rule.line_box tables container entries boxes before after box).extents near in
    let a = inner_near (Some container.size) style (side_of container.style.mode Ltr LineLeft) bounded in
    let b = inner_near (Some container.size) style (side_of container.style.mode Ltr LineRight) bounded in
    let c = inner_near (Some container.size) style (side_of container.style.mode Ltr LineOver) bounded in
    let d = inner_near (Some container.size) style (side_of container.style.mode Ltr LineUnder) bounded in
    let m = margin_near (Some container.size) style (side_of container.style.mode Ltr LineLeft) bounded in
    let n = margin_near (Some container.size) style (side_of container.style.mode Ltr LineRight) bounded in
    omega arith

total_most : (most : ℕ) (boxes : List LineBox) → All (λ b. box_reach b ≤ most) boxes → total box_reach boxes ≤ length boxes * most
total_most most [] h = omega arith
total_most most (box ∷ boxes) h =
    let own = h 0 box (omega arith) in
    let rest = total_most most boxes (λ k d lt. h (suc k) d (omega arith)) in
    omega arith

-- ---- one item

cap_near : (z : ℤ) → unsigned_abs (cap z) ≤ 2 ^ 32
cap_near z = omega (arith, ints, clamps)

over_near : (a b : ℤ) → unsigned_abs b ≤ 2 ^ 32 → unsigned_abs (a +ℤ b) ≤ unsigned_abs a + 2 ^ 32
over_near a b h = omega (arith, ints)

under_near : (a b : ℤ) → unsigned_abs b ≤ 2 ^ 32 → unsigned_abs (a -ℤ b) ≤ unsigned_abs a + 2 ^ 32
under_near a b h = omega (arith, ints)

content_near : (entries : List Entry) (chain : List ℕ) (atom : rule.Atom) (what : PreparedContent) → content_reach (rule.content_of entries chain atom what) ≤ atom_part what atom
content_near entries chain atom (Unit form space node first end_ advance glyphs) = omega arith
content_near entries chain atom (Combined node first end_ advance natural glyphs) = omega arith
content_near entries chain atom (Break node) = omega arith
content_near entries chain atom (Atom name) =
    let raised : ℤ = raised_in entries atom.shift chain in
    let near : unsigned_abs raised ≤ 2 ^ 32 = cap_near (atom.shift +ℤ shifts entries chain) in
    let o = over_near atom.over raised near in
    let u = under_near atom.under raised near in
    omega arith

pub items_near : (entries : List Entry) (boxes : List ℕ) (standings : List rule.Standing) → total item_reach (map (rule.line_item entries boxes) standings) ≤ total standing_reach standings
items_near entries boxes [] = omega arith
items_near entries boxes (s ∷ standings) =
    let own = content_near entries s.chain s.atom s.item.what in
    let rest = items_near entries boxes standings in
    omega arith

-- ---- a whole line

pub size_near : (z : ℤ) → pos 0 ≤ℤ z → z ≤ℤ pos (2 ^ 32) → unsigned_abs z ≤ 2 ^ 32
size_near z low high = omega (arith, ints)

-- a line reaches no further than its lengths and the boxes of the paragraph
pub line_far : (tables : List (Option Table)) (container : Container) (entries : List Entry) (before after : List ℕ) (standings : List code.Standing) (line : Line)
    → line ≡ rule.line tables container entries before after (map (standing_of entries) standings) → All HasBounds entries
    → pos 0 ≤ℤ container.size → container.size ≤ℤ pos (2 ^ 32) → All (IsAble (length entries)) standings → RiseIn 0 standings
    → AreNear line.strut × All (λ b. AreNear b.extents) line.boxes
    → line_reach line ≤ 2 ^ 32 + 2 ^ 36 + total standing_reach (map (standing_of entries) standings) + length entries * 2 ^ 37
line_far tables container entries before after standings line is all low high able rise near_line =
    let places : List ℕ = on_line entries [] standings in
    let make : ℕ → LineBox = rule.line_box tables container entries places before after in
    let N : Line → Type 0 = λ l. AreNear l.strut × All (λ b. AreNear b.extents) l.boxes in
    let L : Line → Type 0 = λ l. line_reach l ≤ 2 ^ 32 + 2 ^ 36 + total standing_reach (map (standing_of entries) standings) + length entries * 2 ^ 37 in
    let near = subst N is near_line in
    let size = size_near container.size low high in
    let s = extents_near (rule.extents_in tables container container.style (pos 0)) near.0 in
    let count : length places ≤ length entries - 0 = count_from entries 0 standings (omega arith) able rise in
    let n : length (map make places) ≡ length places = length-map places make in
    let items = items_near entries places (map (standing_of entries) standings) in
    let each : All (λ b. box_reach b ≤ 2 ^ 37) (map make places) =
    All-map (λ b. box_reach b ≤ 2 ^ 37) make places (λ k d lt.
    let own = on_line_there entries places k d (all_on_line entries standings able) lt in
    let P : LineBox → Type 0 = λ b. AreNear b.extents in
    box_near tables container entries places before after (get_or places k d) (box_bounded entries (get_or places k d) all own.within own.begins)
    (subst P (get_or-map make places k d (make d) lt) (near.1 k (make d) (omega arith)))) in
    let boxes : total box_reach (map make places) ≤ length (map make places) * 2 ^ 37 = total_most (2 ^ 37) (map make places) each in
    subst L (sym is) (omega arith)

pub line_near : (tables : List (Option Table)) (container : Container) (entries : List Entry) (before after : List ℕ) (standings : List code.Standing) (line : Line)
    → line ≡ rule.line tables container entries before after (map (standing_of entries) standings) → All HasBounds entries → length entries ≤ 2 ^ 20
    → pos 0 ≤ℤ container.size → container.size ≤ℤ pos (2 ^ 32) → All (IsAble (length entries)) standings → RiseIn 0 standings → total standing_reach (map (standing_of entries) standings) ≤ 2 ^ 58
    → AreNear line.strut × All (λ b. AreNear b.extents) line.boxes → line_reach line ≤ 2 ^ 60
line_near tables container entries before after standings line is all few low high able rise reach near_line =
    let far = line_far tables container entries before after standings line is all low high able rise near_line in omega (arith, few, reach, far)
