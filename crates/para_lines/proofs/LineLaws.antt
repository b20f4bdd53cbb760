-- The boxes of a line.
use Rattle.std.proofs.Common.{◌≡◌, ◌∙◌, refl, sym, ap, arith, subst, Bool, true, ℕ, suc, ◌+◌, ◌<◌, ◌≤◌, List, [], ◌∷◌, ◌++◌, length, map, get_or, drop, reverse, append-nil, Option, Some, None, ◌&&◌, ℤ, pos}
use Rattle.std.specs.Prelude.{All, option_map}
use Rattle.std.proofs.lemmas.Bool.{eq-eqb}
use Rattle.std.proofs.lemmas.List.{get_or-map, length-map}
use Rattle.std.proofs.lemmas.Simd.{map-map}
use Rattle.face_api.specs.Table.{Table}
use Rattle.wm_chars.specs.declared.classes.BidiClass.{BidiClass}
use Rattle.wm_modes.specs.declared.mode.Direction.{Direction}
use Rattle.style_types.specs.declared.style.Align.{Align}
use Rattle.fragment_types.specs.Fragment.{Pieces}
use Rattle.fragment_types.specs.Item.{Entry}
use Rattle.line_place.specs.declared.line.Extents.{Extents}
use Rattle.line_place.specs.declared.line.LineBox.{LineBox}
use Rattle.line_place.specs.Line as place
use Rattle.line_place.specs.Runs.{are_alike, is_place, stand_alike}
use Rattle.para_prepare.specs.declared.item.PreparedContent.{PreparedContent}
use Rattle.para_prepare.specs.declared.item.PreparedContent.TheVariants.{Unit, Combined, Atom, Break}
use Rattle.para_lines.specs.declared.boxes.Round.{Round}
use Rattle.para_lines.specs.declared.paragraph.Container.{Container}
use Rattle.para_lines.specs.Standing as code
use Rattle.para_lines.specs.Edges.{shifts}
use Rattle.para_lines.specs.Filling.{is_space}
use Rattle.para_lines.specs.Lines as rule
use Rattle.para_lines.specs.Around.{fresh, has}
use Rattle.para_lines.specs.Boxes.{apart, chain_at, chain_behind, innermost, round_of}
use Rattle.para_lines.specs.Line.{IsAble, ItemsOn, box_on, content_in, first_atom, items_on, line_on, on_line, seat_in, standing_of, units_alike}
use Rattle.para_lines.specs.Lines.{innermost_in, place_in}
use Rattle.para_lines.proofs.Chaining.{none_apart}
use Rattle.para_lines.proofs.FillLaws.{chain_alone}

-- no box begins where an item comes from the same entry as the one before it
pub none_fresh : (entries : List Entry) (place : ℕ) (other : Option ℕ) (places : List ℕ) → other ≡ Some place → places ≡ places ++ fresh (chain_at entries place) (chain_behind entries other)
none_fresh entries place other places at_ =
    sym (ap (λ (o : Option ℕ). places ++ fresh (chain_at entries place) (chain_behind entries o)) at_
    ∙ ap (λ (bs : List ℕ). places ++ reverse bs) (none_apart (chain_at entries place) (chain_at entries place) (λ box in_. in_)) ∙ append-nil places)

-- no box stands on a line of a paragraph of one item
pub none_alone : (entries : List Entry) (standings : List code.Standing) → length entries ≡ 1 → All (IsAble (length entries)) standings → [] ≡ on_line entries [] standings
none_alone entries [] one able = refl
none_alone entries (standing ∷ standings) one able =
    let source : IsAble (length entries) standing = able 0 standing (omega arith) in
    let none : chain_at entries standing.item.source ≡ [] = chain_alone entries standing.item.source one (first_of source.source) in
    none_alone entries standings one (λ k d less. able (suc k) d (omega arith))
    ∙ ap (λ (chain : List ℕ). fresh chain [] ++ rule.boxes_on chain (map (standing_of entries) standings)) (sym none) where
      first_of : standing.item.source < length entries → standing.item.source < 1
      first_of less = omega arith

-- the boxes from one on are seated
pub record Seating (places seats old : List ℕ) (left : ℕ) : Type 0 where
  pub within : left ≤ length places
  pub same : length seats ≡ length old
  pub told : (box : ℕ) → has (drop left places) box ≡ true → (box < length seats) × (get_or seats box 0 ≡ left + place_in (drop left places) box)

-- the place in the list of the innermost box of a chain
pub innermost_is : (boxes chain : List ℕ) → innermost_in boxes chain ≡ option_map (place_in boxes) (innermost chain)
innermost_is boxes [] = refl
innermost_is boxes (box ∷ chain) = refl

-- ---- a box of a line

abbrev pub box_with : ℕ → Option ℕ → Extents → Direction → ℤ → ℤ → ℤ → ℤ → ℤ → ℤ → Bool → Bool → LineBox
box_with node outer extents dir left right over under left_margin right_margin first last = record {
  node = node;
  outer = outer;
  extents = extents;
  dir = dir;
  left = left;
  right = right;
  over = over;
  under = under;
  left_margin = left_margin;
  right_margin = right_margin;
  first = first;
  last = last;
}

pub line_box_is : (node node2 : ℕ) (outer outer2 : Option ℕ) (extents extents2 : Extents) (dir dir2 : Direction) (a a2 b b2 o o2 u u2 m m2 n n2 : ℤ) (first first2 last last2 : Bool)
    → node ≡ node2 → outer ≡ outer2 → extents ≡ extents2 → dir ≡ dir2 → a ≡ a2 → b ≡ b2 → o ≡ o2 → u ≡ u2 → m ≡ m2 → n ≡ n2 → first ≡ first2 → last ≡ last2
    → box_with node outer extents dir a b o u m n first last ≡ box_with node2 outer2 extents2 dir2 a2 b2 o2 u2 m2 n2 first2 last2
line_box_is node node2 outer outer2 extents extents2 dir dir2 a a2 b b2 o o2 u u2 m m2 n n2 first first2 last last2 e1 e2 e3 e4 e5 e6 e7 e8 e9 e10 e11 e12 =
    rw (e1, e2, e3, e4, e5, e6, e7, e8, e9, e10, e11, e12) refl

-- ---- an item of a line

abbrev item_with : ℕ → BidiClass → ℤ → Option ℕ → Bool → Option ℕ → place.Content → place.Item
item_with level class extent inside space apart what = record { level = level; class = class; extent = extent; inside = inside; space = space; apart = apart; what = what }

content_by : (entries : List Entry) (chain : List ℕ) (what : PreparedContent) (atom : rule.Atom) → content_in (shifts entries chain) what atom ≡ rule.content_of entries chain atom what
content_by entries chain (Unit form space node first end_ advance glyphs) atom = refl
content_by entries chain (Combined node first end_ advance natural glyphs) atom = refl
content_by entries chain (Atom name) atom = refl
content_by entries chain (Break node) atom = refl

pub line_item_is : (entries : List Entry) (boxes : List ℕ) (standing : code.Standing) (round : Round) (extent : ℤ) (inside : Option ℕ) (space : Bool) (what : place.Content)
    → round ≡ round_of entries (chain_at entries standing.item.source) → extent ≡ standing.extent → inside ≡ option_map (place_in boxes) round.inside → space ≡ is_space standing.item.what
    → what ≡ content_in round.shifts standing.item.what (first_atom standing.atoms)
    → item_with standing.level standing.class extent inside space standing.item.apart what ≡ rule.line_item entries boxes (standing_of entries standing)
line_item_is entries boxes standing round extent inside space what is e f g h =
    let chain : List ℕ = chain_at entries standing.item.source in
    let i : inside ≡ innermost_in boxes chain = f ∙ ap (λ (r : Round). option_map (place_in boxes) r.inside) is ∙ sym (innermost_is boxes chain) in
    let w : what ≡ rule.content_of entries chain (first_atom standing.atoms) standing.item.what =
    h ∙ ap (λ (r : Round). content_in r.shifts standing.item.what (first_atom standing.atoms)) is ∙ content_by entries chain standing.item.what (first_atom standing.atoms) in
    rw (e, i, g, w) refl

content_alike : (entries : List Entry) (chain chain2 : List ℕ) (atom atom2 : rule.Atom) (one other : PreparedContent)
    → are_alike (rule.content_of entries chain atom one) (rule.content_of entries chain2 atom2 other) ≡ units_alike one other
content_alike entries chain chain2 atom atom2 (Unit form space node first end_ advance glyphs) (Unit form' space' node' first' end' advance' glyphs') = refl
content_alike entries chain chain2 atom atom2 (Unit form space node first end_ advance glyphs) (Combined node' first' end' advance' natural glyphs') = refl
content_alike entries chain chain2 atom atom2 (Unit form space node first end_ advance glyphs) (Atom name) = refl
content_alike entries chain chain2 atom atom2 (Unit form space node first end_ advance glyphs) (Break node') = refl
content_alike entries chain chain2 atom atom2 (Combined node first end_ advance natural glyphs) other = refl
content_alike entries chain chain2 atom atom2 (Atom name) other = refl
content_alike entries chain chain2 atom atom2 (Break node) other = refl

-- whether two items may stand in one run is told by what is prepared of them and by their places among the boxes
pub alike_is : (entries : List Entry) (places : List ℕ) (one other : code.Standing) (units together : Bool) → units ≡ units_alike one.item.what other.item.what
    → together ≡ is_place (innermost_in places (chain_at entries one.item.source)) (innermost_in places (chain_at entries other.item.source))
    → (units && together) ≡ stand_alike (rule.line_item entries places (standing_of entries one)) (rule.line_item entries places (standing_of entries other))
alike_is entries places one other units together alike is =
    let chain : List ℕ = chain_at entries one.item.source in
    let chain2 : List ℕ = chain_at entries other.item.source in
    ap (λ b. units && b) is
    ∙ ap (λ b. b && is_place (innermost_in places chain) (innermost_in places chain2))
    (alike ∙ sym (content_alike entries chain chain2 (first_atom one.atoms) (first_atom other.atoms) one.item.what other.item.what))

-- whether the items at two places of a line may stand in one run
pub alike_at : (own : ItemsOn) (at_one other : ℕ) (one next : code.Standing) (units together : Bool) (d : place.Item) → at_one < length (items_on own) → other < length (items_on own)
    → one ≡ get_or own.standings at_one one → next ≡ get_or own.standings other one → units ≡ units_alike one.item.what next.item.what
    → together ≡ is_place (seat_in own (get_or own.standings at_one one)) (seat_in own (get_or own.standings other one))
    → (units && together) ≡ stand_alike (get_or (items_on own) at_one d) (get_or (items_on own) other d)
alike_at own at_one other one next units together d lt lt2 at_ at2 alike is =
    let entries : List Entry = own.seated.boxes.now in
    let made : code.Standing → place.Item = λ s. rule.line_item entries own.seated.places.now (standing_of entries s) in
    let many = length-map own.standings made in
    let x : code.Standing = get_or own.standings at_one one in
    let y : code.Standing = get_or own.standings other one in
    alike_is entries own.seated.places.now x y units together
    (alike ∙ ap (λ (s : code.Standing). units_alike s.item.what next.item.what) at_ ∙ ap (λ (s : code.Standing). units_alike x.item.what s.item.what) at2) is
    ∙ sym (ap (λ (i : place.Item). stand_alike i (get_or (items_on own) other d)) (get_or-map made own.standings at_one one d (omega (arith, many, lt)))
    ∙ ap (stand_alike (made x)) (get_or-map made own.standings other one d (omega (arith, many, lt2))))

is_own_place : (place : Option ℕ) → is_place place place ≡ true
is_own_place None = refl
is_own_place (Some place) = eq-eqb place place refl

-- what comes from one entry stands inside the same box
pub in_one_place : (entries : List Entry) (places : List ℕ) (source other : ℕ) → source ≡ other
    → is_place (innermost_in places (chain_at entries source)) (innermost_in places (chain_at entries other)) ≡ true
in_one_place entries places source other same =
    ap (λ (s : ℕ). is_place (innermost_in places (chain_at entries source)) (innermost_in places (chain_at entries s))) (sym same)
    ∙ is_own_place (innermost_in places (chain_at entries source))

abbrev atom_with : Pieces → ℤ → ℤ → ℤ → ℤ → place.Content
atom_with fragment left over_margin over under = place.atom fragment left over_margin over under

pub atom_is : (fragment fragment2 : Pieces) (l l2 m m2 o o2 u u2 : ℤ) → fragment ≡ fragment2 → l ≡ l2 → m ≡ m2 → o ≡ o2 → u ≡ u2 → atom_with fragment l m o u ≡ atom_with fragment2 l2 m2 o2 u2
atom_is fragment fragment2 l l2 m m2 o o2 u u2 a b c d e = rw (a, b, c, d, e) refl

-- ---- a whole line

abbrev line_with : ℕ → Align → ℤ → Extents → List place.Item → List LineBox → place.Line
line_with base align available strut items boxes = record { base = base; align = align; available = available; strut = strut; items = items; boxes = boxes }

both_is : (base base2 : ℕ) (align : Align) (size size2 : ℤ) (strut strut2 : Extents) (items items2 : List place.Item) (boxes boxes2 : List LineBox)
    → base ≡ base2 → size ≡ size2 → strut ≡ strut2 → items ≡ items2 → boxes ≡ boxes2 → line_with base align size strut items boxes ≡ line_with base2 align size2 strut2 items2 boxes2
both_is base base2 align size size2 strut strut2 items items2 boxes boxes2 a b c d e = rw (a, b, c, d, e) refl

pub line_is : (tables : List (Option Table)) (container : Container) (entries : List Entry) (before after places : List ℕ) (standings : List code.Standing) (base : ℕ) (size : ℤ) (strut : Extents)
    (items : List place.Item) (boxes : List LineBox) → places ≡ on_line entries [] standings → base ≡ rule.first_base (map (standing_of entries) standings) → size ≡ container.size
    → strut ≡ rule.extents_in tables container container.style (pos 0) → items ≡ map (λ standing. rule.line_item entries places (standing_of entries standing)) standings
    → boxes ≡ map (rule.line_box tables container entries places before after) places
    → line_with base container.style.align size strut items boxes ≡ rule.line tables container entries before after (map (standing_of entries) standings)
line_is tables container entries before after places standings base size strut items boxes on is_base is_size is_strut are_items are_boxes =
    both_is _ _ container.style.align _ _ _ _ _ _ _ _ is_base is_size is_strut
    (are_items ∙ sym (map-map (rule.line_item entries places) (standing_of entries) standings) ∙ ap (λ (bs : List ℕ). map (rule.line_item entries bs) (map (standing_of entries) standings)) on)
    (are_boxes ∙ ap (λ (bs : List ℕ). map (rule.line_box tables container entries bs before after) bs) on)

pub frame_is : (tables : List (Option Table)) (inside own : ItemsOn) (base : ℕ) (size : ℤ) (strut : Extents) (boxes : List LineBox) → inside ≡ own → inside.seated.places.now ≡ on_line inside.seated.boxes.now [] inside.standings
    → base ≡ rule.first_base (map (standing_of inside.seated.boxes.now) inside.standings) → size ≡ inside.seated.container.now.size
    → strut ≡ rule.extents_in tables inside.seated.container.now inside.seated.container.now.style (pos 0) → boxes ≡ map (box_on own.seated tables) own.seated.places.now
    → line_with base inside.seated.container.now.style.align size strut (items_on own) boxes ≡ line_on tables own
frame_is tables inside own base size strut boxes same on is_base is_size is_strut are_boxes =
    let P : ItemsOn → Type 0 = λ o. boxes ≡ map (box_on o.seated tables) o.seated.places.now → line_with base inside.seated.container.now.style.align size strut (items_on o) boxes ≡ line_on tables o in
    subst P same
    (line_is tables inside.seated.container.now inside.seated.boxes.now _ _ inside.seated.places.now inside.standings base size strut _ boxes on is_base is_size is_strut refl)
    are_boxes
