-- The items of a line among all of a paragraph, and how far they reach.
use Rattle.std.proofs.Common.{◌≡◌, ◌∙◌, refl, sym, ap, arith, subst, ℕ, zero, suc, ◌+◌, ◌-◌, ◌<◌, ◌≤◌, ◌^◌, List, [], ◌∷◌, length, map, get_or, drop, take, Option, ℤ, ◌+ℤ◌, ◌-ℤ◌, unsigned_abs}
use Rattle.std.specs.Prelude.{All}
use Rattle.std.specs.List.{slice_range}
use Rattle.std.proofs.lemmas.Int.{ints, clamps}
use Rattle.std.proofs.lemmas.List.{drop_all, get_or-drop, get_or-take, length-drop, length-map, length-take-le}
use Rattle.std.proofs.lemmas.List.Elements.{All-cons}
use Rattle.wm_units.specs.Numbers.{cap}
use Rattle.face_api.specs.Table.{Table}
use Rattle.fragment_types.specs.Item.{Entry}
use Rattle.line_place.specs.Line.{Item, Line}
use Rattle.line_place.specs.Reach.{AreNear, HasLimit, IsInLimit, total}
use Rattle.line_place.proofs.SumLaws.{total_rest}
use Rattle.para_prepare.specs.declared.item.PreparedContent.{PreparedContent}
use Rattle.para_prepare.specs.declared.item.PreparedContent.TheVariants.{Unit, Combined, Atom, Break}
use Rattle.para_lines.specs.declared.paragraph.Container.{Container}
use Rattle.para_lines.specs.Standing as code
use Rattle.para_lines.specs.declared.seated.Seated as code_seated
use Rattle.para_lines.specs.Boxes.{chain_at, chain_behind}
use Rattle.para_lines.specs.Edges.{raised_in, shifts}
use Rattle.para_lines.specs.Line.{ItemsOn, RiseIn, line_on, standing_of}
use Rattle.para_lines.specs.Lines as rule
use Rattle.para_lines.specs.Lines.{Standing, chain_of_first, chain_of_last, line, line_item}
use Rattle.para_lines.specs.Reach.{atom_part, standing_reach}
use Rattle.para_lines.specs.Setting.{line_between}
use Rattle.para_lines.proofs.StackLaws.{range_map, total_part}

-- ---- both sides of a line

pub last_chain : (entries : List Entry) (standings : List code.Standing) (before : List ℕ) (k : ℕ) (d : code.Standing) → k < length standings
    → chain_at entries (get_or standings k d).item.source ≡ chain_of_last before (take (suc k) (map (standing_of entries) standings))
last_chain entries [] before k d lt = absurd (omega arith)
last_chain entries (s ∷ standings) before zero d lt = refl
last_chain entries (s ∷ standings) before (suc k) d lt = last_chain entries standings (chain_at entries s.item.source) k d (omega arith)

pub first_chain : (entries : List Entry) (standings : List code.Standing) (k : ℕ) (d : code.Standing) → k < length standings
    → chain_at entries (get_or standings k d).item.source ≡ chain_of_first (drop k (map (standing_of entries) standings))
first_chain entries [] k d lt = absurd (omega arith)
first_chain entries (s ∷ standings) zero d lt = refl
first_chain entries (s ∷ standings) (suc k) d lt = first_chain entries standings k d (omega arith)

pub none_behind : (entries : List Entry) (standings : List code.Standing) (k : ℕ) → length standings ≤ k → [] ≡ chain_of_first (drop k (map (standing_of entries) standings))
none_behind entries standings k past =
    let l = length-map standings (standing_of entries) in sym (ap chain_of_first (drop_all k (map (standing_of entries) standings) (omega arith)))

-- ---- some of all items

range_length : {X : Type 0} (xs : List X) (from end_ : ℕ) → end_ ≤ length xs → length (slice_range xs from end_) ≡ end_ - from
range_length xs from end_ within = let d = length-drop from xs in length-take-le (end_ - from) (drop from xs) (omega arith)

pub all_range : {X : Type 0} (P : X → Type 0) (xs : List X) (from end_ : ℕ) → from ≤ end_ → end_ ≤ length xs → All P xs → All P (slice_range xs from end_)
all_range P xs from end_ le within h = λ k d lt.
    let n = range_length xs from end_ within in
    let e = get_or-take (end_ - from) (drop from xs) k d (omega arith) ∙ get_or-drop from xs k d in
    subst P (sym e) (h (from + k) d (omega arith))

rise_less : (low high : ℕ) (xs : List code.Standing) → low ≤ high → RiseIn high xs → RiseIn low xs
rise_less low high [] le h = tt
rise_less low high (x ∷ xs) le h = let a = h.0 in (omega arith, h.1)

rise_rest : (low : ℕ) (xs : List code.Standing) (k : ℕ) → RiseIn low xs → RiseIn low (drop k xs)
rise_rest low xs zero h = h
rise_rest low [] (suc k) h = tt
rise_rest low (x ∷ xs) (suc k) h = rise_less low x.item.source (drop k xs) h.0 (rise_rest x.item.source xs k h.1)

rise_part : (low : ℕ) (xs : List code.Standing) (k : ℕ) → RiseIn low xs → RiseIn low (take k xs)
rise_part low xs zero h = tt
rise_part low [] (suc k) h = tt
rise_part low (x ∷ xs) (suc k) h = (h.0, rise_part x.item.source xs k h.1)

pub rise_range : (xs : List code.Standing) (from end_ : ℕ) → RiseIn 0 xs → RiseIn 0 (slice_range xs from end_)
rise_range xs from end_ h = rise_part 0 (drop from xs) (end_ - from) (rise_rest 0 xs from h)

pub total_range : {X : Type 0} (reach : X → ℕ) (xs : List X) (from end_ : ℕ) → total reach (slice_range xs from end_) ≤ total reach xs
total_range reach xs from end_ = let a = total_part reach (drop from xs) (end_ - from) in let b = total_rest reach xs from in omega arith

-- ---- how far a line reaches over and under its baseline

abs_add : (a b : ℤ) → unsigned_abs (a +ℤ b) ≤ unsigned_abs a + unsigned_abs b
abs_add a b = omega (arith, ints)

abs_less : (a b : ℤ) → unsigned_abs (a -ℤ b) ≤ unsigned_abs a + unsigned_abs b
abs_less a b = omega (arith, ints)

cap_near : (z : ℤ) → unsigned_abs (cap z) ≤ 2 ^ 32
cap_near z = omega (arith, ints, clamps)

raised_near : (entries : List Entry) (shift : ℤ) (chain : List ℕ) → unsigned_abs (raised_in entries shift chain) ≤ 2 ^ 32
raised_near entries shift chain = cap_near (shift +ℤ shifts entries chain)

item_limit : (entries : List Entry) (limit : ℕ) (chain : List ℕ) (what : PreparedContent) (atom : rule.Atom) → atom_part what atom ≤ limit → IsInLimit limit (rule.content_of entries chain atom what)
item_limit entries limit chain (Unit form space node first end_ advance glyphs) atom h = tt
item_limit entries limit chain (Combined node first end_ advance natural glyphs) atom h = tt
item_limit entries limit chain (Break node) atom h = tt
item_limit entries limit chain (Atom name) atom h =
    let r = raised_near entries atom.shift chain in
    let a = abs_add atom.over (raised_in entries atom.shift chain) in
    let b = abs_less atom.under (raised_in entries atom.shift chain) in
    (omega arith, omega arith)

items_limit : (entries : List Entry) (boxes : List ℕ) (limit : ℕ) (own : List Standing) → total standing_reach own ≤ limit → All (λ item. IsInLimit limit item.what) (map (line_item entries boxes) own)
items_limit entries boxes limit [] h = λ k d lt. absurd (omega arith)
items_limit entries boxes limit (s ∷ own) h =
    All-cons (λ (item : Item). IsInLimit limit item.what) (line_item entries boxes s) (map (line_item entries boxes) own)
    (item_limit entries limit s.chain s.item.what s.atom (omega arith)) (items_limit entries boxes limit own (omega arith))

pub limit_of : (tables : List (Option Table)) (container : Container) (entries : List Entry) (before after : List ℕ) (own : List Standing) (made : Line)
    → made ≡ line tables container entries before after own → AreNear made.strut → All (λ b. AreNear b.extents) made.boxes → HasLimit (2 ^ 34 + total standing_reach own) made
limit_of tables container entries before after own made is strut boxes =
    let P : List Item → Type 0 = λ items. All (λ item. IsInLimit (2 ^ 34 + total standing_reach own) item.what) items in
    let o = strut.over in
    let u = strut.under in
    record {
      strut_over = omega arith;
      strut_under = omega arith;
      boxes = λ k d lt. let b = boxes k d lt in let x = b.over in let y = b.under in (omega arith, omega arith);
      items = subst P (sym (ap (λ (l : Line). l.items) is)) (items_limit entries (rule.boxes_on [] own) (2 ^ 34 + total standing_reach own) own (omega arith));
    }

-- ---- the line of some items

pub between_is : (tables : List (Option Table)) (container : Container) (entries : List Entry) (standings : List code.Standing) (from end_ : ℕ)
    → line tables container entries (chain_of_last [] (take from (map (standing_of entries) standings))) (chain_of_first (drop end_ (map (standing_of entries) standings)))
    (map (standing_of entries) (slice_range standings from end_))
    ≡ line_between tables container entries (map (standing_of entries) standings) from end_
between_is tables container entries standings from end_ =
    ap (line tables container entries (chain_of_last [] (take from (map (standing_of entries) standings))) (chain_of_first (drop end_ (map (standing_of entries) standings))))
    (sym (range_map (standing_of entries) standings from end_))

abbrev pub items_with : code_seated.Seated → List code.Standing → ItemsOn
items_with seated standings = record { seated = seated; standings = standings }

-- the line of the same items
pub on_same : (tables : List (Option Table)) (made : Line) (own : ItemsOn) (seated : code_seated.Seated) (one other : List code.Standing) → made ≡ line_on tables own
    → own ≡ items_with seated one → one ≡ other → made ≡ line_on tables (items_with seated other)
on_same tables made own seated one other is own_is same = is ∙ ap (line_on tables) (own_is ∙ ap (items_with seated) same)

pub line_is : (tables : List (Option Table)) (container : Container) (entries : List Entry) (standings : List code.Standing) (before after : Option ℕ) (from end_ : ℕ) (made : Line)
    → made ≡ line tables container entries (chain_behind entries before) (chain_behind entries after) (map (standing_of entries) (slice_range standings from end_))
    → chain_behind entries before ≡ chain_of_last [] (take from (map (standing_of entries) standings)) → chain_behind entries after ≡ chain_of_first (drop end_ (map (standing_of entries) standings))
    → made ≡ line_between tables container entries (map (standing_of entries) standings) from end_
line_is tables container entries standings before after from end_ made is b a =
    is
    ∙ ap (λ (x : List ℕ). line tables container entries x (chain_behind entries after) (map (standing_of entries) (slice_range standings from end_))) b
    ∙ ap (λ (x : List ℕ). line tables container entries (chain_of_last [] (take from (map (standing_of entries) standings))) x (map (standing_of entries) (slice_range standings from end_))) a
    ∙ between_is tables container entries standings from end_
