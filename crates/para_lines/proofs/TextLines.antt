-- A line of a paragraph that is one run of text outside all inline boxes, item by item.
use Rattle.std.proofs.Common.{◌≡◌, ◌∙◌, refl, sym, ap, arith, true, ℕ, suc, ◌+◌, ◌-◌, ◌<◌, ◌≤◌, List, [], ◌∷◌, ◌++◌, length, map, get_or, take, drop, None, pos, ◌+ℤ◌}
use Rattle.std.specs.Prelude.{All}
use Rattle.std.proofs.Math.Seq.{take-suc}
use Rattle.std.specs.List.{slice_range}
use Rattle.std.proofs.lemmas.List.{length-map, map_push, take-map}
use Rattle.fragment_types.specs.RunUnit.{RunUnit}
use Rattle.std.proofs.lemmas.List.Elements.{All-map, All-weaker}
use Rattle.fragment_types.specs.Item.{Entry}
use Rattle.line_place.specs.Leaves.{are_spaces}
use Rattle.line_place.specs.Reach.{item_reach, total}
use Rattle.line_place.specs.LineText as place_text
use Rattle.line_place.specs.Placing.{unit_with}
use Rattle.line_place.specs.LineText.{IsTextItem, extent_in, unit_in}
use Rattle.line_place.proofs.SumLaws.{back_of}
use Rattle.para_prepare.specs.declared.item.PreparedContent.{PreparedContent}
use Rattle.para_prepare.specs.declared.item.PreparedContent.TheVariants.{Unit, Combined, Atom, Break}
use Rattle.para_lines.specs.Standing as code
use Rattle.para_lines.specs.declared.text.Text as code_text
use Rattle.para_lines.specs.declared.text.TextName.{TextName}
use Rattle.para_lines.specs.Boxes.{chain_at, innermost}
use Rattle.para_lines.specs.Filling.{is_space}
use Rattle.para_lines.specs.Line.{ItemsOn, content_in, first_atom, items_on, standing_of}
use Rattle.para_lines.specs.Lines as rule
use Rattle.para_lines.specs.Lines.{line_item}
use Rattle.para_lines.specs.Text.{IsText, IsUnitFrom, bare}
use Rattle.para_lines.proofs.StackLaws.{total_part}

pub no_chain : (chain : List ℕ) → innermost chain ≡ None → chain ≡ []
no_chain [] is = refl
no_chain (box ∷ chain) is = cc

-- ---- the Spaces at the end

pub one_space : (standings : List code.Standing) (n : ℕ) (x : code.Standing) → 0 < n → n ≤ length standings → x ≡ get_or standings (n - 1) x → is_space x.item.what ≡ true
    → are_spaces (drop n (map bare standings)) ≡ true → are_spaces (drop (n - 1) (map bare standings)) ≡ true
one_space standings n x some le read space after = ap are_spaces (back_of bare standings n x some le read) ∙ rw (space, after) refl

-- ---- the items

pub units_found : (entries : List Entry) (source : ℕ) (name : TextName) (standings : List code.Standing) → chain_at entries source ≡ [] → All (IsUnitFrom source name) standings
    → All (λ standing. chain_at entries standing.item.source ≡ []) standings × All (IsTextItem name.node name.form) (map bare standings)
units_found entries source name standings none are = (
  All-weaker (IsUnitFrom source name) (λ standing. chain_at entries standing.item.source ≡ []) (λ s own. ap (chain_at entries) own.from ∙ none) standings are,
  All-map (IsTextItem name.node name.form) bare standings (All-weaker (IsUnitFrom source name) (λ standing. IsTextItem name.node name.form (bare standing)) (λ s own. own.item) standings are),
)

content_bare : (entries : List Entry) (what : PreparedContent) (atom : rule.Atom) → rule.content_of entries [] atom what ≡ content_in (pos 0) what atom
content_bare entries (Unit form space node first end_ advance glyphs) atom = refl
content_bare entries (Combined node first end_ advance natural glyphs) atom = refl
content_bare entries (Atom name) atom = refl
content_bare entries (Break node) atom = refl

item_bare : (entries : List Entry) (boxes : List ℕ) (s : code.Standing) → chain_at entries s.item.source ≡ [] → line_item entries boxes (standing_of entries s) ≡ bare s
item_bare entries boxes s none = rw (none, content_bare entries s.item.what (first_atom s.atoms)) refl

-- ---- the text

pub text_is : (standings : List code.Standing) (entries : List Entry) (t : code_text.Text) (own : place_text.Text) → IsText entries standings t
    → own.node ≡ t.name.node → own.form ≡ t.name.form → own.extent ≡ extent_in (map bare (take t.count standings)) → own.units ≡ map unit_in (map bare (take t.count standings))
    → place_text.IsLineText own (map bare standings)
text_is standings entries t own is node form extent units =
    let l = length-map standings bare in
    let within = is.solid.within in
    let named : All (IsTextItem own.node own.form) (map bare standings) = rw (node, form) is.items in
    let front : take t.count (map bare standings) ≡ map bare (take t.count standings) = take-map bare t.count standings in
    record {
      are = named;
      count = t.count;
      solid = record { some = is.some; within = omega arith; last = is.solid.last is.some; spaces = is.solid.spaces };
      extent = extent ∙ ap extent_in (sym front);
      units = units ∙ ap (map unit_in) (sym front);
    }

-- ---- some of them

pub from_first : (standings : List code.Standing) (n : ℕ) → slice_range standings 0 n ≡ take n standings
from_first standings n = ap (λ m. take m standings) (whole n) where
  whole : (n : ℕ) → n - 0 ≡ n
  whole n = omega arith

-- what some of them show, with one more
pub units_more : (standings : List code.Standing) (k : ℕ) (own : code.Standing) (made more : List RunUnit) (unit : RunUnit) → k < length standings → own ≡ get_or standings k own
    → made ≡ map unit_in (map bare (take k standings)) → unit ≡ unit_in (bare own) → more ≡ made ++ unit ∷ [] → more ≡ map unit_in (map bare (take (k + 1) standings))
units_more standings k own made more unit lt read are is pushed =
    pushed
    ∙ ap (λ (us : List RunUnit). us ++ unit ∷ []) are
    ∙ ap (λ (u : RunUnit). map unit_in (map bare (take k standings)) ++ u ∷ []) is
    ∙ sym (map_push unit_in (map bare (take k standings)) (bare own))
    ∙ ap (map unit_in) (sym (map_push bare (take k standings) own))
    ∙ ap (λ (s : code.Standing). map unit_in (map bare (take k standings ++ s ∷ []))) read
    ∙ ap (λ (ss : List code.Standing). map unit_in (map bare ss)) (sym (take-suc standings k own lt))
    ∙ ap (λ n. map unit_in (map bare (take n standings))) (up k) where
      up : (k : ℕ) → suc k ≡ k + 1
      up k = omega arith

-- ---- lengths

pub take_reach : (standings : List code.Standing) (n : ℕ) → total item_reach (map bare (take n standings)) ≤ total item_reach (map bare standings)
take_reach standings n = let e = ap (total item_reach) (take-map bare n standings) in let t = total_part item_reach (map bare standings) n in omega arith

-- ---- sums from the end on

pub extent_back : (standings : List code.Standing) (from : ℕ) (x : code.Standing) → 0 < from → from ≤ length standings → x ≡ get_or standings (from - 1) x
    → extent_in (drop (from - 1) (map bare standings)) ≡ x.extent +ℤ extent_in (drop from (map bare standings))
extent_back standings from x some le is = ap extent_in (back_of bare standings from x some le is)

-- the items of a line outside all inline boxes
pub items_are_bare : (own : ItemsOn) → All (λ standing. chain_at own.seated.boxes.now standing.item.source ≡ []) own.standings → items_on own ≡ map bare own.standings
items_are_bare own none = one_by_one own.seated.boxes.now own.seated.places.now own.standings none where
  one_by_one : (entries : List Entry) (boxes : List ℕ) (standings : List code.Standing) → All (λ standing. chain_at entries standing.item.source ≡ []) standings
      → map (λ standing. line_item entries boxes (standing_of entries standing)) standings ≡ map bare standings
  one_by_one entries boxes [] none = refl
  one_by_one entries boxes (s ∷ standings) none =
      rw (item_bare entries boxes s (none 0 s (omega arith)), one_by_one entries boxes standings (λ k d lt. none (suc k) d (omega arith))) refl

-- what an item shows as a unit of a run hangs on no box
pub unit_bare : (entries : List Entry) (boxes : List ℕ) (s : code.Standing) → unit_in (line_item entries boxes (standing_of entries s)) ≡ unit_in (bare s)
unit_bare entries boxes s = by_what s.item.what where
  by_what : (what : PreparedContent) → unit_with (rule.content_of entries (chain_at entries s.item.source) (first_atom s.atoms) what) s.extent ≡ unit_with (content_in (pos 0) what (first_atom s.atoms)) s.extent
  by_what (Unit form space node first end_ advance glyphs) = refl
  by_what (Combined node first end_ advance natural glyphs) = refl
  by_what (Atom name) = refl
  by_what (Break node) = refl
