-- What is made of units and items at level 0, one after the other.
use Rattle.std.proofs.Common.{◌≡◌, refl, sym, ap, subst, ◌∙◌, ℕ, ◌+◌, ◌<◌, ◌≤◌, ◌≤ℤ◌, pos, Bool, List, [], ◌∷◌, ◌++◌, length, map, drop, slice_index_or, arith}
use Rattle.std.specs.Prelude.{All, Option, encode_utf8_all}
use Rattle.std.specs.List.{slice_range}
use Rattle.std.specs.Str.{chars}
use Rattle.std.proofs.lemmas.List.{drop_more, length-append, length-map, take_rest}
use Rattle.face_api.specs.Table.{Table}
use Rattle.fragment_types.specs.Item.{Entry, text, begins, ends, atom, line_break, entry_of, entries_of}
use Rattle.fragment_types.specs.declared.item.Item.{Item}
use Rattle.style_types.specs.declared.style.Style.{Style}
use Rattle.cluster_units.specs.Laws.{AreInOrder, IsUnitIn}
use Rattle.cluster_units.specs.declared.unit.Unit.{Unit}
use Rattle.para_prepare.specs.declared.letter.Letter.{Letter}
use Rattle.para_prepare.specs.Content.{parts}
use Rattle.para_prepare.specs.Flat.{Flat, HasRunBounds, Rises, flat_item, grown, nothing}
use Rattle.para_prepare.specs.Kept.{chars_of, ends_from, joined, kept, kept_in}
use Rattle.para_prepare.specs.Parts.{Part, Raw, control_of, item, parts_by, raws}
use Rattle.para_prepare.specs.Views.{HasOneSize, item_parts}
use Rattle.para_prepare.proofs.ContentLaws.{AreCut, begun, cut_more}
use Rattle.para_prepare.proofs.FlatLaws.{grown_append, grown_none}
use Rattle.para_prepare.proofs.InsideLaws.{raws_by}
use Rattle.para_prepare.proofs.PartsLaws.{stretch_bytes, stretch_length}
use Rattle.para_prepare.proofs.PreparationLaws.{whole}
use Rattle.para_prepare.proofs.SourceLaws.{chosen_rises, places_cover, slice_rises}

-- ---- the units of a text

-- units have been added as far as a place, and these are left
pub record AreGrown (made old : Flat) (upright : Bool) (raw : Unit → List Letter → Raw) (letters : List Letter) (at : ℕ) (left units : List Unit) : Type 0 where
  pub all : grown made (parts_by upright raw letters at left) ≡ grown old (parts_by upright raw letters 0 units)
  pub order : AreInOrder at (length letters) left
  pub within : at ≤ length letters

pub starts : (made : Flat) (upright : Bool) (raw : Unit → List Letter → Raw) (letters : List Letter) (units : List Unit)
    → AreInOrder 0 (length letters) units → AreGrown made made upright raw letters 0 units units
starts made upright raw letters units order = record { all = refl; order = order; within = omega arith }

pub first_of : (at end_ : ℕ) (left rest : List Unit) (unit : Unit) → AreInOrder at end_ left → left ≡ unit ∷ rest → IsUnitIn at end_ unit × AreInOrder unit.end end_ rest
first_of at end_ left rest unit order is = subst (AreInOrder at end_) is order

pub goes_on : (made controls more old : Flat) (upright : Bool) (raw : Unit → List Letter → Raw) (letters : List Letter) (at : ℕ) (left rest units : List Unit) (unit : Unit)
    → AreGrown made old upright raw letters at left units → left ≡ unit ∷ rest
    → controls ≡ grown made (map (control_of upright) (slice_range letters at unit.first))
    → more ≡ grown controls (item (raw unit (slice_range letters unit.first unit.end)) ∷ [])
    → AreGrown more old upright raw letters unit.end rest units
goes_on made controls more old upright raw letters at left rest units unit are is c m =
    let here = first_of at (length letters) left rest unit are.order is in
    let passed = map (control_of upright) (slice_range letters at unit.first) in
    let own = item (raw unit (slice_range letters unit.first unit.end)) in
    let later = parts_by upright raw letters unit.end rest in
    record {
      all =
          ap (λ more. grown more later) (m ∙ ap (λ controls. grown controls (own ∷ [])) c)
          ∙ grown_append (grown made passed) (own ∷ []) later ∙ grown_append made passed (own ∷ later)
          ∙ ap (λ left. grown made (parts_by upright raw letters at left)) (sym is) ∙ are.all;
      order = here.1;
      within = here.0.within;
    }

pub ends_so : (made more old : Flat) (upright : Bool) (raw : Unit → List Letter → Raw) (letters : List Letter) (at : ℕ) (left units : List Unit)
    → AreGrown made old upright raw letters at left units → left ≡ [] → more ≡ grown made (map (control_of upright) (slice_range letters at (length letters)))
    → more ≡ grown old (parts_by upright raw letters 0 units)
ends_so made more old upright raw letters at left units are none m =
    m ∙ ap (λ last. grown made (map (control_of upright) last)) (take_rest letters at)
    ∙ ap (λ left. grown made (parts_by upright raw letters at left)) (sym none) ∙ are.all

pub run_bounds : (style : Style) (unit : Unit) (letters : List Letter) (at : ℕ) → IsUnitIn at (length letters) unit → HasOneSize style unit → style.font_size ≤ℤ pos 65536 → Rises 0 letters
    → HasRunBounds unit (slice_range letters unit.first unit.end)
run_bounds style unit letters at is one high rises =
    let own = slice_range letters unit.first unit.end in
    let long = stretch_length letters unit.first unit.end is.within in
    let cover = places_cover 0 own (slice_rises 0 unit.first unit.end letters rises) in
    record {
      size = record { advance_low = is.advance_low; advance_high = is.advance_high; natural_low = is.natural_low; natural_high = is.natural_high };
      one = λ h. subst (λ advance. advance ≤ℤ pos 65536) (sym (one h)) high;
      places = omega arith;
    }

-- the same at a place among the units
pub goes_next : (made controls more old : Flat) (upright : Bool) (raw : Unit → List Letter → Raw) (letters : List Letter) (at : ℕ) (units : List Unit) (i : ℕ) (none : Unit)
    → AreGrown made old upright raw letters at (drop i units) units → i < length units
    → controls ≡ grown made (map (control_of upright) (slice_range letters at (slice_index_or units i none).first))
    → more ≡ grown controls (item (raw (slice_index_or units i none) (slice_range letters (slice_index_or units i none).first (slice_index_or units i none).end)) ∷ [])
    → AreGrown more old upright raw letters (slice_index_or units i none).end (drop (i + 1) units) units
goes_next made controls more old upright raw letters at units i none are lt c m =
    goes_on made controls more old upright raw letters at (drop i units) (drop (i + 1) units) units (slice_index_or units i none) are (drop_more units i none lt) c m

pub next_bounds : (style : Style) (letters : List Letter) (units : List Unit) (i : ℕ) (none : Unit) (at : ℕ)
    → i < length units → AreInOrder at (length letters) (drop i units) → All (HasOneSize style) units → style.font_size ≤ℤ pos 65536 → Rises 0 letters
    → HasRunBounds (slice_index_or units i none) (slice_range letters (slice_index_or units i none).first (slice_index_or units i none).end)
next_bounds style letters units i none at lt order one high rises =
    let unit = slice_index_or units i none in
    run_bounds style unit letters at (first_of at (length letters) (drop i units) (drop (i + 1) units) unit order (drop_more units i none lt)).0 (one i none lt) high rises

pub next_bytes : (letters : List Letter) (first end_ : ℕ) → length (encode_utf8_all (chars_of letters)) ≤ 1048576
    → length (encode_utf8_all (chars_of (slice_range letters first end_))) ≤ 1048576
next_bytes letters first end_ few = let fewer = stretch_bytes letters first end_ in omega arith

pub kept_rises : (entry : Entry) (marks : List Bool) → Rises 0 (kept_in entry marks)
kept_rises (text node bytes style) marks = chosen_rises 0 (chars bytes) marks
kept_rises (begins node style edges) marks = tt
kept_rises (ends node edges) marks = tt
kept_rises (atom name) marks = tt
kept_rises (line_break node) marks = tt

-- ---- a whole text

units_count : (at end_ : ℕ) (units : List Unit) → at ≤ end_ → AreInOrder at end_ units → at + length units ≤ end_
units_count at end_ [] within order = omega arith
units_count at end_ (unit ∷ units) within order =
    let rest = units_count unit.end end_ units order.0.within order.1 in
    let behind = order.0.behind in
    let some = order.0.some in
    omega arith

pub text_count : (letters : List Letter) (upright : Bool) (raw : Unit → List Letter → Raw) (units : List Unit) (old more : Flat)
    → AreInOrder 0 (length letters) units → more ≡ grown old (parts_by upright raw letters 0 units) → length more.items ≤ length old.items + length letters
text_count letters upright raw units old more order is =
    let own = parts_by upright raw letters 0 units in
    let all = ap (λ more. length more.items) is in
    let sum = length-append old.items (map flat_item (raws own)) in
    let many = length-map (raws own) flat_item in
    let same = ap length (raws_by upright raw letters 0 units) in
    let each = length-map units (λ u. raw u (slice_range letters u.first u.end)) in
    let few = units_count 0 (length letters) units (omega arith) order in
    omega arith

-- ---- the items of a paragraph

-- the items have been added as far as a place among the letters, and these are left
pub record AreLaid (faces : List (Option Table)) (left : List Entry) (source from : ℕ) (letters : List Letter) (ends_left : List ℕ) (made : Flat) (whole : List Part) : Type 0 where
  pub laid : List Part
  pub cut : AreCut faces left source from letters ends_left laid whole
  pub so : made ≡ grown nothing laid

pub laid_none : (faces : List (Option Table)) (entries : List Entry) (letters : List Letter) (all : List ℕ) (made : Flat)
    → letters ≡ joined (kept entries) → all ≡ ends_from 0 (kept entries) → made ≡ nothing → AreLaid faces entries 0 0 letters all made (parts faces entries)
laid_none faces entries letters all made are ends_are none =
    record { laid = []; cut = begun faces entries letters all [] are ends_are refl; so = none ∙ sym (grown_none nothing) }

pub laid_more : (faces : List (Option Table)) (items : List Item) (i from : ℕ) (own : Item) (letters : List Letter) (ends_ : List ℕ) (made more : Flat) (whole : List Part)
    → AreLaid faces (entries_of (drop i items)) i from letters (drop i ends_) made whole → i < length items → i < length ends_ → own ≡ slice_index_or items i own
    → more ≡ grown made (item_parts faces i (entry_of own) (slice_range letters from (slice_index_or ends_ i 0)))
    → AreLaid faces (entries_of (drop (i + 1) items)) (i + 1) (slice_index_or ends_ i 0) letters (drop (i + 1) ends_) more whole
laid_more faces items i from own letters ends_ made more whole a lt lt_ends is m =
    let added = item_parts faces i (entry_of own) (slice_range letters from (slice_index_or ends_ i 0)) in
    record {
      laid = a.laid ++ added;
      cut = cut_more faces items i from own letters ends_ a.laid (a.laid ++ added) whole a.cut lt lt_ends is refl;
      so = m ∙ ap (λ made. grown made added) a.so ∙ grown_append nothing a.laid added;
    }
