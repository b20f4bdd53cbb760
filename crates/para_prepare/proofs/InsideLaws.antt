-- The units inside a combined run, and the bidi text that they make with the controls between them.
use Rattle.std.proofs.Common.{append_assoc, ◌≡◌, refl, sym, ap, subst, ◌∙◌, ℕ, suc, ◌+◌, ◌-◌, ◌<◌, ◌≤◌, Bool, false, List, [], ◌∷◌, ◌++◌, length, map, drop, Option, None, arith}
use Rattle.std.specs.Prelude.{All}
use Rattle.std.specs.List.{slice_range}
use Rattle.std.proofs.lemmas.List.{length-take, length-drop}
use Rattle.std.proofs.lemmas.List.Elements.{All-cons}
use Rattle.std.proofs.lemmas.Simd.{map-map}
use Rattle.bidi_order.specs.Blanks.{reset}
use Rattle.bidi_order.specs.Reversals.{order}
use Rattle.cluster_units.specs.Laws.{AreInOrder, IsUnitIn}
use Rattle.cluster_units.specs.declared.unit.Unit.{Unit}
use Rattle.para_prepare.specs.BidiParagraphs.{begins}
use Rattle.para_prepare.specs.BidiText.{character, characters, unit_characters}
use Rattle.para_prepare.specs.Glyph.{class_of, last_class, letters_of}
use Rattle.face_api.specs.Living.{used_table}
use Rattle.face_api.specs.Table.{Table}
use Rattle.style_types.specs.declared.style.Combine.TheVariants.{Never}
use Rattle.style_types.specs.declared.style.Style.{Style}
use Rattle.wm_modes.specs.declared.mode.Direction.{Direction}
use Rattle.cluster_units.specs.Unit.{units_of}
use Rattle.para_prepare.specs.Inside.{inside, inside_by, inside_characters, level_of, seen_in_order}
use Rattle.para_prepare.specs.Kept.{chars_of}
use Rattle.para_prepare.specs.Parts.{Part, opens, closes, control, item, Raw, control_of, of_unit, parts_by, raws, sets_upright, used_direction}
use Rattle.para_prepare.specs.Standing.{levels_of, standings_by}
use Rattle.para_prepare.specs.Views.{IsUnitOf}
use Rattle.para_prepare.specs.declared.standing.Standing.{Standing}
use Rattle.wm_chars.specs.declared.classes.BidiClass.{BidiClass}
use Rattle.para_prepare.specs.declared.bidi_text.Character.{Character}
use Rattle.para_prepare.specs.declared.bidi_text.Role.TheVariants.{Divides}
use Rattle.para_prepare.specs.declared.letter.Letter.{Letter}
use Rattle.para_prepare.proofs.Begins.{begins_append, begins_unit}

-- ---- the items of the parts are the units

raws_behind : (upright : Bool) (controls : List Letter) (parts : List Part) → raws (map (control_of upright) controls ++ parts) ≡ raws parts
raws_behind upright [] parts = refl
raws_behind upright (l ∷ controls) parts = raws_behind upright controls parts

no_raws : (upright : Bool) (controls : List Letter) → raws (map (control_of upright) controls) ≡ []
no_raws upright [] = refl
no_raws upright (l ∷ controls) = no_raws upright controls

pub raws_by : (upright : Bool) (raw : Unit → List Letter → Raw) (letters : List Letter) (at : ℕ) (units : List Unit)
    → raws (parts_by upright raw letters at units) ≡ map (λ u. raw u (slice_range letters u.first u.end)) units
raws_by upright raw letters at [] = no_raws upright (drop at letters)
raws_by upright raw letters at (unit ∷ units) =
    let own = raw unit (slice_range letters unit.first unit.end) in
    raws_behind upright (slice_range letters at unit.first) (item own ∷ parts_by upright raw letters unit.end units)
    ∙ ap (λ later. own ∷ later) (raws_by upright raw letters unit.end units)

pub classes_by : (upright : Bool) (letters : List Letter) (at : ℕ) (units : List Unit)
    → map class_of (raws (parts_by upright (of_unit 0 0 upright) letters at units)) ≡ map (λ u. last_class upright (slice_range letters u.first u.end)) units
classes_by upright letters at units =
    ap (map class_of) (raws_by upright (of_unit 0 0 upright) letters at units)
    ∙ map-map class_of (λ u. of_unit 0 0 upright u (slice_range letters u.first u.end)) units

pub letters_by : (upright : Bool) (letters : List Letter) (at : ℕ) (units : List Unit)
    → map letters_of (raws (parts_by upright (of_unit 0 0 upright) letters at units)) ≡ map (λ u. slice_range letters u.first u.end) units
letters_by upright letters at units =
    ap (map letters_of) (raws_by upright (of_unit 0 0 upright) letters at units)
    ∙ map-map letters_of (λ u. of_unit 0 0 upright u (slice_range letters u.first u.end)) units

pub all_of : (at end_ : ℕ) (units : List Unit) → AreInOrder at end_ units → All (IsUnitOf end_) units
all_of at end_ [] order = λ k d lt. absurd (omega arith)
all_of at end_ (unit ∷ units) order =
    let some = order.0.some in
    All-cons (IsUnitOf end_) unit units (record { order = omega arith; within = order.0.within }) (all_of unit.end end_ units order.1)

-- ---- the text

characters_append : (parts more : List Part) → inside_characters (parts ++ more) ≡ inside_characters parts ++ inside_characters more
characters_append [] more = refl
characters_append (opens bidi dir ∷ parts) more = characters_append parts more
characters_append (closes ∷ parts) more = characters_append parts more
characters_append (control c class ∷ parts) more = ap (λ later. character c class Divides ∷ later) (characters_append parts more)
characters_append (item raw ∷ parts) more =
    ap (λ later. characters raw ++ later) (characters_append parts more) ∙ sym (append_assoc (characters raw) (inside_characters parts) (inside_characters more))

begins_controls : (upright : Bool) (controls : List Letter) → begins (inside_characters (map (control_of upright) controls)) ≡ 0
begins_controls upright [] = refl
begins_controls upright (l ∷ controls) = let rest = begins_controls upright controls in omega arith

-- the text has been put as far as a place, and these units are left
pub record AreRead (text : List Character) (upright : Bool) (letters : List Letter) (at : ℕ) (left units : List Unit) : Type 0 where
  pub whole : text ++ inside_characters (parts_by upright (of_unit 0 0 upright) letters at left) ≡ inside_characters (parts_by upright (of_unit 0 0 upright) letters 0 units)
  pub order : AreInOrder at (length letters) left
  pub within : at ≤ length letters
  pub count : begins text + length left ≡ length units

pub reads_on : (text controls more : List Character) (upright : Bool) (letters : List Letter) (at : ℕ) (left rest units : List Unit) (unit : Unit)
    → AreRead text upright letters at left units → left ≡ unit ∷ rest
    → controls ≡ text ++ inside_characters (map (control_of upright) (slice_range letters at unit.first))
    → more ≡ controls ++ unit_characters upright (slice_range letters unit.first unit.end)
    → AreRead more upright letters unit.end rest units
reads_on text controls more upright letters at left rest units unit read is c m =
    let here : IsUnitIn at (length letters) unit × AreInOrder unit.end (length letters) rest = subst (AreInOrder at (length letters)) is read.order in
    let own = slice_range letters unit.first unit.end in
    let between = map (control_of upright) (slice_range letters at unit.first) in
    let behind = parts_by upright (of_unit 0 0 upright) letters unit.end rest in
    let some = here.0.some in
    let end_ = here.0.within in
    let long : length own ≡ unit.end - unit.first = omega (arith, length-take (unit.end - unit.first) (drop unit.first letters), length-drop unit.first letters) in
    let one : begins (unit_characters upright own) ≡ 1 = begins_unit upright own (omega arith) in
    let none = begins_controls upright (slice_range letters at unit.first) in
    let first = ap begins c ∙ begins_append text (inside_characters between) in
    let then = ap begins m ∙ begins_append controls (unit_characters upright own) in
    let count = read.count in
    let fewer : length left ≡ suc (length rest) = ap length is in
    record {
      whole =
          ap (λ more. more ++ inside_characters behind) (m ∙ ap (λ controls. controls ++ unit_characters upright own) c)
          ∙ append_assoc (text ++ inside_characters between) (unit_characters upright own) (inside_characters behind)
          ∙ append_assoc text (inside_characters between) (unit_characters upright own ++ inside_characters behind)
          ∙ ap (λ later. text ++ later) (sym (characters_append between (item (of_unit 0 0 upright unit own) ∷ behind)))
          ∙ ap (λ left. text ++ inside_characters (parts_by upright (of_unit 0 0 upright) letters at left)) (sym is)
          ∙ read.whole;
      order = here.1;
      within = here.0.within;
      count = omega arith;
    }

pub reads_all : (text more : List Character) (upright : Bool) (letters controls : List Letter) (at : ℕ) (left units : List Unit)
    → AreRead text upright letters at left units → left ≡ [] → more ≡ text ++ inside_characters (map (control_of upright) controls) → begins more ≡ length units
reads_all text more upright letters controls at left units read none m =
    let count = read.count in
    let last = ap begins m ∙ begins_append text (inside_characters (map (control_of upright) controls)) in
    let no = begins_controls upright controls in
    let no_left = ap length none in
    omega arith

-- ---- the places of the visual order

pub places_fit : (levels : List ℕ) (units : List Unit) (own places : List ℕ) → places ≡ own → All (λ k. k < length levels) own → length levels ≡ length units
    → All (λ k. k < length units) places
places_fit levels units own places is below same = subst (λ n. All (λ k. k < n) places) same (subst (All (λ k. k < length levels)) (sym is) below)

-- ---- what is seen

pub inside_is : (base : ℕ) (upright : Bool) (letters : List Letter) (units : List Unit) (standings : List Standing) (levels : List ℕ) (classes : List BidiClass) (aparts : List (Option ℕ))
    → standings ≡ standings_by base false None (inside_characters (parts_by upright (of_unit 0 0 upright) letters 0 units)) (levels_of base (inside_characters (parts_by upright (of_unit 0 0 upright) letters 0 units)))
    → classes ≡ map (λ u. last_class upright (slice_range letters u.first u.end)) units
    → levels ≡ reset base (map (λ s. s.level) standings) classes → aparts ≡ map (λ s. s.apart) standings
    → seen_in_order levels aparts (map (λ u. slice_range letters u.first u.end) units) ≡ inside_by base (parts_by upright (of_unit 0 0 upright) letters 0 units)
inside_is base upright letters units standings levels classes aparts s c l a =
    let classes_are = c ∙ sym (classes_by upright letters 0 units) in
    rw l (rw a (rw classes_are (rw s (rw (letters_by upright letters 0 units) refl))))

pub inside_whole : (faces : List (Option Table)) (style single : Style) (letters : List Letter) (base : ℕ) (upright : Bool) (units : List Unit) (text : List ℕ) (dir : Direction) (glyphs : List (List ℕ))
    → single ≡ record style { combine = Never } → text ≡ chars_of letters → units ≡ units_of single (used_table faces single.face) text
    → upright ≡ sets_upright style → dir ≡ used_direction style → base ≡ level_of dir
    → glyphs ≡ inside_by base (parts_by upright (of_unit 0 0 upright) letters 0 units) → glyphs ≡ inside faces style letters
unfolding inside
inside_whole faces style single letters base upright units text dir glyphs s t us u d b g = g ∙ rw b (rw d (rw u (rw us (rw t (rw s refl)))))
