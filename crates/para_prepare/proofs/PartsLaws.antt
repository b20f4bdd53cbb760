-- The parts of a text as the code holds them stand for the parts of its definition.
use Rattle.std.proofs.Common.{append_assoc, ◌≡◌, ℕ, suc, pos, ◌≤ℤ◌, ◌+◌, ◌-◌, ◌<◌, ◌≤◌, Bool, List, [], ◌∷◌, ◌++◌, length, slice_index_or, take, drop, inl, inr, ap, ap₂, subst, sym, ◌∙◌, refl, arith}
use Rattle.std.specs.Prelude.{map, Option, All, encode_utf8_all}
use Rattle.std.specs.List.{slice_range}
use Rattle.std.proofs.lemmas.Bool.{cases_Bool}
use Rattle.std.proofs.lemmas.List.{map-append, length-append, length-map, length-drop, length-take, take-take, drop-take, drop-drop, drop_more, take-append-drop, take_rest}
use Rattle.std.proofs.lemmas.List.Elements.{All-append, All-cons}
use Rattle.std.proofs.lemmas.Str.{encodes-append}
use Rattle.face_api.specs.Living.{used_table}
use Rattle.face_api.specs.Table.{Table}
use Rattle.style_types.specs.declared.style.Style.{Style}
use Rattle.cluster_units.specs.Laws.{AreInOrder, IsUnitIn}
use Rattle.cluster_units.specs.Text.{is_combined}
use Rattle.cluster_units.specs.Unit.{units_of}
use Rattle.cluster_units.specs.declared.unit.Unit.{Unit}
use Rattle.para_prepare.specs.declared.letter.Letter.{Letter}
use Rattle.para_prepare.specs.declared.parts.Part as code
use Rattle.para_prepare.specs.Content.{raw_of, text_parts}
use Rattle.para_prepare.specs.Inside.{inside}
use Rattle.para_prepare.specs.Kept.{chars_of}
use Rattle.para_prepare.specs.Parts.{Raw, item, control_of, of_combined, of_unit, parts_by, sets_upright}
use Rattle.para_prepare.specs.Views.{HasOneSize, IsSize, IsSound, IsSpan, IsUnitOf, letters_at, part_of, parts_of, span_of, stored_by, stored_control, stored_run}

-- ---- a stretch of a stretch

pub stretch : {X : Type 0} (xs : List X) (from to first end_ : ℕ) → first ≤ end_ → end_ ≤ to - from
    → slice_range xs (from + first) (from + end_) ≡ slice_range (slice_range xs from to) first end_
stretch xs from to first end_ order within =
    let left = to - from - first in
    let all : to - from ≡ first + left = omega arith in
    let long : (from + end_) - (from + first) ≡ end_ - first = omega arith in
    let inner : drop first (take (to - from) (drop from xs)) ≡ take left (drop (from + first) xs) =
    ap (λ n. drop first (take n (drop from xs))) all ∙ drop-take first left (drop from xs) ∙ ap (take left) (drop-drop first from xs) in
    ap (λ n. take n (drop (from + first) xs)) long ∙ sym (ap (take (end_ - first)) inner ∙ take-take (end_ - first) left (drop (from + first) xs) (omega arith))

pub stretch_length : {X : Type 0} (xs : List X) (from to : ℕ) → to ≤ length xs → length (slice_range xs from to) ≡ to - from
stretch_length xs from to within = omega (arith, length-take (to - from) (drop from xs), length-drop from xs)

shorter : (front back : List Letter) → length (encode_utf8_all (chars_of front)) + length (encode_utf8_all (chars_of back)) ≡ length (encode_utf8_all (chars_of (front ++ back)))
shorter front back =
    let all = ap length (ap encode_utf8_all (map-append (λ l. l.char) front back) ∙ encodes-append (chars_of front) (chars_of back)) in
    let sum = length-append (encode_utf8_all (chars_of front)) (encode_utf8_all (chars_of back)) in
    omega arith

pub stretch_bytes : (letters : List Letter) (first end_ : ℕ) → length (encode_utf8_all (chars_of (slice_range letters first end_))) ≤ length (encode_utf8_all (chars_of letters))
stretch_bytes letters first end_ =
    let behind = drop first letters in
    let whole = shorter (take first letters) behind in
    let part = shorter (take (end_ - first) behind) (drop (end_ - first) behind) in
    let joined = ap (λ letters. length (encode_utf8_all (chars_of letters))) (take-append-drop first letters) in
    let joined_behind = ap (λ letters. length (encode_utf8_all (chars_of letters))) (take-append-drop (end_ - first) behind) in
    omega arith

-- ---- one unit more

-- units have been added as far as a place, and these are left
pub record AreAdded (parts old : List code.Part) (upright : Bool) (stored : Unit → code.Part) (letters : List Letter) (at : ℕ) (left units : List Unit) : Type 0 where
  pub stored_all : parts ++ stored_by upright stored letters at left ≡ old ++ stored_by upright stored letters 0 units
  pub order : AreInOrder at (length letters) left
  pub within : at ≤ length letters

pub starts : (parts : List code.Part) (upright : Bool) (stored : Unit → code.Part) (letters : List Letter) (units : List Unit)
    → AreInOrder 0 (length letters) units → AreAdded parts parts upright stored letters 0 units units
starts parts upright stored letters units order = record { stored_all = refl; order = order; within = omega arith }

pub first_of : (at end_ : ℕ) (left rest : List Unit) (unit : Unit) → AreInOrder at end_ left → left ≡ unit ∷ rest → IsUnitIn at end_ unit × AreInOrder unit.end end_ rest
first_of at end_ left rest unit order is = subst (AreInOrder at end_) is order

pub goes_on : (parts controls more old : List code.Part) (upright : Bool) (stored : Unit → code.Part) (letters : List Letter) (at : ℕ) (left rest units : List Unit) (unit : Unit)
    → AreAdded parts old upright stored letters at left units → left ≡ unit ∷ rest
    → controls ≡ parts ++ map (stored_control upright) (slice_range letters at unit.first) → more ≡ controls ++ stored unit ∷ []
    → AreAdded more old upright stored letters unit.end rest units
goes_on parts controls more old upright stored letters at left rest units unit added is c m =
    let here = first_of at (length letters) left rest unit added.order is in
    record {
      stored_all =
          ap (λ more. more ++ stored_by upright stored letters unit.end rest) (m ∙ ap (λ controls. controls ++ stored unit ∷ []) c)
          ∙ append_assoc (parts ++ map (stored_control upright) (slice_range letters at unit.first)) (stored unit ∷ []) (stored_by upright stored letters unit.end rest)
          ∙ append_assoc parts (map (stored_control upright) (slice_range letters at unit.first)) (stored unit ∷ stored_by upright stored letters unit.end rest)
          ∙ ap (λ left. parts ++ stored_by upright stored letters at left) (sym is)
          ∙ added.stored_all;
      order = here.1;
      within = here.0.within;
    }

pub ends : (parts more old : List code.Part) (upright : Bool) (stored : Unit → code.Part) (letters : List Letter) (at : ℕ) (left units : List Unit)
    → AreAdded parts old upright stored letters at left units → left ≡ [] → more ≡ parts ++ map (stored_control upright) (slice_range letters at (length letters))
    → more ≡ old ++ stored_by upright stored letters 0 units
ends parts more old upright stored letters at left units added none m =
    m ∙ ap (λ last. parts ++ map (stored_control upright) last) (take_rest letters at)
    ∙ ap (λ left. parts ++ stored_by upright stored letters at left) (sym none) ∙ added.stored_all

-- the unit at a place among those of a text
pub unit_within : (flat : List Letter) (from to at : ℕ) (units : List Unit) (i : ℕ) (none : Unit) → i < length units → to ≤ length flat
    → AreInOrder at (length (slice_range flat from to)) (drop i units) → IsUnitOf (to - from) (slice_index_or units i none)
unit_within flat from to at units i none lt end_ order =
    let unit = slice_index_or units i none in
    let is = (first_of at (length (slice_range flat from to)) (drop i units) (drop (i + 1) units) unit order (drop_more units i none lt)).0 in
    let some = is.some in
    let within = is.within in
    let long = stretch_length flat from to end_ in
    record { order = omega arith; within = omega arith }

-- the characters of a unit are not more bytes than the text's
pub unit_bytes : (flat : List Letter) (from to : ℕ) (unit : Unit) → to ≤ length flat → IsUnitOf (to - from) unit
    → length (encode_utf8_all (chars_of (slice_range flat from to))) ≤ 1048576
    → length (encode_utf8_all (chars_of (letters_at flat (span_of from unit)))) ≤ 1048576
unit_bytes flat from to unit end_ is few =
    let same = stretch flat from to unit.first unit.end is.order is.within in
    let fewer = stretch_bytes (slice_range flat from to) unit.first unit.end in
    subst (λ letters. length (encode_utf8_all (chars_of letters)) ≤ 1048576) (sym same) (omega arith)

-- ---- what the parts stand for

controls_are : (flat letters : List Letter) (upright : Bool) → parts_of flat (map (stored_control upright) letters) ≡ map (control_of upright) letters
controls_are flat [] upright = refl
controls_are flat (l ∷ letters) upright = ap (λ later. control_of upright l ∷ later) (controls_are flat letters upright)

module _ (flat letters : List Letter) (upright : Bool) (raw : Unit → List Letter → Raw) (stored : Unit → code.Part)
    (is : (unit : Unit) → unit.first ≤ unit.end → unit.end ≤ length letters → part_of flat (stored unit) ≡ item (raw unit (slice_range letters unit.first unit.end)))
  where
    pub parts_are : (at : ℕ) (units : List Unit) → AreInOrder at (length letters) units → parts_of flat (stored_by upright stored letters at units) ≡ parts_by upright raw letters at units
    parts_are at [] order = controls_are flat (drop at letters) upright
    parts_are at (unit ∷ units) order =
        let some = order.0.some in
        map-append (part_of flat) (map (stored_control upright) (slice_range letters at unit.first)) (stored unit ∷ stored_by upright stored letters unit.end units)
        ∙ ap₂ (λ controls later. controls ++ later) (controls_are flat (slice_range letters at unit.first) upright)
        (ap₂ (λ part later. part ∷ later) (is unit (omega arith) order.0.within) (parts_are unit.end units order.1))

run_is : (faces : List (Option Table)) (flat letters : List Letter) (source node : ℕ) (style : Style) (from : ℕ) (unit : Unit)
    → letters_at flat (span_of from unit) ≡ slice_range letters unit.first unit.end
    → part_of flat (stored_run faces flat source node style from unit) ≡ item (raw_of faces source node style unit (slice_range letters unit.first unit.end))
run_is faces flat letters source node style from unit is = elim (cases_Bool (is_combined unit.kind)) [
  | inl combined ↦ rw combined (ap (λ own. item (of_combined source node unit own (inside faces style own))) is)
  | inr single ↦ rw single (ap (λ own. item (of_unit source node (sets_upright style) unit own)) is)
]

pub runs_are : (faces : List (Option Table)) (flat : List Letter) (source node : ℕ) (style : Style) (from to : ℕ) (units : List Unit)
    → AreInOrder 0 (length (slice_range flat from to)) units → to ≤ length flat
    → parts_of flat (stored_by (sets_upright style) (stored_run faces flat source node style from) (slice_range flat from to) 0 units)
    ≡ parts_by (sets_upright style) (raw_of faces source node style) (slice_range flat from to) 0 units
runs_are faces flat source node style from to units order end_ =
    parts_are flat (slice_range flat from to) (sets_upright style) (raw_of faces source node style) (stored_run faces flat source node style from)
    (λ unit some within.
    let long = stretch_length flat from to end_ in
    run_is faces flat (slice_range flat from to) source node style from unit (stretch flat from to unit.first unit.end some (omega arith)))
    0 units order

-- ---- they are sound

controls_sound : (many : ℕ) (upright : Bool) (letters : List Letter) → All (IsSound many) (map (stored_control upright) letters)
controls_sound many upright [] = λ k d lt. absurd (omega arith)
controls_sound many upright (l ∷ letters) = All-cons (IsSound many) (stored_control upright l) (map (stored_control upright) letters) (tt, tt) (controls_sound many upright letters)

module _ (many : ℕ) (letters : List Letter) (style : Style) (upright : Bool) (stored : Unit → code.Part)
    (is : (place : ℕ) (unit : Unit) → IsUnitIn place (length letters) unit → HasOneSize style unit → IsSound many (stored unit))
  where
    pub all_sound : (at : ℕ) (units : List Unit) → AreInOrder at (length letters) units → All (HasOneSize style) units → All (IsSound many) (stored_by upright stored letters at units)
    all_sound at [] order sizes = controls_sound many upright (drop at letters)
    all_sound at (unit ∷ units) order sizes =
        All-append (IsSound many) (map (stored_control upright) (slice_range letters at unit.first)) (stored unit ∷ stored_by upright stored letters unit.end units)
        (controls_sound many upright (slice_range letters at unit.first))
        (All-cons (IsSound many) (stored unit) (stored_by upright stored letters unit.end units) (is at unit order.0 (sizes 0 unit (omega arith))) (all_sound unit.end units order.1 (λ k d lt. sizes (suc k) d (omega arith))))

run_sound : (faces : List (Option Table)) (flat : List Letter) (source node : ℕ) (style : Style) (from many end_ place : ℕ) (unit : Unit)
    → from + end_ ≤ many → style.font_size ≤ℤ pos 65536 → IsUnitIn place end_ unit → HasOneSize style unit → IsSound many (stored_run faces flat source node style from unit)
run_sound faces flat source node style from many end_ place unit within high is one =
    let some = is.some in
    let inside_ = is.within in
    let span : IsSpan many (span_of from unit) = record { some = omega arith; within = omega arith } in
    let size : IsSize unit = record { advance_low = is.advance_low; advance_high = is.advance_high; natural_low = is.natural_low; natural_high = is.natural_high } in
    elim (cases_Bool (is_combined unit.kind)) [
      | inl combined ↦ rw combined (span, record { size = size; one = subst (λ advance. advance ≤ℤ pos 65536) (sym (one combined)) high; many = omega arith })
      | inr single ↦ rw single (span, size)
    ]

pub runs_sound : (faces : List (Option Table)) (flat : List Letter) (source node : ℕ) (style : Style) (from to : ℕ) (units : List Unit)
    → AreInOrder 0 (length (slice_range flat from to)) units → All (HasOneSize style) units → style.font_size ≤ℤ pos 65536 → from ≤ to → to ≤ length flat
    → All (IsSound (length flat)) (stored_by (sets_upright style) (stored_run faces flat source node style from) (slice_range flat from to) 0 units)
runs_sound faces flat source node style from to units order sizes high first end_ =
    let long = stretch_length flat from to end_ in
    all_sound (length flat) (slice_range flat from to) style (sets_upright style) (stored_run faces flat source node style from)
    (λ place unit is one. run_sound faces flat source node style from (length flat) (length (slice_range flat from to)) place unit (omega arith) high is one)
    0 units order sizes

-- ---- how many they are

pub count_is : (letters : List Letter) (upright : Bool) (stored : Unit → code.Part) (at : ℕ) (units : List Unit)
    → at ≤ length letters → AreInOrder at (length letters) units → at + length (stored_by upright stored letters at units) ≤ length letters
count_is letters upright stored at [] within order = omega (arith, length-map (drop at letters) (stored_control upright), length-drop at letters)
count_is letters upright stored at (unit ∷ units) within order =
    let rest = count_is letters upright stored unit.end units order.0.within order.1 in
    let controls = map (stored_control upright) (slice_range letters at unit.first) in
    let sum = length-append controls (stored unit ∷ stored_by upright stored letters unit.end units) in
    let few = length-map (slice_range letters at unit.first) (stored_control upright) in
    let fewer = length-take (unit.first - at) (drop at letters) in
    let behind = order.0.behind in
    let some = order.0.some in
    omega arith

-- ---- a whole text

-- units of a text by its characters
pub order_of : (letters : List Letter) (text : List ℕ) (units made : List Unit) → text ≡ chars_of letters → made ≡ units → AreInOrder 0 (length text) units → AreInOrder 0 (length letters) made
order_of letters text units made is same order =
    subst (AreInOrder 0 (length letters)) (sym same) (subst (λ end_. AreInOrder 0 end_ units) (ap length is ∙ length-map letters (λ l. l.char)) order)

pub text_more : (faces : List (Option Table)) (flat : List Letter) (source node : ℕ) (style : Style) (from to : ℕ) (text : List ℕ) (units made : List Unit) (old more : List code.Part)
    → AreInOrder 0 (length text) units → to ≤ length flat → text ≡ chars_of (slice_range flat from to) → units ≡ units_of style (used_table faces style.face) text → made ≡ units
    → more ≡ old ++ stored_by (sets_upright style) (stored_run faces flat source node style from) (slice_range flat from to) 0 made
    → parts_of flat more ≡ parts_of flat old ++ text_parts faces source node style (slice_range flat from to)
text_more faces flat source node style from to text units made old more order end_ t u m is =
    ap (parts_of flat) is ∙ map-append (part_of flat) old (stored_by (sets_upright style) (stored_run faces flat source node style from) (slice_range flat from to) 0 made)
    ∙ ap (λ later. parts_of flat old ++ later)
    (runs_are faces flat source node style from to made (order_of (slice_range flat from to) text units made t m order) end_
    ∙ ap (parts_by (sets_upright style) (raw_of faces source node style) (slice_range flat from to) 0) (m ∙ u ∙ ap (units_of style (used_table faces style.face)) t))

pub sound_more : (faces : List (Option Table)) (flat : List Letter) (source node : ℕ) (style : Style) (from to : ℕ) (units : List Unit) (old more : List code.Part)
    → AreInOrder 0 (length (slice_range flat from to)) units → All (HasOneSize style) units → style.font_size ≤ℤ pos 65536 → from ≤ to → to ≤ length flat
    → more ≡ old ++ stored_by (sets_upright style) (stored_run faces flat source node style from) (slice_range flat from to) 0 units
    → All (IsSound (length flat)) old → All (IsSound (length flat)) more
sound_more faces flat source node style from to units old more order sizes high first end_ is sound =
    let stored = stored_by (sets_upright style) (stored_run faces flat source node style from) (slice_range flat from to) 0 units in
    subst (All (IsSound (length flat))) (sym is) (All-append (IsSound (length flat)) old stored sound (runs_sound faces flat source node style from to units order sizes high first end_))

pub count_more : (letters : List Letter) (upright : Bool) (stored : Unit → code.Part) (units : List Unit) (old more : List code.Part)
    → AreInOrder 0 (length letters) units → more ≡ old ++ stored_by upright stored letters 0 units → length more ≤ length old + length letters
count_more letters upright stored units old more order is =
    let long = ap length is in
    let sum = length-append old (stored_by upright stored letters 0 units) in
    let few = count_is letters upright stored 0 units (omega arith) order in
    omega arith
