-- The parts of a text in which each character is a unit by itself, and what is made of them at level 0.
use Rattle.std.proofs.Common.{◌≡◌, refl, sym, ap, ap₂, ◌∙◌, ℕ, suc, ◌+◌, ◌-◌, ◌<◌, ◌≤◌, Bool, true, false, ◌&&◌, not, inl, inr, List, [], ◌∷◌, ◌++◌, length, map, take, drop, slice_index_or, arith}
use Rattle.std.specs.Prelude.{⊤, ◌||◌, Option, Some, None, encode_utf8_all}
use Rattle.std.specs.List.{list_all, slice_range}
use Rattle.std.proofs.lemmas.Bool.{and_parts, cases_Bool, true≢false}
use Rattle.std.proofs.lemmas.List.{append-nil, drop-drop, drop_more, length-append, length-map}
use Rattle.std.proofs.lemmas.Str.{length-le-encodes}
use Rattle.face_api.specs.Living.{used_table}
use Rattle.face_api.specs.Table.{Table}
use Rattle.style_types.specs.declared.style.Style.{Style}
use Rattle.cluster_units.specs.Laws.{AreApart, AreOfCharacters}
use Rattle.cluster_units.specs.Plain.{character_joins, character_unit, character_units, combines_none, is_plain, with_first}
use Rattle.cluster_units.specs.Text.{is_combined}
use Rattle.cluster_units.specs.declared.unit.Unit.{Unit}
use Rattle.cluster_units.proofs.PlainUnits.{never_joins}
use Rattle.para_prepare.specs.declared.letter.Letter.{Letter}
use Rattle.para_prepare.specs.Content.{raw_of, text_parts}
use Rattle.para_prepare.specs.Flat.{Flat, flat_item, grown}
use Rattle.para_prepare.specs.Kept.{chars_of}
use Rattle.para_prepare.specs.Parts.{Raw, control_of, item, of_unit, parts_by, sets_upright}
use Rattle.para_prepare.specs.Text.{are_plain, join_none, letter_part, letter_parts, stand_alone}
use Rattle.para_prepare.proofs.FlatLaws.{grown_append}

-- ---- stretches of a list

drop_next : {X : Type 0} (xs : List X) (n : ℕ) (x : X) (ys : List X) → drop n xs ≡ x ∷ ys → drop (n + 1) xs ≡ ys
drop_next xs n x ys is = sym (drop-drop 1 n xs) ∙ ap (drop 1) is

slice_first : {X : Type 0} (xs : List X) (at end_ : ℕ) (x : X) (ys : List X) → at < end_ → drop at xs ≡ x ∷ ys → slice_range xs at end_ ≡ x ∷ slice_range xs (at + 1) end_
slice_first xs at end_ x ys lt is =
    let left = end_ - (at + 1) in
    let long : end_ - at ≡ suc left = omega arith in
    ap (λ n. take n (drop at xs)) long ∙ ap (take (suc left)) is ∙ ap (λ ys. x ∷ take left ys) (sym (drop_next xs at x ys is))

slice_none : {X : Type 0} (xs : List X) (at : ℕ) → slice_range xs at at ≡ []
slice_none xs at = let none : at - at ≡ 0 = omega arith in ap (λ n. take n (drop at xs)) none

pub slice_one : {X : Type 0} (xs : List X) (at : ℕ) (x : X) (ys : List X) → drop at xs ≡ x ∷ ys → slice_range xs at (at + 1) ≡ x ∷ []
slice_one xs at x ys is = slice_first xs at (at + 1) x ys (omega arith) is ∙ ap (λ rest. x ∷ rest) (slice_none xs (at + 1))

-- ---- the units of characters

-- the first of these units doesn't stand before this place
abbrev StandFrom : ℕ → List Unit → Type 0
StandFrom place [] = ⊤
StandFrom place (unit ∷ units) = place ≤ unit.first

earlier : (place : ℕ) (units : List Unit) → StandFrom (place + 1) units → StandFrom place units
earlier place [] from = tt
earlier place (unit ∷ units) from = omega arith

module _ (apart : AreApart) (table : Table) (source node : ℕ) (style : Style) (raw : Unit → List Letter → Raw)
    (raw_is : (unit : Unit) (own : List Letter) → is_combined unit.kind ≡ false → raw unit own ≡ of_unit source node (sets_upright style) unit own) (letters : List Letter)
  where
    stand_from : (place : ℕ) (cs : List ℕ) → StandFrom place (character_units style table place cs)
    stand_from place [] = tt
    stand_from place (c ∷ cs) = either (character_unit style table place c) refl (stand_from (place + 1) cs)
      where
        either : (one : Option Unit) → one ≡ character_unit style table place c → StandFrom (place + 1) (character_units style table (place + 1) cs)
            → StandFrom place (with_first one (character_units style table (place + 1) cs))
        either None e rest = earlier place (character_units style table (place + 1) cs) rest
        either (Some unit) e rest = let at = (apart style table place c unit e).0 in omega arith

    control_first : (at : ℕ) (l : Letter) (left : List Letter) (units : List Unit) → drop at letters ≡ l ∷ left → StandFrom (at + 1) units
        → parts_by (sets_upright style) raw letters at units ≡ control_of (sets_upright style) l ∷ parts_by (sets_upright style) raw letters (at + 1) units
    control_first at l left [] is from =
        let control = control_of (sets_upright style) in
        ap (map control) is ∙ ap (λ left. control l ∷ map control left) (sym (drop_next letters at l left is))
    control_first at l left (unit ∷ units) is from =
        let later = item (raw unit (slice_range letters unit.first unit.end)) ∷ parts_by (sets_upright style) raw letters unit.end units in
        ap (λ front. map (control_of (sets_upright style)) front ++ later) (slice_first letters at unit.first l left (omega arith) is)

    unit_first : (at : ℕ) (l : Letter) (left : List Letter) (unit : Unit) (units : List Unit) → drop at letters ≡ l ∷ left → unit.first ≡ at → unit.end ≡ at + 1
        → parts_by (sets_upright style) raw letters at (unit ∷ units) ≡ item (raw unit (l ∷ [])) ∷ parts_by (sets_upright style) raw letters (at + 1) units
    unit_first at l left unit units is first end_ =
        let control = control_of (sets_upright style) in
        ap₂ (λ first end_. map control (slice_range letters at first) ++ item (raw unit (slice_range letters first end_)) ∷ parts_by (sets_upright style) raw letters end_ units) first end_
        ∙ ap₂ (λ front own. map control front ++ item (raw unit own) ∷ parts_by (sets_upright style) raw letters (at + 1) units) (slice_none letters at) (slice_one letters at l left is)

    from_letters : (at : ℕ) (left : List Letter) → drop at letters ≡ left
        → parts_by (sets_upright style) raw letters at (character_units style table at (chars_of left)) ≡ letter_parts table source node style at left
    from_letters at [] is = ap (map (control_of (sets_upright style))) is
    from_letters at (l ∷ left) is = either (character_unit style table at l.char) refl (from_letters (at + 1) left (drop_next letters at l left is))
      where
        either : (one : Option Unit) → one ≡ character_unit style table at l.char
            → parts_by (sets_upright style) raw letters (at + 1) (character_units style table (at + 1) (chars_of left)) ≡ letter_parts table source node style (at + 1) left
            → parts_by (sets_upright style) raw letters at (with_first one (character_units style table (at + 1) (chars_of left)))
            ≡ letter_part (sets_upright style) source node l one ∷ letter_parts table source node style (at + 1) left
        either None e rest =
            control_first at l left (character_units style table (at + 1) (chars_of left)) is (stand_from (at + 1) (chars_of left))
            ∙ ap (λ parts. control_of (sets_upright style) l ∷ parts) rest
        either (Some unit) e rest =
            let own = apart style table at l.char unit e in
            unit_first at l left unit (character_units style table (at + 1) (chars_of left)) is own.0 own.1
            ∙ ap₂ (λ raw parts. item raw ∷ parts) (raw_is unit (l ∷ []) own.2) rest

plain_chars : (letters : List Letter) → list_all is_plain (chars_of letters) ≡ are_plain letters
plain_chars [] = refl
plain_chars (l ∷ letters) = ap (λ b. is_plain l.char && b) (plain_chars letters)

apart_chars : (style : Style) (letters : List Letter) → list_all (λ c. not (character_joins style c)) (chars_of letters) ≡ list_all (λ l. not (character_joins style l.char)) letters
apart_chars style [] = refl
apart_chars style (l ∷ letters) = ap (λ b. not (character_joins style l.char) && b) (apart_chars style letters)

-- in a style by which none are combined no character joins
all_apart : (style : Style) (cs : List ℕ) → combines_none style ≡ true → list_all (λ c. not (character_joins style c)) cs ≡ true
all_apart style [] none = refl
all_apart style (c ∷ cs) none = rw (never_joins style (record { first = 0; end = 1; head = c }) none) (all_apart style cs none)

one_of_two : (a b : Bool) → (a || b) ≡ true → a ≡ false → b ≡ true
one_of_two true b either none = absurd (true≢false none)
one_of_two false b either none = either

none_joins : (style : Style) (letters : List Letter) → join_none style letters ≡ true → list_all (λ c. not (character_joins style c)) (chars_of letters) ≡ true
none_joins style letters h = elim (cases_Bool (combines_none style)) [
  | inl none ↦ all_apart style (chars_of letters) none
  | inr some ↦ apart_chars style letters ∙ one_of_two (combines_none style) (list_all (λ l. not (character_joins style l.char)) letters) h some
]

uncombined : (faces : List (Option Table)) (source node : ℕ) (style : Style) (unit : Unit) (own : List Letter) → is_combined unit.kind ≡ false
    → raw_of faces source node style unit own ≡ of_unit source node (sets_upright style) unit own
uncombined faces source node style unit own h = rw h refl

pub alone_parts : AreOfCharacters → AreApart → (faces : List (Option Table)) (source node : ℕ) (style : Style) (letters : List Letter) → stand_alone style letters ≡ true
    → text_parts faces source node style letters ≡ letter_parts (used_table faces style.face) source node style 0 letters
alone_parts of_characters apart faces source node style letters h =
    let both = and_parts (join_none style letters) (are_plain letters) h in
    let table = used_table faces style.face in
    ap (parts_by (sets_upright style) (raw_of faces source node style) letters 0) (of_characters style table (chars_of letters) (plain_chars letters ∙ both.1) (none_joins style letters both.0))
    ∙ from_letters apart table source node style (raw_of faces source node style) (uncombined faces source node style) letters 0 letters refl

-- ---- what is made of them at level 0, one by one

pub letters_more : (made more : Flat) (whole : Flat) (table : Table) (source node : ℕ) (style : Style) (letters : List Letter) (i : ℕ) (none : Letter)
    → grown made (letter_parts table source node style i (drop i letters)) ≡ whole → i < length letters
    → more ≡ grown made (letter_parts table source node style i (slice_index_or letters i none ∷ []))
    → grown more (letter_parts table source node style (i + 1) (drop (i + 1) letters)) ≡ whole
letters_more made more whole table source node style letters i none before lt m =
    let l = slice_index_or letters i none in
    let rest = letter_parts table source node style (i + 1) (drop (i + 1) letters) in
    ap (λ more. grown more rest) m ∙ grown_append made (letter_parts table source node style i (l ∷ [])) rest
    ∙ ap (λ left. grown made (letter_parts table source node style i left)) (sym (drop_more letters i none lt)) ∙ before

by_unit : (upright : Bool) (source node : ℕ) (l : Letter) (one : Option Unit) (made more : Flat) → more ≡ grown made (letter_part upright source node l one ∷ [])
    → length more.items ≤ length made.items + 1
by_unit upright source node l None made more is =
    let same = ap (λ more. length more.items) is in
    let none = ap length (append-nil made.items) in
    omega arith
by_unit upright source node l (Some unit) made more is =
    let same = ap (λ more. length more.items) is in
    let sum = length-append made.items (flat_item (of_unit source node upright unit (l ∷ [])) ∷ []) in
    omega arith

pub letter_count : (made more : Flat) (table : Table) (source node : ℕ) (style : Style) (place : ℕ) (l : Letter)
    → more ≡ grown made (letter_parts table source node style place (l ∷ [])) → length more.items ≤ length made.items + 1
letter_count made more table source node style place l is = by_unit (sets_upright style) source node l (character_unit style table place l.char) made more is

-- ---- how many

pub few_alone : (letters : List Letter) → length (encode_utf8_all (chars_of letters)) ≤ 1048576 → length letters ≤ 1048576
few_alone letters few =
    let each = length-le-encodes (chars_of letters) in
    let same = length-map letters (λ l. l.char) in
    omega arith
