-- The parts of characters that are units by themselves, as the code holds them.
use Rattle.std.proofs.Common.{append_assoc, ◌≡◌, sym, ap, ap₂, subst, ◌∙◌, ℕ, ◌+◌, ◌-◌, ◌<◌, ◌≤◌, List, [], ◌∷◌, ◌++◌, length, drop, slice_index_or, arith, refl}
use Rattle.std.specs.Prelude.{All, IfSome, Option, Some, None}
use Rattle.std.specs.List.{slice_range}
use Rattle.std.proofs.lemmas.List.{drop_more, length-append, map-append}
use Rattle.std.proofs.lemmas.List.Elements.{All-append, All-cons}
use Rattle.face_api.specs.Table.{Table}
use Rattle.style_types.specs.declared.style.Style.{Style}
use Rattle.cluster_units.specs.Laws.{AreApart, IsUnitIn}
use Rattle.cluster_units.specs.Plain.{character_unit}
use Rattle.cluster_units.specs.declared.unit.Unit.{Unit}
use Rattle.para_prepare.specs.declared.letter.Letter.{Letter}
use Rattle.para_prepare.specs.declared.parts.Part as code
use Rattle.para_prepare.specs.Parts.{Part, item, of_unit, sets_upright}
use Rattle.para_prepare.specs.Text.{letter_part, letter_parts}
use Rattle.para_prepare.specs.Views.{IsSize, IsSound, IsSpan, part_of, parts_of, span_of, stored_letter}
use Rattle.para_prepare.proofs.AloneLaws.{slice_one}
use Rattle.para_prepare.proofs.PartsLaws.{stretch, stretch_length}

-- what is stored of a character stands for its part
same_part : AreApart → (table : Table) (source node : ℕ) (style : Style) (letters : List Letter) (from place : ℕ) (l : Letter)
    → slice_range letters (from + place) (from + (place + 1)) ≡ l ∷ [] → (one : Option Unit) → one ≡ character_unit style table place l.char
    → part_of letters (stored_letter source node (sets_upright style) from l one) ≡ letter_part (sets_upright style) source node l one
same_part apart table source node style letters from place l is None e = refl
same_part apart table source node style letters from place l is (Some unit) e =
    let own = apart style table place l.char unit e in
    ap (λ own. item (of_unit source node (sets_upright style) unit own))
    (ap₂ (λ first end_. slice_range letters (from + first) (from + end_)) own.0 own.1 ∙ is)

pub letters_more : AreApart → (table : Table) (source node : ℕ) (style : Style) (letters : List Letter) (from to i : ℕ) (none : Letter)
    (parts more : List code.Part) (whole : List Part)
    → parts_of letters parts ++ letter_parts table source node style i (drop i (slice_range letters from to)) ≡ whole
    → i < to - from → to ≤ length letters
    → more ≡ parts ++ stored_letter source node (sets_upright style) from (slice_index_or (slice_range letters from to) i none) (character_unit style table i (slice_index_or (slice_range letters from to) i none).char) ∷ []
    → parts_of letters more ++ letter_parts table source node style (i + 1) (drop (i + 1) (slice_range letters from to)) ≡ whole
letters_more apart table source node style letters from to i none parts more whole before lt within m =
    let own = slice_range letters from to in
    let long = stretch_length letters from to within in
    let l = slice_index_or own i none in
    let one = character_unit style table i l.char in
    let part = stored_letter source node (sets_upright style) from l one in
    let rest = letter_parts table source node style (i + 1) (drop (i + 1) own) in
    let there : drop i own ≡ l ∷ drop (i + 1) own = drop_more own i none (omega arith) in
    let stretched = stretch letters from to i (i + 1) (omega arith) (omega arith) in
    let same = same_part apart table source node style letters from i l (stretched ∙ slice_one own i l (drop (i + 1) own) there) one refl in
    ap (λ more. parts_of letters more ++ rest) m
    ∙ ap (λ front. front ++ rest) (map-append (part_of letters) parts (part ∷ []))
    ∙ append_assoc (parts_of letters parts) (part_of letters part ∷ []) rest
    ∙ ap (λ part. parts_of letters parts ++ part ∷ rest) same
    ∙ ap (λ left. parts_of letters parts ++ letter_parts table source node style i left) (sym there) ∙ before

part_sound : (many source node : ℕ) (style : Style) (from place : ℕ) (l : Letter) (one : Option Unit) → IfSome one (IsUnitIn place (place + 1)) → from + place < many
    → IsSound many (stored_letter source node (sets_upright style) from l one)
part_sound many source node style from place l None is lt = (tt, tt)
part_sound many source node style from place l (Some unit) is lt =
    let some = is.some in
    let inside = is.within in
    let span : IsSpan many (span_of from unit) = record { some = omega arith; within = omega arith } in
    let size : IsSize unit = record { advance_low = is.advance_low; advance_high = is.advance_high; natural_low = is.natural_low; natural_high = is.natural_high } in
    (span, size)

pub sound_more : (many : ℕ) (table : Table) (source node : ℕ) (style : Style) (from place : ℕ) (l : Letter) (parts more : List code.Part)
    → All (IsSound many) parts → IfSome (character_unit style table place l.char) (IsUnitIn place (place + 1)) → from + place < many
    → more ≡ parts ++ stored_letter source node (sets_upright style) from l (character_unit style table place l.char) ∷ [] → All (IsSound many) more
sound_more many table source node style from place l parts more sound is lt m =
    let part = stored_letter source node (sets_upright style) from l (character_unit style table place l.char) in
    subst (All (IsSound many)) (sym m)
    (All-append (IsSound many) parts (part ∷ []) sound (All-cons (IsSound many) part [] (part_sound many source node style from place l (character_unit style table place l.char) is lt) (λ k d lt. absurd (omega arith))))

pub letter_count : (table : Table) (source node : ℕ) (style : Style) (from place : ℕ) (l : Letter) (parts more : List code.Part)
    → more ≡ parts ++ stored_letter source node (sets_upright style) from l (character_unit style table place l.char) ∷ [] → length more ≡ length parts + 1
letter_count table source node style from place l parts more m =
    ap length m ∙ length-append parts (stored_letter source node (sets_upright style) from l (character_unit style table place l.char) ∷ [])
