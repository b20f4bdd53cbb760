-- Where nothing asks for another level each item stands at level 0.
use Rattle.std.proofs.Common.{append_assoc, ◌≡◌, refl, sym, ap, ap₂, ◌∙◌, ℕ, Bool, true, false, ◌&&◌, ◌==◌, List, [], ◌∷◌, ◌++◌, length, map, arith}
use Rattle.std.specs.Prelude.{Option, Some, None, cond, replicate}
use Rattle.std.proofs.Math.Bool.{and_assoc, and-true}
use Rattle.std.specs.List.{list_all}
use Rattle.std.proofs.lemmas.Bool.{and_parts}
use Rattle.std.proofs.lemmas.List.{append-nil, map-append, length-append, length-map, replicate_more}
use Rattle.std.proofs.lemmas.List.Folds.{list_all-append}
use Rattle.wm_chars.specs.declared.classes.BidiClass.{BidiClass}
use Rattle.wm_chars.specs.declared.classes.BidiClass.TheVariants.{L, ON}
use Rattle.wm_chars.specs.declared.classes.BreakClass.{BreakClass}
use Rattle.bidi_resolve.specs.Laws.{LeftToRightHasLevelZero}
use Rattle.bidi_resolve.specs.Paragraph.{is_left_to_right}
use Rattle.wm_modes.specs.declared.mode.Direction.{Direction}
use Rattle.style_types.specs.declared.style.Style.{Style}
use Rattle.style_types.specs.declared.style.UnicodeBidi.{UnicodeBidi}
use Rattle.style_types.specs.declared.style.UnicodeBidi.TheVariants.{Normal, Embed, Isolate, BidiOverride, IsolateOverride, Plaintext}
use Rattle.para_prepare.specs.declared.bidi_text.Around.{Around}
use Rattle.para_prepare.specs.declared.bidi_text.Character.{Character}
use Rattle.para_prepare.specs.declared.bidi_text.Role.{Role}
use Rattle.para_prepare.specs.declared.bidi_text.Role.TheVariants.{Begins, Continues, Divides}
use Rattle.para_prepare.specs.declared.item.PreparedItem.{PreparedItem}
use Rattle.para_prepare.specs.declared.letter.Letter.{Letter}
use Rattle.para_prepare.specs.declared.standing.Standing.{Standing}
use Rattle.para_prepare.specs.BidiText.{after, before, bidi_texts, character, closing_all, closing_innermost, container_after, container_before, in_front, opening_all, texts_of, unit_characters, without_innermost}
use Rattle.para_prepare.specs.Boxes.{kind_of, marked, takes_from, taking_part}
use Rattle.para_prepare.specs.Breaks.{break_class_of}
use Rattle.para_prepare.specs.Flat.{Flat, are_flat, flat_item, flat_standing, grown, is_bare, is_flat, is_normal, puts_nothing}
use Rattle.para_prepare.specs.Glyph.{class_of}
use Rattle.para_prepare.specs.Items.{items_by}
use Rattle.para_prepare.specs.Parts.{Part, opens, closes, control, control_of, item, Raw, of_unit, of_combined, of_atom, of_break, class_in, raws}
use Rattle.para_prepare.specs.Preparation.{container_of, standings_of}
use Rattle.para_prepare.specs.Standing.{apart_past, begun_past, chars_of, classes_of, ended, levels_of, line_break, standing_at, standings, standings_by}
use Rattle.para_prepare.proofs.PreparationLaws.{raws_taken}
use Rattle.para_prepare.proofs.RawsLaws.{raws_append}
use Rattle.para_prepare.proofs.Texts.{in_front_twice}

-- ---- a text of one level

belongs : Role → Bool
belongs Begins = true
belongs Continues = true
belongs Divides = false

is_even : Character → Bool
is_even c = is_left_to_right c.class && belongs c.role

zeros_of : List Character → List Standing
zeros_of [] = []
zeros_of (c ∷ text) = standing_at c.role flat_standing ++ zeros_of text

zeros_append : (text more : List Character) → zeros_of (text ++ more) ≡ zeros_of text ++ zeros_of more
unfolding zeros_of
zeros_append [] more = refl
zeros_append (c ∷ text) more =
    ap (λ later. standing_at c.role flat_standing ++ later) (zeros_append text more) ∙ sym (append_assoc (standing_at c.role flat_standing) (zeros_of text) (zeros_of more))

even_append : (text more : List Character) → list_all is_even text ≡ true → list_all is_even more ≡ true → list_all is_even (text ++ more) ≡ true
even_append [] more h m = m
even_append (c ∷ text) more h m =
    let parts = and_parts (is_even c) (list_all is_even text) h in
    rw parts.0 (even_append text more parts.1 m)

pub none_apart : (begun : Bool) (apart : Option ℕ) → cond begun apart apart ≡ apart
none_apart true apart = refl
none_apart false apart = refl

apart_stays : (role : Role) (class : BidiClass) → belongs role ≡ true → apart_past role class 0 None ≡ None
unfolding belongs
apart_stays Begins class h = refl
apart_stays Continues class h = refl
apart_stays Divides class h = absurd (cc)

stand_by_zeros : (begun : Bool) (text : List Character) → list_all is_even text ≡ true → standings_by 0 begun None text (replicate (length text) 0) ≡ zeros_of text
unfolding is_even zeros_of
stand_by_zeros begun [] h = refl
stand_by_zeros begun (c ∷ text) h =
    let parts = and_parts (is_even c) (list_all is_even text) h in
    let own = and_parts (is_left_to_right c.class) (belongs c.role) parts.0 in
    rw (apart_stays c.role c.class own.1)
    (ap₂ ◌++◌ (ap (λ apart. standing_at c.role (record { level = 0; base = 0; apart = apart })) (none_apart begun None)) (stand_by_zeros (begun_past c.role begun) text parts.1))

classes_even : (text : List Character) → list_all is_even text ≡ true → list_all is_left_to_right (classes_of text) ≡ true
unfolding is_even
classes_even [] h = refl
classes_even (c ∷ text) h =
    let parts = and_parts (is_even c) (list_all is_even text) h in
    let own = and_parts (is_left_to_right c.class) (belongs c.role) parts.0 in
    rw own.0 (classes_even text parts.1)

-- ---- what puts nothing

pub nothing_before : (bidi : UnicodeBidi) (dir : Direction) → puts_nothing bidi ≡ true → container_before bidi dir ≡ []
nothing_before Normal dir h = refl
nothing_before Embed dir h = refl
nothing_before Isolate dir h = refl
nothing_before BidiOverride dir h = absurd (cc)
nothing_before IsolateOverride dir h = absurd (cc)
nothing_before Plaintext dir h = refl

pub nothing_behind : (bidi : UnicodeBidi) → puts_nothing bidi ≡ true → container_after bidi ≡ []
nothing_behind Normal h = refl
nothing_behind Embed h = refl
nothing_behind Isolate h = refl
nothing_behind BidiOverride h = absurd (cc)
nothing_behind IsolateOverride h = absurd (cc)
nothing_behind Plaintext h = refl

normal_before : (bidi : UnicodeBidi) (dir : Direction) → is_normal bidi ≡ true → before bidi dir ≡ []
normal_before Normal dir h = refl
normal_before Embed dir h = absurd (cc)
normal_before Isolate dir h = absurd (cc)
normal_before BidiOverride dir h = absurd (cc)
normal_before IsolateOverride dir h = absurd (cc)
normal_before Plaintext dir h = absurd (cc)

normal_after : (bidi : UnicodeBidi) → is_normal bidi ≡ true → after bidi ≡ []
normal_after Normal h = refl
normal_after Embed h = absurd (cc)
normal_after Isolate h = absurd (cc)
normal_after BidiOverride h = absurd (cc)
normal_after IsolateOverride h = absurd (cc)
normal_after Plaintext h = absurd (cc)

-- boxes that put nothing round their content
abbrev are_normal : List Around → Bool
are_normal = list_all (λ around. is_normal around.bidi)

closing_none : (opened : List Around) → are_normal opened ≡ true → closing_all opened ≡ []
closing_none [] h = refl
closing_none (around ∷ opened) h =
    let parts = and_parts (is_normal around.bidi) (are_normal opened) h in
    ap₂ ◌++◌ (normal_after around.bidi parts.0) (closing_none opened parts.1)

opening_none : (opened : List Around) → are_normal opened ≡ true → opening_all opened ≡ []
opening_none [] h = refl
opening_none (around ∷ opened) h =
    let parts = and_parts (is_normal around.bidi) (are_normal opened) h in
    ap₂ ◌++◌ (opening_none opened parts.1) (normal_before around.bidi around.dir parts.0)

innermost_none : (opened : List Around) → are_normal opened ≡ true → closing_innermost opened ≡ []
innermost_none [] h = refl
innermost_none (around ∷ opened) h = normal_after around.bidi (and_parts (is_normal around.bidi) (are_normal opened) h).0

outer_normal : (opened : List Around) → are_normal opened ≡ true → are_normal (without_innermost opened) ≡ true
outer_normal [] h = refl
outer_normal (around ∷ opened) h = (and_parts (is_normal around.bidi) (are_normal opened) h).1

-- ---- the characters of a unit

abbrev continuing : (upright : Bool) → List Letter → List Character
continuing upright = map (λ l. character l.char (class_in upright l.char) Continues)

continuing_even : (upright : Bool) (letters : List Letter) → list_all (λ l. is_left_to_right (class_in upright l.char)) letters ≡ true → list_all is_even (continuing upright letters) ≡ true
unfolding is_even belongs
continuing_even upright [] h = refl
continuing_even upright (l ∷ letters) h =
    let parts = and_parts (is_left_to_right (class_in upright l.char)) (list_all (λ l. is_left_to_right (class_in upright l.char)) letters) h in
    rw parts.0 (continuing_even upright letters parts.1)

continuing_zeros : (upright : Bool) (letters : List Letter) → zeros_of (continuing upright letters) ≡ []
unfolding zeros_of
continuing_zeros upright [] = refl
continuing_zeros upright (l ∷ letters) = continuing_zeros upright letters

unit_even : (upright : Bool) (letters : List Letter) → are_flat upright letters ≡ true → list_all is_even (unit_characters upright letters) ≡ true
unfolding is_even belongs
unit_even upright [] h = absurd (cc)
unit_even upright (l ∷ letters) h =
    let parts = and_parts (is_left_to_right (class_in upright l.char)) (list_all (λ l. is_left_to_right (class_in upright l.char)) letters) h in
    rw parts.0 (continuing_even upright letters parts.1)

unit_zeros : (upright : Bool) (letters : List Letter) → are_flat upright letters ≡ true → zeros_of (unit_characters upright letters) ≡ flat_standing ∷ []
unfolding zeros_of
unit_zeros upright [] h = absurd (cc)
unit_zeros upright (l ∷ letters) h = ap (λ later. flat_standing ∷ later) (continuing_zeros upright letters)

-- ---- the parts that take part

marked_flat : (marks : List Bool) (parts : List Part) → list_all is_flat parts ≡ true → list_all is_flat (marked marks parts) ≡ true
marked_flat [] parts h = refl
marked_flat (mark ∷ marks) [] h = refl
marked_flat (true ∷ marks) (part ∷ parts) h =
    let all = and_parts (is_flat part) (list_all is_flat parts) h in
    rw all.0 (marked_flat marks parts all.1)
marked_flat (false ∷ marks) (part ∷ parts) h = marked_flat marks parts (and_parts (is_flat part) (list_all is_flat parts) h).1

-- ---- what is made of items at level 0

abbrev pub standing_so : List Raw → List Standing
standing_so = map (λ raw. flat_standing)

pub items_flat : (raws : List Raw) → items_by raws (standing_so raws) ≡ map flat_item raws
items_flat [] = refl
items_flat (raw ∷ raws) = ap (λ later. flat_item raw ∷ later) (items_flat raws)

pub levels_flat : (raws : List Raw) → map (λ s. s.level) (standing_so raws) ≡ replicate (length raws) 0
levels_flat [] = refl
levels_flat (raw ∷ raws) = ap (λ later. 0 ∷ later) (levels_flat raws)

pub bases_flat : (raws : List Raw) → map (λ s. s.base) (standing_so raws) ≡ replicate (length raws) 0
bases_flat [] = refl
bases_flat (raw ∷ raws) = ap (λ later. 0 ∷ later) (bases_flat raws)

-- ---- part by part

abbrev pub flat_with : List PreparedItem → List BidiClass → List (Option BreakClass) → (flat bare : Bool) → Flat
flat_with items classes breaks flat bare = record { items = items; classes = classes; breaks = breaks; flat = flat; bare = bare }

pub same_flat : (i j : List PreparedItem) (c d : List BidiClass) (b e : List (Option BreakClass)) (f g h k : Bool) → i ≡ j → c ≡ d → b ≡ e → f ≡ g → h ≡ k
    → flat_with i c b f h ≡ flat_with j d e g k
same_flat i j c d b e f g h k is cs bs fs hs = rw is (rw cs (rw bs (rw fs (rw hs refl))))

map_more : {X : Type 0} (f : Raw → X) (xs : List X) (parts more : List Part) → (xs ++ map f (raws parts)) ++ map f (raws more) ≡ xs ++ map f (raws (parts ++ more))
map_more f xs parts more =
    append_assoc xs (map f (raws parts)) (map f (raws more))
    ∙ ap (λ later. xs ++ later) (sym (ap (map f) (raws_append parts more) ∙ map-append f (raws parts) (raws more)))

pub grown_append : (made : Flat) (parts more : List Part) → grown (grown made parts) more ≡ grown made (parts ++ more)
grown_append made parts more =
    same_flat _ _ _ _ _ _ _ _ _ _ (map_more flat_item made.items parts more) (map_more class_of made.classes parts more) (map_more break_class_of made.breaks parts more)
    (and_assoc made.flat (list_all is_flat parts) (list_all is_flat more) ∙ ap (λ b. made.flat && b) (sym (list_all-append is_flat parts more)))
    (and_assoc made.bare (list_all is_bare parts) (list_all is_bare more) ∙ ap (λ b. made.bare && b) (sym (list_all-append is_bare parts more)))

pub grown_none : (made : Flat) → grown made [] ≡ made
grown_none made =
    same_flat _ _ _ _ _ _ _ _ _ _ (append-nil made.items) (append-nil made.classes) (append-nil made.breaks) (and-true made.flat) (and-true made.bare)

pub bare_stays : (bare : Bool) → (bare && true) ≡ bare
bare_stays true = refl
bare_stays false = refl

pub bare_ends : (bare : Bool) → (bare && false) ≡ false
bare_ends true = refl
bare_ends false = refl

no_raws : (upright : Bool) (controls : List Letter) → raws (map (control_of upright) controls) ≡ []
no_raws upright [] = refl
no_raws upright (l ∷ controls) = no_raws upright controls

pub controls_ask : (upright : Bool) (controls : List Letter) → (length controls == 0) ≡ list_all is_flat (map (control_of upright) controls)
controls_ask upright [] = refl
controls_ask upright (l ∷ controls) = let some : (length (l ∷ controls) == 0) ≡ false = grind arith in some

controls_stand : (upright : Bool) (controls : List Letter) → list_all is_flat (map (control_of upright) controls) ≡ list_all is_bare (map (control_of upright) controls)
controls_stand upright [] = refl
controls_stand upright (l ∷ controls) = refl

pub controls_pass : (made : Flat) (upright : Bool) (controls : List Letter) (none : Bool) → none ≡ list_all is_flat (map (control_of upright) controls)
    → flat_with made.items made.classes made.breaks (made.flat && none) (made.bare && none) ≡ grown made (map (control_of upright) controls)
controls_pass made upright controls none is =
    same_flat _ _ _ _ _ _ _ _ _ _
    (sym (ap (λ raws. made.items ++ map flat_item raws) (no_raws upright controls) ∙ append-nil made.items))
    (sym (ap (λ raws. made.classes ++ map class_of raws) (no_raws upright controls) ∙ append-nil made.classes))
    (sym (ap (λ raws. made.breaks ++ map break_class_of raws) (no_raws upright controls) ∙ append-nil made.breaks))
    (ap (λ b. made.flat && b) is)
    (ap (λ b. made.bare && b) (is ∙ controls_stand upright controls))

pub some_flat : (upright : Bool) (letters : List Letter) → (length letters == 0) ≡ false → are_flat upright letters ≡ list_all (λ l. is_left_to_right (class_in upright l.char)) letters
some_flat upright [] h = absurd (cc)
some_flat upright (l ∷ letters) h = refl

module _ (law : LeftToRightHasLevelZero)
  where
    levels_even : (text : List Character) → list_all is_even text ≡ true → levels_of 0 text ≡ replicate (length text) 0
    levels_even text h = law (chars_of text) (classes_of text) (classes_even text h) ∙ ap (λ n. replicate n 0) (length-map text (λ c. c.class))

    stands : (text : List Character) → list_all is_even text ≡ true → standings_by 0 false None text (levels_of 0 text) ≡ zeros_of text
    stands text h = ap (standings_by 0 false None text) (levels_even text h) ∙ stand_by_zeros false text h

    -- a line break is as one character more
    stands_ended : (text : List Character) → list_all is_even text ≡ true → ended (Some 0) text ≡ zeros_of text ++ flat_standing ∷ []
    unfolding zeros_of is_even belongs
    stands_ended text h =
        let all : list_all is_even (text ++ line_break ∷ []) ≡ true = even_append text (line_break ∷ []) h refl in
        let long : replicate (length text) 0 ++ 0 ∷ [] ≡ replicate (length (text ++ line_break ∷ [])) 0 =
        replicate_more (length text) 0 ∙ ap (λ n. replicate n 0) (sym (length-append text (line_break ∷ []))) in
        ap (λ levels. standings_by 0 false None (text ++ line_break ∷ []) (levels ++ 0 ∷ [])) (levels_even text h)
        ∙ ap (standings_by 0 false None (text ++ line_break ∷ [])) long
        ∙ stand_by_zeros false (text ++ line_break ∷ []) all
        ∙ zeros_append text (line_break ∷ [])

    more_texts : (given : Option ℕ) (text front : List Character) (texts : List (List Character))
        → standings given (text ∷ in_front front texts) ≡ ended given text ++ standings given (in_front front texts)
    more_texts given text front [] = refl
    more_texts given text front (next ∷ texts) = refl

    -- characters in front of the rest
    behind : (front own : List Character) (texts : List (List Character)) (rest : List Standing) (later : List Standing)
        → standings (Some 0) (in_front (front ++ own) texts) ≡ zeros_of (front ++ own) ++ rest → zeros_of own ++ rest ≡ later
        → standings (Some 0) (in_front front (in_front own texts)) ≡ zeros_of front ++ later
    behind front own texts rest later h is =
        ap (standings (Some 0)) (in_front_twice front own texts) ∙ h ∙ ap (λ stood. stood ++ rest) (zeros_append front own)
        ∙ append_assoc (zeros_of front) (zeros_of own) rest ∙ ap (λ later. zeros_of front ++ later) is

    -- no characters in front of the rest
    behind_none : (front own : List Character) (texts : List (List Character)) (later : List Standing) → own ≡ []
        → standings (Some 0) (in_front front texts) ≡ later → standings (Some 0) (in_front front (in_front own texts)) ≡ later
    behind_none front own texts later none h =
        ap (standings (Some 0)) (in_front_twice front own texts ∙ ap (λ front. in_front front texts) (ap (λ own. front ++ own) none ∙ append-nil front)) ∙ h

    all_flat : (container : Around) (opened : List Around) (front : List Character) (parts : List Part)
        → puts_nothing container.bidi ≡ true → are_normal opened ≡ true → list_all is_even front ≡ true → list_all is_flat parts ≡ true
        → standings (Some 0) (in_front front (texts_of container opened parts)) ≡ zeros_of front ++ standing_so (raws parts)
    unfolding zeros_of is_even belongs
    all_flat container opened front [] c o f h =
        ap (λ text. standings (Some 0) (text ∷ [])) (ap (λ own. front ++ own) (nothing_behind container.bidi c) ∙ append-nil front)
        ∙ stands front f ∙ sym (append-nil (zeros_of front))
    all_flat container opened front (opens bidi dir ∷ parts) c o f h =
        let all = and_parts (is_normal bidi) (list_all is_flat parts) h in
        let inner : List Around = (record { bidi = bidi; dir = dir }) ∷ opened in
        behind_none front (before bidi dir) (texts_of container inner parts) _ (normal_before bidi dir all.0)
        (all_flat container inner front parts c (rw all.0 o) f all.1)
    all_flat container opened front (closes ∷ parts) c o f h =
        behind_none front (closing_innermost opened) (texts_of container (without_innermost opened) parts) _ (innermost_none opened o)
        (all_flat container (without_innermost opened) front parts c (outer_normal opened o) f h)
    all_flat container opened front (control char class ∷ parts) c o f h = absurd (cc)
    all_flat container opened front (item (of_unit source node upright unit letters) ∷ parts) c o f h =
        let all = and_parts (are_flat upright letters) (list_all is_flat parts) h in
        let own = unit_characters upright letters in
        behind front own (texts_of container opened parts) (standing_so (raws parts)) _
        (all_flat container opened (front ++ own) parts c o (even_append front own f (unit_even upright letters all.0)) all.1)
        (ap (λ stood. stood ++ standing_so (raws parts)) (unit_zeros upright letters all.0))
    all_flat container opened front (item (of_combined source node unit letters inside) ∷ parts) c o f h =
        let own = character 0xFFFC L Begins ∷ [] in
        behind front own (texts_of container opened parts) (standing_so (raws parts)) _
        (all_flat container opened (front ++ own) parts c o (even_append front own f refl) h) refl
    all_flat container opened front (item (of_atom source name) ∷ parts) c o f h =
        let own = character 0xFFFC ON Begins ∷ [] in
        behind front own (texts_of container opened parts) (standing_so (raws parts)) _
        (all_flat container opened (front ++ own) parts c o (even_append front own f refl) h) refl
    all_flat container opened front (item (of_break source node) ∷ parts) c o f h =
        let text = front ++ (closing_all opened ++ container_after container.bidi) in
        let start = container_before container.bidi container.dir ++ opening_all opened in
        let texts = texts_of container opened parts in
        let whole : text ≡ front = ap₂ (λ closing end_. front ++ (closing ++ end_)) (closing_none opened o) (nothing_behind container.bidi c) ∙ append-nil front in
        let again : start ≡ [] = ap₂ ◌++◌ (nothing_before container.bidi container.dir c) (opening_none opened o) in
        more_texts (Some 0) text start texts
        ∙ ap₂ (λ text start. ended (Some 0) text ++ standings (Some 0) (in_front start texts)) whole again
        ∙ ap₂ ◌++◌ (stands_ended front f) (all_flat container opened [] parts c o refl h)
        ∙ append_assoc (zeros_of front) (flat_standing ∷ []) (standing_so (raws parts))

    pub stand_flat : (style : Style) (parts : List Part) → puts_nothing style.bidi ≡ true → list_all is_flat parts ≡ true
        → standings_of (Some 0) style parts ≡ standing_so (raws parts)
    unfolding bidi_texts taking_part zeros_of
    stand_flat style parts c h =
        let marks = takes_from [] (map kind_of parts) in
        let container = container_of style in
        ap (λ front. standings (Some 0) (in_front front (texts_of container [] (marked marks parts)))) (nothing_before style.bidi container.dir c)
        ∙ all_flat container [] [] (marked marks parts) c refl refl (marked_flat marks parts h)
        ∙ ap standing_so (raws_taken [] parts)
