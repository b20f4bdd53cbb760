-- Where each item is one character of the one bidi paragraph, it stands at the level of that character.
use Rattle.std.proofs.Common.{append_assoc, ◌≡◌, refl, sym, ap, ap₂, ◌∙◌, ℕ, suc, ◌+◌, ◌≤◌, ◌%◌, Bool, true, false, ◌==◌, List, [], ◌∷◌, ◌++◌, length, map, arith}
use Rattle.std.specs.Prelude.{All, IfOk, IfSome, Result, Ok, Err, Option, Some, None, cond, replicate, unwrap_or}
use Rattle.std.specs.List.{list_all}
use Rattle.std.proofs.lemmas.Bool.{and_parts}
use Rattle.std.proofs.lemmas.List.{length-map, length-replicate}
use Rattle.std.proofs.lemmas.List.Elements.{All-cons, All-head, All-replicate, All-tail, All-weaker}
use Rattle.wm_chars.specs.Pairs.{mirror}
use Rattle.wm_chars.specs.declared.classes.BidiClass.{BidiClass}
use Rattle.fragment_types.specs.declared.breaking.Breaking.{Breaking}
use Rattle.bidi_explicit.specs.Base.{base_of}
use Rattle.bidi_resolve.specs.Laws.{LeftToRightHasLevelZero}
use Rattle.bidi_resolve.specs.Paragraph.{IsResolvedLevel, paragraph_levels}
use Rattle.style_types.specs.declared.style.Style.{Style}
use Rattle.para_prepare.specs.declared.bidi_text.Around.{Around}
use Rattle.para_prepare.specs.declared.bidi_text.Character.{Character}
use Rattle.para_prepare.specs.declared.bidi_text.Role.TheVariants.{Begins}
use Rattle.para_prepare.specs.declared.item.PreparedContent as content
use Rattle.para_prepare.specs.declared.item.PreparedContent.TheVariants as contents
use Rattle.para_prepare.specs.declared.item.PreparedItem.{PreparedItem}
use Rattle.para_prepare.specs.declared.standing.Standing.{Standing}
use Rattle.para_prepare.specs.BidiText.{bidi_texts, character, characters, in_front, texts_of}
use Rattle.para_prepare.specs.Boxes.{kind_of, marked, takes_from, taking_part}
use Rattle.para_prepare.specs.Breaks.{break_class_of, breaks_of}
use Rattle.para_prepare.specs.Flat.{AreAlike, Flat, HasBoundsIn, flat_item, grown, is_bare, is_flat, is_one, is_zero, nothing, puts_nothing}
use Rattle.para_prepare.specs.Glyph.{class_of}
use Rattle.para_prepare.specs.Items.{item_of, items_by}
use Rattle.para_prepare.specs.Parts.{Part, opens, closes, control, item, Raw, of_unit, of_combined, of_atom, of_break, raws}
use Rattle.para_prepare.specs.Preparation.{AreWhole, HasBounds, Preparation, container_of, prepared_by, standings_of}
use Rattle.para_prepare.specs.Singles.{at_level, at_levels, character_in, mirrored_item, own_preparation, zero_preparation}
use Rattle.para_prepare.specs.Standing.{base_in, chars_of, classes_of, levels_of, standings, standings_by}
use Rattle.para_prepare.proofs.FlatLaws.{bases_flat, items_flat, levels_flat, none_apart, nothing_before, nothing_behind, stand_flat, standing_so}
use Rattle.para_prepare.proofs.PreparationLaws.{breaks_count, raws_taken}
use Rattle.para_prepare.proofs.Texts.{in_front_twice}

-- ---- the bidi text

-- the character of an item
abbrev one : Raw → Character
one raw = character (character_in (flat_item raw).what) (class_of raw) Begins

characters_one : (raw : Raw) → is_one raw ≡ true → characters raw ≡ one raw ∷ []
characters_one (of_unit source node upright unit []) h = absurd (cc)
characters_one (of_unit source node upright unit (l ∷ [])) h = refl
characters_one (of_unit source node upright unit (l ∷ (m ∷ letters))) h = absurd (cc)
characters_one (of_combined source node unit letters inside) h = refl
characters_one (of_atom source name) h = refl
characters_one (of_break source node) h = absurd (cc)

module _ (container : Around) (c : puts_nothing container.bidi ≡ true)
  where
    own_text : (front : List Character) (raw : Raw) (more : List Part) → is_one raw ≡ true
        → in_front (front ++ characters raw) (texts_of container [] more) ≡ ((front ++ characters raw) ++ map one (raws more)) ∷ []
        → in_front front (in_front (characters raw) (texts_of container [] more)) ≡ (front ++ map one (raw ∷ raws more)) ∷ []
    own_text front raw more h rest =
        in_front_twice front (characters raw) (texts_of container [] more) ∙ rest
        ∙ ap (λ text. text ∷ []) (append_assoc front (characters raw) (map one (raws more)) ∙ ap (λ own. front ++ (own ++ map one (raws more))) (characters_one raw h))

    text_bare : (front : List Character) (own : List Part) → list_all is_bare own ≡ true → in_front front (texts_of container [] own) ≡ (front ++ map one (raws own)) ∷ []
    text_bare front [] h = ap (λ end_. (front ++ end_) ∷ []) (nothing_behind container.bidi c)
    text_bare front (opens bidi dir ∷ more) h = absurd (cc)
    text_bare front (closes ∷ more) h = absurd (cc)
    text_bare front (control char class ∷ more) h = absurd (cc)
    text_bare front (item (of_unit source node upright unit letters) ∷ more) h =
        let raw = of_unit source node upright unit letters in
        let all = and_parts (is_one raw) (list_all is_bare more) h in
        own_text front raw more all.0 (text_bare (front ++ characters raw) more all.1)
    text_bare front (item (of_combined source node unit letters inside) ∷ more) h =
        own_text front (of_combined source node unit letters inside) more refl (text_bare (front ++ characters (of_combined source node unit letters inside)) more h)
    text_bare front (item (of_atom source name) ∷ more) h =
        own_text front (of_atom source name) more refl (text_bare (front ++ characters (of_atom source name)) more h)
    text_bare front (item (of_break source node) ∷ more) h = absurd (cc)

marked_bare : (marks : List Bool) (own : List Part) → list_all is_bare own ≡ true → list_all is_bare (marked marks own) ≡ true
marked_bare [] own h = refl
marked_bare (mark ∷ marks) [] h = refl
marked_bare (true ∷ marks) (part ∷ own) h =
    let all = and_parts (is_bare part) (list_all is_bare own) h in
    rw all.0 (marked_bare marks own all.1)
marked_bare (false ∷ marks) (part ∷ own) h = marked_bare marks own (and_parts (is_bare part) (list_all is_bare own) h).1

texts_bare : (style : Style) (own : List Part) → puts_nothing style.bidi ≡ true → list_all is_bare own ≡ true
    → bidi_texts (container_of style) (taking_part own) ≡ map one (raws own) ∷ []
unfolding bidi_texts taking_part
texts_bare style own c h =
    let container = container_of style in
    let marks = takes_from [] (map kind_of own) in
    ap (λ front. in_front front (texts_of container [] (marked marks own))) (nothing_before style.bidi container.dir c)
    ∙ text_bare container c [] (marked marks own) (marked_bare marks own h)
    ∙ ap (λ raws. map one raws ∷ []) (raws_taken [] own)

-- ---- how the items stand

abbrev own_standing : (base level : ℕ) → Standing
own_standing base level = record { level = level; base = base; apart = None }

stand_ones : (base : ℕ) (begun : Bool) (all : List Raw) (levels : List ℕ) → length levels ≡ length all
    → standings_by base begun None (map one all) levels ≡ map (own_standing base) levels
stand_ones base begun [] [] h = refl
stand_ones base begun [] (level ∷ levels) h = absurd (omega arith)
stand_ones base begun (raw ∷ all) [] h = absurd (omega arith)
stand_ones base begun (raw ∷ all) (level ∷ levels) h =
    ap₂ (λ apart later. (record { level = level; base = base; apart = apart }) ∷ later) (none_apart begun None) (stand_ones base true all levels (omega arith))

classes_of_ones : (all : List Raw) → classes_of (map one all) ≡ map class_of all
classes_of_ones [] = refl
classes_of_ones (raw ∷ all) = ap (λ later. class_of raw ∷ later) (classes_of_ones all)

chars_of_ones : (all : List Raw) → chars_of (map one all) ≡ map (λ own. character_in own.what) (map flat_item all)
chars_of_ones [] = refl
chars_of_ones (raw ∷ all) = ap (λ later. character_in (flat_item raw).what ∷ later) (chars_of_ones all)

-- ---- what is made of them

either : {X : Type 0} (odd : Bool) (x : X) → x ≡ cond odd x x
either true x = refl
either false x = refl

item_at : (raw : Raw) (base level : ℕ) → is_one raw ≡ true → item_of raw (own_standing base level) ≡ at_level level (flat_item raw)
item_at (of_unit source node upright unit []) base level h = absurd (cc)
item_at (of_unit source node upright unit (l ∷ [])) base level h = go (level % 2 == 1)
  where
    go : (odd : Bool)
        → (record { source = source; apart = None; what = contents.Unit unit.kind (l.char == 0x20) node l.place (l.place + 1) unit.advance ((cond odd (unwrap_or (mirror l.char) l.char) l.char ∷ []) ∷ []) })
        ≡ cond odd (mirrored_item (flat_item (of_unit source node upright unit (l ∷ [])))) (flat_item (of_unit source node upright unit (l ∷ [])))
    go true = refl
    go false = refl
item_at (of_unit source node upright unit (l ∷ (m ∷ letters))) base level h = absurd (cc)
item_at (of_combined source node unit letters inside) base level h = either (level % 2 == 1) (flat_item (of_combined source node unit letters inside))
item_at (of_atom source name) base level h = either (level % 2 == 1) (flat_item (of_atom source name))
item_at (of_break source node) base level h = absurd (cc)

items_at : (all : List Raw) (base : ℕ) (levels : List ℕ) → list_all is_one all ≡ true → length levels ≡ length all
    → items_by all (map (own_standing base) levels) ≡ at_levels (map flat_item all) levels
items_at [] base levels h long = refl
items_at (raw ∷ all) base [] h long = absurd (omega arith)
items_at (raw ∷ all) base (level ∷ levels) h long =
    let each = and_parts (is_one raw) (list_all is_one all) h in
    ap₂ (λ own later. own ∷ later) (item_at raw base level each.0) (items_at all base levels each.1 (omega arith))

ones : (own : List Part) → list_all is_bare own ≡ true → list_all is_one (raws own) ≡ true
ones [] h = refl
ones (opens bidi dir ∷ more) h = absurd (cc)
ones (closes ∷ more) h = absurd (cc)
ones (control char class ∷ more) h = absurd (cc)
ones (item raw ∷ more) h =
    let all = and_parts (is_one raw) (list_all is_bare more) h in
    rw all.0 (ones more all.1)

levels_stay : (base : ℕ) (levels : List ℕ) → map (λ s. s.level) (map (own_standing base) levels) ≡ levels
levels_stay base [] = refl
levels_stay base (level ∷ levels) = ap (λ later. level ∷ later) (levels_stay base levels)

bases_same : (base : ℕ) (levels : List ℕ) → map (λ s. s.base) (map (own_standing base) levels) ≡ replicate (length levels) base
bases_same base [] = refl
bases_same base (level ∷ levels) = ap (λ later. base ∷ later) (bases_same base levels)

-- ---- the whole

abbrev base_at : (given : Option ℕ) → List Raw → ℕ
base_at given all = base_of given (map class_of all)

abbrev levels_at : (given : Option ℕ) → List Raw → List ℕ
levels_at given all = paragraph_levels (map (λ own. character_in own.what) (map flat_item all)) (map class_of all) (base_at given all)

standings_bare : (given : Option ℕ) (style : Style) (own : List Part) → puts_nothing style.bidi ≡ true → list_all is_bare own ≡ true → length (levels_at given (raws own)) ≡ length (raws own)
    → standings_of given style own ≡ map (own_standing (base_at given (raws own))) (levels_at given (raws own))
standings_bare given style own c h long =
    let all = raws own in
    let text = map one all in
    let base_is : base_in given text ≡ base_at given all = ap (base_of given) (classes_of_ones all) in
    let levels_are : levels_of (base_at given all) text ≡ levels_at given all = ap₂ (λ chars classes. paragraph_levels chars classes (base_at given all)) (chars_of_ones all) (classes_of_ones all) in
    ap (standings given) (texts_bare style own c h)
    ∙ ap (λ base. standings_by base false None text (levels_of base text)) base_is
    ∙ ap (standings_by (base_at given all) false None text) levels_are
    ∙ stand_ones (base_at given all) false all (levels_at given all) long

abbrev preparation_with : List PreparedItem → List ℕ → List BidiClass → List ℕ → List Breaking → Preparation
preparation_with items levels classes bases breaks = record { items = items; levels = levels; classes = classes; bases = bases; breaks = breaks }

same_preparation : (i j : List PreparedItem) (l m : List ℕ) (c : List BidiClass) (b d : List ℕ) (e : List Breaking) → i ≡ j → l ≡ m → b ≡ d
    → preparation_with i l c b e ≡ preparation_with j m c d e
same_preparation i j l m c b d e is ls bs = rw is (rw ls (rw bs refl))

prepared_bare : (given : Option ℕ) (style : Style) (own : List Part) → puts_nothing style.bidi ≡ true → list_all is_bare own ≡ true → length (levels_at given (raws own)) ≡ length (raws own)
    → own_preparation given (grown nothing own) ≡ prepared_by (raws own) (standings_of given style own)
prepared_bare given style own c h long =
    let all = raws own in
    let base = base_at given all in
    same_preparation _ _ _ _ (map class_of all) _ _ (breaks_of (map break_class_of all))
    (sym (items_at all base (levels_at given all) (ones own h) long)) (sym (levels_stay base (levels_at given all)))
    (ap (λ n. replicate n base) (length-map all flat_item ∙ sym long) ∙ sym (bases_same base (levels_at given all)))
    ∙ ap (prepared_by all) (sym (standings_bare given style own c h long))

-- ---- at level 0

zero_is : (given : Option ℕ) → is_zero given ≡ true → given ≡ Some 0
zero_is None h = absurd (cc)
zero_is (Some n) h = ap Some (let is : n ≡ 0 = grind arith in is)

pub zero_prepared : LeftToRightHasLevelZero → (given : Option ℕ) (style : Style) (own : List Part) (made : Flat) (p : Preparation)
    → is_zero given ≡ true → puts_nothing style.bidi ≡ true → made ≡ grown nothing own → made.flat ≡ true → p ≡ zero_preparation made
    → p ≡ prepared_by (raws own) (standings_of given style own)
zero_prepared law given style own made p z c is flat p_is =
    let even : list_all is_flat own ≡ true = sym (ap (λ made. made.flat) is) ∙ flat in
    let stood : standings_of given style own ≡ standing_so (raws own) = ap (λ given. standings_of given style own) (zero_is given z) ∙ stand_flat law style own c even in
    p_is ∙ ap zero_preparation is
    ∙ rw stood (rw (items_flat (raws own), levels_flat (raws own), bases_flat (raws own), length-map (raws own) flat_item) refl)

pub own_prepared : (given : Option ℕ) (style : Style) (own : List Part) (made : Flat) (p : Preparation)
    → puts_nothing style.bidi ≡ true → made ≡ grown nothing own → made.bare ≡ true → p ≡ own_preparation given made → length p.levels ≡ length made.items
    → p ≡ prepared_by (raws own) (standings_of given style own)
own_prepared given style own made p c is bare p_is long =
    let all : list_all is_bare own ≡ true = sym (ap (λ made. made.bare) is) ∙ bare in
    let so : p ≡ own_preparation given (grown nothing own) = p_is ∙ ap (own_preparation given) is in
    so ∙ prepared_bare given style own c all (sym (ap (λ p. length p.levels) so) ∙ long ∙ ap (λ made. length made.items) is ∙ length-map (raws own) flat_item)

-- ---- one of each for every item

pub at_levels_count : (items : List PreparedItem) (levels : List ℕ) → length (at_levels items levels) ≡ length items
at_levels_count [] levels = refl
at_levels_count (own ∷ items) [] = refl
at_levels_count (own ∷ items) (level ∷ levels) = ap (λ n. suc n) (at_levels_count items levels)

bounds_at : (odd : Bool) (own : PreparedItem) → HasBoundsIn own → HasBoundsIn (cond odd (mirrored_item own) own)
bounds_at false own h = h
bounds_at true own h = mirrored own.source own.apart own.what h
  where
    mirrored : (source : ℕ) (apart : Option ℕ) (what : content.PreparedContent) → HasBounds what → HasBoundsIn (mirrored_item (record { source = source; apart = apart; what = what }))
    mirrored source apart (contents.Unit form space node first end_ advance glyphs) h = h
    mirrored source apart (contents.Combined node first end_ advance natural glyphs) h = h
    mirrored source apart (contents.Atom name) h = h
    mirrored source apart (contents.Break node) h = h

pub bounds_at_levels : (items : List PreparedItem) (levels : List ℕ) → All HasBoundsIn items → All HasBoundsIn (at_levels items levels)
bounds_at_levels [] levels h = h
bounds_at_levels (own ∷ items) [] h = h
bounds_at_levels (own ∷ items) (level ∷ levels) h =
    All-cons HasBoundsIn (at_level level own) (at_levels items levels) (bounds_at (level % 2 == 1) own (All-head HasBoundsIn own items h)) (bounds_at_levels items levels (All-tail HasBoundsIn own items h))

pub zero_whole : (made : Flat) (levels bases : List ℕ) (breaks : List Breaking) → AreAlike made
    → levels ≡ replicate (length made.items) 0 → bases ≡ replicate (length made.items) 0 → breaks ≡ breaks_of made.breaks → AreWhole made.items levels made.classes bases breaks
zero_whole made levels bases breaks a ls bs es =
    let n = length made.items in
    rw ls (rw bs (rw es (record {
      levels_count = length-replicate n 0;
      classes_count = a.classes_count;
      bases_count = length-replicate n 0;
      breaks_count = breaks_count made.breaks ∙ a.breaks_count;
      levels_bounds = All-replicate (λ level. level ≤ 126) n 0 (omega arith);
      bases_bounds = All-replicate (λ base. base ≤ 1) n 0 (omega arith);
    })))

pub own_whole : (made : Flat) (items : List PreparedItem) (base : ℕ) (levels bases : List ℕ) (breaks : List Breaking) → AreAlike made → base ≤ 1
    → length levels ≡ length made.classes → All (IsResolvedLevel base) levels
    → items ≡ at_levels made.items levels → bases ≡ replicate (length items) base → breaks ≡ breaks_of made.breaks → AreWhole items levels made.classes bases breaks
own_whole made items base levels bases breaks a low long bounds is bs es =
    let same : length items ≡ length made.items = ap length is ∙ at_levels_count made.items levels in
    rw bs (rw es (record {
      levels_count = long ∙ a.classes_count ∙ sym same;
      classes_count = a.classes_count ∙ sym same;
      bases_count = length-replicate (length items) base;
      breaks_count = breaks_count made.breaks ∙ a.breaks_count ∙ sym same;
      levels_bounds = All-weaker (IsResolvedLevel base) (λ level. level ≤ 126) (λ level h. h.high) levels bounds;
      bases_bounds = All-replicate (λ base. base ≤ 1) (length items) base low;
    }))

pub alike : (own : List Part) (made : Flat) → made ≡ grown nothing own → AreAlike made
alike own made is =
    rw is (record {
      classes_count = length-map (raws own) class_of ∙ sym (length-map (raws own) flat_item);
      breaks_count = length-map (raws own) break_class_of ∙ sym (length-map (raws own) flat_item);
    })

-- three facts of what is made, if something is
pub some_joined : {X E : Type 0} (r : Result (Option X) E) (P Q R S : X → Type 0) → ((x : X) → P x → Q x → R x → S x)
    → IfOk r (λ own. IfSome own P) → IfOk r (λ own. IfSome own Q) → IfOk r (λ own. IfSome own R) → IfOk r (λ own. IfSome own S)
some_joined (Ok None) P Q R S more p q h = tt
some_joined (Ok (Some x)) P Q R S more p q h = more x p q h
some_joined (Err e) P Q R S more p q h = tt
