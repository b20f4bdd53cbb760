-- What is prepared of a paragraph in a way is what is prepared of it in a horizontal flow.
use Rattle.std.proofs.Common.{◌≡◌, ◌∙◌, refl, sym, ap, ℕ, ◌+◌, Bool, true, false, cond, List, [], ◌∷◌, ◌++◌, drop, length, map, Option, None}
use Rattle.std.proofs.lemmas.List.{map-append}
use Rattle.std.specs.List.{slice_range}
use Rattle.std.specs.Str.{chars}
use Rattle.face_api.specs.Living.{used_table}
use Rattle.face_api.specs.Table.{Table}
use Rattle.bidi_order.specs.Blanks.{reset}
use Rattle.style_types.specs.declared.style.Combine.TheVariants.{Never}
use Rattle.style_types.specs.declared.style.Style.{Style}
use Rattle.fragment_types.specs.Item.{Entry, text, begins, ends, atom, line_break}
use Rattle.fragment_types.specs.declared.unit_kind.UnitKind.{UnitKind}
use Rattle.fragment_types.specs.declared.unit_kind.UnitKind.TheVariants.{Along, Turned, Upright, Combined}
use Rattle.cluster_units.specs.Text.{is_combined}
use Rattle.cluster_units.specs.declared.unit.Unit.{Unit}
use Rattle.para_prepare.specs.BidiText.{before, bidi_texts, characters, closing_all, closing_innermost, container_after, container_before, in_front, opening_all, put, texts_of, without_innermost}
use Rattle.para_prepare.specs.Boxes.{kind_of, marked, takes_from, taking_part}
use Rattle.para_prepare.specs.Breaks.{break_class_of, breaks_of}
use Rattle.para_prepare.specs.Content.{parts, parts_from, parts_in, raw_of, text_parts}
use Rattle.para_prepare.specs.Glyph.{class_of, letters_of}
use Rattle.para_prepare.specs.Inside.{inside, inside_by, inside_characters, inside_parts, level_of, seen_in_order}
use Rattle.para_prepare.specs.Items.{item_of, items_by}
use Rattle.para_prepare.specs.Parts.{Part, Raw, closes, control, control_of, item, of_atom, of_break, of_combined, of_unit, opens, parts_by, raws, sets_upright, units_in}
use Rattle.para_prepare.specs.Preparation.{container_of, prepared_by, preparation, standings_of}
use Rattle.para_prepare.specs.Standing.{levels_of, standings, standings_by}
use Rattle.para_prepare.specs.White.{chosen, marks, marks_from, signs, signs_in}
use Rattle.page_turn.specs.Kinds.{form_in}
use Rattle.flow_modes.specs.Prepared.{PreparationsAlike, prepared_item_in, preparation_in, unit_in}
use Rattle.mode_ways.specs.Ways.{Way, across, down, left, right, entries_in, entry_in, mode_of, plain, style_in}
use Rattle.flow_modes.proofs.SideLaws.{direction_same}
use Rattle.flow_modes.proofs.UnitLaws.{units_alike}

-- ---- what reads the mode

upright_same : (way : Way) (style : Style) → sets_upright (style_in way style) ≡ false
upright_same (across orientation combine) style = refl
upright_same down style = refl
upright_same (right orientation combine) style = refl
upright_same (left orientation combine) style = refl

combined_in : (way : Way) (form : UnitKind) → is_combined (form_in (mode_of way) form) ≡ is_combined form
combined_in (across orientation combine) form = refl
combined_in down Along = refl
combined_in down Turned = refl
combined_in down Upright = refl
combined_in down Combined = refl
combined_in (right orientation combine) form = refl
combined_in (left orientation combine) form = refl

-- a way in which no text is combined by what is declared
abbrev alone : Way → Way
alone (across orientation combine) = across orientation Never
alone down = down
alone (right orientation combine) = right orientation Never
alone (left orientation combine) = left orientation Never

-- ---- white space

signs_in_same : (way : Way) (entry : Entry) → signs_in (entry_in way entry) ≡ signs_in entry
signs_in_same way (text node letters style) = refl
signs_in_same way (begins node style edges) = refl
signs_in_same way (ends node edges) = refl
signs_in_same way (atom name) = refl
signs_in_same way (line_break node) = refl

signs_same : (way : Way) (entries : List Entry) → signs (entries_in way entries) ≡ signs entries
signs_same way [] = refl
signs_same way (entry ∷ entries) = λ i. signs_in_same way entry i ++ signs_same way entries i

marks_same : (way : Way) (entries : List Entry) → marks (entries_in way entries) ≡ marks entries
unfolding marks
marks_same way entries = ap (marks_from []) (signs_same way entries)

-- ---- parts

raw_in : Way → Raw → Raw
raw_in way (of_unit source node upright unit letters) = of_unit source node upright (unit_in way unit) letters
raw_in way (of_combined source node unit letters seen) = of_combined source node (unit_in way unit) letters seen
raw_in way (of_atom source name) = of_atom source name
raw_in way (of_break source node) = of_break source node

part_in : Way → Part → Part
part_in way (opens bidi dir) = opens bidi dir
part_in way closes = closes
part_in way (control c class) = control c class
part_in way (item raw) = item (raw_in way raw)

controls_same : (way : Way) (upright : Bool) (letters : List _) → map (control_of upright) letters ≡ map (part_in way) (map (control_of upright) letters)
unfolding part_in
controls_same way upright [] = refl
controls_same way upright (l ∷ letters) = ap (λ (others : List Part). control_of upright l ∷ others) (controls_same way upright letters)

-- for two functions from units to items that agree
parts_by_same : (way : Way) (upright : Bool) (those raw : Unit → List _ → Raw) → ((unit : Unit) (letters : List _) → those (unit_in way unit) letters ≡ raw_in way (raw unit letters))
    → (letters : List _) (at : ℕ) (units : List Unit) → parts_by upright those letters at (map (unit_in way) units) ≡ map (part_in way) (parts_by upright raw letters at units)
unfolding part_in
parts_by_same way upright those raw same letters at [] = controls_same way upright (drop at letters)
parts_by_same way upright those raw same letters at (unit ∷ units) =
    (λ i. controls_same way upright (slice_range letters at unit.first) i
    ++ item (same unit (slice_range letters unit.first unit.end) i) ∷ parts_by_same way upright those raw same letters unit.end units i)
    ∙ sym (map-append (part_in way) (map (control_of upright) (slice_range letters at unit.first))
    (item (raw unit (slice_range letters unit.first unit.end)) ∷ parts_by upright raw letters unit.end units))

raws_same : (way : Way) (own : List Part) → raws (map (part_in way) own) ≡ map (raw_in way) (raws own)
unfolding part_in
raws_same way [] = refl
raws_same way (item raw ∷ own) = ap (λ (others : List Raw). raw_in way raw ∷ others) (raws_same way own)
raws_same way (opens bidi dir ∷ own) = raws_same way own
raws_same way (closes ∷ own) = raws_same way own
raws_same way (control c class ∷ own) = raws_same way own

-- ---- what is read of an item

characters_same : (way : Way) (raw : Raw) → characters (raw_in way raw) ≡ characters raw
unfolding raw_in
characters_same way (of_unit source node upright unit letters) = refl
characters_same way (of_combined source node unit letters seen) = refl
characters_same way (of_atom source name) = refl
characters_same way (of_break source node) = refl

class_same : (way : Way) (raw : Raw) → class_of (raw_in way raw) ≡ class_of raw
unfolding raw_in
class_same way (of_unit source node upright unit letters) = refl
class_same way (of_combined source node unit letters seen) = refl
class_same way (of_atom source name) = refl
class_same way (of_break source node) = refl

letters_same : (way : Way) (raw : Raw) → letters_of (raw_in way raw) ≡ letters_of raw
unfolding raw_in
letters_same way (of_unit source node upright unit letters) = refl
letters_same way (of_combined source node unit letters seen) = refl
letters_same way (of_atom source name) = refl
letters_same way (of_break source node) = refl

break_class_same : (way : Way) (raw : Raw) → break_class_of (raw_in way raw) ≡ break_class_of raw
unfolding raw_in
break_class_same way (of_unit source node upright unit letters) = refl
break_class_same way (of_combined source node unit letters seen) = refl
break_class_same way (of_atom source name) = refl
break_class_same way (of_break source node) = refl

-- a function that reads the same of each item reads the same of them all
each_same : {X : Type 0} (way : Way) (read : Raw → X) → ((raw : Raw) → read (raw_in way raw) ≡ read raw) → (own : List Raw) → map read (map (raw_in way) own) ≡ map read own
each_same way read same [] = refl
each_same way read same (raw ∷ own) = λ i. same raw i ∷ each_same way read same own i

-- ---- combined runs

inside_characters_same : (way : Way) (own : List Part) → inside_characters (map (part_in way) own) ≡ inside_characters own
unfolding part_in
inside_characters_same way [] = refl
inside_characters_same way (opens bidi dir ∷ own) = inside_characters_same way own
inside_characters_same way (closes ∷ own) = inside_characters_same way own
inside_characters_same way (control c class ∷ own) = λ i. put c class ∷ inside_characters_same way own i
inside_characters_same way (item raw ∷ own) = λ i. characters_same way raw i ++ inside_characters_same way own i

inside_by_same : (way : Way) (base : ℕ) (own : List Part) → inside_by base (map (part_in way) own) ≡ inside_by base own
inside_by_same way base own =
    let classes = (λ i. map class_of (raws_same way own i)) ∙ each_same way class_of (class_same way) (raws own) in
    let those = (λ i. map letters_of (raws_same way own i)) ∙ each_same way letters_of (letters_same way) (raws own) in
    λ i. seen_in_order
    (reset base (map (λ s. s.level) (standings_by base false None (inside_characters_same way own i) (levels_of base (inside_characters_same way own i)))) (classes i))
    (map (λ s. s.apart) (standings_by base false None (inside_characters_same way own i) (levels_of base (inside_characters_same way own i)))) (those i)

by_units : (way : Way) (letters : List _) (those units : List Unit) → those ≡ map (unit_in way) units
    → parts_by false (of_unit 0 0 false) letters 0 those ≡ map (part_in way) (parts_by false (of_unit 0 0 false) letters 0 units)
unfolding raw_in
by_units way letters those units same =
    ap (parts_by false (of_unit 0 0 false) letters 0) same
    ∙ parts_by_same way false (of_unit 0 0 false) (of_unit 0 0 false) (λ unit own. refl) letters 0 units

-- its characters are set in a way too, that of no combining
inside_parts_same : (way : Way) (faces : List (Option Table)) (style : Style) (letters : List _)
    → inside_parts faces (style_in way style) letters ≡ map (part_in way) (inside_parts faces (style_in plain style) letters)
inside_parts_same (across orientation combine) faces style letters =
    by_units (across orientation combine) letters _ _ (units_alike (across orientation Never) style (used_table faces style.face) (map (λ l. l.char) letters))
inside_parts_same down faces style letters = by_units down letters _ _ (units_alike down style (used_table faces style.face) (map (λ l. l.char) letters))
inside_parts_same (right orientation combine) faces style letters =
    by_units (right orientation combine) letters _ _ (units_alike (right orientation Never) style (used_table faces style.face) (map (λ l. l.char) letters))
inside_parts_same (left orientation combine) faces style letters =
    by_units (left orientation combine) letters _ _ (units_alike (left orientation Never) style (used_table faces style.face) (map (λ l. l.char) letters))

inside_same : (way : Way) (faces : List (Option Table)) (style : Style) (letters : List _) → inside faces (style_in way style) letters ≡ inside faces (style_in plain style) letters
unfolding inside
inside_same way faces style letters =
    (λ i. inside_by (level_of (direction_same way style i)) (inside_parts_same way faces style letters i))
    ∙ inside_by_same way (level_of style.direction) (inside_parts faces (style_in plain style) letters)

-- ---- the parts of a paragraph

raw_by_same : (way : Way) (is_run : Bool) (source node : ℕ) (unit : Unit) (letters : List _) (seen : List (List ℕ))
    → cond is_run (of_combined source node (unit_in way unit) letters seen) (of_unit source node false (unit_in way unit) letters)
    ≡ raw_in way (cond is_run (of_combined source node unit letters seen) (of_unit source node false unit letters))
unfolding raw_in
raw_by_same way true source node unit letters seen = refl
raw_by_same way false source node unit letters seen = refl

raw_of_same : (way : Way) (faces : List (Option Table)) (source node : ℕ) (style : Style) (unit : Unit) (letters : List _)
    → raw_of faces source node (style_in way style) (unit_in way unit) letters ≡ raw_in way (raw_of faces source node (style_in plain style) unit letters)
raw_of_same way faces source node style unit letters =
    (λ i. cond (combined_in way unit.kind i) (of_combined source node (unit_in way unit) letters (inside_same way faces style letters i))
    (of_unit source node (upright_same way style i) (unit_in way unit) letters))
    ∙ raw_by_same way (is_combined unit.kind) source node unit letters (inside faces (style_in plain style) letters)

text_parts_same : (way : Way) (faces : List (Option Table)) (source node : ℕ) (style : Style) (letters : List _)
    → text_parts faces source node (style_in way style) letters ≡ map (part_in way) (text_parts faces source node (style_in plain style) letters)
text_parts_same way faces source node style letters =
    (λ i. parts_by (upright_same way style i) (raw_of faces source node (style_in way style)) letters 0
    (units_alike way style (used_table faces style.face) (map (λ l. l.char) letters) i))
    ∙ parts_by_same way false (raw_of faces source node (style_in way style)) (raw_of faces source node (style_in plain style))
    (raw_of_same way faces source node style) letters 0 (units_in faces (style_in plain style) letters)

parts_in_same : (way : Way) (faces : List (Option Table)) (source : ℕ) (entry : Entry) (own : List Bool)
    → parts_in faces source (entry_in way entry) own ≡ map (part_in way) (parts_in faces source (entry_in plain entry) own)
unfolding part_in raw_in
parts_in_same way faces source (text node bytes style) own = text_parts_same way faces source node style (chosen 0 (chars bytes) own)
parts_in_same way faces source (begins node style edges) own = λ i. opens style.bidi (direction_same way style i) ∷ []
parts_in_same way faces source (ends node edges) own = refl
parts_in_same way faces source (atom name) own = refl
parts_in_same way faces source (line_break node) own = refl

parts_from_same : (way : Way) (faces : List (Option Table)) (source : ℕ) (entries : List Entry) (own : List Bool)
    → parts_from faces source (entries_in way entries) own ≡ map (part_in way) (parts_from faces source (entries_in plain entries) own)
parts_from_same way faces source [] own = refl
parts_from_same way faces source (entry ∷ entries) own =
    let same = signs_in_same way entry ∙ sym (signs_in_same plain entry) in
    let others = drop (length (signs_in (entry_in plain entry))) own in
    (λ i. parts_in_same way faces source entry own i ++ parts_from faces (source + 1) (entries_in way entries) (drop (length (same i)) own))
    ∙ ap (λ (those : List Part). map (part_in way) (parts_in faces source (entry_in plain entry) own) ++ those) (parts_from_same way faces (source + 1) entries others)
    ∙ sym (map-append (part_in way) (parts_in faces source (entry_in plain entry) own) (parts_from faces (source + 1) (entries_in plain entries) others))

parts_same : (way : Way) (faces : List (Option Table)) (entries : List Entry) → parts faces (entries_in way entries) ≡ map (part_in way) (parts faces (entries_in plain entries))
unfolding parts
parts_same way faces entries =
    ap (parts_from faces 0 (entries_in way entries)) (marks_same way entries ∙ sym (marks_same plain entries))
    ∙ parts_from_same way faces 0 entries (marks (entries_in plain entries))

-- ---- bidi paragraphs

kind_same : (way : Way) (own : Part) → kind_of (part_in way own) ≡ kind_of own
unfolding part_in
kind_same way (opens bidi dir) = refl
kind_same way closes = refl
kind_same way (control c class) = refl
kind_same way (item raw) = refl

kinds_same : (way : Way) (own : List Part) → map kind_of (map (part_in way) own) ≡ map kind_of own
kinds_same way [] = refl
kinds_same way (part ∷ own) = λ i. kind_same way part i ∷ kinds_same way own i

marked_same : (way : Way) (takes : List Bool) (own : List Part) → marked takes (map (part_in way) own) ≡ map (part_in way) (marked takes own)
marked_same way [] own = refl
marked_same way (mark ∷ takes) [] = refl
marked_same way (true ∷ takes) (part ∷ own) = ap (λ (others : List Part). part_in way part ∷ others) (marked_same way takes own)
marked_same way (false ∷ takes) (part ∷ own) = marked_same way takes own

taking_same : (way : Way) (own : List Part) → taking_part (map (part_in way) own) ≡ map (part_in way) (taking_part own)
unfolding taking_part
taking_same way own =
    (λ i. marked (takes_from [] (kinds_same way own i)) (map (part_in way) own))
    ∙ marked_same way (takes_from [] (map kind_of own)) own

texts_same : (way : Way) (container : _) (opened : List _) (own : List Part) → texts_of container opened (map (part_in way) own) ≡ texts_of container opened own
unfolding part_in raw_in
texts_same way container opened [] = refl
texts_same way container opened (opens bidi dir ∷ own) = ap (in_front (before bidi dir)) (texts_same way container ((record { bidi = bidi; dir = dir }) ∷ opened) own)
texts_same way container opened (closes ∷ own) = ap (in_front (closing_innermost opened)) (texts_same way container (without_innermost opened) own)
texts_same way container opened (control c class ∷ own) = ap (in_front (put c class ∷ [])) (texts_same way container opened own)
texts_same way container opened (item (of_break source node) ∷ own) =
    λ i. (closing_all opened ++ container_after container.bidi)
    ∷ in_front (container_before container.bidi container.dir ++ opening_all opened) (texts_same way container opened own i)
texts_same way container opened (item (of_unit source node upright unit letters) ∷ own) =
    ap (in_front (characters (of_unit source node upright unit letters))) (texts_same way container opened own)
texts_same way container opened (item (of_combined source node unit letters seen) ∷ own) =
    ap (in_front (characters (of_combined source node unit letters seen))) (texts_same way container opened own)
texts_same way container opened (item (of_atom source name) ∷ own) = ap (in_front (characters (of_atom source name))) (texts_same way container opened own)

bidi_texts_same : (way : Way) (container : _) (own : List Part) → bidi_texts container (map (part_in way) own) ≡ bidi_texts container own
unfolding bidi_texts
bidi_texts_same way container own = ap (in_front (container_before container.bidi container.dir)) (texts_same way container [] own)

standings_same : (way : Way) (given : Option ℕ) (style : Style) (own : List Part)
    → standings_of given (style_in way style) (map (part_in way) own) ≡ standings_of given (style_in plain style) own
standings_same way given style own =
    (λ i. standings given (bidi_texts (record { bidi = style.bidi; dir = direction_same way style i }) (taking_same way own i)))
    ∙ ap (standings given) (bidi_texts_same way (container_of (style_in plain style)) (taking_part own))

-- ---- the items

item_same : (way : Way) (raw : Raw) (standing : _) → item_of (raw_in way raw) standing ≡ prepared_item_in way (item_of raw standing)
unfolding raw_in
item_same way (of_unit source node upright unit letters) standing = refl
item_same way (of_combined source node unit letters seen) standing = refl
item_same way (of_atom source name) standing = refl
item_same way (of_break source node) standing = refl

items_by_same : (way : Way) (own : List Raw) (those : List _) → items_by (map (raw_in way) own) those ≡ map (prepared_item_in way) (items_by own those)
items_by_same way [] those = refl
items_by_same way (raw ∷ own) [] = refl
items_by_same way (raw ∷ own) (standing ∷ those) = λ i. item_same way raw standing i ∷ items_by_same way own those i

prepared_by_same : (way : Way) (own : List Raw) (those : List _) → prepared_by (map (raw_in way) own) those ≡ preparation_in way (prepared_by own those)
prepared_by_same way own those =
    λ i. record (prepared_by own those) {
      items = items_by_same way own those i;
      classes = each_same way class_of (class_same way) own i;
      breaks = breaks_of (each_same way break_class_of (break_class_same way) own i);
    }

pub preparations_alike : PreparationsAlike
unfolding preparation
preparations_alike faces given way style entries =
    let own = parts faces (entries_in plain entries) in
    let same = parts_same way faces entries in
    (λ i. prepared_by (raws (same i)) (standings_of given (style_in way style) (same i)))
    ∙ (λ i. prepared_by (raws_same way own i) (standings_same way given style own i))
    ∙ prepared_by_same way (raws own) (standings_of given (style_in plain style) own)
