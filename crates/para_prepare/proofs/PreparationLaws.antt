-- What is made of a paragraph's parts has one of each for every item.
use Rattle.std.proofs.Common.{◌≡◌, refl, sym, ap, ap₂, subst, ◌∙◌, ℕ, suc, ◌<◌, ◌≤◌, Bool, List, [], ◌∷◌, ◌++◌, length, map, arith}
use Rattle.std.specs.Prelude.{All, Option, None, cond, true, false}
use Rattle.std.proofs.lemmas.List.{get_or-map, length-map}
use Rattle.wm_chars.specs.declared.classes.BidiClass.{BidiClass}
use Rattle.wm_chars.specs.declared.classes.BreakClass.{BreakClass}
use Rattle.fragment_types.specs.declared.breaking.Breaking.{Breaking}
use Rattle.para_prepare.specs.declared.boxes.Kind.{Kind}
use Rattle.para_prepare.specs.declared.boxes.Kind.TheVariants.{Opening, Closing, Content, Aside}
use Rattle.para_prepare.specs.declared.item.PreparedItem.{PreparedItem}
use Rattle.para_prepare.specs.declared.letter.Letter.{Letter}
use Rattle.para_prepare.specs.declared.parts.Part as code
use Rattle.para_prepare.specs.declared.parts.Part.TheVariants as codes
use Rattle.para_prepare.specs.declared.standing.Standing.{Standing}
use Rattle.para_prepare.specs.Boxes.{kind_of, marked, takes, takes_from, taking_part}
use Rattle.para_prepare.specs.Breaks.{break_class_of, breaks_of}
use Rattle.face_api.specs.Table.{Table}
use Rattle.fragment_types.specs.Item.{Entry, entries_of}
use Rattle.fragment_types.specs.declared.item.Item.{Item}
use Rattle.style_types.specs.declared.style.Style.{Style}
use Rattle.para_prepare.specs.Content.{parts}
use Rattle.para_prepare.specs.Glyph.{class_of}
use Rattle.para_prepare.specs.Items.{items_by}
use Rattle.para_prepare.specs.Parts.{Part, opens, closes, control, item, Raw, raws}
use Rattle.para_prepare.specs.Preparation.{AreWhole, Preparation, preparation, prepared_by, standings_of}
use Rattle.para_prepare.specs.Reach.{code_kind}
use Rattle.para_prepare.specs.Standing.{IsStanding}
use Rattle.para_prepare.specs.Views.{part_of, parts_of}

-- ---- which parts take part

kind_is : (letters : List Letter) (part : code.Part) → kind_of (part_of letters part) ≡ code_kind part
kind_is letters (codes.Opens around) = refl
kind_is letters codes.Closes = refl
kind_is letters (codes.Control c class) = refl
kind_is letters (codes.Unit source node upright unit span) = refl
kind_is letters (codes.Combined source node unit span inside) = refl
kind_is letters (codes.Atom source name) = refl
kind_is letters (codes.Break source node) = refl

kinds_are : (letters : List Letter) (parts : List code.Part) → map kind_of (parts_of letters parts) ≡ map code_kind parts
kinds_are letters [] = refl
kinds_are letters (part ∷ parts) = rw (kind_is letters part) (rw (kinds_are letters parts) refl)

takes_count : (before after : List Kind) → length (takes_from before after) ≡ length after
takes_count before [] = refl
takes_count before (kind ∷ after) = ap suc (takes_count (kind ∷ before) after)

pub one_mark_each : (parts : List code.Part) (marks : List Bool) → marks ≡ takes_from [] (map code_kind parts) → length marks ≡ length parts
one_mark_each parts marks is = ap length is ∙ takes_count [] (map code_kind parts) ∙ length-map parts code_kind

pub takes_part : (letters : List Letter) (parts : List code.Part) (marks : List Bool) → marks ≡ takes_from [] (map code_kind parts)
    → marked marks (parts_of letters parts) ≡ taking_part (parts_of letters parts)
unfolding taking_part
takes_part letters parts marks is = ap (λ marks. marked marks (parts_of letters parts)) (is ∙ ap (takes_from []) (sym (kinds_are letters parts)))

-- an item always takes part
no_item : (mark : Bool) (part : Part) (parts : List Part) → raws (part ∷ parts) ≡ raws parts → raws (cond mark (part ∷ []) [] ++ parts) ≡ raws parts
no_item true part parts h = h
no_item false part parts h = refl

pub raws_taken : (before : List Kind) (parts : List Part) → raws (marked (takes_from before (map kind_of parts)) parts) ≡ raws parts
raws_taken before [] = refl
raws_taken before (opens bidi dir ∷ parts) =
    no_item (takes before Opening (map kind_of parts)) (opens bidi dir) (marked (takes_from (Opening ∷ before) (map kind_of parts)) parts) refl ∙ raws_taken (Opening ∷ before) parts
raws_taken before (closes ∷ parts) =
    no_item (takes before Closing (map kind_of parts)) closes (marked (takes_from (Closing ∷ before) (map kind_of parts)) parts) refl ∙ raws_taken (Closing ∷ before) parts
raws_taken before (control c class ∷ parts) = raws_taken (Aside ∷ before) parts
raws_taken before (item raw ∷ parts) = ap (λ later. raw ∷ later) (raws_taken (Content ∷ before) parts)

pub items_take_part : (letters : List Letter) (parts : List code.Part) (marks : List Bool) → marks ≡ takes_from [] (map code_kind parts)
    → raws (marked marks (parts_of letters parts)) ≡ raws (parts_of letters parts)
items_take_part letters parts marks is =
    ap (λ marks. raws (marked marks (parts_of letters parts))) (is ∙ ap (takes_from []) (sym (kinds_are letters parts))) ∙ raws_taken [] (parts_of letters parts)

-- ---- one of each

items_count : (raws : List Raw) (standings : List Standing) → length standings ≡ length raws → length (items_by raws standings) ≡ length raws
items_count [] standings h = refl
items_count (raw ∷ raws) [] h = absurd (omega arith)
items_count (raw ∷ raws) (standing ∷ standings) h = ap suc (items_count raws standings (omega arith))

pub breaks_count : (classes : List (Option BreakClass)) → length (breaks_of classes) ≡ length classes
breaks_count [] = refl
breaks_count (a ∷ []) = refl
breaks_count (a ∷ (b ∷ classes)) = ap suc (breaks_count (b ∷ classes))

levels_bounds : (standings : List Standing) → All IsStanding standings → All (λ level. level ≤ 126) (map (λ s. s.level) standings)
levels_bounds standings h = λ k d lt.
    let some : k < length standings = (let many = length-map standings (λ s. s.level) in omega arith) in
    let none : Standing = record { level = 0; base = 0; apart = None } in
    subst (λ level. level ≤ 126) (sym (get_or-map (λ s. s.level) standings k none d some)) (h k none some).level

bases_bounds : (standings : List Standing) → All IsStanding standings → All (λ base. base ≤ 1) (map (λ s. s.base) standings)
bases_bounds standings h = λ k d lt.
    let some : k < length standings = (let many = length-map standings (λ s. s.base) in omega arith) in
    let none : Standing = record { level = 0; base = 0; apart = None } in
    subst (λ base. base ≤ 1) (sym (get_or-map (λ s. s.base) standings k none d some)) (h k none some).base

made_whole : (raws : List Raw) (standings : List Standing) → length standings ≡ length raws → All IsStanding standings
    → AreWhole (items_by raws standings) (map (λ s. s.level) standings) (map class_of raws) (map (λ s. s.base) standings) (breaks_of (map break_class_of raws))
made_whole raws standings h bounds =
    let items = items_count raws standings h in
    record {
      levels_count = length-map standings (λ s. s.level) ∙ h ∙ sym items;
      classes_count = length-map raws class_of ∙ sym items;
      bases_count = length-map standings (λ s. s.base) ∙ h ∙ sym items;
      breaks_count = breaks_count (map break_class_of raws) ∙ length-map raws break_class_of ∙ sym items;
      levels_bounds = levels_bounds standings bounds;
      bases_bounds = bases_bounds standings bounds;
    }

-- lists that were made so
pub record AreMade (raws : List Raw) (standings : List Standing) (items : List PreparedItem) (levels : List ℕ) (classes : List BidiClass) (bases : List ℕ) (breaks : List Breaking) : Type 0 where
  pub items_are : items ≡ items_by raws standings
  pub levels_are : levels ≡ map (λ s. s.level) standings
  pub classes_are : classes ≡ map class_of raws
  pub bases_are : bases ≡ map (λ s. s.base) standings
  pub breaks_are : breaks ≡ breaks_of (map break_class_of raws)

module _ (raws : List Raw) (standings : List Standing) (items : List PreparedItem) (levels : List ℕ) (classes : List BidiClass) (bases : List ℕ) (breaks : List Breaking)
    (made : AreMade raws standings items levels classes bases breaks)
  where
    pub whole : length standings ≡ length raws → All IsStanding standings → AreWhole items levels classes bases breaks
    whole h bounds = rw made.items_are (rw made.levels_are (rw made.classes_are (rw made.bases_are (rw made.breaks_are (made_whole raws standings h bounds)))))

    pub preparation_is : (record { items = items; levels = levels; classes = classes; bases = bases; breaks = breaks }) ≡ prepared_by raws standings
    preparation_is = rw made.items_are (rw made.levels_are (rw made.classes_are (rw made.bases_are (rw made.breaks_are refl))))

-- ---- the whole

pub prepared_whole : (faces : List (Option Table)) (given : Option ℕ) (style : Style) (entries : List Entry) (made : List Part) (standings : List Standing) (p : Preparation)
    → made ≡ parts faces entries → standings ≡ standings_of given style made → p ≡ prepared_by (raws made) standings → p ≡ preparation faces given style entries
unfolding preparation
prepared_whole faces given style entries made standings p m s is = is ∙ rw s (rw m refl)

-- the same where the lists are lent
pub prepared_from : (faces : List (Option Table)) (given : Option ℕ) (style : Style) (items own : List Item) (letters l2 l3 : List Letter) (made p2 p3 : List code.Part) (standings s2 : List Standing) (p : Preparation)
    → items ≡ own → l2 ≡ letters → l3 ≡ letters → p2 ≡ made → p3 ≡ made → s2 ≡ standings
    → parts_of letters made ≡ parts faces (entries_of items) → standings ≡ standings_of given style (parts_of l2 p2) → p ≡ prepared_by (raws (parts_of l3 p3)) s2
    → p ≡ preparation faces given style (entries_of own)
prepared_from faces given style items own letters l2 l3 made p2 p3 standings s2 p i l2_is l3_is p2_is p3_is s2_is m s is =
    prepared_whole faces given style (entries_of own) (parts_of letters made) standings p (m ∙ ap (λ items. parts faces (entries_of items)) i)
    (s ∙ ap₂ (λ letters made. standings_of given style (parts_of letters made)) l2_is p2_is)
    (is ∙ ap₂ (λ letters made. prepared_by (raws (parts_of letters made)) s2) l3_is p3_is ∙ ap (prepared_by (raws (parts_of letters made))) s2_is)
