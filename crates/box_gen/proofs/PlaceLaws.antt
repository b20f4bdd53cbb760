-- Names of boxes and of paragraphs, by the places at which the boxes stand.
use Rattle.std.proofs.Common.{◌≡◌, ◌∙◌, ◌⊎◌, zero, suc, List, [], ◌∷◌, ◌++◌, refl, ap, sym, subst, arith, Option, Some, None, inl, inr}
use Rattle.std.specs.List.{Contains}
use Rattle.std.proofs.lemmas.List.Elements.{Contains-append_cases, Contains-append_left, Contains-append_right}
use Rattle.fragment_types.specs.declared.item.BoxName.{BoxName}
use Rattle.fragment_types.specs.Item.{Entry}
use Rattle.style_types.specs.declared.style.Style.{Style}
use Rattle.box_gen.specs.Places.{IsAmong, NamesAreOfPlaces, Place, names, paragraphs, with_paragraph}
use Rattle.box_gen.specs.Tree.{Boxes, Content, blocks, box, inline, none}

-- ---- lists of names

nowhere : (name : BoxName) → Contains [] name → ⊥
nowhere name there = absurd (omega (arith, there.1))

at_first : (first name : BoxName) (others : List BoxName) → first ≡ name → Contains (first ∷ others) name
at_first first name others is = (0, omega arith, is)

behind_first : (first name : BoxName) (others : List BoxName) → Contains others name → Contains (first ∷ others) name
behind_first first name others there = Contains-append_right (first ∷ []) others name there

first_or_later : (first name : BoxName) (others : List BoxName) → Contains (first ∷ others) name → (first ≡ name) ⊎ Contains others name
first_or_later first name others (zero, within, is) = inl is
first_or_later first name others (suc k, within, is) = inr (k, omega (arith, within), is)

-- ---- names

place_named : (around : Option Style) (page : Boxes) (name : BoxName) → Contains (names page) name → (place : Place) × IsAmong around page place × (place.name ≡ name)
place_named around none name there = absurd (nowhere name there)
place_named around (box own style content inner next) name there = elim (first_or_later own name (names inner ++ names next) there) [
  | inl is ↦ (record { around = around; name = own; style = style; content = content; inner = inner }, inl refl, is)
  | inr later ↦ elim (Contains-append_cases (names inner) (names next) name later) [
    | inl inside ↦ let (place, stands, is) = place_named (Some style) inner name inside in (place, inr (inl stands), is)
    | inr beside ↦ let (place, stands, is) = place_named around next name beside in (place, inr (inr stands), is)
  ]
]

name_placed : (around : Option Style) (page : Boxes) (place : Place) → IsAmong around page place → Contains (names page) place.name
name_placed around none place there = absurd there
name_placed around (box own style content inner next) place (inl is) = at_first own place.name (names inner ++ names next) (sym (ap (λ (p : Place). p.name) is))
name_placed around (box own style content inner next) place (inr (inl inside)) =
    behind_first own place.name (names inner ++ names next) (Contains-append_left (names inner) (names next) place.name (name_placed (Some style) inner place inside))
name_placed around (box own style content inner next) place (inr (inr beside)) =
    behind_first own place.name (names inner ++ names next) (Contains-append_right (names inner) (names next) place.name (name_placed around next place beside))

-- ---- paragraphs

-- a box is there, which holds a paragraph
abbrev Holds : (around : Option Style) → Boxes → BoxName → Type 0
Holds around page name = (place : Place) × (items : List Entry) × IsAmong around page place × (place.name ≡ name) × (place.content ≡ inline items)

own_or_other : (content : Content) (own name : BoxName) (others : List BoxName) → Contains (with_paragraph own content others) name → ((own ≡ name) × ((items : List Entry) × (content ≡ inline items))) ⊎ Contains others name
own_or_other blocks own name others there = inr there
own_or_other (inline items) own name others there = elim (first_or_later own name others there) [
  | inl is ↦ inl (is, (items, refl))
  | inr later ↦ inr later
]

paragraph_held : (around : Option Style) (page : Boxes) (name : BoxName) → Contains (paragraphs page) name → Holds around page name
paragraph_held around none name there = absurd (nowhere name there)
paragraph_held around (box own style content inner next) name there = elim (own_or_other content own name (paragraphs inner ++ paragraphs next) there) [
  | inl (is, (items, holds)) ↦ (record { around = around; name = own; style = style; content = content; inner = inner }, items, inl refl, is, holds)
  | inr later ↦ elim (Contains-append_cases (paragraphs inner) (paragraphs next) name later) [
    | inl inside ↦ let (place, items, stands, is, holds) = paragraph_held (Some style) inner name inside in (place, items, inr (inl stands), is, holds)
    | inr beside ↦ let (place, items, stands, is, holds) = paragraph_held around next name beside in (place, items, inr (inr stands), is, holds)
  ]
]

among_others : (content : Content) (own name : BoxName) (others : List BoxName) → Contains others name → Contains (with_paragraph own content others) name
among_others blocks own name others there = there
among_others (inline items) own name others there = behind_first own name others there

paragraph_placed : (around : Option Style) (page : Boxes) (place : Place) (items : List Entry) → IsAmong around page place → place.content ≡ inline items → Contains (paragraphs page) place.name
paragraph_placed around none place items there holds = absurd there
paragraph_placed around (box own style content inner next) place items (inl is) holds =
    subst (λ (c : Content). Contains (with_paragraph own c (paragraphs inner ++ paragraphs next)) place.name) (sym holds ∙ ap (λ (p : Place). p.content) is)
    (at_first own place.name (paragraphs inner ++ paragraphs next) (sym (ap (λ (p : Place). p.name) is)))
paragraph_placed around (box own style content inner next) place items (inr (inl inside)) holds =
    among_others content own place.name (paragraphs inner ++ paragraphs next)
    (Contains-append_left (paragraphs inner) (paragraphs next) place.name (paragraph_placed (Some style) inner place items inside holds))
paragraph_placed around (box own style content inner next) place items (inr (inr beside)) holds =
    among_others content own place.name (paragraphs inner ++ paragraphs next)
    (Contains-append_right (paragraphs inner) (paragraphs next) place.name (paragraph_placed around next place items beside holds))

pub names_are_of_places : NamesAreOfPlaces
names_are_of_places = record {
  place = place_named None;
  name = name_placed None;
  holds = paragraph_held None;
  paragraph = paragraph_placed None;
}
