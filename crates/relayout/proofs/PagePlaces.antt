-- Where the boxes of a page stand in an arena: under which key each of its places is.
use Rattle.std.proofs.Common.{◌≡◌, ◌∙◌, refl, sym, ap, subst, ℕ, Option, Some, None, inl, inr}
use Rattle.std.specs.Prelude.{option_and_then, option_map}
use Rattle.std.proofs.lemmas.Option.{none-some, same_Some}
use Rattle.style_types.specs.declared.style.Style.{Style}
use Rattle.box_arena.specs.At.{Node, Slots, first_at, links_at, next_at, node_at, parent_at}
use Rattle.box_arena.specs.Boxes.{StandFrom, Stands}
use Rattle.box_arena.specs.Links.{IsIn, IsLinked}
use Rattle.box_arena.specs.Reusing.{around_at}
use Rattle.box_arena.proofs.NamedOnce.{stands_alone}
use Rattle.box_gen.specs.Places.{IsAmong, Place, tree_of}
use Rattle.box_gen.specs.Tree.{Boxes, box, none as no_boxes}
use Rattle.para_prepare.specs.Preparation.{Preparation}
use Rattle.relayout.specs.Named.{IsPageUnder}

abbrev pub node_of_place : Place → Node
node_of_place place = record { name = place.name; style = place.style; content = place.content }

-- the style of the box around the box under a key
abbrev pub style_around : Slots Preparation → (key : ℕ) → Option Style
style_around slots key = option_map (λ node. node.style) (around_at slots key)

-- a key under which a place of a page is
pub record HasPlace (slots : Slots Preparation) (place : Place) : Type 0 where
  pub key : ℕ
  pub tree : Stands slots key (tree_of place)
  pub around : style_around slots key ≡ place.around

-- the box from there on, if there is one, stands in a box of this style
abbrev pub StandsAround : Slots Preparation → (from : Option ℕ) → (around : Option Style) → Type 0
StandsAround slots from around = (key : ℕ) → from ≡ Some key → style_around slots key ≡ around

module _ (slots : Slots Preparation) (linked : IsLinked (links_at slots)) where
  around_first : (key : ℕ) (node : Node) → node_at slots key ≡ Some node → StandsAround slots (first_at slots key) (Some node.style)
  around_first key node there child is =
      let P : Option ℕ → Type 0 = λ o. IsIn (links_at slots) key o in
      let inside : parent_at slots child ≡ Some key = subst P is (linked.on key None tt) in
      ap (λ (p : Option ℕ). option_map (λ (n : Node). n.style) (option_and_then (node_at slots) p)) inside ∙ ap (option_map (λ (n : Node). n.style)) there

  around_next : (key : ℕ) (around : Option Style) → style_around slots key ≡ around → StandsAround slots (next_at slots key) around
  around_next key around stands child is = by (parent_at slots key) refl where
    by : (parent : Option ℕ) → parent_at slots key ≡ parent → style_around slots child ≡ around
    by None free = absurd (none-some child (sym (linked.alone key free).0 ∙ is))
    by (Some parent) own =
        let P : Option ℕ → Type 0 = λ o. IsIn (links_at slots) parent o in
        let inside : parent_at slots child ≡ Some parent = subst P is (linked.on parent (Some key) own) in
        ap (λ (p : Option ℕ). option_map (λ (n : Node). n.style) (option_and_then (node_at slots) p)) (inside ∙ sym own) ∙ stands

  -- each place from a box on is under a key
  place_from : (from : Option ℕ) (around : Option Style) (row : Boxes) → StandFrom slots from row → StandsAround slots from around → (place : Place) → IsAmong around row place → HasPlace slots place
  place_from from around no_boxes stand stands place among = absurd among
  place_from from around (box name style content inner next) (key, is, node, within, behind) stands place (inl same) =
      let P : Place → Type 0 = λ p. HasPlace slots p in
      subst P (sym same) (record { key = key; tree = (node, within, refl); around = stands key is })
  place_from from around (box name style content inner next) (key, is, node, within, behind) stands place (inr (inl among)) =
      place_from (first_at slots key) (Some style) inner within (around_first key (record { name = name; style = style; content = content }) node) place among
  place_from from around (box name style content inner next) (key, is, node, within, behind) stands place (inr (inr among)) =
      place_from (next_at slots key) around next behind (around_next key around (stands key is)) place among

-- ---- a page under a root

module _ (slots : Slots Preparation) (root : ℕ) where
  -- the row of the root is the page
  pub page_stands : (page : Boxes) → IsPageUnder slots root page → StandFrom slots (Some root) page
  page_stands page is_page = stands_alone slots root page (is_page.sound.linked.alone root is_page.free).0 is_page.stands

  pub place_stands : (page : Boxes) → IsPageUnder slots root page → (place : Place) → IsAmong None page place → HasPlace slots place
  place_stands page is_page = place_from slots is_page.sound.linked (Some root) None page (page_stands page is_page) at_root where
    at_root : StandsAround slots (Some root) None
    at_root key is =
        let P : ℕ → Type 0 = λ k. style_around slots k ≡ None in
        subst P (same_Some root key is) (ap (λ (p : Option ℕ). option_map (λ (n : Node). n.style) (option_and_then (node_at slots) p)) is_page.free)
