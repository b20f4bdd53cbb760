-- Boxes in which a text gets other letters: what holds no such text is what it was, and each of their places is one of those that stood.
use Rattle.std.proofs.Common.{◌≡◌, ℕ, Bool, true, false, List, [], ◌∷◌, Option, Some, refl, ap, ap₂, inl, inr}
use Rattle.std.specs.Prelude.{◌||◌, if◌then◌else◌, map}
use Rattle.std.specs.List.{list_any}
use Rattle.fragment_types.specs.Item as item
use Rattle.fragment_types.specs.Item.{Entry}
use Rattle.style_types.specs.declared.style.Style.{Style}
use Rattle.box_gen.specs.Places.{IsAmong, Place}
use Rattle.box_gen.specs.Tree.{Boxes, Content, blocks, box, inline, none}
use Rattle.text_boxes.specs.Boxes.{boxes_with, content_with, entry_with, has_text, is_text_of}

module _ (number : ℕ) (letters : List ℕ) where
  -- ---- what stays

  entry_stays : (entry : Entry) → is_text_of number entry ≡ false → entry_with number letters entry ≡ entry
  entry_stays (item.text node was style) apart = ap (λ (is : Bool). item.text node (if is then letters else was) style) apart
  entry_stays (item.begins node style edges) apart = refl
  entry_stays (item.ends node edges) apart = refl
  entry_stays (item.atom name) apart = refl
  entry_stays (item.line_break node) apart = refl

  neither : (one other : Bool) → (one || other) ≡ false → (one ≡ false) × (other ≡ false)
  neither true other is = absurd (cc)
  neither false other is = (refl, is)

  entries_stay : (items : List Entry) → list_any (is_text_of number) items ≡ false → map (entry_with number letters) items ≡ items
  entries_stay [] apart = refl
  entries_stay (entry ∷ items) apart =
      let (here, others) = neither (is_text_of number entry) (list_any (is_text_of number) items) apart in
      ap₂ (λ (e : Entry) (es : List Entry). e ∷ es) (entry_stays entry here) (entries_stay items others)

  -- a content without a text of this node
  pub content_stays : (content : Content) → has_text number content ≡ false → content_with number letters content ≡ content
  content_stays blocks apart = refl
  content_stays (inline items) apart = ap inline (entries_stay items apart)

  -- ---- places

  -- a place in which the text has these letters
  abbrev pub place_with : Place → Place
  place_with place = record {
    around = place.around;
    name = place.name;
    style = place.style;
    content = content_with number letters place.content;
    inner = boxes_with number letters place.inner;
  }

  -- it is a place of these boxes, but for the letters
  pub record IsPlaceWith (around : Option Style) (boxes : Boxes) (place : Place) : Type 0 where
    pub was : Place
    pub among : IsAmong around boxes was
    pub is : place ≡ place_with was

  -- each place of the boxes with the letters
  pub place_before : (around : Option Style) (boxes : Boxes) (place : Place) → IsAmong around (boxes_with number letters boxes) place → IsPlaceWith around boxes place
  place_before around none place among = absurd among
  place_before around (box name style content inner next) place (inl same) =
      record { was = record { around = around; name = name; style = style; content = content; inner = inner }; among = inl refl; is = same }
  place_before around (box name style content inner next) place (inr (inl deep)) =
      let from = place_before (Some style) inner place deep in
      record { was = from.was; among = inr (inl from.among); is = from.is }
  place_before around (box name style content inner next) place (inr (inr later)) =
      let from = place_before around next place later in
      record { was = from.was; among = inr (inr from.among); is = from.is }
