-- From a box in a tree to its fragment.
use Rattle.std.proofs.Common.{◌≡◌, ◌∙◌, refl, sym, ap, Bool, true, false, ◌&&◌, List, [], ◌∷◌, Option, Some}
use Rattle.std.specs.Prelude.{is_none}
use Rattle.std.proofs.lemmas.Option.{same_Some}
use Rattle.fragment_types.specs.declared.constraint.Constraint.{Constraint}
use Rattle.style_types.specs.declared.style.Style.{Style}
use Rattle.fragment_types.specs.Fragment.{Pieces, none, piece}
use Rattle.box_arena.specs.At.{Node}
use Rattle.box_gen.specs.Tree.{Boxes, blocks, box, inline, none as no_boxes}
use Rattle.relayout.specs.Flow.{layout, members}
use Rattle.relayout.specs.Flowed.{Part}
use Rattle.relayout.specs.Inline.{Outside}
use Rattle.relayout.specs.Sizes.{containing_of, is_parallel}
use Rattle.relayout.specs.Step.{is_measured}
use Rattle.flow_laws.specs.Constraint.{FragmentIsOfItsBox, Met, SameBoxSameFragment, Way, behind, comes_to, fragment_on, here, inside, met_on, outside_of}
use Rattle.flow_laws.specs.Placing.{come_to, given, wherever}
use Rattle.flow_laws.proofs.PlacingLaws.{boxes_are_moved_alone, cons_is, step_zero}

-- a box under an inline size that is known is laid out
pub known_is_laid : (parent style : Style) (c : Constraint) → is_none c.inline ≡ false → is_measured (containing_of parent) style c ≡ false
known_is_laid parent style c known = by (is_parallel (containing_of parent) style) where
  by : (parallel : Bool) → (parallel && is_none c.inline) ≡ false
  by true = known
  by false = refl

first_or : Part → List Part → Part
first_or other [] = other
first_or other (part ∷ parts) = part

others_of : List Part → List Part
others_of [] = []
others_of (part ∷ parts) = parts

first_same : (p q : Part) (ps qs : List Part) → p ∷ ps ≡ q ∷ qs → p ≡ q
unfolding first_or
first_same p q ps qs is = ap (first_or p) is

others_same : (p q : Part) (ps qs : List Part) → p ∷ ps ≡ q ∷ qs → ps ≡ qs
unfolding others_of
others_same p q ps qs is = ap others_of is

part_met : (outside : Outside) → Met → Option Part
part_met outside met = Some (comes_to outside met).part

pub found : (outside : Outside) (boxes : Boxes) (parent : Style) (c : Constraint) (pieces : Pieces) (way : Way) (met : Met) → is_none c.inline ≡ false
    → wherever pieces ≡ come_to c (members outside (containing_of parent) boxes) → met_on outside parent c boxes way ≡ Some met
    → fragment_on pieces way ≡ Some (comes_to outside met).part
unfolding part_met
found outside no_boxes parent c pieces way met known same is = absurd (cc)
found outside (box name style content inner next) parent c none way met known same is = absurd (cc)
found outside (box name style content inner next) parent c (piece n rect kind pieces others) here met known same is =
    ap (λ (p : Part). Some p) (first_same _ _ _ _ same) ∙ ap (part_met outside) (same_Some _ met is)
found outside (box name style content inner next) parent c (piece n rect kind pieces others) (behind way) met known same is =
    found outside next parent c others way met known (others_same _ _ _ _ same) is
found outside (box name style blocks inner next) parent c (piece n rect kind pieces others) (inside way) met known same is =
    let node : Node = record { name = name; style = style; content = blocks } in
    let within = members outside (containing_of style) inner in
    found outside inner style (given outside parent node c within) pieces way met refl
    (ap (λ (p : Part). wherever p.inner) (first_same _ _ _ _ same) ∙ boxes_are_moved_alone outside parent name style inner c (known_is_laid parent style c known))
    is
found outside (box name style (inline entries) inner next) parent c (piece n rect kind pieces others) (inside way) met known same is = absurd (cc)

pub fragment_is_of_its_box : FragmentIsOfItsBox
fragment_is_of_its_box faces inline_size block_size no_boxes way met is = absurd (cc)
fragment_is_of_its_box faces inline_size block_size (box name style content inner next) way met is =
    let outside = outside_of faces inline_size block_size (box name style content inner next) in
    let node : Node = record { name = name; style = style; content = content } in
    let c : Constraint = record { inline = Some inline_size; block = Some block_size } in
    found outside (box name style content inner no_boxes) style c (layout faces inline_size block_size (box name style content inner next)) way met refl
    (cons_is _ _ _ _ (step_zero outside style node (members outside (containing_of style) inner) c) refl) is

pub same_box_same_fragment : SameBoxSameFragment
same_box_same_fragment faces inline_size block_size other_inline other_block tree other way other_way met page is there =
    fragment_is_of_its_box faces inline_size block_size tree way met is
    ∙ ap (λ (outside : Outside). Some (comes_to outside met).part) page
    ∙ sym (fragment_is_of_its_box faces other_inline other_block other other_way met there)
