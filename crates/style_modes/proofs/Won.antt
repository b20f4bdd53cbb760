-- What won for a property in a way is what won in a horizontal flow for the one that is carried there.
use Rattle.std.proofs.Common.{◌≡◌, ◌∙◌, Bool, true, false, List, [], ◌∷◌, Option, Some, None, option_map, refl, sym, ap}
use Rattle.std.specs.Prelude.{filter_map, find, nat_eq, ◌||◌}
use Rattle.std.specs.List.{cons_option, list_any}
use Rattle.std.proofs.lemmas.Bool.{cond-false, cond-true, or_parts, true≢false}
use Rattle.wm_modes.specs.declared.mode.Direction.{Direction}
use Rattle.wm_modes.specs.declared.mode.WritingMode.{WritingMode}
use Rattle.wm_modes.specs.declared.mode.WritingMode.TheVariants.{HorizontalTb}
use Rattle.css_types.specs.declared.property.Property.{Property}
use Rattle.css_types.specs.declared.property.Property.TheVariants as properties
use Rattle.css_types.specs.declared.table.PropertyRow.{PropertyRow}
use Rattle.css_types.specs.declared.value.Value.{Value}
use Rattle.css_types.specs.Property.{place_of}
use Rattle.css_types.specs.Table.{rows}
use Rattle.defaulting.specs.Defaulting.{specified}
use Rattle.cascade.specs.declared.claim.Claim.{Claim}
use Rattle.cascade.specs.Winners.{greatest, greatest_from, paired, same_property, winner, winners_by}
use Rattle.computed.specs.Winners.{said, won}
use Rattle.mode_ways.specs.Ways.{Way, across, down, left, right, mode_of}
use Rattle.style_modes.proofs.FreeClaims.{AreFree}
use Rattle.style_modes.proofs.Pages.{carried, naming_carried, no_combine, no_mode, no_orientation, same_is, to_the_left, to_the_right}

-- ---- a value is looked up in the list of winners by the table

module _ (of : Property) (value : Property → Option Value) where
  abbrev is_of : Property × Value → Bool
  is_of pair = nat_eq (place_of pair.0) (place_of of)

  abbrev listed : List PropertyRow → List (Property × Value)
  listed table = filter_map (λ row. paired row.property (value row.property)) table

  abbrev is_row : PropertyRow → Bool
  is_row row = same_property row.property of

  abbrev looked_up : List PropertyRow → Option Value
  looked_up table = option_map (λ (pair : Property × Value). pair.1) (find is_of (listed table))

  passed : (property : Property) (found : Option Value) (others : List (Property × Value)) → same_property property of ≡ false
      → find is_of (cons_option (paired property found) others) ≡ find is_of others
  passed property None others other = refl
  passed property (Some v) others other = cond-false (same_property property of) (Some (property, v)) (find is_of others) other

  -- where it has no row nothing is found
  none_of : (table : List PropertyRow) → list_any is_row table ≡ false → find is_of (listed table) ≡ None
  none_of [] none = refl
  none_of (row ∷ table) none =
      let parts : (is_row row ≡ false) × (list_any is_row table ≡ false) = or_parts (is_row row) (list_any is_row table) none in
      passed row.property (value row.property) (listed table) parts.0 ∙ none_of table parts.1

  -- the value of a row of its own, where there may be others of the same property behind it
  taken : (property : Property) (found : Option Value) (others : List (Property × Value)) → same_property property of ≡ true
      → ((found ≡ None) → option_map (λ (pair : Property × Value). pair.1) (find is_of others) ≡ found)
      → option_map (λ (pair : Property × Value). pair.1) (find is_of (cons_option (paired property found) others)) ≡ found
  taken property None others is rest = rest refl
  taken property (Some v) others is rest = ap (option_map (λ (pair : Property × Value). pair.1)) (cond-true (same_property property of) (Some (property, v)) (find is_of others) is)

  looked_up_or_none : (table : List PropertyRow) (any : Bool) → list_any is_row table ≡ any → (any ≡ true → looked_up table ≡ value of) → value of ≡ None → looked_up table ≡ value of
  looked_up_or_none table true is found none = found refl
  looked_up_or_none table false is found none = ap (option_map (λ (pair : Property × Value). pair.1)) (none_of table is) ∙ sym none

  -- where it has a row its value is found
  pub found_of : (table : List PropertyRow) → list_any is_row table ≡ true → looked_up table ≡ value of
  found_of [] any = absurd (true≢false (sym any))
  found_of (row ∷ table) any = by_row (is_row row) refl (found_of table)
    where
      by_row : (b : Bool) → is_row row ≡ b → (list_any is_row table ≡ true → looked_up table ≡ value of) → looked_up (row ∷ table) ≡ value of
      by_row true is found =
          let same : row.property ≡ of = same_is row.property of is in
          taken row.property (value row.property) (listed table) is
          (λ none. looked_up_or_none table (list_any is_row table) refl found (ap value (sym same) ∙ none) ∙ ap value (sym same))
          ∙ ap value same
      by_row false is found =
          ap (option_map (λ (pair : Property × Value). pair.1)) (passed row.property (value row.property) (listed table) is)
          ∙ found (ap (λ (b : Bool). b || list_any is_row table) (sym is) ∙ any)

-- ---- the winners of an element

has_row : (property : Property) → list_any (λ (row : PropertyRow). same_property row.property property) rows ≡ true
has_row properties.Display = refl
has_row property = refl

won_is : (mode : WritingMode) (dir : Direction) (list : List Claim) (property : Property) → won (winners_by mode dir list) property ≡ winner mode dir list property
unfolding won
won_is mode dir list property = found_of property (winner mode dir list) rows (has_row property)

abbrev pub value_of : List Claim → Option Value
value_of list = option_map (λ (claim : Claim). claim.value) (greatest list)

pub none_won : value_of [] ≡ None
unfolding greatest_from
none_won = refl

-- a property of the page has in each way the initial value, and is inherited, as the one of a horizontal flow that is carried there
specified_right : (property : Property) (value : Option Value) → specified (to_the_right property) value ≡ specified property value
unfolding to_the_right
specified_right properties.Display value = refl
specified_right property value = refl

specified_left : (property : Property) (value : Option Value) → specified (to_the_left property) value ≡ specified property value
unfolding to_the_left
specified_left properties.Display value = refl
specified_left property value = refl

specified_carried : (way : Way) (property : Property) (value : Option Value) → specified (carried way property) value ≡ specified property value
unfolding carried
specified_carried (across orientation combine) property value = refl
specified_carried down property value = specified_right property value
specified_carried (right orientation combine) property value = specified_right property value
specified_carried (left orientation combine) property value = specified_left property value

module _ (way : Way) (dir : Direction) (list : List Claim) (free : AreFree list) where
  won_carried : (property : Property) → won (winners_by (mode_of way) dir list) (carried way property) ≡ won (winners_by HorizontalTb dir list) property
  won_carried property =
      won_is (mode_of way) dir list (carried way property)
      ∙ ap value_of (naming_carried way dir property list free)
      ∙ sym (won_is HorizontalTb dir list property)

  pub said_carried : (property : Property) → said (winners_by (mode_of way) dir list) (carried way property) ≡ said (winners_by HorizontalTb dir list) property
  unfolding said
  said_carried property =
      ap (specified (carried way property)) (won_carried property)
      ∙ specified_carried way property (won (winners_by HorizontalTb dir list) property)

  pub mode_not_won : won (winners_by (mode_of way) dir list) properties.WritingMode ≡ None
  mode_not_won = won_is (mode_of way) dir list properties.WritingMode ∙ ap value_of (no_mode way dir list free) ∙ none_won

  pub orientation_not_won : won (winners_by (mode_of way) dir list) properties.TextOrientation ≡ None
  orientation_not_won = won_is (mode_of way) dir list properties.TextOrientation ∙ ap value_of (no_orientation way dir list free) ∙ none_won

  pub combine_not_won : won (winners_by (mode_of way) dir list) properties.TextCombineUpright ≡ None
  combine_not_won = won_is (mode_of way) dir list properties.TextCombineUpright ∙ ap value_of (no_combine way dir list free) ∙ none_won

  -- what is about the whole box stays
  pub won_alike : (property : Property) → carried way property ≡ property → won (winners_by (mode_of way) dir list) property ≡ won (winners_by HorizontalTb dir list) property
  won_alike property whole = ap (won (winners_by (mode_of way) dir list)) (sym whole) ∙ won_carried property
