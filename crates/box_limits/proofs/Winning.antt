-- The value that won for the display or the writing mode, in whatever mode and direction an element maps its flow.
use Rattle.std.proofs.Common.{◌≡◌, ◌∙◌, ◌⊎◌, inl, inr, ℕ, zero, suc, ◌<◌, ◌≤◌, Bool, true, false, List, [], ◌∷◌, ◌++◌, Option, Some, None, option_map, refl, ap, sym, arith, append-nil}
use Rattle.std.specs.Prelude.{cond, drop, slice_get, filter, filter_map, find, nat_eq, not, take}
use Rattle.std.specs.List.{cons_option, list_all}
use Rattle.std.proofs.lemmas.Bool.{cond-false, cond-true, and_parts, or_left, or_right, not-true, eq-eqb, ne_eqb}
use Rattle.wm_modes.specs.declared.mode.WritingMode as modes
use Rattle.wm_modes.specs.declared.mode.Direction.{Direction}
use Rattle.wm_modes.specs.declared.sides.Side.{Side}
use Rattle.wm_modes.specs.declared.sides.Side.TheVariants.{Top, Right, Bottom, Left}
use Rattle.wm_modes.specs.Sides.{side_of}
use Rattle.css_types.specs.declared.property.Property.{Property}
use Rattle.css_types.specs.declared.property.Property.TheVariants.{Display, WritingMode}
use Rattle.css_types.specs.declared.reach.Axis as axes
use Rattle.css_types.specs.declared.reach.Axis.TheVariants.{Horizontal, Vertical}
use Rattle.css_types.specs.declared.reach.AxisFamily.{AxisFamily}
use Rattle.css_types.specs.declared.reach.AxisFamily.TheVariants.{Size, MinSize, MaxSize}
use Rattle.css_types.specs.declared.reach.Reach.{Reach}
use Rattle.css_types.specs.declared.reach.Reach.TheVariants.{Whole, PhysicalSide, FlowSide, PhysicalAxis, FlowAxis}
use Rattle.css_types.specs.declared.reach.SideFamily.{SideFamily}
use Rattle.css_types.specs.declared.reach.SideFamily.TheVariants.{Margin, Padding, BorderWidth, BorderStyle, Inset}
use Rattle.css_types.specs.declared.table.PropertyRow.{PropertyRow}
use Rattle.css_types.specs.declared.value.Declaration.{Declaration}
use Rattle.css_types.specs.declared.value.Value.{Value}
use Rattle.css_types.specs.Page.{about, axis_property, page_by, page_of, side_property}
use Rattle.css_types.specs.Property.{place_of}
use Rattle.css_types.specs.Reach.{axis_of, on_page}
use Rattle.css_types.specs.Rule.{Ruling}
use Rattle.css_types.specs.Table.{row_of, rows}
use Rattle.style_types.specs.declared.style.Style.{Style}
use Rattle.dom_store.specs.State.{What}
use Rattle.cascade.specs.declared.claim.Claim.{Claim}
use Rattle.cascade.specs.Claims.{claims}
use Rattle.cascade.specs.Winners.{direction_of, naming, paired, same_property, turned, winner, winners, winners_by}
use Rattle.computed.specs.Winners.{won}
use Rattle.box_limits.specs.Rules.{turn_none, turns}
use Rattle.box_limits.proofs.Renumbering.{best_value, same_best}

-- ---- no side and no axis of a box has one of the two first places of the table

side_behind : (family : SideFamily) (side : Side) → 1 < place_of (side_property family side)
side_behind Margin Top = omega arith
side_behind Margin Right = omega arith
side_behind Margin Bottom = omega arith
side_behind Margin Left = omega arith
side_behind Padding Top = omega arith
side_behind Padding Right = omega arith
side_behind Padding Bottom = omega arith
side_behind Padding Left = omega arith
side_behind BorderWidth Top = omega arith
side_behind BorderWidth Right = omega arith
side_behind BorderWidth Bottom = omega arith
side_behind BorderWidth Left = omega arith
side_behind BorderStyle Top = omega arith
side_behind BorderStyle Right = omega arith
side_behind BorderStyle Bottom = omega arith
side_behind BorderStyle Left = omega arith
side_behind Inset Top = omega arith
side_behind Inset Right = omega arith
side_behind Inset Bottom = omega arith
side_behind Inset Left = omega arith

axis_behind : (family : AxisFamily) (axis : axes.Axis) → 1 < place_of (axis_property family axis)
axis_behind Size Horizontal = omega arith
axis_behind Size Vertical = omega arith
axis_behind MinSize Horizontal = omega arith
axis_behind MinSize Vertical = omega arith
axis_behind MaxSize Horizontal = omega arith
axis_behind MaxSize Vertical = omega arith

module _ (mode : modes.WritingMode) (dir : Direction) where
  about_behind : (reach : Reach) (property : Property) → 1 < place_of property → 1 < place_of (about (on_page mode dir reach) property)
  about_behind Whole property behind = behind
  about_behind (PhysicalSide family side) property behind = side_behind family side
  about_behind (FlowSide family side) property behind = side_behind family (side_of mode dir side)
  about_behind (PhysicalAxis family axis) property behind = axis_behind family axis
  about_behind (FlowAxis family axis) property behind = axis_behind family (axis_of mode axis)

  page_behind : (row : Option PropertyRow) (property : Property) → 1 < place_of property → 1 < place_of (page_by row mode dir property)
  page_behind None property behind = behind
  page_behind (Some row) property behind = about_behind row.reach property behind

  -- a property is its own on every page, or neither has one of the two first places
  abbrev StaysOrIsBehind : (property page : Property) → Type 0
  StaysOrIsBehind property page = (page ≡ property) ⊎ ((1 < place_of property) × (1 < place_of page))

  page_at : (place : ℕ) (property : Property) → place_of property ≡ place → StaysOrIsBehind property (page_of mode dir property)
  page_at zero property is = inl (ap (λ (n : ℕ). page_by (slice_get rows n) mode dir property) is)
  page_at (suc zero) property is = inl (ap (λ (n : ℕ). page_by (slice_get rows n) mode dir property) is)
  page_at (suc (suc place)) property is = let behind : 1 < place_of property = omega (arith, is) in inr (behind, page_behind (row_of property) property behind)

  same_page : (of property page : Property) → place_of of ≤ 1 → StaysOrIsBehind property page → same_property page of ≡ same_property property of
  same_page of property page early (inl is) = ap (λ (p : Property). same_property p of) is
  same_page of property page early (inr behind) =
      ne_eqb (place_of page) (place_of of) (λ is. absurd (omega (arith, early, behind, is)))
      ∙ sym (ne_eqb (place_of property) (place_of of) (λ is. absurd (omega (arith, early, behind, is))))

  naming_is : (of : Property) → place_of of ≤ 1 → (list : List Claim) → naming mode dir of list ≡ filter (λ claim. same_property claim.property of) list
  naming_is of early [] = refl
  naming_is of early (claim ∷ others) =
      ap (λ (b : Bool). cond b (claim ∷ naming mode dir of others) (naming mode dir of others)) (same_page of claim.property (page_of mode dir claim.property) early (page_at (place_of claim.property) claim.property refl))
      ∙ ap (λ (l : List Claim). cond (same_property claim.property of) (claim ∷ l) l) (naming_is of early others)

-- ---- a value is looked up in the list of winners by the table

module _ (of : Property) (value : Property → Option Value) where
  abbrev is_of : Property × Value → Bool
  is_of pair = nat_eq (place_of pair.0) (place_of of)

  abbrev listed : List PropertyRow → List (Property × Value)
  listed table = filter_map (λ row. paired row.property (value row.property)) table

  abbrev NoneIsOf : List PropertyRow → Type 0
  NoneIsOf table = list_all (λ row. not (nat_eq (place_of row.property) (place_of of))) table ≡ true

  passed : (property : Property) (found : Option Value) (others : List (Property × Value)) → nat_eq (place_of property) (place_of of) ≡ false
      → find is_of (cons_option (paired property found) others) ≡ find is_of others
  passed property None others other = refl
  passed property (Some v) others other = cond-false (nat_eq (place_of property) (place_of of)) (Some (property, v)) (find is_of others) other

  passed_all : (table behind : List PropertyRow) → NoneIsOf table → find is_of (listed (table ++ behind)) ≡ find is_of (listed behind)
  passed_all [] behind none = refl
  passed_all (row ∷ table) behind none =
      let parts = and_parts (not (nat_eq (place_of row.property) (place_of of))) (list_all (λ row. not (nat_eq (place_of row.property) (place_of of))) table) none in
      passed row.property (value row.property) (listed (table ++ behind)) (not-true (nat_eq (place_of row.property) (place_of of)) parts.0) ∙ passed_all table behind parts.1

  taken : (property : Property) (found : Option Value) (others : List (Property × Value)) → nat_eq (place_of property) (place_of of) ≡ true → find is_of others ≡ None
      → option_map (λ (pair : Property × Value). pair.1) (find is_of (cons_option (paired property found) others)) ≡ found
  taken property None others is none = ap (option_map (λ (pair : Property × Value). pair.1)) none
  taken property (Some v) others is none = ap (option_map (λ (pair : Property × Value). pair.1)) (cond-true (nat_eq (place_of property) (place_of of)) (Some (property, v)) (find is_of others) is)

  none_of : (table : List PropertyRow) → NoneIsOf table → find is_of (listed table) ≡ None
  none_of table none = ap (λ (l : List PropertyRow). find is_of (listed l)) (sym (append-nil table)) ∙ passed_all table [] none

  won_once : (table behind : List PropertyRow) (row : PropertyRow) → table ++ row ∷ behind ≡ rows → NoneIsOf table → NoneIsOf behind → row.property ≡ of → won (listed rows) of ≡ value of
  unfolding won
  won_once table behind row at before after is =
      ap (λ (all : List PropertyRow). option_map (λ (pair : Property × Value). pair.1) (find is_of (listed all))) (sym at)
      ∙ ap (option_map (λ (pair : Property × Value). pair.1)) (passed_all table (row ∷ behind) before)
      ∙ taken row.property (value row.property) (listed behind) (eq-eqb (place_of row.property) (place_of of) (ap place_of is)) (none_of behind after)
      ∙ ap value is

display_won : (mode : modes.WritingMode) (dir : Direction) (list : List Claim) → won (winners_by mode dir list) Display ≡ winner mode dir list Display
display_won mode dir list = won_once Display (winner mode dir list) [] (drop 1 rows) _ refl refl refl refl

mode_won : (mode : modes.WritingMode) (dir : Direction) (list : List Claim) → won (winners_by mode dir list) WritingMode ≡ winner mode dir list WritingMode
mode_won mode dir list = won_once WritingMode (winner mode dir list) (take 1 rows) (drop 2 rows) _ refl refl refl refl

-- ---- with rules that turn none and without them

module _ (before rules behind : List Ruling) (line : List What) (none : turn_none rules ≡ true) where
  won_as : (of : Property) → place_of of ≤ 1 → ((d : Declaration) → same_property d.property of ≡ true → turns d ≡ true)
      → (mode other : modes.WritingMode) (dir next : Direction)
      → winner mode dir (claims (before ++ rules ++ behind) line) of ≡ winner other next (claims (before ++ behind) line) of
  won_as of early turning mode other dir next =
      ap best_value (naming_is mode dir of early (claims (before ++ rules ++ behind) line))
      ∙ same_best (λ property. same_property property of) turning before rules behind line none
      ∙ sym (ap best_value (naming_is other next of early (claims (before ++ behind) line)))

  -- from whatever styles of the parent
  pub same_display : (parent other : Style) → won (winners (before ++ rules ++ behind) line parent) Display ≡ won (winners (before ++ behind) line other) Display
  same_display parent other =
      let one = turned (claims (before ++ rules ++ behind) line) parent in
      let two = turned (claims (before ++ behind) line) other in
      display_won one.mode (direction_of one) (claims (before ++ rules ++ behind) line)
      ∙ won_as Display (omega arith) (λ d is. or_left (same_property d.property Display) (same_property d.property WritingMode) is) one.mode two.mode (direction_of one) (direction_of two)
      ∙ sym (display_won two.mode (direction_of two) (claims (before ++ behind) line))

  pub same_mode : (parent other : Style) → won (winners (before ++ rules ++ behind) line parent) WritingMode ≡ won (winners (before ++ behind) line other) WritingMode
  same_mode parent other =
      let one = turned (claims (before ++ rules ++ behind) line) parent in
      let two = turned (claims (before ++ behind) line) other in
      mode_won one.mode (direction_of one) (claims (before ++ rules ++ behind) line)
      ∙ won_as WritingMode (omega arith) (λ d is. or_right (same_property d.property Display) (same_property d.property WritingMode) is) one.mode two.mode (direction_of one) (direction_of two)
      ∙ sym (mode_won two.mode (direction_of two) (claims (before ++ behind) line))
