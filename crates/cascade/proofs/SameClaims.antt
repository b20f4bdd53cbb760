-- The winners among the claims of an element are told by which claims there are, in whatever order.
use Rattle.std.proofs.Common.{◌≡◌, Bool, List, [], ◌∷◌, refl, sym, ap, ◌∙◌, Option, Some}
use Rattle.std.specs.Prelude.{filter, filter_map, option_map}
use Rattle.std.specs.List.{Contains, cons_option}
use Rattle.basic_laws.proofs.Lists.{contains_first, contains_none}
use Rattle.wm_modes.specs.declared.mode.WritingMode.{WritingMode}
use Rattle.wm_modes.specs.declared.mode.Direction.{Direction}
use Rattle.css_types.specs.declared.property.Property.{Property}
use Rattle.css_types.specs.declared.property.Property.TheVariants as properties
use Rattle.style_types.specs.declared.style.Style.{Style}
use Rattle.css_types.specs.declared.table.PropertyRow.{PropertyRow}
use Rattle.css_types.specs.declared.value.Value.{Value}
use Rattle.defaulting.specs.Defaulting.{computed_mode, computed_direction, computed_orientation}
use Rattle.css_types.specs.Page.{page_of}
use Rattle.css_types.specs.Rule.{Ruling}
use Rattle.css_types.specs.Table.{rows}
use Rattle.dom_store.specs.State.{What, line}
use Rattle.cascade.specs.declared.claim.Claim.{Claim}
use Rattle.cascade.specs.Claims.{numbers_of, claims}
use Rattle.cascade.specs.Winners.{greatest, same_property, winner, first_winner, turned, direction_of, paired, winners_by, winners, winners_in, IsGreatest, AreSaidRules, IsSaidLine, AreSaidWinners}
use Rattle.cascade.proofs.NumberOrder.{same_where_none_is_less}
use Rattle.cascade.proofs.Members.{HaveSame, same_kept, kept_was}
use Rattle.cascade.proofs.Keys.{keys_differ, told_by_keys}
use Rattle.cascade.proofs.SaidClaims.{claims_said, winners_said}
use Rattle.cascade.proofs.Best.{found, of_some}

-- claims of one key are one
abbrev pub KeysTell : List Claim → Type 0
KeysTell one = (c d : Claim) → Contains one c → Contains one d → numbers_of c.key ≡ numbers_of d.key → c ≡ d

kept_keys_tell : (keeps : Claim → Bool) (one : List Claim) → KeysTell one → KeysTell (filter keeps one)
kept_keys_tell keeps one tell c d at there = tell c d (kept_was keeps one c at) (kept_was keeps one d there)

pub same_best : (one other : List Claim) (one_best other_best : Claim) → HaveSame one other → KeysTell one → IsGreatest one one_best → IsGreatest other other_best → one_best ≡ other_best
same_best one other one_best other_best same tell here there =
    tell one_best other_best here.among ((same other_best).1 there.among)
    (same_where_none_is_less (numbers_of one_best.key) (numbers_of other_best.key)
    (here.least other_best ((same other_best).1 there.among))
    (there.least one_best ((same one_best).0 here.among)))

pub same_greatest : (one other : List Claim) → HaveSame one other → KeysTell one → greatest one ≡ greatest other
same_greatest [] [] same tell = refl
same_greatest [] (first ∷ others) same tell = absurd (contains_none first ((same first).1 (contains_first first others)))
same_greatest (first ∷ others) [] same tell = absurd (contains_none first ((same first).0 (contains_first first others)))
same_greatest (first ∷ others) (next ∷ more) same tell =
    let here = found first others in
    let there = found next more in
    of_some first others ∙ here.1
    ∙ ap Some (same_best (first ∷ others) (next ∷ more) here.0 there.0 same tell here.2 there.2)
    ∙ sym (of_some next more ∙ there.1)

same_greatest_kept : (keeps : Claim → Bool) (one other : List Claim) → HaveSame one other → KeysTell one → greatest (filter keeps one) ≡ greatest (filter keeps other)
same_greatest_kept keeps one other same tell = same_greatest (filter keeps one) (filter keeps other) (same_kept keeps one other same) (kept_keys_tell keeps one tell)

-- ---- the winners

same_first : (one other : List Claim) (property : Property) → HaveSame one other → KeysTell one → first_winner one property ≡ first_winner other property
same_first one other property same tell =
    ap (λ (best : Option Claim). option_map (λ claim. claim.value) best) (same_greatest_kept (λ claim. same_property claim.property property) one other same tell)

same_winner : (mode : WritingMode) (dir : Direction) (one other : List Claim) (page : Property) → HaveSame one other → KeysTell one → winner mode dir one page ≡ winner mode dir other page
same_winner mode dir one other page same tell =
    ap (λ (best : Option Claim). option_map (λ claim. claim.value) best) (same_greatest_kept (λ claim. same_property (page_of mode dir claim.property) page) one other same tell)

turned_by : (parent : Style) (mode dir orientation : Option Value) → Style
turned_by parent mode dir orientation = record parent {
  mode = computed_mode parent.mode mode;
  direction = computed_direction parent.direction dir;
  orientation = computed_orientation parent.orientation orientation;
}

same_turned : (one other : List Claim) (parent : Style) → HaveSame one other → KeysTell one → turned one parent ≡ turned other parent
unfolding turned_by
same_turned one other parent same tell =
    ap (λ (mode : Option Value). turned_by parent mode (first_winner one properties.Direction) (first_winner one properties.TextOrientation)) (same_first one other properties.WritingMode same tell)
    ∙ ap (λ (dir : Option Value). turned_by parent (first_winner other properties.WritingMode) dir (first_winner one properties.TextOrientation)) (same_first one other properties.Direction same tell)
    ∙ ap (λ (orientation : Option Value). turned_by parent (first_winner other properties.WritingMode) (first_winner other properties.Direction) orientation) (same_first one other properties.TextOrientation same tell)

same_rows : (mode : WritingMode) (dir : Direction) (one other : List Claim) → HaveSame one other → KeysTell one → (table : List PropertyRow)
    → filter_map (λ row. paired row.property (winner mode dir one row.property)) table ≡ filter_map (λ row. paired row.property (winner mode dir other row.property)) table
same_rows mode dir one other same tell [] = refl
same_rows mode dir one other same tell (row ∷ table) =
    ap (λ (value : Option Value). cons_option (paired row.property value) (filter_map (λ row. paired row.property (winner mode dir one row.property)) table)) (same_winner mode dir one other row.property same tell)
    ∙ ap (cons_option (paired row.property (winner mode dir other row.property))) (same_rows mode dir one other same tell table)

pub same_winners : (one other : List Claim) → ((c : Claim) → (Contains one c → Contains other c) × (Contains other c → Contains one c)) → KeysTell one → (parent : Style) → winners_in one parent ≡ winners_in other parent
same_winners one other same tell parent =
    ap (λ (own : Style). winners_by own.mode (direction_of own) one) (same_turned one other parent same tell)
    ∙ same_rows (turned other parent).mode (direction_of (turned other parent)) one other same tell rows

pub keys_tell : (rules : List Ruling) (line : List What) → KeysTell (claims rules line)
keys_tell rules line = told_by_keys (claims rules line) (keys_differ rules line)

pub winners_are_said : (rules : List Ruling) (line : List What) (parent : Style) → AreSaidRules rules → IsSaidLine line → AreSaidWinners (winners rules line parent)
winners_are_said rules line parent said said_line = winners_said (claims rules line) parent (claims_said rules line said said_line)
