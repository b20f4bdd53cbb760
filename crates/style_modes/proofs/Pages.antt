-- Which property of the page stands in a way for a property, beside which one does in a horizontal flow.
use Rattle.std.proofs.Common.{◌≡◌, ◌∙◌, ℕ, Bool, true, false, List, [], ◌∷◌, Option, Some, None, refl, sym, ap}
use Rattle.std.specs.Prelude.{cond, filter, not, slice_get, ◌||◌}
use Rattle.std.specs.Cmp.{both_ways}
use Rattle.std.proofs.lemmas.Bool.{cond-false, eq-eqb, eqb-true, false_from_ne_true, not-true, true≢false}
use Rattle.std.proofs.lemmas.List.Elements.{All-head, All-tail}
use Rattle.wm_modes.specs.declared.mode.Direction.{Direction}
use Rattle.wm_modes.specs.declared.mode.Direction.TheVariants.{Ltr, Rtl}
use Rattle.wm_modes.specs.declared.mode.WritingMode.TheVariants.{HorizontalTb}
use Rattle.css_types.specs.declared.property.Property.{Property}
use Rattle.css_types.specs.declared.property.Property.TheVariants as properties
use Rattle.css_types.specs.declared.table.PropertyRow.{PropertyRow}
use Rattle.css_types.specs.Page.{page_of}
use Rattle.css_types.specs.Property.{place_of}
use Rattle.css_types.specs.Table.{row_of, rows}
use Rattle.cascade.specs.declared.claim.Claim.{Claim}
use Rattle.cascade.specs.Winners.{naming, same_property}
use Rattle.style_types.specs.declared.style.Combine.{Combine}
use Rattle.style_types.specs.declared.style.TextOrientation.{TextOrientation}
use Rattle.mode_ways.specs.Ways.{Way, across, down, left, right, mode_of}
use Rattle.style_modes.specs.Turnable.{ties}
use Rattle.style_modes.proofs.FreeClaims.{AreFree, IsFree}

-- ---- the page turned by a quarter

-- where line-left is the top and block-start the right
unfoldable pub to_the_right : Property → Property
to_the_right properties.MarginTop = properties.MarginRight
to_the_right properties.MarginRight = properties.MarginBottom
to_the_right properties.MarginBottom = properties.MarginLeft
to_the_right properties.MarginLeft = properties.MarginTop
to_the_right properties.PaddingTop = properties.PaddingRight
to_the_right properties.PaddingRight = properties.PaddingBottom
to_the_right properties.PaddingBottom = properties.PaddingLeft
to_the_right properties.PaddingLeft = properties.PaddingTop
to_the_right properties.BorderTopWidth = properties.BorderRightWidth
to_the_right properties.BorderRightWidth = properties.BorderBottomWidth
to_the_right properties.BorderBottomWidth = properties.BorderLeftWidth
to_the_right properties.BorderLeftWidth = properties.BorderTopWidth
to_the_right properties.BorderTopStyle = properties.BorderRightStyle
to_the_right properties.BorderRightStyle = properties.BorderBottomStyle
to_the_right properties.BorderBottomStyle = properties.BorderLeftStyle
to_the_right properties.BorderLeftStyle = properties.BorderTopStyle
to_the_right properties.InsetTop = properties.InsetRight
to_the_right properties.InsetRight = properties.InsetBottom
to_the_right properties.InsetBottom = properties.InsetLeft
to_the_right properties.InsetLeft = properties.InsetTop
to_the_right properties.Width = properties.Height
to_the_right properties.Height = properties.Width
to_the_right properties.MinWidth = properties.MinHeight
to_the_right properties.MinHeight = properties.MinWidth
to_the_right properties.MaxWidth = properties.MaxHeight
to_the_right properties.MaxHeight = properties.MaxWidth
to_the_right property = property

-- where line-left is the bottom and block-start the left
unfoldable pub to_the_left : Property → Property
to_the_left properties.MarginTop = properties.MarginLeft
to_the_left properties.MarginRight = properties.MarginTop
to_the_left properties.MarginBottom = properties.MarginRight
to_the_left properties.MarginLeft = properties.MarginBottom
to_the_left properties.PaddingTop = properties.PaddingLeft
to_the_left properties.PaddingRight = properties.PaddingTop
to_the_left properties.PaddingBottom = properties.PaddingRight
to_the_left properties.PaddingLeft = properties.PaddingBottom
to_the_left properties.BorderTopWidth = properties.BorderLeftWidth
to_the_left properties.BorderRightWidth = properties.BorderTopWidth
to_the_left properties.BorderBottomWidth = properties.BorderRightWidth
to_the_left properties.BorderLeftWidth = properties.BorderBottomWidth
to_the_left properties.BorderTopStyle = properties.BorderLeftStyle
to_the_left properties.BorderRightStyle = properties.BorderTopStyle
to_the_left properties.BorderBottomStyle = properties.BorderRightStyle
to_the_left properties.BorderLeftStyle = properties.BorderBottomStyle
to_the_left properties.InsetTop = properties.InsetLeft
to_the_left properties.InsetRight = properties.InsetTop
to_the_left properties.InsetBottom = properties.InsetRight
to_the_left properties.InsetLeft = properties.InsetBottom
to_the_left properties.Width = properties.Height
to_the_left properties.Height = properties.Width
to_the_left properties.MinWidth = properties.MinHeight
to_the_left properties.MinHeight = properties.MinWidth
to_the_left properties.MaxWidth = properties.MaxHeight
to_the_left properties.MaxHeight = properties.MaxWidth
to_the_left property = property

-- the property of the page in a way for that of a horizontal flow
unfoldable pub carried : Way → Property → Property
carried (across orientation combine) property = property
carried down property = to_the_right property
carried (right orientation combine) property = to_the_right property
carried (left orientation combine) property = to_the_left property

carried_back : Way → Property → Property
carried_back (across orientation combine) property = property
carried_back down property = to_the_left property
carried_back (right orientation combine) property = to_the_left property
carried_back (left orientation combine) property = to_the_right property

-- ---- one place, one property

property_by : Option PropertyRow → Property
property_by None = properties.Display
property_by (Some row) = row.property

stands_there : (property : Property) → property_by (row_of property) ≡ property
unfolding property_by
stands_there properties.Display = refl
stands_there property = refl

pub same_is : (one other : Property) → same_property one other ≡ true → one ≡ other
same_is one other same =
    sym (stands_there one) ∙ ap (λ (place : ℕ). property_by (slice_get rows place)) (eqb-true (place_of one) (place_of other) same) ∙ stands_there other

is_same : (one other : Property) → one ≡ other → same_property one other ≡ true
is_same one other is = eq-eqb (place_of one) (place_of other) (ap place_of is)

-- ---- carried and back again

right_and_left : (property : Property) → to_the_left (to_the_right property) ≡ property
unfolding to_the_left to_the_right
right_and_left properties.Display = refl
right_and_left property = refl

left_and_right : (property : Property) → to_the_right (to_the_left property) ≡ property
unfolding to_the_left to_the_right
left_and_right properties.Display = refl
left_and_right property = refl

carried_and_back : (way : Way) (property : Property) → carried_back way (carried way property) ≡ property
unfolding carried carried_back
carried_and_back (across orientation combine) property = refl
carried_and_back down property = right_and_left property
carried_and_back (right orientation combine) property = right_and_left property
carried_and_back (left orientation combine) property = left_and_right property

same_carried : (way : Way) (one other : Property) → same_property (carried way one) (carried way other) ≡ same_property one other
same_carried way one other =
    both_ways (same_property (carried way one) (carried way other)) (same_property one other)
    (λ same. is_same one other (sym (carried_and_back way one) ∙ ap (carried_back way) (same_is (carried way one) (carried way other) same) ∙ carried_and_back way other))
    (λ same. is_same (carried way one) (carried way other) (ap (carried way) (same_is one other same)))

-- ---- what stands for a property

abbrev StandsCarried : Way → Direction → Property → Type 0
StandsCarried way dir property = (ties property || same_property (page_of (mode_of way) dir property) (carried way (page_of HorizontalTb dir property))) ≡ true

across_stands : (dir : Direction) (property : Property) → (ties property || same_property (page_of HorizontalTb dir property) (page_of HorizontalTb dir property)) ≡ true
across_stands dir property = or_same (ties property) (is_same (page_of HorizontalTb dir property) (page_of HorizontalTb dir property) refl)
  where
    or_same : (b : Bool) {other : Bool} → other ≡ true → (b || other) ≡ true
    or_same true is = refl
    or_same false is = is

down_stands_ltr : (property : Property) → StandsCarried down Ltr property
unfolding carried to_the_left to_the_right
down_stands_ltr properties.Display = refl
down_stands_ltr property = refl

down_stands_rtl : (property : Property) → StandsCarried down Rtl property
unfolding carried to_the_left to_the_right
down_stands_rtl properties.Display = refl
down_stands_rtl property = refl

right_stands_ltr : (orientation : TextOrientation) (combine : Combine) (property : Property) → StandsCarried (right orientation combine) Ltr property
unfolding carried to_the_left to_the_right
right_stands_ltr orientation combine properties.Display = refl
right_stands_ltr orientation combine property = refl

right_stands_rtl : (orientation : TextOrientation) (combine : Combine) (property : Property) → StandsCarried (right orientation combine) Rtl property
unfolding carried to_the_left to_the_right
right_stands_rtl orientation combine properties.Display = refl
right_stands_rtl orientation combine property = refl

left_stands_ltr : (orientation : TextOrientation) (combine : Combine) (property : Property) → StandsCarried (left orientation combine) Ltr property
unfolding carried to_the_left to_the_right
left_stands_ltr orientation combine properties.Display = refl
left_stands_ltr orientation combine property = refl

left_stands_rtl : (orientation : TextOrientation) (combine : Combine) (property : Property) → StandsCarried (left orientation combine) Rtl property
unfolding carried to_the_left to_the_right
left_stands_rtl orientation combine properties.Display = refl
left_stands_rtl orientation combine property = refl

stands_carried : (way : Way) (dir : Direction) (property : Property) → StandsCarried way dir property
unfolding carried
stands_carried (across orientation combine) dir property = across_stands dir property
stands_carried down Ltr property = down_stands_ltr property
stands_carried down Rtl property = down_stands_rtl property
stands_carried (right orientation combine) Ltr property = right_stands_ltr orientation combine property
stands_carried (right orientation combine) Rtl property = right_stands_rtl orientation combine property
stands_carried (left orientation combine) Ltr property = left_stands_ltr orientation combine property
stands_carried (left orientation combine) Rtl property = left_stands_rtl orientation combine property

-- the claim holds where the property doesn't tie
where_free : (property : Property) (claimed : Bool) → ties property ≡ false → (ties property || claimed) ≡ true → claimed ≡ true
where_free property claimed free is = ap (λ (b : Bool). b || claimed) (sym free) ∙ is

-- where a property ties no document to a mode, what stands for it in a way is what stands for it in a horizontal flow, carried there
page_carried : (way : Way) (dir : Direction) (property : Property) → ties property ≡ false → page_of (mode_of way) dir property ≡ carried way (page_of HorizontalTb dir property)
page_carried way dir property free =
    same_is (page_of (mode_of way) dir property) (carried way (page_of HorizontalTb dir property)) (where_free property _ free (stands_carried way dir property))

pub naming_carried : (way : Way) (dir : Direction) (page : Property) (list : List Claim) → AreFree list → naming (mode_of way) dir (carried way page) list ≡ naming HorizontalTb dir page list
naming_carried way dir page [] free = refl
naming_carried way dir page (claim ∷ others) free =
    let is : page_of (mode_of way) dir claim.property ≡ carried way (page_of HorizontalTb dir claim.property) = page_carried way dir claim.property (All-head IsFree claim others free) in
    let same : same_property (page_of (mode_of way) dir claim.property) (carried way page) ≡ same_property (page_of HorizontalTb dir claim.property) page =
    ap (λ (p : Property). same_property p (carried way page)) is ∙ same_carried way (page_of HorizontalTb dir claim.property) page in
    ap (λ (b : Bool). cond b (claim ∷ naming (mode_of way) dir (carried way page) others) (naming (mode_of way) dir (carried way page) others)) same
    ∙ ap (λ (l : List Claim). cond (same_property (page_of HorizontalTb dir claim.property) page) (claim ∷ l) l) (naming_carried way dir page others (All-tail IsFree claim others free))

-- ---- properties that say a mode, or how text turns

-- nothing stands for this property but itself
abbrev StandsAlone : Direction → (of : Property) → Property → Type 0
StandsAlone dir of property = (ties property || not (same_property (page_of HorizontalTb dir property) of)) ≡ true

mode_ltr : (property : Property) → StandsAlone Ltr properties.WritingMode property
mode_ltr properties.Display = refl
mode_ltr property = refl

mode_rtl : (property : Property) → StandsAlone Rtl properties.WritingMode property
mode_rtl properties.Display = refl
mode_rtl property = refl

mode_alone : (dir : Direction) (property : Property) → StandsAlone dir properties.WritingMode property
mode_alone Ltr property = mode_ltr property
mode_alone Rtl property = mode_rtl property

orientation_ltr : (property : Property) → StandsAlone Ltr properties.TextOrientation property
orientation_ltr properties.Display = refl
orientation_ltr property = refl

orientation_rtl : (property : Property) → StandsAlone Rtl properties.TextOrientation property
orientation_rtl properties.Display = refl
orientation_rtl property = refl

orientation_alone : (dir : Direction) (property : Property) → StandsAlone dir properties.TextOrientation property
orientation_alone Ltr property = orientation_ltr property
orientation_alone Rtl property = orientation_rtl property

combine_ltr : (property : Property) → StandsAlone Ltr properties.TextCombineUpright property
combine_ltr properties.Display = refl
combine_ltr property = refl

combine_rtl : (property : Property) → StandsAlone Rtl properties.TextCombineUpright property
combine_rtl properties.Display = refl
combine_rtl property = refl

combine_alone : (dir : Direction) (property : Property) → StandsAlone dir properties.TextCombineUpright property
combine_alone Ltr property = combine_ltr property
combine_alone Rtl property = combine_rtl property

pub none_kept : (keeps : Claim → Bool) (list : List Claim) → AreFree list → ((claim : Claim) → IsFree claim → keeps claim ≡ false) → filter keeps list ≡ []
none_kept keeps [] free none = refl
none_kept keeps (claim ∷ others) free none =
    cond-false (keeps claim) (claim ∷ filter keeps others) (filter keeps others) (none claim (All-head IsFree claim others free))
    ∙ none_kept keeps others (All-tail IsFree claim others free) none

-- none of the claims is of a property that ties
pub none_is : (of : Property) → ties of ≡ true → (list : List Claim) → AreFree list → filter (λ claim. same_property claim.property of) list ≡ []
none_is of tying list free =
    none_kept (λ claim. same_property claim.property of) list free
    (λ claim is_free. false_from_ne_true (same_property claim.property of) (λ same. true≢false (sym tying ∙ ap ties (sym (same_is claim.property of same)) ∙ is_free)))

none_named : (dir : Direction) (of : Property) → ((property : Property) → StandsAlone dir of property) → (list : List Claim) → AreFree list → naming HorizontalTb dir of list ≡ []
none_named dir of alone list free =
    none_kept (λ claim. same_property (page_of HorizontalTb dir claim.property) of) list free
    (λ claim is_free. not-true (same_property (page_of HorizontalTb dir claim.property) of) (where_free claim.property _ is_free (alone claim.property)))

mode_kept : (way : Way) → carried way properties.WritingMode ≡ properties.WritingMode
unfolding carried to_the_left to_the_right
mode_kept (across orientation combine) = refl
mode_kept down = refl
mode_kept (right orientation combine) = refl
mode_kept (left orientation combine) = refl

pub no_mode : (way : Way) (dir : Direction) (list : List Claim) → AreFree list → naming (mode_of way) dir properties.WritingMode list ≡ []
no_mode way dir list free =
    ap (λ (of : Property). naming (mode_of way) dir of list) (sym (mode_kept way))
    ∙ naming_carried way dir properties.WritingMode list free
    ∙ none_named dir properties.WritingMode (mode_alone dir) list free

orientation_kept : (way : Way) → carried way properties.TextOrientation ≡ properties.TextOrientation
unfolding carried to_the_left to_the_right
orientation_kept (across orientation combine) = refl
orientation_kept down = refl
orientation_kept (right orientation combine) = refl
orientation_kept (left orientation combine) = refl

pub no_orientation : (way : Way) (dir : Direction) (list : List Claim) → AreFree list → naming (mode_of way) dir properties.TextOrientation list ≡ []
no_orientation way dir list free =
    ap (λ (of : Property). naming (mode_of way) dir of list) (sym (orientation_kept way))
    ∙ naming_carried way dir properties.TextOrientation list free
    ∙ none_named dir properties.TextOrientation (orientation_alone dir) list free

combine_kept : (way : Way) → carried way properties.TextCombineUpright ≡ properties.TextCombineUpright
unfolding carried to_the_left to_the_right
combine_kept (across orientation combine) = refl
combine_kept down = refl
combine_kept (right orientation combine) = refl
combine_kept (left orientation combine) = refl

pub no_combine : (way : Way) (dir : Direction) (list : List Claim) → AreFree list → naming (mode_of way) dir properties.TextCombineUpright list ≡ []
no_combine way dir list free =
    ap (λ (of : Property). naming (mode_of way) dir of list) (sym (combine_kept way))
    ∙ naming_carried way dir properties.TextCombineUpright list free
    ∙ none_named dir properties.TextCombineUpright (combine_alone dir) list free
