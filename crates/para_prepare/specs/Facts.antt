-- Facts that types keep hold in one way at most.
use Rattle.std.specs.Prelude.{ℕ, ◌*◌, ◌-◌, List, [], ◌∷◌, All, pos, ◌≤ℤ◌}
use Rattle.std.specs.Coded.{Π_prop, ×_prop, Unit-prop, le_prop}
use Rattle.std.proofs.Props.{props}
use Rattle.fragment_types.specs.Item.{Entry, text, begins, ends, atom, line_break}
use Rattle.style_types.specs.declared.style.Style.{Style}
use Rattle.cluster_units.specs.Laws.{AreInOrder, IsUnitIn}
use Rattle.cluster_units.specs.declared.unit.Unit.{Unit}
use Rattle.para_prepare.specs.declared.item.PreparedContent as content
use Rattle.para_prepare.specs.declared.item.PreparedContent.TheVariants as contents
use Rattle.para_prepare.specs.declared.item.PreparedItem.{PreparedItem}
use Rattle.para_prepare.specs.declared.letter.Letter.{Letter}
use Rattle.para_prepare.specs.Limits.{HasFontSize, IsFontSize}
use Rattle.para_prepare.specs.Preparation.{HasBounds}
use Rattle.para_prepare.specs.Standing.{IsStanding}
use Rattle.para_prepare.specs.Views.{IsPlaced, IsUnitOf}
use Rattle.para_prepare.specs.declared.standing.Standing.{Standing}

pub IsFontSize-prop : (style : Style) → IsProp (IsFontSize style)
IsFontSize-prop style x y =
    let low_prop : IsProp (pos 0 ≤ℤ style.font_size) = hlevel props in
    let high_prop : IsProp (style.font_size ≤ℤ pos 65536) = hlevel props in
    λ i. record {
      low = low_prop x.low y.low i;
      high = high_prop x.high y.high i;
    }

pub HasFontSize-prop : (entry : Entry) → IsProp (HasFontSize entry)
HasFontSize-prop (text node bytes style) = IsFontSize-prop style
HasFontSize-prop (begins node style edges) = Unit-prop
HasFontSize-prop (ends node edges) = Unit-prop
HasFontSize-prop (atom name) = Unit-prop
HasFontSize-prop (line_break node) = Unit-prop

pub all_sized-prop : (entries : List Entry) → IsProp (All HasFontSize entries)
all_sized-prop entries = Π_prop λ k. Π_prop λ d. Π_prop λ below. HasFontSize-prop _

pub HasBounds-prop : (what : content.PreparedContent) → IsProp (HasBounds what)
HasBounds-prop (contents.Unit form space node first end_ advance glyphs) = hlevel props
HasBounds-prop (contents.Combined node first end_ advance natural glyphs) = hlevel props
HasBounds-prop (contents.Atom name) = Unit-prop
HasBounds-prop (contents.Break node) = Unit-prop

pub all_bounded-prop : (items : List PreparedItem) → IsProp (All (λ own. HasBounds own.what) items)
all_bounded-prop items = Π_prop λ k. Π_prop λ d. Π_prop λ below. HasBounds-prop _

pub all_placed-prop : (letters : List Letter) → IsProp (All IsPlaced letters)
all_placed-prop letters = Π_prop λ k. Π_prop λ d. Π_prop λ below. le_prop

IsStanding-prop : (standing : Standing) → IsProp (IsStanding standing)
IsStanding-prop standing x y = λ i. record {
  level = le_prop x.level y.level i;
  base = le_prop x.base y.base i;
}

pub all_standing-prop : (standings : List Standing) → IsProp (All IsStanding standings)
all_standing-prop standings = Π_prop λ k. Π_prop λ d. Π_prop λ below. IsStanding-prop _

IsUnitOf-prop : (many : ℕ) (unit : Unit) → IsProp (IsUnitOf many unit)
IsUnitOf-prop many unit x y = λ i. record {
  order = le_prop x.order y.order i;
  within = le_prop x.within y.within i;
}

pub all_units-prop : (many : ℕ) (units : List Unit) → IsProp (All (IsUnitOf many) units)
all_units-prop many units = Π_prop λ k. Π_prop λ d. Π_prop λ below. IsUnitOf-prop many _

IsUnitIn-prop : (place end_ : ℕ) (unit : Unit) → IsProp (IsUnitIn place end_ unit)
IsUnitIn-prop place end_ unit x y =
    let advance_low_prop : IsProp (pos 0 ≤ℤ unit.advance) = hlevel props in
    let advance_high_prop : IsProp (unit.advance ≤ℤ pos 655360) = hlevel props in
    let natural_low_prop : IsProp (pos 0 ≤ℤ unit.natural) = hlevel props in
    let natural_high_prop : IsProp (unit.natural ≤ℤ pos (655360 * (unit.end - unit.first))) = hlevel props in
    λ i. record {
      behind = le_prop x.behind y.behind i;
      some = le_prop x.some y.some i;
      within = le_prop x.within y.within i;
      advance_low = advance_low_prop x.advance_low y.advance_low i;
      advance_high = advance_high_prop x.advance_high y.advance_high i;
      natural_low = natural_low_prop x.natural_low y.natural_low i;
      natural_high = natural_high_prop x.natural_high y.natural_high i;
    }

pub AreInOrder-prop : (place end_ : ℕ) (units : List Unit) → IsProp (AreInOrder place end_ units)
AreInOrder-prop place end_ [] = Unit-prop
AreInOrder-prop place end_ (unit ∷ units) = ×_prop (IsUnitIn-prop place end_ unit) (AreInOrder-prop unit.end end_ units)
