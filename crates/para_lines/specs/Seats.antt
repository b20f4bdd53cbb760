-- Where the boxes of a line stand in their list.
use Rattle.std.specs.Prelude.{◌≡◌, ℕ, ◌<◌, true, List, length, IfSome, Option, Some, None, slice_index_or}
use Rattle.std.specs.Coded.{Unit-prop, prop_coded}
use Rattle.fragment_types.specs.Item.{Entry, text, begins, ends, atom, line_break}
use Rattle.para_lines.specs.declared.paragraph.Container.{Container}
use Rattle.para_lines.specs.Around.{has, no_entry}
use Rattle.para_lines.specs.Bounded.{IsBounded-prop}
use Rattle.para_lines.specs.Boxes.{Begins, chain_at, innermost}
use Rattle.para_lines.specs.Lines.{place_in}
use Rattle.para_lines.specs.Paragraph.{IsContainer}
use base.Stored.{Coded}
use denote.Struct.Props.{props}

-- a table by box tells for each of these boxes its place in their list
abbrev pub AreSeats : (boxes seats : List ℕ) → Type 0
AreSeats boxes seats = (box : ℕ) → has boxes box ≡ true → (box < length seats) × (slice_index_or seats box 0 ≡ place_in boxes box)

-- a box of a line is one that begins, and the box round it is on the line too
pub record IsOnLine (entries : List Entry) (places : List ℕ) (box : ℕ) : Type 0 where
  pub within : box < length entries
  pub begins : Begins (slice_index_or entries box no_entry)
  pub outer : IfSome (innermost (chain_at entries box)) (λ outer. has places outer ≡ true)

abbrev pub AreOnLine : List Entry → (places : List ℕ) → Type 0
AreOnLine entries places = (box : ℕ) → has places box ≡ true → IsOnLine entries places box

-- what a line's boxes are made from: its container, the boxes that stand on it, each after those round it, with the table of
-- their places, and entries that there are on both sides
pub record IsSeated (entries : List Entry) (container : Container) (places seats : List ℕ) (source_before source_behind : Option ℕ) : Type 0 where
  pub container_is : IsContainer container
  pub seats_are : AreSeats places seats
  pub on_line : AreOnLine entries places
  pub before : IfSome source_before (λ source. source < length entries)
  pub after : IfSome source_behind (λ source. source < length entries)

-- ---- in one way at most

Begins-prop : (entry : Entry) → IsProp (Begins entry)
Begins-prop (begins node style edges) = hlevel props
Begins-prop (ends node edges) = hlevel props
Begins-prop (text node bytes style) = hlevel props
Begins-prop (atom name) = hlevel props
Begins-prop (line_break node) = hlevel props

IfSome-prop : (option : Option ℕ) (P : ℕ → Type 0) → ((n : ℕ) → IsProp (P n)) → IsProp (IfSome option P)
IfSome-prop None P each = Unit-prop
IfSome-prop (Some n) P each = each n

IsOuter-prop : (places : List ℕ) (outer : Option ℕ) → IsProp (IfSome outer (λ outer. has places outer ≡ true))
IsOuter-prop places outer = IfSome-prop outer (λ outer. has places outer ≡ true) (λ outer. hlevel props)

IsWithin-prop : (count : ℕ) (source : Option ℕ) → IsProp (IfSome source (λ source. source < count))
IsWithin-prop count source = IfSome-prop source (λ source. source < count) (λ source. hlevel props)

pub IsOnLine-prop : (entries : List Entry) (places : List ℕ) (box : ℕ) → IsProp (IsOnLine entries places box)
IsOnLine-prop entries places box = hlevel (props, Begins-prop, IsOuter-prop places (innermost (chain_at entries box)))

pub IsSeated-prop : (entries : List Entry) (container : Container) (places seats : List ℕ) (source_before source_behind : Option ℕ)
    → IsProp (IsSeated entries container places seats source_before source_behind)
IsSeated-prop entries container places seats source_before source_behind =
    hlevel (props, IsBounded-prop, IsOnLine-prop, IsWithin-prop (length entries) source_before, IsWithin-prop (length entries) source_behind)

pub IsSeated-coded : (entries : List Entry) (container : Container) (places seats : List ℕ) (source_before source_behind : Option ℕ)
    → Coded (IsSeated entries container places seats source_before source_behind)
IsSeated-coded entries container places seats source_before source_behind = prop_coded (IsSeated-prop entries container places seats source_before source_behind)
