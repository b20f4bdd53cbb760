-- A line that is one run of text outside all inline boxes, from left to right. CSS 2, 9.4.2 and 10.8.
use Rattle.std.specs.Prelude.{◌≡◌, ℕ, ◌-◌, ◌<◌, ◌≤◌, true, false, List, [], ◌∷◌, drop, length, map, slice_index_or, take, None, ℤ, pos, ◌+ℤ◌}
use Rattle.std.specs.List.{All}
use Rattle.fragment_types.specs.RunUnit.{RunUnit}
use Rattle.fragment_types.specs.declared.unit_kind.UnitKind.{UnitKind}
use Rattle.fragment_types.specs.Fragment as fragments
use Rattle.fragment_types.specs.Fragment.{Pieces, none, piece}
use Rattle.line_place.specs.declared.line.Extents.{Extents}
use Rattle.line_place.specs.declared.line_text.LineText as code
use Rattle.line_place.specs.Line.{Content, unit, combined, atom, nothing, Item, Line}
use Rattle.line_place.specs.Leaves.{Leaf, are_spaces}
use Rattle.line_place.specs.Placing.{extent_of, run_piece, text_rect, unit_with, unnumbered}

-- units of one text node and one form, without where they lie in memory
pub record Text : Type 0 where
  pub node : ℕ
  pub form : UnitKind
  pub extent : ℤ
  pub units : List RunUnit

abbrev pub text_of : code.LineText → Text
text_of text = record { node = text.node; form = text.form; extent = text.extent; units = text.units.items }

-- a unit of this node and form
abbrev pub IsUnit : (node : ℕ) → (form : UnitKind) → Content → Type 0
IsUnit node form (unit own first end_ kind glyphs) = (own ≡ node) × (kind ≡ form)
IsUnit node form (combined own first end_ natural glyphs) = ⊥
IsUnit node form (atom fragment left_margin over_margin over under) = ⊥
IsUnit node form nothing = ⊥

pub record IsTextItem (node : ℕ) (form : UnitKind) (item : Item) : Type 0 where
  pub level : item.level ≡ 0
  pub inside : item.inside ≡ None
  pub what : IsUnit node form item.what

abbrev pub unit_in : Item → RunUnit
unit_in item = unit_with item.what item.extent

abbrev pub extent_in : List Item → ℤ
extent_in [] = pos 0
extent_in (item ∷ items) = item.extent +ℤ extent_in items

-- Spaces alone stand behind the first so many of these items
pub record AreSolid (items : List Item) (count : ℕ) : Type 0 where
  pub some : 0 < count
  pub within : count ≤ length items
  pub last : (d : Item) → (slice_index_or items (count - 1) d).space ≡ false
  pub spaces : are_spaces (drop count items) ≡ true

-- the text is all that these items of a line are, but for the Spaces at its end
pub record IsLineText (text : Text) (items : List Item) : Type 0 where
  pub are : All (IsTextItem text.node text.form) items
  pub count : ℕ
  pub solid : AreSolid items count
  pub extent : text.extent ≡ extent_in (take count items)
  pub units : text.units ≡ map unit_in (take count items)

-- its run, from `left` on, in a line that reaches so far over its baseline
abbrev pub text_piece : Extents → (over left : ℤ) → Text → (next : Pieces) → Pieces
text_piece strut over left text next = piece (unnumbered text.node) (text_rect strut over left text.extent) (fragments.run text.form 0 None text.units) none next

-- runs side by side from `left` on
abbrev pub shown : Line → (over left : ℤ) → List (List Leaf) → Pieces
shown line over left [] = none
shown line over left (run ∷ runs) = run_piece line over left run (shown line over (left +ℤ extent_of run) runs)
