-- A line that is to be placed, without where it lies in memory. CSS 2, 9.4.2.
use Rattle.std.specs.Prelude.{ℕ, Bool, false, List, map, Option, None, ℤ, pos}
use Rattle.wm_chars.specs.declared.classes.BidiClass.{BidiClass}
use Rattle.wm_chars.specs.declared.classes.BidiClass.TheVariants.{L}
use Rattle.wm_modes.specs.declared.mode.Direction.TheVariants.{Ltr}
use Rattle.style_types.specs.declared.style.Align.{Align}
use Rattle.fragment_types.specs.declared.unit_kind.UnitKind.{UnitKind}
use Rattle.fragment_types.specs.Fragment.{Pieces, piece_of}
use Rattle.line_place.specs.declared.line.Extents.{Extents}
use Rattle.line_place.specs.declared.line.LineBox.{LineBox}
use Rattle.line_place.specs.declared.line.LineItem.{LineItem}
use Rattle.line_place.specs.declared.line.LineInput.{LineInput}
use Rattle.line_place.specs.declared.line.LineFrame.{LineFrame}
use Rattle.line_place.specs.declared.line.LineContent as code
use Rattle.line_place.specs.declared.line.LineContent.TheVariants as codes

pub data Content : Type 0 where
  unit : (node first end_ : ℕ) (form : UnitKind) (glyphs : List (List ℕ)) → Content
  combined : (node first end_ : ℕ) (natural : ℤ) (glyphs : List (List ℕ)) → Content
  atom : (fragment : Pieces) (left_margin over_margin over under : ℤ) → Content
  nothing : Content

pub record Item : Type 0 where
  pub level : ℕ
  pub class : BidiClass
  pub extent : ℤ
  pub inside : Option ℕ
  pub space : Bool
  pub apart : Option ℕ
  pub what : Content

pub record Line : Type 0 where
  pub base : ℕ
  pub align : Align
  pub available : ℤ
  pub strut : Extents
  pub items : List Item
  pub boxes : List LineBox

abbrev pub content_of : code.LineContent → Content
content_of (codes.Unit node first end_ form glyphs) = unit node first end_ form glyphs.now
content_of (codes.Combined node first end_ natural glyphs) = combined node first end_ natural glyphs.now
content_of (codes.Atom fragment left_margin over_margin over under) = atom (piece_of fragment.now) left_margin over_margin over under
content_of codes.Break = nothing

abbrev pub item_of : LineItem → Item
item_of item = record {
  level = item.level;
  class = item.class;
  extent = item.extent;
  inside = item.inside;
  space = item.space;
  apart = item.apart;
  what = content_of item.what;
}

-- the line of these items in a frame
abbrev pub line_in : LineFrame → List Item → Line
line_in frame items = record {
  base = frame.base;
  align = frame.align;
  available = frame.available;
  strut = frame.strut;
  items = items;
  boxes = frame.boxes.now;
}

abbrev pub line_of : LineInput → Line
line_of line = record {
  base = line.base;
  align = line.align;
  available = line.available;
  strut = line.strut;
  items = map item_of line.items.items;
  boxes = line.boxes.items;
}

-- what stands for an item that isn't there
abbrev pub no_item : Item
no_item = record { level = 0; class = L; extent = pos 0; inside = None; space = false; apart = None; what = nothing }

-- what stands for a box that isn't there
abbrev pub no_extents : Extents
no_extents = record { ascent = pos 0; descent = pos 0; over = pos 0; under = pos 0; raised = pos 0 }

abbrev pub no_box : LineBox
no_box = record {
  node = 0;
  outer = None;
  extents = no_extents;
  dir = Ltr;
  left = pos 0;
  right = pos 0;
  over = pos 0;
  under = pos 0;
  left_margin = pos 0;
  right_margin = pos 0;
  first = false;
  last = false;
}
