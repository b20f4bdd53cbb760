-- The lines of a paragraph (CSS 2, 9.4.2 and 10.8): where they end, what stands on each, and their fragments one under the other.
use Rattle.std.specs.Prelude.{ℕ, suc, ◌+◌, ◌-◌, ◌==◌, ◌&&◌, not, cond, List, [], ◌∷◌, ◌++◌, drop, take, map, Option, Some, None, ℤ, pos, ◌+ℤ◌, ◌-ℤ◌, slice_index_or}
use Rattle.face_api.specs.Table.{Table}
use Rattle.face_api.specs.Living.{used_table}
use Rattle.wm_chars.specs.declared.classes.BidiClass.{BidiClass}
use Rattle.wm_modes.specs.Sides.{side_of}
use Rattle.wm_modes.specs.declared.mode.Direction.TheVariants.{Ltr}
use Rattle.wm_modes.specs.declared.sides.FlowSide.{FlowSide}
use Rattle.wm_modes.specs.declared.sides.FlowSide.TheVariants.{LineOver, LineUnder, LineLeft, LineRight}
use Rattle.style_types.specs.declared.style.Baseline.{Baseline}
use Rattle.style_types.specs.declared.style.Style.{Style}
use Rattle.fragment_types.specs.Fragment as fragments
use Rattle.fragment_types.specs.Fragment.{Pieces, none, piece}
use Rattle.fragment_types.specs.Item.{Entry}
use Rattle.style_types.specs.Style.{baseline_of}
use Rattle.line_fill.specs.Filling.{lines}
use Rattle.line_place.specs.declared.line.Extents.{Extents}
use Rattle.line_place.specs.declared.line.LineBox.{LineBox}
use Rattle.line_place.specs.Leading.{extents}
use Rattle.line_place.specs.Line as place
use Rattle.line_place.specs.Line.{Line}
use Rattle.line_place.specs.Placing.{line_over, line_under, parts}
use Rattle.para_prepare.specs.Parts.{used_direction}
use Rattle.para_prepare.specs.Preparation.{Preparation}
use Rattle.para_prepare.specs.declared.item.PreparedItem.{PreparedItem}
use Rattle.para_prepare.specs.declared.item.PreparedContent.{PreparedContent}
use Rattle.para_prepare.specs.declared.item.PreparedContent.TheVariants.{Unit, Combined, Atom as atom_of, Break}
use Rattle.para_lines.specs.declared.paragraph.Container.{Container}
use Rattle.para_lines.specs.Around.{box_at, fresh, has}
use Rattle.para_lines.specs.Edges.{inner_edge_on, margin_on, raised_in}
use Rattle.para_lines.specs.Filling.{fill_items, is_space, item_chains, past}

-- an inline-block, laid out: its fragment; the extent of its margin box along the line; its margins at line-left and line-over;
-- how far its margin box reaches over and under its baseline; its own length of `vertical-align`
pub record Atom : Type 0 where
  pub fragment : Pieces
  pub extent : ℤ
  pub left_margin : ℤ
  pub over_margin : ℤ
  pub over : ℤ
  pub under : ℤ
  pub shift : ℤ

abbrev pub no_atom : Atom
no_atom = record { fragment = none; extent = pos 0; left_margin = pos 0; over_margin = pos 0; over = pos 0; under = pos 0; shift = pos 0 }

-- an item on its way to a line: all that is prepared of it, its extent along the line, the boxes round it, and its atom
pub record Standing : Type 0 where
  pub item : PreparedItem
  pub level : ℕ
  pub class : BidiClass
  pub base : ℕ
  pub extent : ℤ
  pub chain : List ℕ
  pub atom : Atom

abbrev pub standings_by : (items : List PreparedItem) → (levels : List ℕ) → (classes : List BidiClass) → (bases : List ℕ) → (extents : List ℤ) → (chains : List (List ℕ)) → (atoms : List Atom) → List Standing
standings_by (item ∷ items) (level ∷ levels) (class ∷ classes) (base ∷ bases) (extent ∷ extents) (chain ∷ chains) atoms =
    record { item = item; level = level; class = class; base = base; extent = extent; chain = chain; atom = slice_index_or atoms 0 no_atom }
    ∷ standings_by items levels classes bases extents chains (past item.what atoms)
standings_by _ _ _ _ _ _ atoms = []

-- the boxes that stand on a line, the outer before the inner: those round its first item, then those that begin on it
abbrev pub boxes_on : (before : List ℕ) → List Standing → List ℕ
boxes_on before [] = []
boxes_on before (s ∷ standings) = fresh s.chain before ++ boxes_on s.chain standings

-- where a box stands in that list
abbrev pub place_in : (boxes : List ℕ) → (box : ℕ) → ℕ
place_in [] box = 0
place_in (other ∷ boxes) box = cond (other == box) 0 (suc (place_in boxes box))

abbrev pub innermost_in : (boxes : List ℕ) → (chain : List ℕ) → Option ℕ
innermost_in boxes [] = None
innermost_in boxes (box ∷ chain) = Some (place_in boxes box)

-- the edges of an inline box on the sides of its container's lines
abbrev pub margin_at : Container → Style → FlowSide → ℤ
margin_at container style side = margin_on (Some container.size) style (side_of container.style.mode Ltr side)

abbrev pub inner_edge_at : Container → Style → FlowSide → ℤ
inner_edge_at container style side = inner_edge_on (Some container.size) style (side_of container.style.mode Ltr side)

abbrev pub baseline : Container → Baseline
baseline container = baseline_of container.style.mode container.style.orientation

-- the extents of a box in this style by its used face
abbrev pub extents_in : List (Option Table) → Container → Style → (raised : ℤ) → Extents
extents_in faces container style raised =
    let table = used_table faces style.face in
    extents table.metrics.ascent table.metrics.descent style (baseline container) raised

-- a box on a line between items in these boxes: its edges stand where its first and its last item do
abbrev pub line_box : List (Option Table) → Container → List Entry → (boxes before after : List ℕ) → (box : ℕ) → LineBox
line_box faces container entries boxes before after box =
    let b = box_at entries box in
    record {
      node = b.node;
      outer = innermost_in boxes b.outer;
      extents = extents_in faces container b.style (raised_in entries b.style.shift b.outer);
      dir = used_direction b.style;
      left = inner_edge_at container b.style LineLeft;
      right = inner_edge_at container b.style LineRight;
      over = inner_edge_at container b.style LineOver;
      under = inner_edge_at container b.style LineUnder;
      left_margin = margin_at container b.style LineLeft;
      right_margin = margin_at container b.style LineRight;
      first = b.opens && not (has before box);
      last = b.closes && not (has after box);
    }

abbrev pub content_of : List Entry → (chain : List ℕ) → Atom → PreparedContent → place.Content
content_of entries chain atom (Unit form space node first end_ advance glyphs) = place.unit node first end_ form glyphs
content_of entries chain atom (Combined node first end_ advance natural glyphs) = place.combined node first end_ natural glyphs
content_of entries chain atom (atom_of name) =
    place.atom atom.fragment atom.left_margin atom.over_margin
    (atom.over +ℤ raised_in entries atom.shift chain) (atom.under -ℤ raised_in entries atom.shift chain)
content_of entries chain atom (Break node) = place.nothing

abbrev pub line_item : List Entry → (boxes : List ℕ) → Standing → place.Item
line_item entries boxes s =
    record {
      level = s.level;
      class = s.class;
      extent = s.extent;
      inside = innermost_in boxes s.chain;
      space = is_space s.item.what;
      apart = s.item.apart;
      what = content_of entries s.chain s.atom s.item.what;
    }

abbrev pub first_base : List Standing → ℕ
first_base [] = 0
first_base (s ∷ standings) = s.base

-- the line of these items, between an item in these boxes and one in those
abbrev pub line : List (Option Table) → Container → List Entry → (before after : List ℕ) → List Standing → Line
line faces container entries before after standings =
    let boxes = boxes_on [] standings in
    record {
      base = first_base standings;
      align = container.style.align;
      available = container.size;
      strut = extents_in faces container container.style (pos 0);
      items = map (line_item entries boxes) standings;
      boxes = map (line_box faces container entries boxes before after) boxes;
    }

abbrev pub chain_of_last : (before : List ℕ) → List Standing → List ℕ
chain_of_last before [] = before
chain_of_last before (s ∷ standings) = chain_of_last s.chain standings

abbrev pub chain_of_first : List Standing → List ℕ
chain_of_first [] = []
chain_of_first (s ∷ standings) = s.chain

-- a line's fragment at this place on the block axis, and the lines behind it
abbrev pub line_piece : Container → (index : ℕ) → (block : ℤ) → Line → (next : Pieces) → Pieces
line_piece container index block line next =
    piece container.name (record { i = pos 0; b = block; inline = container.size; block = line_over line +ℤ line_under line })
    (fragments.line index (line_over line) container.style.mode (baseline container)) (parts line) next

abbrev pub extent_of : Line → ℤ
extent_of line = line_over line +ℤ line_under line

-- the lines of the items to come, the first of them beginning behind an item in these boxes; `from` items were taken
abbrev pub lines_from : List (Option Table) → Container → List Entry → (index from : ℕ) → (block : ℤ) → (before : List ℕ) → List Standing → (ends : List ℕ) → Pieces
lines_from faces container entries index from block before standings [] = none
lines_from faces container entries index from block before standings (end_ ∷ ends) =
    let own = take (end_ - from) standings in
    let others = drop (end_ - from) standings in
    let l = line faces container entries before (chain_of_first others) own in
    line_piece container index block l
    (lines_from faces container entries (index + 1) end_ (block +ℤ extent_of l) (chain_of_last before own) others ends)

-- the items of a prepared paragraph with their atoms
abbrev pub standings : List Entry → Preparation → List Atom → (extents : List ℤ) → List Standing
standings entries prepared atoms extents =
    standings_by prepared.items prepared.levels prepared.classes prepared.bases extents (item_chains entries prepared.items) atoms

abbrev pub atom_extents : List Atom → List ℤ
atom_extents = map (λ atom. atom.extent)

-- the lines of a prepared paragraph in its container, one under the other
unfoldable pub paragraph_lines : List (Option Table) → Container → List Entry → Preparation → List Atom → Pieces
paragraph_lines faces container entries prepared atoms =
    let items = fill_items (Some container.size) entries prepared (atom_extents atoms) in
    lines_from faces container entries 0 0 (pos 0) []
    (standings entries prepared atoms (map (λ item. item.advance) items)) (lines container.size items)
