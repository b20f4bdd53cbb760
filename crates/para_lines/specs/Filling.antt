-- The items of a paragraph as lines are filled with them: each with the edges of the inline boxes that begin before it and end
-- after it (CSS 2, 9.4.2).
use Rattle.std.specs.Prelude.{ℕ, Bool, false, cond, List, [], ◌∷◌, map, Option, None, ℤ, pos, ◌+ℤ◌, slice_index_or}
use Rattle.wm_modes.specs.declared.sides.FlowSide.TheVariants.{InlineStart, InlineEnd}
use Rattle.fragment_types.specs.declared.breaking.Breaking.{Breaking}
use Rattle.fragment_types.specs.Item.{Entry}
use Rattle.line_fill.specs.declared.item.FillItem.{FillItem}
use Rattle.line_fill.specs.declared.item.Intrinsic.{Intrinsic}
use Rattle.line_fill.specs.Sizes.{intrinsic}
use Rattle.para_prepare.specs.Preparation.{Preparation}
use Rattle.para_prepare.specs.declared.item.PreparedItem.{PreparedItem}
use Rattle.para_prepare.specs.declared.item.PreparedContent.{PreparedContent}
use Rattle.para_prepare.specs.declared.item.PreparedContent.TheVariants.{Unit, Combined, Atom, Break}
use Rattle.para_lines.specs.Around.{box_at, chains, fresh}
use Rattle.para_lines.specs.Edges.{inline_edge}

-- the boxes round each item
abbrev pub item_chains : List Entry → List PreparedItem → List (List ℕ)
item_chains entries items = map (λ item. slice_index_or (chains entries) item.source []) items

-- the edges of these boxes at their beginnings, where they have them, and at their ends
abbrev pub opening_edges : (inline : Option ℤ) → List Entry → List ℕ → ℤ
opening_edges inline entries [] = pos 0
opening_edges inline entries (box ∷ boxes) =
    cond (box_at entries box).opens (inline_edge inline (box_at entries box).style InlineStart) (pos 0) +ℤ opening_edges inline entries boxes

abbrev pub closing_edges : (inline : Option ℤ) → List Entry → List ℕ → ℤ
closing_edges inline entries [] = pos 0
closing_edges inline entries (box ∷ boxes) =
    cond (box_at entries box).closes (inline_edge inline (box_at entries box).style InlineEnd) (pos 0) +ℤ closing_edges inline entries boxes

abbrev pub advance_of : PreparedContent → (atoms : List ℤ) → ℤ
advance_of (Unit form space node first end_ advance glyphs) atoms = advance
advance_of (Combined node first end_ advance natural glyphs) atoms = advance
advance_of (Atom name) atoms = slice_index_or atoms 0 (pos 0)
advance_of (Break node) atoms = pos 0

-- the atoms to come behind an item
abbrev pub past : {X : Type 0} → PreparedContent → List X → List X
past (Atom name) [] = []
past (Atom name) (atom ∷ atoms) = atoms
past (Unit form space node first end_ advance glyphs) atoms = atoms
past (Combined node first end_ advance natural glyphs) atoms = atoms
past (Break node) atoms = atoms

abbrev pub is_space : PreparedContent → Bool
is_space (Unit form space node first end_ advance glyphs) = space
is_space _ = false

abbrev pub first_chain : List (List ℕ) → List ℕ
first_chain [] = []
first_chain (chain ∷ chains) = chain

-- an item whose neighbours stand in these boxes: a box begins with its first item and ends with its last
abbrev pub fill_item : (inline : Option ℤ) → List Entry → PreparedItem → Breaking → (before chain after : List ℕ) → (advance : ℤ) → FillItem
fill_item inline entries item end_ before chain after advance =
    record {
      advance = advance;
      before = opening_edges inline entries (fresh chain before);
      after = closing_edges inline entries (fresh chain after);
      space = is_space item.what;
      end = end_;
    }

abbrev pub fill_items_from : (inline : Option ℤ) → List Entry → (before : List ℕ) → List PreparedItem → List Breaking → (chains : List (List ℕ)) → (atoms : List ℤ) → List FillItem
fill_items_from inline entries before (item ∷ items) (end_ ∷ breaks) (chain ∷ chains) atoms =
    fill_item inline entries item end_ before chain (first_chain chains) (advance_of item.what atoms)
    ∷ fill_items_from inline entries chain items breaks chains (past item.what atoms)
fill_items_from inline entries before _ _ _ atoms = []

-- the items of a prepared paragraph, whose atoms advance so
unfoldable pub fill_items : (inline : Option ℤ) → List Entry → Preparation → (atoms : List ℤ) → List FillItem
fill_items inline entries prepared atoms =
    fill_items_from inline entries [] prepared.items prepared.breaks (item_chains entries prepared.items) atoms

-- the min-content and the max-content size of a paragraph, whose atoms contribute so. No percentage counts.
unfoldable pub paragraph_sizes : List Entry → Preparation → (mins maxs : List ℤ) → Intrinsic
paragraph_sizes entries prepared mins maxs =
    record {
      min = (intrinsic (fill_items None entries prepared mins)).min;
      max = (intrinsic (fill_items None entries prepared maxs)).max;
    }
