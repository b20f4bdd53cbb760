-- The items of a line from line-left. CSS Text 3, 4.1.2; UAX 9, 3.4.
use Rattle.std.specs.Prelude.{ℕ, ◌+◌, Bool, true, false, ◌&&◌, cond, List, [], ◌∷◌, map, Option, Some, None, slice_get, slice_index_or, ℤ, pos}
use Rattle.std.specs.List.{filter_map}
use Rattle.bidi_order.specs.Blanks.{reset}
use Rattle.bidi_order.specs.Visual.{visual_order}
use Rattle.line_place.specs.Line.{Content, content_of, nothing, Item, no_item, Line}
use Rattle.line_place.specs.declared.leaves.Leaf as code
use Rattle.line_place.specs.declared.line.LineContent.{LineContent}

pub record Leaf : Type 0 where
  pub inside : Option ℕ
  pub place : ℕ
  pub level : ℕ
  pub extent : ℤ
  pub what : Content

-- whether nothing but Spaces stands there
abbrev pub are_spaces : List Item → Bool
are_spaces [] = true
are_spaces (item ∷ items) = item.space && are_spaces items

-- a Space at the end of the line hangs: it has no extent, and nothing of it is seen
abbrev pub leaf : (place : ℕ) → (level : ℕ) → Item → (hangs : Bool) → Leaf
leaf place level item hangs =
    record { inside = item.inside; place = place; level = level; extent = cond hangs (pos 0) item.extent; what = cond hangs nothing item.what }

abbrev pub leaves_from : (place : ℕ) → (levels : List ℕ) → List Item → List Leaf
leaves_from place [] items = []
leaves_from place (level ∷ levels) [] = []
leaves_from place (level ∷ levels) (item ∷ items) = leaf place level item (are_spaces (item ∷ items)) ∷ leaves_from (place + 1) levels items

-- the items of a line in logical order, with their own levels
abbrev pub in_logical_order : List Item → List Leaf
in_logical_order items = leaves_from 0 (map (λ item. item.level) items) items

-- L1 on the levels of the line's items
abbrev pub levels_of : Line → List ℕ
levels_of line = reset line.base (map (λ item. item.level) line.items) (map (λ item. item.class) line.items)

-- the items of a line from line-left
unfoldable pub leaves : Line → List Leaf
leaves line =
    let levels = levels_of line in
    filter_map (λ place. slice_get (leaves_from 0 levels line.items) place) (visual_order levels (map (λ item. item.apart) line.items))

-- the leaf that a leaf of the code stands for, by the items of its source
abbrev pub leaf_in : List Item → code.Leaf → Leaf
leaf_in items made = leaf made.place made.level (slice_index_or items made.place no_item) made.hangs

abbrev pub no_leaf : Leaf
no_leaf = leaf 0 0 no_item false

abbrev pub nth_leaf : List Leaf → ℕ → Leaf
nth_leaf leaves k = slice_index_or leaves k no_leaf

-- what is seen of the first one
abbrev pub what_of : List Leaf → Content
what_of [] = nothing
what_of (leaf ∷ leaves) = leaf.what

abbrev pub seen : Option LineContent → Content
seen None = nothing
seen (Some what) = content_of what
