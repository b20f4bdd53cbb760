-- A line of a paragraph that is one run of text outside all inline boxes.
use Rattle.std.specs.Prelude.{◌≡◌, ℕ, ◌-◌, ◌<◌, ◌≤◌, true, false, List, [], All, drop, length, map, None, pos, slice_index_or}
use Rattle.line_place.specs.Leaves.{are_spaces}
use Rattle.line_place.specs.Line as place
use Rattle.line_place.specs.LineText.{IsTextItem}
use Rattle.fragment_types.specs.Item.{Entry}
use Rattle.para_lines.specs.Standing as code
use Rattle.para_lines.specs.declared.text.Text as code_text
use Rattle.para_lines.specs.declared.text.TextName.{TextName}
use Rattle.para_lines.specs.Boxes.{chain_at}
use Rattle.para_lines.specs.Filling.{is_space}
use Rattle.para_lines.specs.Line.{content_in, first_atom}

-- an item outside all inline boxes
abbrev pub bare : code.Standing → place.Item
bare standing = record {
  level = standing.level;
  class = standing.class;
  extent = standing.extent;
  inside = None;
  space = is_space standing.item.what;
  apart = standing.item.apart;
  what = content_in (pos 0) standing.item.what (first_atom standing.atoms);
}

-- a unit of this node and form at level 0, which comes from this entry
pub record IsUnitFrom (source : ℕ) (name : TextName) (standing : code.Standing) : Type 0 where
  pub from : standing.item.source ≡ source
  pub item : IsTextItem name.node name.form (bare standing)

-- behind the first so many items stand Spaces alone, and none before
pub record AreSpacesFrom (standings : List code.Standing) (count : ℕ) : Type 0 where
  pub within : count ≤ length standings
  pub last : 0 < count → (d : place.Item) → (slice_index_or (map bare standings) (count - 1) d).space ≡ false
  pub spaces : are_spaces (drop count (map bare standings)) ≡ true

-- the items of a line are this text and Spaces behind it, outside all inline boxes
pub record IsText (entries : List Entry) (standings : List code.Standing) (text : code_text.Text) : Type 0 where
  pub chains : All (λ standing. chain_at entries standing.item.source ≡ []) standings
  pub items : All (IsTextItem text.name.node text.name.form) (map bare standings)
  pub some : 0 < text.count
  pub solid : AreSpacesFrom standings text.count
