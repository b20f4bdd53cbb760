-- What is told of the items of a paragraph, under a name.
use Rattle.fragment_types.specs.declared.item.Item.{Item}
use Rattle.fragment_types.specs.Item.{entry_of}
use Rattle.para_lines.specs.Boxes.{HasBounds}

-- the style of an inline box has the bounds of a computed one
pub record IsBoundedItem (item : Item) : Type 0 where
  pub is : HasBounds (entry_of item)
