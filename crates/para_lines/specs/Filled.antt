-- Where the lines of a paragraph end.
use Rattle.std.specs.Prelude.{◌≡◌, ℕ, List, length, map, Some}
use Rattle.line_fill.specs.declared.item.FillItem.{FillItem}
use Rattle.line_fill.specs.Filling.{Divide, lines}
use Rattle.para_lines.specs.declared.filled.ParagraphInput as code_input
use Rattle.para_lines.specs.Alone.{fill_alone}
use Rattle.para_lines.specs.Filling.{fill_items}
use Rattle.para_lines.specs.Lines as rule
use Rattle.para_lines.specs.Paragraph.{atom_of}
use Rattle.para_lines.specs.Prepared.{preparation_of}
use Rattle.para_lines.specs.Standing.{Standing}

-- its items as lines are filled with them
abbrev pub fills_in : code_input.ParagraphInput → List FillItem
fills_in input = fill_items (Some input.container.now.size) input.boxes.now (preparation_of input.lists) (rule.atom_extents (map atom_of input.atoms.now))

-- where it is one item, these are its items as lines are filled with them
abbrev pub IsReadAlone : code_input.ParagraphInput → List Standing → Type 0
IsReadAlone input standings = length input.boxes.now ≡ 1 → map fill_alone standings ≡ fills_in input

-- its lines end there
pub record IsFilled (input : code_input.ParagraphInput) (ends : List ℕ) : Type 0 where
  pub ends_are : ends ≡ lines input.container.now.size (fills_in input)
  pub divide : Divide 0 (length input.lists.items.now) ends
