-- The items of a paragraph that is one item, round which no inline box stands.
use Rattle.std.specs.Prelude.{All, List, pos, ◌≤ℤ◌}
use Rattle.line_fill.specs.declared.item.FillItem.{FillItem}
use Rattle.para_lines.specs.Standing as code
use Rattle.para_lines.specs.Filling.{is_space}

-- such an item as lines are filled with it: it has no edges of boxes
abbrev pub fill_alone : code.Standing → FillItem
fill_alone standing = record {
  advance = standing.extent;
  before = pos 0;
  after = pos 0;
  space = is_space standing.item.what;
  end = standing.end;
}

-- none of these items goes back
abbrev pub GoForward : List code.Standing → Type 0
GoForward = All (λ standing. pos 0 ≤ℤ standing.extent)
