-- Trees of boxes that can be laid out.
use Rattle.std.specs.Prelude.{ℕ, ◌+◌, ◌*◌, ◌^◌, max, ⊤, length}
use Rattle.box_gen.specs.Tree.{Boxes, Content, none, box, blocks, inline, siblings}
use Rattle.style_types.specs.declared.style.Style.{Style}
use Rattle.style_types.specs.Style.{IsBounded}
use Rattle.para_prepare.specs.Limits.{text_bytes}
use Rattle.para_prepare.specs.Preparation.{atoms_of}
use Rattle.relayout.specs.Paragraph.{HasAtoms, IsParagraphIn}

-- the numbers of its style are those of computed styles, and its paragraph can be prepared and has its inline-blocks' boxes
pub record IsFit (style : Style) (content : Content) (inner : Boxes) : Type 0 where
  pub bounded : IsBounded style
  pub paragraph : IsParagraphIn content
  pub atoms : HasAtoms content (siblings inner)

abbrev pub AreFit : Boxes → Type 0
AreFit none = ⊤
AreFit (box name style content inner next) = IsFit style content inner × AreFit inner × AreFit next

-- how far what stands in a paragraph takes its lines at most: by its items, its inline-blocks and the bytes of its text
abbrev pub room_in : Content → ℕ
room_in blocks = 0
room_in (inline entries) = length entries * (3 * 2 ^ 40) + atoms_of entries * (3 * 2 ^ 41) + text_bytes entries * 2 ^ 36

-- how far boxes that stand side by side reach together at most: a box moves those that follow it by no more than one extent, and what stands
-- in its paragraph moves no other box, so only the heaviest counts with what stands in it
abbrev pub heaviest : Boxes → ℕ
heaviest none = 0
heaviest (box name style content inner next) = max (room_in content + (siblings inner * 2 ^ 39 + heaviest inner)) (heaviest next)

abbrev pub weight : Boxes → ℕ
weight boxes = siblings boxes * 2 ^ 39 + heaviest boxes

-- how far what stands in a box reaches from its content area at most
abbrev pub reach_of : Content → (inner : Boxes) → ℕ
reach_of content inner = room_in content + 2 ^ 38 + weight inner
