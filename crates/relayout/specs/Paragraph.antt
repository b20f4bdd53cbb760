-- What a paragraph and its prepared text may have.
use Rattle.std.specs.Prelude.{ℕ, ◌+◌, ◌≤◌, ◌^◌, ⊤, List, All, length, Option, IfSome, IsSome}
use Rattle.fragment_types.specs.Item.{Entry}
use Rattle.box_gen.specs.Tree.{Content, blocks, inline}
use Rattle.para_lines.specs.Boxes.{HasBounds}
use Rattle.para_prepare.specs.Limits.{HasFontSize, text_bytes}
use Rattle.para_prepare.specs.Preparation.{AreFrom, Preparation, HasBounds as HasTextBounds, atoms_in, atoms_of}

-- the items of a paragraph
pub record IsParagraph (entries : List Entry) : Type 0 where
  pub count : length entries ≤ 2 ^ 20
  pub bytes : text_bytes entries ≤ 1048576
  pub sizes : All HasFontSize entries
  pub bounds : All HasBounds entries

-- a box has the boxes of the inline-blocks that its paragraph names
abbrev pub HasAtoms : Content → (count : ℕ) → Type 0
HasAtoms blocks count = ⊤
HasAtoms (inline entries) count = atoms_of entries ≤ count

-- its prepared text
pub record IsReady (entries : List Entry) (ready : Preparation) : Type 0 where
  pub few : length ready.items ≤ 2 ^ 21
  pub count : length ready.items ≤ text_bytes entries + length entries
  pub sources : AreFrom 0 (length entries) ready.items
  pub lengths : All (λ item. HasTextBounds item.what) ready.items
  pub atoms : atoms_in ready.items ≤ atoms_of entries

-- a box holds no paragraph, or one that can be prepared
abbrev pub IsParagraphIn : Content → Type 0
IsParagraphIn blocks = ⊤
IsParagraphIn (inline entries) = IsParagraph entries

-- what was prepared of a box's text is of these items
abbrev pub IsReadyFor : Content → Preparation → Type 0
IsReadyFor blocks ready = ⊤
IsReadyFor (inline entries) ready = IsReady entries ready

-- the text of a box that holds a paragraph is there
abbrev pub HasText : Content → Option Preparation → Type 0
HasText blocks text = ⊤
HasText (inline entries) text = IsSome text

-- the same of a box that may hold a paragraph
abbrev pub IsReadyIn : Content → Option Preparation → Type 0
IsReadyIn blocks ready = ⊤
IsReadyIn (inline entries) ready = IsParagraph entries × IfSome ready (IsReady entries)
