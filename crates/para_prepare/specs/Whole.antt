-- What is asked of a paragraph for it to be prepared, and what is promised of it then, each as one word.
use Rattle.std.specs.Prelude.{ℕ, ◌≡◌, ◌+◌, ◌≤◌, List, length, All, Option, IfSome}
use Rattle.face_api.specs.Table.{Table}
use Rattle.style_types.specs.declared.style.Style.{Style}
use Rattle.fragment_types.specs.Item.{Entry}
use Rattle.para_prepare.specs.declared.letter.Letter.{Letter}
use Rattle.para_prepare.specs.declared.parts.Part as code
use Rattle.para_prepare.specs.Limits.{HasFontSize, text_bytes}
use Rattle.para_prepare.specs.Parts.{raws}
use Rattle.para_prepare.specs.Preparation.{AreFrom, HasBounds, Preparation, atoms_in, atoms_of, preparation}
use Rattle.para_prepare.specs.Views.{HasSize, IsCovered, IsPart, IsPlaced, parts_of}

-- a base level of 0 or 1 or none, and texts and font sizes within their limits
pub record CanBePrepared (base : Option ℕ) (entries : List Entry) : Type 0 where
  pub level : IfSome base (λ base. base ≤ 1)
  pub bytes : text_bytes entries ≤ 1048576
  pub sizes : All HasFontSize entries

-- the preparation of a paragraph, whose items are few, in order, and within their bounds
pub record IsPreparedFrom (faces : List (Option Table)) (base : Option ℕ) (style : Style) (entries : List Entry) (p : Preparation) : Type 0 where
  pub prepared : p ≡ preparation faces base style entries
  pub count : length p.items ≤ text_bytes entries + length entries
  pub sources : AreFrom 0 (length entries) p.items
  pub atoms : atoms_in p.items ≤ atoms_of entries
  pub lengths : All (λ item. HasBounds item.what) p.items

-- parts that name kept characters which there are, and whose lengths are within their bounds
pub record AreSound (letters : List Letter) (parts : List code.Part) : Type 0 where
  pub within : All (IsPart (length letters)) parts
  pub sizes : All HasSize parts
  pub placed : All IsPlaced letters
  pub covered : All IsCovered (raws (parts_of letters parts))
