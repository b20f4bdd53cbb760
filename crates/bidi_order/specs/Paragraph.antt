-- A bidi paragraph whose characters have their resolved levels, to be cut into lines.
use Rattle.std.specs.Prelude.{◌≡◌, ℕ, ◌≤◌, All, List, Option, length}
use Rattle.wm_chars.specs.declared.classes.BidiClass.{BidiClass}
use Rattle.bidi_explicit.specs.Base.{base_of}
use Rattle.bidi_resolve.specs.Paragraph.{IsResolvedLevel, classes_of, text_levels}

-- what its lines need: the base level, the levels by all rules up to I2, the classes before any rule
pub record Resolved : Type 0 where
  pub base : ℕ
  pub levels : List ℕ
  pub classes : List BidiClass

-- P2 to I2 on a text with this base level, or with its own
abbrev pub resolved_text : (chars : List ℕ) → (base : Option ℕ) → Resolved
resolved_text chars base = record { base = base_of base (classes_of chars); levels = text_levels chars base; classes = classes_of chars }

-- a level and a class for each character, and the bounds of levels
pub record IsWhole (base : ℕ) (levels : List ℕ) (classes : List BidiClass) : Type 0 where
  pub low : base ≤ 1
  pub many : length levels ≡ length classes
  pub between : All (IsResolvedLevel base) levels
