-- The bounds of levels, and the lengths of lists.
use Rattle.std.specs.Prelude.{◌≡◌, ℕ, ◌≤◌, length}
use Rattle.bidi_explicit.specs.declared.paragraph.Levels.{Levels}

-- not below the base level, and at most 125 (UAX 9, BD2)
pub record IsBetween (base level : ℕ) : Type 0 where
  pub low : base ≤ level
  pub high : level ≤ 125

-- the lists of a paragraph have one length
pub record AreAligned (levels : Levels) : Type 0 where
  pub level : length levels.level.items ≡ length levels.original.items
  pub class : length levels.class.items ≡ length levels.original.items
  pub removed : length levels.removed.items ≡ length levels.original.items
