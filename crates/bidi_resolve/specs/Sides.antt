-- What stands behind a run of characters, kept from one place of the run to the next.
use Rattle.std.specs.Prelude.{◌≡◌, ℕ, ◌≤◌, List, drop}
use Rattle.wm_chars.specs.declared.classes.BidiClass.{BidiClass}
use Rattle.bidi_resolve.specs.declared.sides.Ahead.{Ahead}

-- from this place up to the end of the run, what stands behind is the same
abbrev pub Sees : (List BidiClass → BidiClass) → List BidiClass → (from : ℕ) → Ahead → Type 0
Sees side classes from ahead = (k : ℕ) → from ≤ k → k ≤ ahead.until → side (drop k classes) ≡ ahead.side
