-- What holds of explicit levels and of sequences.
use Rattle.std.specs.Prelude.{◌≡◌, ℕ, ◌<◌, List, length, Some}
use Rattle.wm_chars.specs.declared.classes.BidiClass.{BidiClass}
use Rattle.bidi_explicit.specs.Explicit.{explicit_levels}
use Rattle.bidi_explicit.specs.Sequences.{level_in, match_at}

-- an isolate initiator and its matching PDI have one level, whether or not it overflows
abbrev pub MatchOnOneLevel : Type 0
MatchOnOneLevel = (base : ℕ) (classes : List BidiClass) (p q : ℕ) → p < length classes → match_at classes p ≡ Some q
    → level_in (explicit_levels base classes) p ≡ level_in (explicit_levels base classes) q
