-- What an isolating run sequence has in the lists of its paragraph.
use Rattle.std.specs.Prelude.{ℕ, List}
use Rattle.wm_chars.specs.declared.classes.BidiClass.{BidiClass}
use Rattle.wm_chars.specs.declared.classes.BidiClass.TheVariants.{L}
use Rattle.bidi_resolve.specs.Neutral.{i1_i2}
use Rattle.bidi_resolve.specs.Places.{gathered}
use Rattle.bidi_resolve.specs.Sequence.{resolved}
use Rattle.bidi_resolve.specs.declared.isolating.Sequence.{Sequence}

-- its characters
abbrev pub chars_in : Sequence → List ℕ
chars_in sequence = gathered 0 sequence.chars.now sequence.places.now

-- the classes with which they were handed in
abbrev pub originals_in : Sequence → List BidiClass
originals_in sequence = gathered L sequence.originals.now sequence.places.now

-- their classes as X1 to X9 leave them
abbrev pub classes_in : Sequence → List BidiClass
classes_in sequence = gathered L sequence.classes.now sequence.places.now

-- these classes of its characters by all rules
abbrev pub resolved_in : Sequence → List BidiClass → List BidiClass
resolved_in sequence classes = resolved sequence.frame.level sequence.frame.sos sequence.frame.eos (chars_in sequence) (originals_in sequence) classes

-- its levels by all rules, on the levels and classes as X1 to X9 leave them
abbrev pub levels_in : Sequence → List ℕ
levels_in sequence = i1_i2 sequence.frame.level (resolved_in sequence (classes_in sequence))
