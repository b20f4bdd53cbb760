-- One isolating run sequence by all rules in their order: W1 to W7, then N0 to N2, then I1 and I2 (UAX 9, 3.3.4 to
-- 3.3.6), in the lists of its whole paragraph.
use Rattle.std.specs.Prelude.{ℕ, Bool, true, false, List}
use Rattle.wm_chars.specs.declared.classes.BidiClass.{BidiClass}
use Rattle.wm_chars.specs.declared.classes.BidiClass.TheVariants.{L, AL, EN, ES, ET, CS, NSM}
use Rattle.bidi_explicit.specs.Links.{sequence_of}
use Rattle.bidi_explicit.specs.Sequences.{Sequence}
use Rattle.bidi_explicit.specs.declared.paragraph.Levels.{Levels}
use Rattle.bidi_explicit.specs.declared.paragraph.Run.{Run}
use Rattle.bidi_resolve.specs.Weak.{w1, w2, w3, w4, w5, w6, w7}
use Rattle.bidi_resolve.specs.Brackets.{n0}
use Rattle.bidi_resolve.specs.Neutral.{n1, n2, i1_i2}
use Rattle.bidi_resolve.specs.Places.{gathered, scattered, run_level}

-- the classes of a sequence by the rules W1 to W7
unfoldable pub weak : (sos : BidiClass) → List BidiClass → List BidiClass
weak sos classes = w7 sos (w6 (w5 (w4 (w3 (w2 sos (w1 sos classes))))))

-- the classes that these rules change: where none of them stands, all stay
abbrev pub is_changed_by_weak_rules : BidiClass → Bool
is_changed_by_weak_rules AL = true
is_changed_by_weak_rules EN = true
is_changed_by_weak_rules ES = true
is_changed_by_weak_rules ET = true
is_changed_by_weak_rules CS = true
is_changed_by_weak_rules NSM = true
is_changed_by_weak_rules c = false

-- and by N0 to N2
unfoldable pub resolved : (level : ℕ) → (sos eos : BidiClass) → (chars : List ℕ) → (originals classes : List BidiClass) → List BidiClass
resolved level sos eos chars originals classes = n2 level (n1 sos eos (n0 level sos chars originals (weak sos classes)))

-- the classes at the places of a sequence: by the characters of the paragraph, the classes that were handed in, and
-- the levels and classes as X1 to X9 leave them
unfoldable pub sequence_classes : (chars : List ℕ) → (originals : List BidiClass) → (levels : List ℕ) → (classes : List BidiClass) → Sequence → List BidiClass
sequence_classes chars originals levels classes sequence =
    resolved (run_level levels sequence.places) sequence.sos sequence.eos
    (gathered 0 chars sequence.places) (gathered L originals sequence.places) (gathered L classes sequence.places)

-- and the levels there, by I1 and I2
unfoldable pub sequence_levels : (chars : List ℕ) → (originals : List BidiClass) → (levels : List ℕ) → (classes : List BidiClass) → Sequence → List ℕ
sequence_levels chars originals levels classes sequence = i1_i2 (run_level levels sequence.places) (sequence_classes chars originals levels classes sequence)

-- ---- in the code's types

abbrev pub run_classes : (chars : List ℕ) → Levels → Run → List BidiClass
run_classes chars levels run = sequence_classes chars levels.original.items levels.level.items levels.class.items (sequence_of run)

abbrev pub run_levels : (chars : List ℕ) → Levels → Run → List ℕ
run_levels chars levels run = sequence_levels chars levels.original.items levels.level.items levels.class.items (sequence_of run)

-- the classes and the levels of the whole paragraph, where this sequence is resolved
abbrev pub classes_with : (chars : List ℕ) → Levels → Run → List BidiClass
classes_with chars levels run = scattered run.places.items (run_classes chars levels run) levels.class.items

abbrev pub levels_with : (chars : List ℕ) → Levels → Run → List ℕ
levels_with chars levels run = scattered run.places.items (run_levels chars levels run) levels.level.items
