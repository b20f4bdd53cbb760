-- The resolved levels of a bidi paragraph: all rules of UAX 9 up to I2, in their order.
use Rattle.std.specs.Prelude.{◌≡◌, ℕ, ◌≤◌, Bool, true, false, length, List, fold, map, Option}
use Rattle.std.specs.Option.{unwrap_or}
use Rattle.wm_chars.specs.Repertoire.{bidi_class}
use Rattle.wm_chars.specs.declared.classes.BidiClass.{BidiClass}
use Rattle.wm_chars.specs.declared.classes.BidiClass.TheVariants.{L, R, AL, EN, ES, ET, AN, CS, NSM, B, S, WS, ON}
use Rattle.bidi_explicit.specs.Explicit.{explicit_levels, explicit_classes, removed_marks}
use Rattle.bidi_explicit.specs.declared.paragraph.Levels.{Levels}
use Rattle.bidi_explicit.specs.Base.{base_of}
use Rattle.bidi_explicit.specs.Sequences.{Sequence, isolating_runs}
use Rattle.bidi_resolve.specs.Places.{scattered}
use Rattle.bidi_resolve.specs.Sequence.{sequence_levels}

-- each list of a paragraph has this length
pub record AreAsMany (levels : Levels) (n : ℕ) : Type 0 where
  pub level : length levels.level.items ≡ n
  pub class : length levels.class.items ≡ n
  pub original : length levels.original.items ≡ n

-- the levels, where these sequences are resolved, each by itself, on the levels and classes as X1 to X9 leave them
abbrev pub resolved_from : (chars : List ℕ) → (originals : List BidiClass) → (levels : List ℕ) → (classes : List BidiClass) → List Sequence → List ℕ → List ℕ
resolved_from chars originals levels classes sequences out =
    fold (λ out sequence. scattered sequence.places (sequence_levels chars originals levels classes sequence) out) out sequences

-- the levels of a paragraph of these characters and classes with this base level: X1 to X10, W1 to W7, N0 to N2, I1
-- and I2
unfoldable pub paragraph_levels : (chars : List ℕ) → List BidiClass → (base : ℕ) → List ℕ
paragraph_levels chars classes base =
    resolved_from chars classes (explicit_levels base classes) (explicit_classes base classes)
    (isolating_runs base (explicit_levels base classes) classes (removed_marks classes)) (explicit_levels base classes)

-- the classes of characters; what isn't in the repertoire is neutral
abbrev pub classes_of : (chars : List ℕ) → List BidiClass
classes_of chars = map (λ c. unwrap_or (bidi_class c) ON) chars

-- the levels of a text
unfoldable pub text_levels : (chars : List ℕ) → (base : Option ℕ) → List ℕ
text_levels chars base = paragraph_levels chars (classes_of chars) (base_of base (classes_of chars))

-- the bounds of a resolved level: I1 raises an even one, which is 124 at most, by two, and I2 an odd one by one
pub record IsResolvedLevel (base level : ℕ) : Type 0 where
  pub low : base ≤ level
  pub high : level ≤ 126

-- the classes that ask for another level than 0 in a paragraph of base level 0 where nothing embeds, overrides or isolates
abbrev pub is_right : BidiClass → Bool
is_right R = true
is_right AL = true
is_right AN = true
is_right c = false

-- the classes that ask for no level but 0 in a paragraph of base level 0: neither R, AL nor AN, nor what begins or ends
-- an embedding, an override or an isolate
abbrev pub is_left_to_right : BidiClass → Bool
is_left_to_right L = true
is_left_to_right EN = true
is_left_to_right ES = true
is_left_to_right ET = true
is_left_to_right CS = true
is_left_to_right NSM = true
is_left_to_right B = true
is_left_to_right S = true
is_left_to_right WS = true
is_left_to_right ON = true
is_left_to_right c = false
