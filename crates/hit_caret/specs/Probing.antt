-- Reading a probe, line by line.
use Rattle.std.specs.Prelude.{ℕ, ◌+◌, ◌==◌, nat_lt, Bool, true, false, List, [], ◌∷◌, ◌++◌, length, Result, Ok, Err, if◌then◌else◌}
use Rattle.std.specs.List.{slice_split}
use Rattle.std.specs.Str.Lines.{strip_carriage_return}
use Rattle.reading.specs.Readers.{Read}
use Rattle.hit_caret.specs.declared.error.Refusal.{Refusal}
use Rattle.hit_caret.specs.declared.error.Refusal.TheVariants.{ScriptSyntax, TooManyEdits}
use Rattle.hit_caret.specs.declared.probes.Probe.{Probe}
use Rattle.hit_caret.specs.ProbeLine.{probe}

-- what is read, or what is wrong
abbrev pub Said : Type 0
Said = Result (List Probe) Refusal

abbrev pub is_lf : ℕ → Bool
is_lf byte = byte == 10

-- a line that asks nothing
abbrev pub is_blank : List ℕ → Bool
is_blank [] = true
is_blank (byte ∷ bytes) = byte == 35

-- a probe more, unless the limit is reached
abbrev pub with_probe : Probe → List Probe → Said
with_probe p before = if nat_lt (length before) 10000 then Ok (before ++ p ∷ []) else Err TooManyEdits

-- nothing stands behind it in its line
abbrev pub with_read : Probe → (left : List ℕ) → List Probe → Said
with_read p [] before = with_probe p before
with_read p (byte ∷ left) before = Err ScriptSyntax

abbrev pub judged : Read Probe → List Probe → Said
judged (Ok read) before = with_read read.0 read.1 before
judged (Err left) before = Err ScriptSyntax

abbrev pub unless_blank : Bool → List ℕ → List Probe → Said
unless_blank true line before = Ok before
unless_blank false line before = judged (probe line) before

-- with what a line asks, of which one CR at its end is cut
unfoldable pub with_line : (before : List Probe) (line : List ℕ) → Said
with_line before line = unless_blank (is_blank (strip_carriage_return line)) (strip_carriage_return line) before

-- a refusal has the place of the line's first byte
abbrev pub at_place : (place : ℕ) → Said → (List Probe → Result (List Probe) (Refusal × ℕ)) → Result (List Probe) (Refusal × ℕ)
at_place place (Ok probes) others = others probes
at_place place (Err kind) others = Err (kind, place)

-- lines from this place on, each with the LF behind it
unfoldable pub lines_from : (place : ℕ) (before : List Probe) → List (List ℕ) → Result (List Probe) (Refusal × ℕ)
lines_from place before [] = Ok before
lines_from place before (line ∷ others) = at_place place (with_line before line) (λ next. lines_from (place + length line + 1) next others)

unfoldable pub probes : (text : List ℕ) → Result (List Probe) (Refusal × ℕ)
probes text = lines_from 0 [] (slice_split is_lf text)
