-- What stands behind a document: a script, the lines of a probe, or nothing.
use Rattle.std.specs.Prelude.{ℕ, ◌-◌, Bool, true, false, List, [], ◌∷◌, length, Result, Ok, Err, ⊤}
use Rattle.edit_script.specs.declared.error.Refusal as script_faults
use Rattle.edit_script.specs.Answered.{place_from}
use Rattle.edit_script.specs.Error.{kind_word as script_word}
use Rattle.edit_script.specs.Fitting.{AllFit, bytes_of}
use Rattle.edit_script.specs.Meaning.{show}
use Rattle.edit_script.specs.Script as scripts
use Rattle.edit_script.specs.Script.{StepAt}
use Rattle.hit_caret.specs.declared.error.Refusal as probe_faults
use Rattle.hit_caret.specs.declared.probes.Probe.{Probe}
use Rattle.hit_caret.specs.Error.{kind_word as probe_word}
use Rattle.hit_caret.specs.Probing as probing
use Rattle.input_due.specs.declared.follows.Follows.{Follows}
use Rattle.input_due.specs.declared.follows.Follows.TheVariants.{Nothing, Script, Probe as Points, Modes}

-- what is asked of a document: to go through steps, to answer the lines of a probe over its page, or to list its flow and its page in each mode
pub data Asked : Type 0 where
  steps : List StepAt → Asked
  probes : List Probe → Asked
  modes : Asked

-- that, or the word of what is wrong with it and its place in the input
abbrev pub AskedOr : Type 0
AskedOr = Result Asked (List ℕ × ℕ)

-- the page is listed once
abbrev pub one_page : List StepAt
one_page = record { line = 1; what = show } ∷ []

-- a script that begins at this place of the input: a refusal has its place in the input
abbrev pub steps_at : (start : ℕ) → Result (List StepAt) (script_faults.Refusal × ℕ) → AskedOr
steps_at start (Ok said) = Ok (steps said)
steps_at start (Err refused) = Err (script_word refused.0, place_from start refused.1)

-- lines of a probe that begin at this place of the input
abbrev pub probes_at : (start : ℕ) → Result (List Probe) (probe_faults.Refusal × ℕ) → AskedOr
probes_at start (Ok asked) = Ok (probes asked)
probes_at start (Err refused) = Err (probe_word refused.0, place_from start refused.1)

-- lines follow the document
abbrev pub has_lines : Follows → Bool
has_lines Nothing = false
has_lines Script = true
has_lines Points = true
has_lines Modes = false

-- a text that begins at this place of the input: a script, the lines of a probe, or nothing: then the page is listed once, or in each mode
abbrev pub asked_at : Follows → (start : ℕ) → (text : List ℕ) → AskedOr
asked_at Nothing start text = Ok (steps one_page)
asked_at Script start text = steps_at start (scripts.script text)
asked_at Points start text = probes_at start (probing.probes text)
asked_at Modes start text = Ok modes

-- so for what stands behind a document in an input of this size
abbrev pub asked_behind : Follows → (size : ℕ) → (behind : List ℕ) → AskedOr
asked_behind follows size behind = asked_at follows (size - length behind) behind

-- ---- what it brings

-- its edits fit
abbrev pub FitsAsked : Asked → Type 0
FitsAsked (steps said) = AllFit said
FitsAsked (probes asked) = ⊤
FitsAsked modes = ⊤

-- how many bytes of text it brings
abbrev pub bytes_asked : Asked → ℕ
bytes_asked (steps said) = bytes_of said
bytes_asked (probes asked) = 0
bytes_asked modes = 0
