-- What comes of an input, refusal by refusal; which bytes are due for it, and how it ends.
use Rattle.std.specs.Prelude.{◌≡◌, ◌⊎◌, ℕ, ◌<◌, ◌≤◌, List, length, drop, codes, Option, Some, None, Ok, Err, ⊤}
use Rattle.wm_units.specs.declared.view.View.{View}
use Rattle.reading.specs.Readers.{Read, ReadOr}
use Rattle.html_tokens.specs.Error.{Fault, kind_word, syntax}
use Rattle.html_read.specs.Error.{place_in}
use Rattle.html_read.specs.Reading as reading
use Rattle.html_read.specs.Values.{Node, Whole}
use Rattle.css_values.specs.Error.{kind_word as style_word}
use Rattle.css_sheet.specs.Styled.{Placed, styling}
use Rattle.css_types.specs.Rule.{Styling}
use Rattle.dom_store.specs.Opening.{opened}
use Rattle.edits.specs.State.{State}
use Rattle.face_api.specs.Table.{Table}
use Rattle.session.specs.Opening.{CanOpen, IsRefused}
use Rattle.session.specs.Error.{open_word}
use Rattle.session.specs.declared.error.OpenError.{OpenError}
use Rattle.page_modes.specs.Pages.{page_of}
use Rattle.session.specs.Document.{styled_of}
use Rattle.session.specs.History.{Opened}
use Rattle.style_modes.specs.Tying.{first_of, tying_places}
use Rattle.modes_job.specs.Telling.{modes_of}
use Rattle.edit_job.specs.Refusal.{refusal}
use Rattle.edit_job.specs.Steps.{AreSteps}
use Rattle.probe_job.specs.Answers.{answers}
use Rattle.input_due.specs.declared.follows.Follows.{Follows}
use Rattle.input_due.specs.Asked.{Asked, AskedOr, steps, probes, modes, asked_behind, has_lines}
use Rattle.input_due.specs.Due.{End, Done, Refused, node_of}

-- the greatest length of an input, in bytes
abbrev pub longest_input : ℕ
longest_input = 1048576

-- the state of a document as it is opened
abbrev pub opened_with : (faces : List (Option Table)) → List Node → Styling → State
opened_with faces nodes styles = record { tree = opened nodes styles.own; rules = styles.rules; faces = faces }

-- Pages in each of four modes are asked of a document that no declaration ties to one of them: else the first that does stands against it.
abbrev pub tied : State → Asked → Option ℕ
tied state (steps said) = None
tied state (probes asked) = None
tied state modes = first_of (tying_places state.rules state.tree)

-- ---- what comes of an input

-- What is told of an input is told of its document where that can be opened, else of the one refusal that comes first. `Over` tells it of a
-- document that is open and of what is asked of it, `RefusedAs` of a refusal, by its word and its place.
module _ {X : Type 0} (Over : State → Asked → X → Type 0) (RefusedAs : (word : List ℕ) → (place : ℕ) → X → Type 0) (faces : List (Option Table)) where
  -- of a fault in an input of this size
  abbrev pub ComesOfFault : (size : ℕ) → Fault → X → Type 0
  ComesOfFault size fault told = RefusedAs (kind_word fault.0) (place_in size fault.1) told

  -- of a document that is open, by the place of the first declaration that stands against what is asked of it
  abbrev pub ComesOfOpen : (tied : Option ℕ) → State → Asked → X → Type 0
  ComesOfOpen None state asked told = Over state asked told
  ComesOfOpen (Some place) state asked told = RefusedAs (codes "NotTurnable") place told

  -- of a document with its styles and what is asked of it: that where it can be opened, else a refusal with the number of a node
  abbrev pub ComesOfOpened : List Node → Styling → Asked → X → Type 0
  ComesOfOpened nodes styles asked told = (CanOpen nodes styles.own styles.rules × ComesOfOpen (tied (opened_with faces nodes styles) asked) (opened_with faces nodes styles) asked told)
      ⊎ ((error : OpenError) × IsRefused nodes styles.own styles.rules error × RefusedAs (open_word error) (node_of error) told)

  -- of a document with its styles, by what was read behind it
  abbrev pub ComesOfAsked : List Node → Styling → AskedOr → X → Type 0
  ComesOfAsked nodes styles (Ok asked) told = ComesOfOpened nodes styles asked told
  ComesOfAsked nodes styles (Err refused) told = RefusedAs refused.0 refused.1 told

  -- of a document by what was read of its sheets and style attributes: a fault, or its styles
  abbrev pub ComesOfStyling : List Node → Placed Styling → AskedOr → X → Type 0
  ComesOfStyling nodes (Ok styles) asked told = ComesOfAsked nodes styles asked told
  ComesOfStyling nodes (Err refused) asked told = RefusedAs (style_word refused.0) refused.1 told

  -- of a document
  abbrev pub ComesOfWhole : Whole → AskedOr → X → Type 0
  ComesOfWhole document asked told = ComesOfStyling document.nodes (styling document) asked told

  -- of a document that stands in an input of this size, by what was read behind it, with what may follow it
  abbrev pub ComesOfTail : Follows → (size : ℕ) → Whole → Read ⊤ → X → Type 0
  ComesOfTail follows size document (Ok behind) told = ComesOfWhole document (asked_behind follows size behind.1) told
  ComesOfTail follows size document (Err left) told = ComesOfFault size (syntax left) told

  -- of an input, by what was read of it: a fault, or a document with what stands behind it
  abbrev pub ComesOfRead : Follows → List ℕ → ReadOr Fault Whole → X → Type 0
  ComesOfRead follows bytes (Ok read) told = ComesOfTail follows (length bytes) read.0 (reading.tail (has_lines follows) (drop read.0.length bytes)) told
  ComesOfRead follows bytes (Err fault) told = ComesOfFault (length bytes) fault told

  -- of an input that isn't too long
  abbrev pub ComesOfDocument : Follows → List ℕ → X → Type 0
  ComesOfDocument follows bytes told = ComesOfRead follows bytes (reading.input bytes) told

  -- of an input: that it is too long is refused first
  abbrev pub ComesOfInput : Follows → List ℕ → X → Type 0
  ComesOfInput follows input told = ((longest_input < length input) × RefusedAs (codes "TooLong") longest_input told)
      ⊎ ((length input ≤ longest_input) × ComesOfDocument follows input told)

-- ---- what is due

-- an end, and the bytes that are due
abbrev pub Told : Type 0
Told = End × List ℕ

-- over a document that is open what the steps write is due, or the answers over its page, or its flow and its page in each mode
abbrev pub IsDueOver : View → State → Asked → Told → Type 0
IsDueOver view state (steps said) told = (told.0 ≡ Done) × (last : Opened) × AreSteps view state said last told.1
IsDueOver view state (probes asked) told = (told.0 ≡ Done) × (told.1 ≡ answers (page_of state.faces view (styled_of state)) asked)
IsDueOver view state modes told = (told.0 ≡ Done) × (told.1 ≡ modes_of state.faces view state.rules state.tree)

-- of a refusal its line is due
abbrev pub IsDueOfRefusal : (word : List ℕ) → (place : ℕ) → Told → Type 0
IsDueOfRefusal word place told = (told.0 ≡ Refused) × (told.1 ≡ refusal word place)

module _ (faces : List (Option Table)) (view : View) where
  -- for an input that isn't too long
  abbrev pub IsDueOfDocument : Follows → List ℕ → End → List ℕ → Type 0
  IsDueOfDocument follows bytes end_ due = ComesOfDocument (IsDueOver view) IsDueOfRefusal faces follows bytes (end_, due)

  -- for an input
  abbrev pub IsDueOfInput : Follows → List ℕ → End → List ℕ → Type 0
  IsDueOfInput follows input end_ due = ComesOfInput (IsDueOver view) IsDueOfRefusal faces follows input (end_, due)
