-- What an edit leads to, and what is answered.
use Rattle.std.specs.Prelude.{◌≡◌, ◌⊎◌, ℕ, List, length, map, Option, Some, None, Result, Ok, Err, string_bytes, ⊤}
use Rattle.std.specs.List.{All}
use Rattle.html_read.specs.Shape.{IsFragmentShaped, text_bytes}
use Rattle.html_read.specs.Values.{nodes_of}
use Rattle.dom_store.specs.declared.edit.Change.{Change}
use Rattle.dom_store.specs.declared.edit.Edit as code
use Rattle.dom_store.specs.declared.edit.Edit.TheVariants as edits
use Rattle.dom_store.specs.declared.error.EditError.{EditError}
use Rattle.dom_store.specs.declared.error.EditError.TheVariants.{Memory}
use Rattle.dom_store.specs.State.{AreSaid, State}
use Rattle.dom_store.specs.Edits.{EditOf, set_text, set_style, set_class, insert, remove, move_to, after, concerned}
use Rattle.dom_store.specs.Refusals.{refusal}

-- the next state with the elements that the edit concerns, or why it is refused
pub data Outcome : Type 0 where
  accepted : (next : State) (elements : List ℕ) → Outcome
  refused : EditError → Outcome

abbrev pub unless : Option EditError → State → List ℕ → Outcome
unless None next elements = accepted next elements
unless (Some error) next elements = refused error

abbrev pub edited : State → EditOf → Outcome
edited state edit = unless (refusal state edit) (after state edit) (concerned state edit)

-- an edit that is accepted is done; one that is refused changes nothing, nor does one for which memory doesn't suffice
abbrev pub Applies : (old new : State) → EditOf → Result Change EditError → Type 0
Applies old new edit (Ok change) = edited old edit ≡ accepted new change.elements.items
Applies old new edit (Err error) = ((error ≡ Memory) ⊎ (edited old edit ≡ refused error)) × (new ≡ old)

-- ---- judgements within the crate

-- why a judgement refuses, if it does
abbrev pub refused_for : {X : Type 0} → Result X EditError → Option EditError
refused_for (Ok value) = None
refused_for (Err error) = Some error

-- the same of a judgement that takes memory
abbrev pub Judges : {X : Type 0} → Option EditError → Result X EditError → Type 0
Judges reason (Ok value) = reason ≡ None
Judges reason (Err error) = (error ≡ Memory) ⊎ (reason ≡ Some error)

-- ---- without where it lies in memory

abbrev pub edit_of : code.Edit → EditOf
edit_of (edits.Text number letters) = set_text number (string_bytes letters)
edit_of (edits.Style number own) = set_style number own.items
edit_of (edits.Class number words) = set_class number (map (λ word. string_bytes word) words.items)
edit_of (edits.Insert parent index nodes) = insert parent index (nodes_of nodes.read.items) (map (λ own. own.items) nodes.styles.items)
edit_of (edits.Remove number) = remove number
edit_of (edits.Move number parent index) = move_to number parent index

-- nodes that are inserted are those of a fragment, each with its own declarations
abbrev pub IsFitting : EditOf → Type 0
IsFitting (insert parent index nodes own) = IsFragmentShaped nodes × (length own ≡ length nodes)
IsFitting other = ⊤

-- the numbers of declarations that an edit brings are such as a style sheet can say
abbrev pub IsSaidEdit : EditOf → Type 0
IsSaidEdit (set_style number own) = AreSaid own
IsSaidEdit (insert parent index nodes own) = All AreSaid own
IsSaidEdit other = ⊤

-- how many bytes of text an edit brings
abbrev pub bytes_brought : EditOf → ℕ
bytes_brought (set_text number letters) = length letters
bytes_brought (insert parent index nodes own) = text_bytes nodes
bytes_brought other = 0
