-- What lines of refusal tell of why a document can't be opened, an edit isn't done, or none is taken back or done again (docs/PROFILE/commands.md).
use Rattle.std.specs.Prelude.{ℕ, List, codes, Option, Some, None}
use Rattle.dom_store.specs.Error.{error_word}
use Rattle.box_gen.specs.Limit.{limit_node, limit_word}
use Rattle.session.specs.declared.error.ApplyError.{ApplyError}
use Rattle.session.specs.declared.error.ApplyError.TheVariants as applying
use Rattle.session.specs.declared.error.OpenError.{OpenError}
use Rattle.session.specs.declared.error.OpenError.TheVariants as opening
use Rattle.session.specs.declared.error.UndoError.{UndoError}
use Rattle.session.specs.declared.error.UndoError.TheVariants as undoing

-- the word of why a document can't be opened
unfoldable pub open_word : OpenError → List ℕ
open_word (opening.TooManyNodes number) = codes "TooManyNodes"
open_word (opening.TooDeep number) = codes "TooDeep"
open_word (opening.Limit limit) = limit_word limit
open_word opening.Memory = codes "Memory"

-- the number of the node that it tells; want of memory is of none
abbrev pub open_node : OpenError → Option ℕ
open_node (opening.TooManyNodes number) = Some number
open_node (opening.TooDeep number) = Some number
open_node (opening.Limit limit) = Some (limit_node limit)
open_node opening.Memory = None

-- the word of why an edit isn't done
unfoldable pub apply_word : ApplyError → List ℕ
apply_word (applying.Document error) = error_word error
apply_word applying.NoFace = codes "NoFace"
apply_word applying.Fixed = codes "Fixed"
apply_word applying.Full = codes "Full"
apply_word applying.TooManyRules = codes "TooManyRules"
apply_word applying.NoRule = codes "NoRule"
apply_word (applying.Limit limit) = limit_word limit
apply_word applying.Memory = codes "Memory"

-- the word of why no edit is taken back, or done again
unfoldable pub undo_word : UndoError → List ℕ
undo_word undoing.NoUndo = codes "NoUndo"
undo_word undoing.NoRedo = codes "NoRedo"
undo_word undoing.Memory = codes "Memory"
