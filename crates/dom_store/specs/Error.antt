-- The words of why a state or an edit is refused (docs/PROFILE/edits.md).
use Rattle.std.specs.Prelude.{ℕ, List, codes}
use Rattle.dom_store.specs.declared.error.EditError.{EditError}
use Rattle.dom_store.specs.declared.error.EditError.TheVariants as errors

-- the word of a reason, as a line of refusal has it
unfoldable pub error_word : EditError → List ℕ
error_word errors.NoNode = codes "NoNode"
error_word errors.IsRoot = codes "IsRoot"
error_word errors.NotText = codes "NotText"
error_word errors.NotElement = codes "NotElement"
error_word errors.Inside = codes "Inside"
error_word errors.BadIndex = codes "BadIndex"
error_word (errors.TooManyNodes number) = codes "TooManyNodes"
error_word (errors.TooDeep number) = codes "TooDeep"
error_word errors.Memory = codes "Memory"
