-- Lines of refusal, by computation.
use Rattle.std.specs.Prelude.{◌≡◌, refl, codes}
use Rattle.std.specs.Fmt.{digits}
use Rattle.dom_store.specs.declared.error.EditError.TheVariants as edits
use Rattle.dom_store.specs.Error.{error_word}
use Rattle.session.specs.declared.error.ApplyError.TheVariants as applying
use Rattle.session.specs.Error.{apply_word}
use Rattle.edit_job.specs.Refusal.{refusal}

-- the place is that of the line, not that of the node
no_text_in_line_two : refusal (apply_word (applying.Document edits.NotText)) 2 ≡ codes "refused NotText 2\n"
unfolding refusal apply_word error_word digits
no_text_in_line_two = refl

too_deep_in_line_three : refusal (apply_word (applying.Document (edits.TooDeep 70))) 3 ≡ codes "refused TooDeep 3\n"
unfolding refusal apply_word error_word digits
too_deep_in_line_three = refl
