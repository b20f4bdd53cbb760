-- The words of refusals and the numbers that they tell, by computation.
use Rattle.std.specs.Prelude.{◌≡◌, refl, codes, Some, None}
use Rattle.dom_store.specs.declared.error.EditError.TheVariants as edits
use Rattle.dom_store.specs.Error.{error_word}
use Rattle.box_gen.specs.declared.limit.BoxLimit.TheVariants as limits
use Rattle.box_gen.specs.Limit.{limit_word}
use Rattle.session.specs.declared.error.ApplyError.TheVariants as applying
use Rattle.session.specs.declared.error.OpenError.TheVariants as opening
use Rattle.session.specs.Error.{apply_word, open_node, open_word}

too_many_nodes : open_word (opening.TooManyNodes 65536) ≡ codes "TooManyNodes"
unfolding open_word
too_many_nodes = refl

the_first_node_too_many : open_node (opening.TooManyNodes 65536) ≡ Some 65536
the_first_node_too_many = refl

too_deep : open_word (opening.TooDeep 64) ≡ codes "TooDeep"
unfolding open_word
too_deep = refl

too_many_turn : open_word (opening.Limit (limits.TooManyOrthogonal 9)) ≡ codes "TooManyOrthogonal"
unfolding open_word limit_word
too_many_turn = refl

the_first_that_turns_too_often : open_node (opening.Limit (limits.TooManyOrthogonal 9)) ≡ Some 9
the_first_that_turns_too_often = refl

want_of_memory : open_node opening.Memory ≡ None
want_of_memory = refl

no_text : apply_word (applying.Document edits.NotText) ≡ codes "NotText"
unfolding apply_word error_word
no_text = refl

an_edit_past_the_limit_of_boxes : apply_word (applying.Limit (limits.TooManyOrthogonal 9)) ≡ codes "TooManyOrthogonal"
unfolding apply_word limit_word
an_edit_past_the_limit_of_boxes = refl
