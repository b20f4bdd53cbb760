use Rattle.std.proofs.Common.{◌+◌}
use Rattle.std.specs.String.{string_bytes}
use Rattle.session.proofs.SetTexts.{keeps_set, ready_set}
use Rattle.session.proofs.keeping.set_in.Goals as goal

pub returns-in-Ok-true-clause-set : goal.returns-in-Ok-true-clause-set
returns-in-Ok-true-clause-set c = λ done. record {
  keeps = λ faces view rules state can ready.
      keeps_set c.texts_are_set_in_arenas.ensures c.texts_are_set_in_pages.ensures c.documents_within_limits_fit.ensures c.boxes_within_limits_fit.ensures c.args.made.now c.set_text.new.arena (c.args.made.now.sets + 1)
      c.args.node (string_bytes c.args.text.now) c.arenas_are_sound.ensures c.arenas_are_sound-in-Ok-true.ensures (c.in-Ok-true.ensures.set c.in-Ok-true.field-0-test) faces view rules state can ready;
  kept = λ faces view rules state can ready.
      ready_set c.texts_are_set_in_arenas.ensures c.texts_are_set_in_pages.ensures c.documents_within_limits_fit.ensures c.boxes_within_limits_fit.ensures c.args.made.now c.set_text.new.arena (c.args.made.now.sets + 1)
      c.args.node (string_bytes c.args.text.now) c.arenas_are_sound.ensures c.arenas_are_sound-in-Ok-true.ensures (c.in-Ok-true.ensures.set c.in-Ok-true.field-0-test) faces view rules state can ready;
}
