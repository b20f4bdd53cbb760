use Rattle.std.proofs.Common.{◌∙◌, sym}
use Rattle.box_arena.proofs.AllHanded.{hands_text}
use Rattle.box_arena.proofs.reusing.Handover.take_text.Goals as goal

pub returns-in-Some-clause-hands : goal.returns-in-Some-clause-hands
returns-in-Some-clause-hands g c =
    hands_text _ _ _ _ c.args.from c.args.key c.in-Some.text c.requires.node (sym c.take_text.ensures.text ∙ c.in-Some.is) c.take_text.ensures.rest c.keep_text.ensures
