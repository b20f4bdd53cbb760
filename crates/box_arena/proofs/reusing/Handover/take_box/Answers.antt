use Rattle.std.proofs.Common.{◌∙◌, sym}
use Rattle.box_arena.proofs.AllHanded.{hands_results, hands_then}
use Rattle.box_arena.proofs.Handovers.{reuses_box, tree_stood}
use Rattle.box_arena.proofs.reusing.Handover.take_box.Goals as goal

pub returns-then-keeps_results-clause-reuses : goal.returns-then-keeps_results-clause-reuses
returns-then-keeps_results-clause-reuses g c =
    reuses_box _ _ _ _ _ _ c.args.from c.args.key c.take_text.ensures.reuses c.take_results.ensures.given c.take_results.ensures.taken (tree_stood _ _ c.args.from c.args.key c.requires.node (c.requires.inside c.if-is_same.true))
    (c.stands_alike.ensures.around c.if-stands_alike.true)

pub returns-then-keeps_results-clause-hands : goal.returns-then-keeps_results-clause-hands
returns-then-keeps_results-clause-hands g c =
    let reuses = c.take_text.ensures.reuses in
    hands_then _ _ _ _ _ _ c.args.key c.args.key c.take_text.ensures.hands reuses
    (hands_results _ _ _ _ c.args.from c.args.key (reuses.gives.nodes c.args.from ∙ c.requires.node ∙ sym (reuses.nodes c.args.key)) (c.keeps_results.ensures.some c.if-keeps_results.true) c.take_results.ensures.given c.take_results.ensures.taken)
    (λ k above. above)
