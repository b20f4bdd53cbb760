use Rattle.std.proofs.Common.{◌∙◌, ap, slice_index_or, None}
use Rattle.box_gen.specs.Tree.{boxes_of}
use Rattle.session.proofs.planting.grown.Goals as goal

pub returns-clause-named : goal.returns-clause-named
returns-clause-named c =
    c.planted_boxes_are_named_once.ensures c.reserve.new.self c.plant-root.new.self c.plant-root.result (boxes_of c.args.generated.tree)
    (λ key. ap (λ s. slice_index_or s.slots key None) c.reserve.ensures.rest ∙ ap (λ slots. slice_index_or slots key None) c.new-arena.ensures)
    c.arenas_are_sound.ensures c.requires.named c.plant-root.ensures

pub returns-clause-bare : goal.returns-clause-bare
returns-clause-bare c = λ key. c.plant-root.ensures.bare key (ap (λ s. slice_index_or s.slots key None) c.reserve.ensures.rest ∙ ap (λ slots. slice_index_or slots key None) c.new-arena.ensures)
