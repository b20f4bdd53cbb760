use Rattle.box_arena.proofs.Climbs.{links_move, risen_moved, only_both}
use Rattle.box_arena.proofs.climb.mark_up.Goals as goal

pub clear-requires-clause-linked : goal.clear-requires-clause-linked
clear-requires-clause-linked g c = links_move _ _ c.rise.ensures.only.links c.requires.sound.linked

pub clear-requires-clause-risen : goal.clear-requires-clause-risen
clear-requires-clause-risen g c = risen_moved _ _ _ _ c.args.key c.rise.ensures.only.links c.rise.ensures.risen

pub returns-clause-only : goal.returns-clause-only
returns-clause-only g c = only_both _ _ _ c.rise.ensures.only c.clear.ensures.only
