use Rattle.std.proofs.Common.{rules, arith, ◌≡◌, ◌-◌, leb, true, false}
use Rattle.std.specs.List.{list_all, list_any, slice_range}
use Rattle.bidi_order.proofs.BlockLaws.{all_in, all_pass, block_stops, none_in}
use Rattle.bidi_order.proofs.blocks.reverse_block.Goals as goal

pub returns-then-all_reach : goal.returns-then-all_reach
returns-then-all_reach c =
    let levels = c.args.block.now.reach.levels.now in
    let level = c.args.block.now.reach.level in
    let all : list_all (leb level) (slice_range levels c.args.block.now.from c.args.block.now.end) ≡ true = search rules in
    λ line on. all_pass levels level line (c.args.block.now.end - c.args.block.now.from) c.args.places.now c.args.start c.args.block.now.from c.args.block.now.end (omega arith) c.args.block.now.within
    (all_in levels level c.args.block.now.from c.args.block.now.end (omega arith) c.args.block.now.within all) on

pub returns-then-not-any_reaches : goal.returns-then-not-any_reaches
returns-then-not-any_reaches c =
    let levels = c.args.block.now.reach.levels.now in
    let level = c.args.block.now.reach.level in
    let none : list_any (leb level) (slice_range levels c.args.block.now.from c.args.block.now.end) ≡ false = search rules in
    λ line on. block_stops levels level line (c.args.block.now.end - c.args.block.now.from) c.args.places.now c.reverse_part.new.places c.args.start c.args.block.now.from c.args.block.now.end (omega arith) c.args.block.now.further c.args.block.now.within
    (none_in levels level c.args.block.now.from c.args.block.now.end (omega arith) c.args.block.now.within none) on c.reverse_part.ensures
