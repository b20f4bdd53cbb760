use Rattle.std.proofs.Common.{rules, ◌∙◌, ap, sym}
use Rattle.cascade.specs.Line.{whats_of}
use Rattle.cascade.proofs.Chaining.{from_right, still, chain_is, nearest_is, all_matched}
use Rattle.cascade.proofs.matching.matches_line.Goals as goal

pub returns-in_default : goal.returns-in_default
returns-in_default c = sym (chain_is (from_right c.args.parts.now) (whats_of c.args.line.nodes.now) ∙ ap still (sym c.in_default.ensures.found))

pub behind_nearest-requires : goal.behind_nearest-requires
behind_nearest-requires c = c.loop-left.invariant.sets

pub loop-left-init : goal.loop-left-init
loop-left-init c = record {
  sets = c.in-Some.ensures.sets;
  matched = chain_is (from_right c.args.parts.now) (whats_of c.args.line.nodes.now) ∙ ap still (sym c.in-Some.ensures.found);
}

pub returns-in_default-behind_nearest : goal.returns-in_default-behind_nearest
returns-in_default-behind_nearest c =
    sym (c.loop-left.invariant.matched ∙ nearest_is (from_right c.loop-left.left.now) (whats_of c.loop-left.above.now) ∙ ap still (sym c.in_default-behind_nearest.ensures.found))

pub loop-left-preserved : goal.loop-left-preserved
loop-left-preserved c = record {
  sets = c.in-Some-behind_nearest.ensures.sets;
  matched = c.loop-left.invariant.matched ∙ nearest_is (from_right c.loop-left.left.now) (whats_of c.loop-left.above.now) ∙ ap still (sym c.in-Some-behind_nearest.ensures.found);
}

pub returns : goal.returns
returns c = sym (c.loop-left.invariant.matched ∙ all_matched c.loop-left.left.now (whats_of c.loop-left.above.now) (search rules))
