use Rattle.std.proofs.Common.{◌∙◌}
use Rattle.cascade.specs.Line.{whats_of}
use Rattle.cascade.proofs.Chaining.{from_right, nearest_found, nearest_ends, nearest_above, above_is_shorter, none_there}
use Rattle.cascade.proofs.Sets.{above_are_of}
use Rattle.cascade.proofs.matching.behind_nearest.Goals as goal

pub returns-in-Some-clause-found : goal.returns-in-Some-clause-found
returns-in-Some-clause-found c =
    nearest_found (from_right c.args.parts.now) (whats_of c.loop-left.rest.now) _ c.in-Some.ensures.found ∙ c.loop-left.invariant.found

pub returns-in_default-rest-clause-found : goal.returns-in_default-rest-clause-found
returns-in_default-rest-clause-found c =
    let none = none_there c.loop-left.rest.now c.in_default-rest.len_below in
    let found = rw none at c.in_default.ensures.found in
    nearest_ends (from_right c.args.parts.now) found ∙ (rw none at c.loop-left.invariant.found)

pub loop-left-smaller : goal.loop-left-smaller
loop-left-smaller c = above_is_shorter c.loop-left.rest.now c.in-len1-up.len_at_least

pub loop-left-preserved : goal.loop-left-preserved
loop-left-preserved c = record {
  sets = above_are_of c.args.sets.now c.loop-left.rest.now c.in-len1-up.len_at_least c.loop-left.invariant.sets;
  found = nearest_above c.args.parts.now c.loop-left.rest.now c.in-len1-up.len_at_least c.in_default.ensures.found ∙ c.loop-left.invariant.found;
}
