use Rattle.std.proofs.Common.{◌-◌, length, ◌∙◌, arith}
use Rattle.std.proofs.lemmas.List.{length-take}
use Rattle.cascade.specs.Line.{whats_of}
use Rattle.cascade.proofs.Chaining.{chain_of_none, chain_at_none, chain_goes_on, ends_in, none_there}
use Rattle.cascade.proofs.Sets.{above_are_of, first_are_of}
use Rattle.cascade.proofs.matching.+behind_chain.Goals as goal

pub fits-requires : goal.fits-requires
fits-requires t c = first_are_of c.args.sets.now c.args.line.now c.node-item.result c.in-len1-up-line.len_at_least c.node-item.is c.requires

pub behind_chain-requires : goal.behind_chain-requires
behind_chain-requires t c = (omega (arith, length-take (length c.args.parts.now - 1) c.args.parts.now, c.in-len1-up.len_at_least), above_are_of c.args.sets.now c.args.line.now c.in-len1-up-line.len_at_least c.requires)

pub returns-in-Descendant-clause-sets : goal.returns-in-Descendant-clause-sets
returns-in-Descendant-clause-sets t c = above_are_of c.args.sets.now c.args.line.now c.in-len1-up-line.len_at_least c.requires

pub returns-in_default-clause-found : goal.returns-in_default-clause-found
returns-in_default-clause-found t c = rw (none_there c.args.parts.now c.in_default.len_below) (chain_of_none (whats_of c.args.line.now))

pub returns-in_default-line-clause-found : goal.returns-in_default-line-clause-found
returns-in_default-line-clause-found t c = rw (none_there c.args.line.now c.in_default-line.len_below, ends_in c.args.parts.now c.last-item.result c.in-len1-up.len_at_least c.last-item.is) (chain_at_none _ _)

pub returns-then-not-fits-clause-found : goal.returns-then-not-fits-clause-found
returns-then-not-fits-clause-found t c =
    let turn = chain_goes_on c.args.parts.now c.args.line.now c.last-item.result c.node-item.result c.in-len1-up.len_at_least c.last-item.is c.in-len1-up-line.len_at_least c.node-item.is in
    let not_ = c.if-not-fits.ensures in
    rw (← not_) at turn

pub returns-in-Child-clause-found : goal.returns-in-Child-clause-found
returns-in-Child-clause-found t c =
    let turn = chain_goes_on c.args.parts.now c.args.line.now c.last-item.result c.node-item.result c.in-len1-up.len_at_least c.last-item.is c.in-len1-up-line.len_at_least c.node-item.is in
    let does = c.if-not-fits.ensures in
    c.behind_chain.ensures.found ∙ (rw (← does, c.in-Child.is) at turn)

pub returns-in-Descendant-clause-found : goal.returns-in-Descendant-clause-found
returns-in-Descendant-clause-found t c =
    let turn = chain_goes_on c.args.parts.now c.args.line.now c.last-item.result c.node-item.result c.in-len1-up.len_at_least c.last-item.is c.in-len1-up-line.len_at_least c.node-item.is in
    let does = c.if-not-fits.ensures in
    (rw (← does, c.in-Descendant.is) at turn)
