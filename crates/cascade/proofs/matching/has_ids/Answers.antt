use Rattle.std.proofs.Common.{rules, tests, option_map, ◌∙◌}
use Rattle.std.specs.String.{string_bytes}
use Rattle.std.proofs.lemmas.Iterator.{YieldsList-from_slice}
use Rattle.std.proofs.lemmas.Iterator.Search.{all_from_yields_List}
use Rattle.cascade.specs.Matching.{has_id}
use Rattle.cascade.proofs.Holding.{each_is}
use Rattle.cascade.proofs.matching.has_ids.Goals as goal

pub returns : goal.returns
returns c =
    let own = option_map (λ other. string_bytes other) c.args.own.now in
    all_from_yields_List (λ id. has_id own (string_bytes id)) _ _ _ c.all.ensures.ran (YieldsList-from_slice c.args.ids.now cc) (λ x b q k. search (rules, tests))
    ∙ each_is (has_id own) (λ id. string_bytes id) c.args.ids.now
