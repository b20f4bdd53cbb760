use Rattle.std.proofs.Common.{rules, tests, map, ◌∙◌}
use Rattle.std.specs.String.{string_bytes}
use Rattle.std.proofs.lemmas.Iterator.{YieldsList-from_slice}
use Rattle.std.proofs.lemmas.Iterator.Search.{all_from_yields_List}
use Rattle.cascade.specs.Matching.{has_class}
use Rattle.cascade.proofs.Holding.{each_is}
use Rattle.cascade.proofs.matching.has_classes.Goals as goal

pub returns : goal.returns
returns c =
    let own = map (λ other. string_bytes other) c.args.own.now in
    all_from_yields_List (λ class. has_class own (string_bytes class)) _ _ _ c.all.ensures.ran (YieldsList-from_slice c.args.classes.now cc) (λ x b q k. search (rules, tests))
    ∙ each_is (has_class own) (λ class. string_bytes class) c.args.classes.now
