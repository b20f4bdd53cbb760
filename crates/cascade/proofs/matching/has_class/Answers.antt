use Rattle.std.proofs.Common.{rules, tests, ◌∙◌}
use Rattle.std.specs.Prelude.{bytes_eq}
use Rattle.std.specs.String.{string_bytes}
use Rattle.std.proofs.lemmas.Iterator.{YieldsList-from_slice}
use Rattle.std.proofs.lemmas.Iterator.Search.{any_from_yields_List}
use Rattle.cascade.proofs.Holding.{some_is}
use Rattle.cascade.proofs.matching.has_class.Goals as goal

pub returns : goal.returns
returns c =
    any_from_yields_List (λ other. bytes_eq (string_bytes c.args.class.now) (string_bytes other)) _ _ _ c.any.ensures.ran (YieldsList-from_slice c.args.own.now cc) (λ x b q k. search (rules, tests))
    ∙ some_is (bytes_eq (string_bytes c.args.class.now)) (λ other. string_bytes other) c.args.own.now
