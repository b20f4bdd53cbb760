use Rattle.std.proofs.Common.{rules, tests, ◌∙◌}
use Rattle.std.specs.String.{string_bytes}
use Rattle.std.proofs.lemmas.Iterator.{YieldsList-from_slice}
use Rattle.std.proofs.lemmas.Iterator.Search.{all_from_yields_List}
use Rattle.cascade.specs.ClassSets.{is_in}
use Rattle.cascade.proofs.Holding.{each_is}
use Rattle.cascade.proofs.class_sets.ClassSet.has_each.Goals as goal

pub returns : goal.returns
returns c =
    all_from_yields_List (λ class. is_in c.args.self.now (string_bytes class)) _ _ _ c.all.ensures.ran (YieldsList-from_slice c.args.classes.now cc) (λ x b q k. search (rules, tests))
    ∙ each_is (is_in c.args.self.now) (λ class. string_bytes class) c.args.classes.now
