use Rattle.std.proofs.Common.{rules, ℕ, Option, ap, sym, ◌∙◌}
use Rattle.std.specs.Option.{unwrap_or}
use Rattle.std.proofs.lemmas.Iterator.{YieldsList-from_map, YieldsList-from_slice}
use Rattle.std.proofs.lemmas.Iterator.Adapters.{option_map_id}
use Rattle.std.proofs.lemmas.Iterator.Consumers.{min_from_yields_List}
use Rattle.hit_caret.proofs.cells.first_of.Goals as goal

pub returns : goal.returns
returns c =
    c.unwrap_or.ensures
    ∙ ap (λ (o : Option ℕ). unwrap_or o 0)
    (sym (option_map_id c.min.result)
    ∙ min_from_yields_List c.map.result c.min.result c.min.ensures.ran (YieldsList-from_map _ (λ unit. unit.first) (YieldsList-from_slice c.args.units.now cc) c.map.ensures.closure (λ x r q k. search rules)))
