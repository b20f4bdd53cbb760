use Rattle.std.proofs.Common.{rules, ℕ, Option, ap, sym, ◌∙◌}
use Rattle.std.specs.Option.{unwrap_or}
use Rattle.std.proofs.lemmas.Iterator.{YieldsList-from_map, YieldsList-from_slice}
use Rattle.std.proofs.lemmas.Iterator.Adapters.{option_map_id}
use Rattle.std.proofs.lemmas.Iterator.Consumers.{max_from_yields_List}
use Rattle.hit_caret.proofs.cells.end_of.Goals as goal

pub returns : goal.returns
returns c =
    c.unwrap_or.ensures
    ∙ ap (λ (o : Option ℕ). unwrap_or o 0)
    (sym (option_map_id c.max.result)
    ∙ max_from_yields_List c.map.result c.max.result c.max.ensures.ran (YieldsList-from_map _ (λ unit. unit.end) (YieldsList-from_slice c.args.units.now cc) c.map.ensures.closure (λ x r q k. search rules)))
