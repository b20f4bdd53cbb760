use Rattle.std.proofs.Common.{◌∙◌, ap, sym, List, take}
use Rattle.std.proofs.lemmas.List.{take-map, drop-map}
use Rattle.css_types.specs.Rule.{ruling_of, rulings_of}
use Rattle.box_limits.specs.Rules.{turn_none}
use Rattle.session.proofs.rules.turns_none.Goals as goal

pub returns : goal.returns
returns c =
    let rules = c.args.rules.now in
    let index = c.args.index in
    c.turn_none.ensures
    ∙ ap (λ (list : List _). turn_none (rulings_of list)) c.split_at-2.ensures.front
    ∙ ap (λ (list : List _). turn_none (rulings_of (take 1 list))) c.split_at.ensures.back
    ∙ ap turn_none (sym (take-map ruling_of 1 _) ∙ ap (take 1) (sym (drop-map ruling_of index rules)))
