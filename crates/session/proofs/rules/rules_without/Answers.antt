use Rattle.std.proofs.Common.{◌∙◌, ap, sym, List, ◌+◌, take, ◌++◌}
use Rattle.std.proofs.lemmas.List.{take-map, drop-map}
use Rattle.css_types.specs.Rule.{Ruling, ruling_of, rulings_of}
use Rattle.session.proofs.rules.rules_without.Goals as goal

pub returns : goal.returns
returns c =
    let rules = c.args.rules.now in
    let index = c.args.index in
    c.in_ok-put_behind.ensures.put
    ∙ ap (λ (front : List Ruling). front ++ rulings_of c.split_at-2.result.1.now) (c.in_ok-made.ensures ∙ ap rulings_of c.split_at.ensures.front ∙ sym (take-map ruling_of index rules))
    ∙ ap (λ (back : List Ruling). take index (rulings_of rules) ++ back) (ap rulings_of c.split_at-2.ensures.back ∙ sym (drop-map ruling_of (index + 1) rules))
