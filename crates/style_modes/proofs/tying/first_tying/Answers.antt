use Rattle.std.proofs.Common.{◌∙◌, ℕ, Option, ap, sym}
use Rattle.css_types.specs.Rule.{rulings_of}
use Rattle.dom_store.specs.State.{state_of, tree_of}
use Rattle.style_modes.specs.Tying.{first_of, lesser, places_in, rule_places}
use Rattle.style_modes.proofs.Firsts.{first_both}
use Rattle.style_modes.proofs.tying.first_tying.Goals as goal

pub returns : goal.returns
returns c =
    c.earlier.ensures
    ∙ ap (λ (rules : Option ℕ). lesser rules c.first_below.result) c.first_in_rules.ensures
    ∙ ap (lesser (first_of (rule_places (rulings_of c.args.rules.now)))) c.first_below.ensures
    ∙ sym (first_both (rule_places (rulings_of c.args.rules.now)) (places_in (tree_of (state_of c.args.document.now))))
