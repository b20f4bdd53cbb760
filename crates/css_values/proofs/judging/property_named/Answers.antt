use Rattle.std.proofs.Common.{◌∙◌}
use Rattle.css_values.specs.ByLength.{places_by_length}
use Rattle.css_values.specs.Tables.{properties}
use Rattle.css_values.proofs.ByLength.{properties_are}
use Rattle.css_values.proofs.judging.property_named.Goals as goal

pub returns : goal.returns
unfolding places_by_length properties
returns c = c.named_at.ensures ∙ properties_are c.args.name.now c.places_of_length-places.result.now c.places_of_length-places.ensures
