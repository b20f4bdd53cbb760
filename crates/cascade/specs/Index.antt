-- The rules of an index, and what it finds.
use Rattle.std.specs.Prelude.{List, ◌++◌}
use Rattle.css_types.specs.Rule.{Ruling, rulings_of}
use Rattle.dom_store.specs.State.{What}
use Rattle.cascade.specs.declared.claim.Claim.{Claim}
use Rattle.cascade.specs.declared.index.RuleIndex.{RuleIndex}
use Rattle.cascade.specs.Claims.{author, by_default, claims_of_element}
use Rattle.cascade.specs.Filing.{claims_under, headings}

abbrev pub index_rules : RuleIndex → List Ruling
index_rules index = rulings_of index.rules.rules.items

-- the claims for the first of a line; one that is found under two headings stands there twice
abbrev pub found_claims : RuleIndex → (line : List What) → List Claim
found_claims index line =
    claims_under author index.rules.rules.items index.rules.shelves (headings line) line
    ++ (claims_of_element line ++ claims_under by_default index.defaults.filed.rules.items index.defaults.filed.shelves (headings line) line)
