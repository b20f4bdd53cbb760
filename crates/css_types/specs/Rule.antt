-- Selectors and rules, without where they lie in memory.
use Rattle.std.specs.Prelude.{ℕ, List, map, Option, option_map}
use Rattle.std.specs.String.{string_bytes}
use Rattle.css_types.specs.declared.rule.Joint.{Joint}
use Rattle.css_types.specs.declared.rule.Part as code_part
use Rattle.css_types.specs.declared.rule.Selector as code_selector
use Rattle.css_types.specs.declared.rule.Rule as code_rule
use Rattle.css_types.specs.declared.rule.Styled as code_styled
use Rattle.css_types.specs.declared.value.Declaration.{Declaration}

-- a compound selector, joined to the one on its left; it has a type or none
pub record Compound : Type 0 where
  pub joint : Joint
  pub tag : Option (List ℕ)
  pub classes : List (List ℕ)
  pub ids : List (List ℕ)

-- a rule: its selector from left to right, and its declarations
pub record Ruling : Type 0 where
  pub selector : List Compound
  pub declarations : List Declaration

abbrev pub compound_of : code_part.Part → Compound
compound_of p = record { joint = p.joint; tag = option_map (λ t. string_bytes t) p.tag; classes = map (λ c. string_bytes c) p.classes.items; ids = map (λ i. string_bytes i) p.ids.items }

abbrev pub compounds_of : List code_part.Part → List Compound
compounds_of = map compound_of

abbrev pub selector_of : code_selector.Selector → List Compound
selector_of s = compounds_of s.parts.items

abbrev pub ruling_of : code_rule.Rule → Ruling
ruling_of r = record { selector = selector_of r.selector; declarations = r.declarations.value.items }

abbrev pub rulings_of : List code_rule.Rule → List Ruling
rulings_of = map ruling_of

-- the author's rules of a document, and each node's own declarations
pub record Styling : Type 0 where
  pub rules : List Ruling
  pub own : List (List Declaration)

abbrev pub styled_of : code_styled.Styled → Styling
styled_of s = record { rules = rulings_of s.rules.items; own = map (λ own. own.items) s.styles.items }
