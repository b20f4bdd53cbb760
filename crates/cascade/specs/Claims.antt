-- The declarations that count for an element, each with what decides between them. CSS Cascading 4, 6.
use Rattle.std.specs.Prelude.{ℕ, ◌+◌, Bool, true, false, ◌||◌, ◌&&◌, nat_eq, nat_lt, List, [], ◌∷◌, ◌++◌, length, Option, Some, None}
use Rattle.wm_modes.specs.declared.mode.Direction.{Direction}
use Rattle.wm_modes.specs.declared.mode.Direction.TheVariants.{Ltr, Rtl}
use Rattle.html_tokens.specs.declared.tag.Tag.{Tag}
use Rattle.html_tokens.specs.declared.tag.Tag.TheVariants.{Bdo}
use Rattle.css_types.specs.declared.keyword.Keyword as keyword
use Rattle.css_types.specs.declared.keyword.Keyword.TheVariants as keywords
use Rattle.css_types.specs.declared.property.Property as property
use Rattle.css_types.specs.declared.property.Property.TheVariants as properties
use Rattle.css_types.specs.declared.value.Value.TheVariants.{Keyword}
use Rattle.css_types.specs.declared.value.Declaration.{Declaration}
use Rattle.css_types.specs.Rule.{Ruling}
use Rattle.css_sheet.specs.declared.counts.Specificity.{Specificity}
use Rattle.css_sheet.specs.Default.{default_rules}
use Rattle.css_sheet.specs.Specificity.{specificity_of}
use Rattle.dom_store.specs.State.{What, element, text}
use Rattle.cascade.specs.declared.claim.Claim.{Claim}
use Rattle.cascade.specs.declared.claim.Key.{Key}
use Rattle.cascade.specs.declared.claim.Origin.{Origin}
use Rattle.cascade.specs.declared.claim.Origin.TheVariants.{Default, Author, Important}
use Rattle.cascade.specs.Matching.{matches}

-- ---- keys

-- an author's important declarations are above their others, and these above the default sheet
abbrev pub rank_of : Origin → ℕ
rank_of Default = 0
rank_of Author = 1
rank_of Important = 2

-- the style attribute is above rules
abbrev pub own_rank : (own : Bool) → ℕ
own_rank false = 0
own_rank true = 1

-- a key is compared number by number: origin, own, specificity, position
abbrev pub numbers_of : Key → List ℕ
numbers_of k = rank_of k.origin ∷ own_rank k.own ∷ k.specificity.ids ∷ k.specificity.classes ∷ k.specificity.types ∷ k.rule ∷ k.declaration ∷ []

unfoldable pub is_less : List ℕ → List ℕ → Bool
is_less [] [] = false
is_less [] (n ∷ numbers) = true
is_less (m ∷ others) [] = false
is_less (m ∷ others) (n ∷ numbers) = nat_lt m n || (nat_eq m n && is_less others numbers)

-- the other key is greater
abbrev pub is_below : (one other : Key) → Bool
is_below one other = is_less (numbers_of one) (numbers_of other)

-- ---- claims

abbrev pub author : (important : Bool) → Origin
author true = Important
author false = Author

abbrev pub by_default : (important : Bool) → Origin
by_default important = Default

-- declarations that stand together, from this place on
unfoldable pub stated : (origin : Bool → Origin) → (own : Bool) → Specificity → (rule place : ℕ) → List Declaration → List Claim
stated origin own specificity rule place [] = []
stated origin own specificity rule place (d ∷ others) =
    record { key = record { origin = origin d.important; own = own; specificity = specificity; rule = rule; declaration = place }; property = d.property; value = d.value }
    ∷ stated origin own specificity rule (place + 1) others

abbrev pub if_matching : Bool → List Claim → List Claim
if_matching true claims = claims
if_matching false claims = []

abbrev pub claims_of_rule : (origin : Bool → Origin) → (place : ℕ) → Ruling → (line : List What) → List Claim
claims_of_rule origin place rule line = if_matching (matches rule.selector line) (stated origin false (specificity_of rule.selector) place 0 rule.declarations)

-- the declarations of the rules that match, from this place on
unfoldable pub claims_of_rules : (origin : Bool → Origin) → (place : ℕ) → List Ruling → (line : List What) → List Claim
claims_of_rules origin place [] line = []
claims_of_rules origin place (rule ∷ rules) line = claims_of_rule origin place rule line ++ claims_of_rules origin (place + 1) rules line

-- neither a rule nor specific
abbrev pub unspecific : Specificity
unspecific = record { ids = 0; classes = 0; types = 0 }

abbrev pub direction_keyword : Direction → keyword.Keyword
direction_keyword Ltr = keywords.Ltr
direction_keyword Rtl = keywords.Rtl

abbrev pub isolation : Tag → keyword.Keyword
isolation Bdo = keywords.IsolateOverride
isolation tag = keywords.Isolate

abbrev pub as_default : (rule place : ℕ) → property.Property → keyword.Keyword → Claim
as_default rule place property word =
    record { key = record { origin = Default; own = false; specificity = unspecific; rule = rule; declaration = place }; property = property; value = Keyword word }

-- the `dir` attribute counts as declarations of the default sheet of no specificity, placed behind its rules (HTML, 15.3.5)
abbrev pub claims_of_dir : (rule : ℕ) → Tag → Option Direction → List Claim
claims_of_dir rule tag None = []
claims_of_dir rule tag (Some dir) = as_default rule 0 properties.Direction (direction_keyword dir) ∷ as_default rule 1 properties.UnicodeBidi (isolation tag) ∷ []

-- what the element itself says: its style attribute and its `dir`
abbrev pub claims_of_element : List What → List Claim
claims_of_element [] = []
claims_of_element (text letters ∷ above) = []
claims_of_element (element tag id classes dir own ∷ above) = stated author true unspecific 0 0 own ++ claims_of_dir (length default_rules) tag dir

-- all declarations that count for the first of the line, under these author's rules
abbrev pub claims : List Ruling → (line : List What) → List Claim
claims rules line = claims_of_rules author 0 rules line ++ (claims_of_element line ++ claims_of_rules by_default 0 default_rules line)
