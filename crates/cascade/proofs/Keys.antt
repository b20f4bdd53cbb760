-- No two claims of an element have one key.
use Rattle.std.proofs.Common.{◌≡◌, ◌≢◌, ◌⊎◌, inl, inr, ℕ, zero, suc, ◌+◌, ◌<◌, ◌≤◌, Bool, true, false, List, [], ◌∷◌, ◌++◌, length, refl, sym, ap, ◌∙◌, subst, arith, Option, Some, None}
use Rattle.std.specs.Prelude.{⊤, slice_get}
use Rattle.std.specs.List.{All, Contains}
use Rattle.std.proofs.lemmas.Bool.{cases_eq}
use Rattle.std.proofs.lemmas.List.Elements.{All-nil, All-cons, All-head, All-tail, All-append, All-weaker, All-contains}
use Rattle.std.proofs.lemmas.Option.{slice_get_within, get_or_from_slice_get, slice_get-get_or}
use Rattle.wm_modes.specs.declared.mode.Direction.{Direction}
use Rattle.html_tokens.specs.declared.tag.Tag.{Tag}
use Rattle.css_types.specs.declared.property.Property.TheVariants as properties
use Rattle.css_types.specs.declared.value.Declaration.{Declaration}
use Rattle.css_types.specs.Rule.{Ruling}
use Rattle.css_sheet.specs.declared.counts.Specificity.{Specificity}
use Rattle.css_sheet.specs.Default.{default_rules}
use Rattle.css_sheet.specs.Specificity.{specificity_of}
use Rattle.dom_store.specs.State.{What, element, text}
use Rattle.cascade.specs.declared.claim.Claim.{Claim}
use Rattle.cascade.specs.declared.claim.Key.{Key}
use Rattle.cascade.specs.declared.claim.Origin.{Origin}
use Rattle.cascade.specs.Claims.{rank_of, own_rank, numbers_of, author, by_default, stated, if_matching, claims_of_rule, claims_of_rules, unspecific, direction_keyword, isolation, as_default, claims_of_dir, claims_of_element, claims}
use Rattle.cascade.specs.Matching.{matches}
use Rattle.cascade.specs.Winners.{KeysDiffer}

-- ---- two keys

abbrev HasOtherKey : (one other : Claim) → Type 0
HasOtherKey one other = numbers_of one.key ≢ numbers_of other.key

-- what equal keys have in common
record HaveSameParts (one other : Key) : Type 0 where
  rank : rank_of one.origin ≡ rank_of other.origin
  own : own_rank one.own ≡ own_rank other.own
  rule : one.rule ≡ other.rule
  declaration : one.declaration ≡ other.declaration

same_parts : (one other : Key) → numbers_of one ≡ numbers_of other → HaveSameParts one other
same_parts one other same = record { rank = cc; own = cc; rule = cc; declaration = cc }

-- ---- lists whose keys differ, claim by claim

-- no later claim has the key of an earlier one
abbrev AreApart : List Claim → Type 0
AreApart [] = ⊤
AreApart (claim ∷ others) = All (HasOtherKey claim) others × AreApart others

abbrev AreApartFrom : (one other : List Claim) → Type 0
AreApartFrom one other = All (λ claim. All (HasOtherKey claim) other) one

apart_together : (one other : List Claim) → AreApart one → AreApart other → AreApartFrom one other → AreApart (one ++ other)
apart_together [] other here there between = there
apart_together (claim ∷ others) other here there between = (
  All-append (HasOtherKey claim) others other here.0 (All-head (λ c. All (HasOtherKey c) other) claim others between),
  apart_together others other here.1 there (All-tail (λ c. All (HasOtherKey c) other) claim others between),
)

apart_from_by : (P Q : Claim → Type 0) → ((one other : Claim) → P one → Q other → HasOtherKey one other) → (one other : List Claim) → All P one → All Q other → AreApartFrom one other
apart_from_by P Q differ one other here there =
    All-weaker P (λ claim. All (HasOtherKey claim) other) (λ claim p. All-weaker Q (HasOtherKey claim) (λ next q. differ claim next p q) other there) one here

contains_at : (list : List Claim) (place : ℕ) (claim : Claim) → slice_get list place ≡ Some claim → Contains list claim
contains_at list place claim at = (place, slice_get_within list place claim at, get_or_from_slice_get list place claim claim at)

-- so two at different places have different keys
differ_at : (list : List Claim) → AreApart list → KeysDiffer list
differ_at [] apart place other one two differ at there = absurd cc
differ_at (claim ∷ others) apart zero zero one two differ at there = absurd (differ refl)
differ_at (claim ∷ others) apart zero (suc k) one two differ at there =
    let is : claim ≡ one = cc in
    subst (λ (c : Claim). HasOtherKey c two) is (All-contains (HasOtherKey claim) others two apart.0 (contains_at others k two there))
differ_at (claim ∷ others) apart (suc k) zero one two differ at there =
    let is : claim ≡ two = cc in
    let other_key : HasOtherKey two one = subst (λ (c : Claim). HasOtherKey c one) is (All-contains (HasOtherKey claim) others one apart.0 (contains_at others k one at)) in
    λ same. other_key (sym same)
differ_at (claim ∷ others) apart (suc j) (suc k) one two differ at there = differ_at others apart.1 j k one two (λ same. differ (ap suc same)) at there

at_place : (list : List Claim) (claim : Claim) (member : Contains list claim) → slice_get list member.0 ≡ Some claim
at_place list claim member = slice_get-get_or list member.0 claim member.1 ∙ ap Some member.2

one_at_each : (list : List Claim) (j k : ℕ) (one other : Claim) → slice_get list j ≡ Some one → slice_get list k ≡ Some other → j ≡ k → one ≡ other
one_at_each list j k one other at there same =
    let both : slice_get list j ≡ slice_get list k = ap (slice_get list) same in
    cc

-- and one key has one claim
pub told_by_keys : (list : List Claim) → KeysDiffer list → (one other : Claim) → Contains list one → Contains list other → numbers_of one.key ≡ numbers_of other.key → one ≡ other
told_by_keys list differ one other at there same = elim (cases_eq at.0 there.0) [
  | inl one_place ↦ one_at_each list at.0 there.0 one other (at_place list one at) (at_place list other there) one_place
  | inr two_places ↦ absurd (differ at.0 there.0 one other two_places (at_place list one at) (at_place list other there) same)
]

-- ---- declarations that stand together

record IsStated (origin : Bool → Origin) (own : Bool) (rule place : ℕ) (claim : Claim) : Type 0 where
  from : (important : Bool) × (claim.key.origin ≡ origin important)
  is_own : claim.key.own ≡ own
  at_rule : claim.key.rule ≡ rule
  not_before : place ≤ claim.key.declaration

further : (origin : Bool → Origin) (own : Bool) (rule place : ℕ) (claim : Claim) → IsStated origin own rule (place + 1) claim → IsStated origin own rule place claim
further origin own rule place claim is = record { from = is.from; is_own = is.is_own; at_rule = is.at_rule; not_before = omega (arith, is.not_before) }

are_stated : (origin : Bool → Origin) (own : Bool) (specificity : Specificity) (rule place : ℕ) (declarations : List Declaration)
    → All (IsStated origin own rule place) (stated origin own specificity rule place declarations)
unfolding stated
are_stated origin own specificity rule place [] = All-nil (IsStated origin own rule place)
are_stated origin own specificity rule place (d ∷ others) =
    All-cons (IsStated origin own rule place)
    (record { key = record { origin = origin d.important; own = own; specificity = specificity; rule = rule; declaration = place }; property = d.property; value = d.value })
    (stated origin own specificity rule (place + 1) others)
    (record { from = (d.important, refl); is_own = refl; at_rule = refl; not_before = omega arith })
    (All-weaker (IsStated origin own rule (place + 1)) (IsStated origin own rule place) (further origin own rule place) (stated origin own specificity rule (place + 1) others) (are_stated origin own specificity rule (place + 1) others))

earlier_differs : (origin : Bool → Origin) (own : Bool) (rule place : ℕ) (one other : Claim) → one.key.declaration ≡ place → IsStated origin own rule (place + 1) other → HasOtherKey one other
earlier_differs origin own rule place one other at is same =
    let parts = same_parts one.key other.key same in
    absurd (omega (arith, at, parts.declaration, is.not_before))

stated_apart : (origin : Bool → Origin) (own : Bool) (specificity : Specificity) (rule place : ℕ) (declarations : List Declaration) → AreApart (stated origin own specificity rule place declarations)
unfolding stated
stated_apart origin own specificity rule place [] = tt
stated_apart origin own specificity rule place (d ∷ others) = (
  All-weaker (IsStated origin own rule (place + 1)) _
      (λ other is. earlier_differs origin own rule place (record { key = record { origin = origin d.important; own = own; specificity = specificity; rule = rule; declaration = place }; property = d.property; value = d.value }) other refl is)
      (stated origin own specificity rule (place + 1) others) (are_stated origin own specificity rule (place + 1) others),
  stated_apart origin own specificity rule (place + 1) others,
)

-- ---- rules

record IsRuled (origin : Bool → Origin) (first end : ℕ) (claim : Claim) : Type 0 where
  from : (important : Bool) × (claim.key.origin ≡ origin important)
  is_own : claim.key.own ≡ false
  not_before : first ≤ claim.key.rule
  before_end : claim.key.rule < end

none_if_not : (P : Claim → Type 0) (matching : Bool) (list : List Claim) → All P list → All P (if_matching matching list)
none_if_not P true list all = all
none_if_not P false list all = All-nil P

apart_if_not : (matching : Bool) (list : List Claim) → AreApart list → AreApart (if_matching matching list)
apart_if_not true list apart = apart
apart_if_not false list apart = tt

rule_is : (origin : Bool → Origin) (place end : ℕ) (rule : Ruling) (line : List What) → place < end → All (IsRuled origin place end) (claims_of_rule origin place rule line)
rule_is origin place end rule line below =
    let list = stated origin false (specificity_of rule.selector) place 0 rule.declarations in
    none_if_not (IsRuled origin place end) (matches rule.selector line) list
    (All-weaker (IsStated origin false place 0) (IsRuled origin place end)
    (λ claim is. record { from = is.from; is_own = is.is_own; not_before = omega (arith, is.at_rule); before_end = omega (arith, is.at_rule, below) })
    list (are_stated origin false (specificity_of rule.selector) place 0 rule.declarations))

wider : (origin : Bool → Origin) (first next end : ℕ) → first ≤ next → (claim : Claim) → IsRuled origin next end claim → IsRuled origin first end claim
wider origin first next end le claim is = record { from = is.from; is_own = is.is_own; not_before = omega (arith, is.not_before); before_end = is.before_end }

are_ruled : (origin : Bool → Origin) (place end : ℕ) (rules : List Ruling) (line : List What) → place + length rules ≤ end → All (IsRuled origin place end) (claims_of_rules origin place rules line)
unfolding claims_of_rules
are_ruled origin place end [] line le = All-nil (IsRuled origin place end)
are_ruled origin place end (rule ∷ rules) line le =
    All-append (IsRuled origin place end) (claims_of_rule origin place rule line) (claims_of_rules origin (place + 1) rules line)
    (rule_is origin place end rule line (omega arith))
    (All-weaker (IsRuled origin (place + 1) end) (IsRuled origin place end) (wider origin place (place + 1) end (omega arith)) (claims_of_rules origin (place + 1) rules line) (are_ruled origin (place + 1) end rules line (omega arith)))

earlier_rule_differs : (origin : Bool → Origin) (place end : ℕ) (one other : Claim) → IsRuled origin place (place + 1) one → IsRuled origin (place + 1) end other → HasOtherKey one other
earlier_rule_differs origin place end one other is there same =
    let parts = same_parts one.key other.key same in
    absurd (omega (arith, is.before_end, there.not_before, parts.rule))

ruled_apart : (origin : Bool → Origin) (place : ℕ) (rules : List Ruling) (line : List What) → AreApart (claims_of_rules origin place rules line)
unfolding claims_of_rules
ruled_apart origin place [] line = tt
ruled_apart origin place (rule ∷ rules) line =
    let here = claims_of_rule origin place rule line in
    let rest = claims_of_rules origin (place + 1) rules line in
    apart_together here rest
    (apart_if_not (matches rule.selector line) (stated origin false (specificity_of rule.selector) place 0 rule.declarations) (stated_apart origin false (specificity_of rule.selector) place 0 rule.declarations))
    (ruled_apart origin (place + 1) rules line)
    (apart_from_by (IsRuled origin place (place + 1)) (IsRuled origin (place + 1) (place + 1 + length rules)) (earlier_rule_differs origin place (place + 1 + length rules)) here rest
    (rule_is origin place (place + 1) rule line (omega arith))
    (are_ruled origin (place + 1) (place + 1 + length rules) rules line (omega arith)))

-- ---- the parts of an element's claims

-- in a rule or in a style attribute of the author
record IsAuthors (own : Bool) (claim : Claim) : Type 0 where
  from : 1 ≤ rank_of claim.key.origin
  is_own : claim.key.own ≡ own

record IsDefault (claim : Claim) : Type 0 where
  from : rank_of claim.key.origin ≡ 0
  in_sheet : claim.key.rule < length default_rules

record IsOfDir (claim : Claim) : Type 0 where
  from : rank_of claim.key.origin ≡ 0
  behind_sheet : claim.key.rule ≡ length default_rules

author_ranks : (important : Bool) → 1 ≤ rank_of (author important)
author_ranks true = omega arith
author_ranks false = omega arith

is_authors : (own : Bool) (claim : Claim) → (important : Bool) × (claim.key.origin ≡ author important) → claim.key.own ≡ own → IsAuthors own claim
is_authors own claim from is_own = record { from = subst (λ (o : Origin). 1 ≤ rank_of o) (sym from.1) (author_ranks from.0); is_own = is_own }

is_default : (claim : Claim) → IsRuled by_default 0 (length default_rules) claim → IsDefault claim
is_default claim is = record { from = ap rank_of is.from.1; in_sheet = is.before_end }

are_of_rules : (rules : List Ruling) (line : List What) → All (IsAuthors false) (claims_of_rules author 0 rules line)
are_of_rules rules line =
    All-weaker (IsRuled author 0 (length rules)) (IsAuthors false) (λ claim is. is_authors false claim is.from is.is_own) (claims_of_rules author 0 rules line)
    (are_ruled author 0 (length rules) rules line (omega arith))

are_own : (own : List Declaration) → All (IsAuthors true) (stated author true unspecific 0 0 own)
are_own own = All-weaker (IsStated author true 0 0) (IsAuthors true) (λ claim is. is_authors true claim is.from is.is_own) (stated author true unspecific 0 0 own) (are_stated author true unspecific 0 0 own)

are_of_dir : (tag : Tag) (dir : Option Direction) → All IsOfDir (claims_of_dir (length default_rules) tag dir)
are_of_dir tag None = All-nil IsOfDir
are_of_dir tag (Some dir) =
    let one = as_default (length default_rules) 0 properties.Direction (direction_keyword dir) in
    let other = as_default (length default_rules) 1 properties.UnicodeBidi (isolation tag) in
    All-cons IsOfDir one (other ∷ []) (record { from = refl; behind_sheet = refl }) (All-cons IsOfDir other [] (record { from = refl; behind_sheet = refl }) (All-nil IsOfDir))

are_default : (line : List What) → All IsDefault (claims_of_rules by_default 0 default_rules line)
are_default line = All-weaker (IsRuled by_default 0 (length default_rules)) IsDefault is_default (claims_of_rules by_default 0 default_rules line) (are_ruled by_default 0 (length default_rules) default_rules line (omega arith))

dir_apart : (rule : ℕ) (tag : Tag) (dir : Option Direction) → AreApart (claims_of_dir rule tag dir)
dir_apart rule tag None = tt
dir_apart rule tag (Some dir) =
    let one = as_default rule 0 properties.Direction (direction_keyword dir) in
    let other = as_default rule 1 properties.UnicodeBidi (isolation tag) in (
      All-cons (HasOtherKey one) other [] (λ same. absurd (omega (arith, (same_parts one.key other.key same).declaration))) (All-nil (HasOtherKey one)),
      (All-nil (HasOtherKey other), tt),
    )

own_from_dir : (one other : Claim) → IsAuthors true one → IsOfDir other → HasOtherKey one other
own_from_dir one other is there same = absurd (omega (arith, is.from, there.from, (same_parts one.key other.key same).rank))

-- what the element itself says
abbrev IsElements : Claim → Type 0
IsElements claim = IsAuthors true claim ⊎ IsOfDir claim

element_from_default : (one other : Claim) → IsElements one → IsDefault other → HasOtherKey one other
element_from_default one other (inl is) there same = absurd (omega (arith, is.from, there.from, (same_parts one.key other.key same).rank))
element_from_default one other (inr is) there same = absurd (omega (arith, is.behind_sheet, there.in_sheet, (same_parts one.key other.key same).rule))

rules_from_own : (one other : Claim) → IsAuthors false one → IsAuthors true other → HasOtherKey one other
rules_from_own one other is there same =
    let parts = same_parts one.key other.key same in
    let here : own_rank one.key.own ≡ 0 = ap own_rank is.is_own in
    let below : own_rank other.key.own ≡ 1 = ap own_rank there.is_own in
    absurd (omega (arith, here, below, parts.own))

rules_from_rest : (one other : Claim) → IsAuthors false one → IsElements other ⊎ IsDefault other → HasOtherKey one other
rules_from_rest one other is (inl (inl there)) same = rules_from_own one other is there same
rules_from_rest one other is (inl (inr there)) same = absurd (omega (arith, is.from, there.from, (same_parts one.key other.key same).rank))
rules_from_rest one other is (inr there) same = absurd (omega (arith, is.from, there.from, (same_parts one.key other.key same).rank))

are_elements : (line : List What) → All IsElements (claims_of_element line)
are_elements [] = All-nil IsElements
are_elements (text letters ∷ above) = All-nil IsElements
are_elements (element tag id classes dir own ∷ above) =
    All-append IsElements (stated author true unspecific 0 0 own) (claims_of_dir (length default_rules) tag dir)
    (All-weaker (IsAuthors true) IsElements (λ claim is. inl is) (stated author true unspecific 0 0 own) (are_own own))
    (All-weaker IsOfDir IsElements (λ claim is. inr is) (claims_of_dir (length default_rules) tag dir) (are_of_dir tag dir))

element_apart : (line : List What) → AreApart (claims_of_element line)
element_apart [] = tt
element_apart (text letters ∷ above) = tt
element_apart (element tag id classes dir own ∷ above) =
    let here = stated author true unspecific 0 0 own in
    let there = claims_of_dir (length default_rules) tag dir in
    apart_together here there (stated_apart author true unspecific 0 0 own) (dir_apart (length default_rules) tag dir)
    (apart_from_by (IsAuthors true) IsOfDir own_from_dir here there (are_own own) (are_of_dir tag dir))

-- ---- all of them

claims_apart : (rules : List Ruling) (line : List What) → AreApart (claims rules line)
claims_apart rules line =
    let ruled = claims_of_rules author 0 rules line in
    let own = claims_of_element line in
    let default = claims_of_rules by_default 0 default_rules line in
    let rest : AreApart (own ++ default) =
    apart_together own default (element_apart line) (ruled_apart by_default 0 default_rules line) (apart_from_by IsElements IsDefault element_from_default own default (are_elements line) (are_default line)) in
    let are_rest : All (λ claim. IsElements claim ⊎ IsDefault claim) (own ++ default) =
    All-append (λ claim. IsElements claim ⊎ IsDefault claim) own default
    (All-weaker IsElements (λ claim. IsElements claim ⊎ IsDefault claim) (λ claim is. inl is) own (are_elements line))
    (All-weaker IsDefault (λ claim. IsElements claim ⊎ IsDefault claim) (λ claim is. inr is) default (are_default line)) in
    apart_together ruled (own ++ default) (ruled_apart author 0 rules line) rest
    (apart_from_by (IsAuthors false) (λ claim. IsElements claim ⊎ IsDefault claim) rules_from_rest ruled (own ++ default) (are_of_rules rules line) are_rest)

pub keys_differ : (rules : List Ruling) (line : List What) → KeysDiffer (claims rules line)
keys_differ rules line = differ_at (claims rules line) (claims_apart rules line)
