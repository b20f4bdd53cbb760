-- The claims of an element in a document that can be set in any mode tie it to none.
use Rattle.std.proofs.Common.{◌≡◌, ℕ, zero, suc, ◌+◌, Bool, true, false, ◌&&◌, not, List, [], ◌∷◌, ◌++◌, length, refl, Option, Some, None}
use Rattle.std.specs.List.{All}
use Rattle.std.proofs.lemmas.Bool.{and_parts, not-true}
use Rattle.std.proofs.lemmas.List.Elements.{All-nil, All-cons, All-head, All-tail, All-append}
use Rattle.wm_modes.specs.declared.mode.Direction.{Direction}
use Rattle.html_tokens.specs.declared.tag.Tag.{Tag}
use Rattle.css_types.specs.declared.property.Property.TheVariants as properties
use Rattle.css_types.specs.declared.value.Declaration.{Declaration}
use Rattle.css_types.specs.Rule.{Ruling}
use Rattle.css_sheet.specs.declared.counts.Specificity.{Specificity}
use Rattle.css_sheet.specs.Default.{default_rules}
use Rattle.css_sheet.specs.Specificity.{specificity_of}
use Rattle.dom_store.specs.State.{Entry, State, What, element, text, line, line_with, line_to}
use Rattle.cascade.specs.declared.claim.Claim.{Claim}
use Rattle.cascade.specs.declared.claim.Origin.{Origin}
use Rattle.cascade.specs.Claims.{author, by_default, stated, if_matching, claims_of_rule, claims_of_rules, unspecific, direction_keyword, isolation, as_default, claims_of_dir, claims_of_element, claims}
use Rattle.cascade.specs.Matching.{matches}
use Rattle.style_modes.specs.Turnable.{IsTurnable, TieNone, TiesNone, ties}

abbrev pub IsFree : Claim → Type 0
IsFree claim = ties claim.property ≡ false

abbrev pub AreFree : List Claim → Type 0
AreFree list = All IsFree list

abbrev pub AreFreeRules : List Ruling → Type 0
AreFreeRules rules = All (λ rule. TieNone rule.declarations) rules

abbrev FreeDeclaration : Declaration → Type 0
FreeDeclaration d = ties d.property ≡ false

-- ---- the default sheet

frees_all : List Declaration → Bool
frees_all [] = true
frees_all (d ∷ others) = not (ties d.property) && frees_all others

free_all : List Ruling → Bool
free_all [] = true
free_all (rule ∷ rules) = frees_all rule.declarations && free_all rules

all_free_where : (declarations : List Declaration) → frees_all declarations ≡ true → TieNone declarations
unfolding frees_all
all_free_where [] is = All-nil FreeDeclaration
all_free_where (d ∷ others) is =
    let both : (not (ties d.property) ≡ true) × (frees_all others ≡ true) = and_parts (not (ties d.property)) (frees_all others) is in
    All-cons FreeDeclaration d others (not-true (ties d.property) both.0) (all_free_where others both.1)

rules_free_where : (rules : List Ruling) → free_all rules ≡ true → AreFreeRules rules
unfolding free_all
rules_free_where [] is = All-nil (λ rule. TieNone rule.declarations)
rules_free_where (rule ∷ rules) is =
    let both : (frees_all rule.declarations ≡ true) × (free_all rules ≡ true) = and_parts (frees_all rule.declarations) (free_all rules) is in
    All-cons (λ rule. TieNone rule.declarations) rule rules (all_free_where rule.declarations both.0) (rules_free_where rules both.1)

default_is_free : AreFreeRules default_rules
unfolding default_rules frees_all free_all
default_is_free = rules_free_where default_rules refl

-- ---- claims

stated_free : (origin : Bool → Origin) (own : Bool) (specificity : Specificity) (rule place : ℕ) (declarations : List Declaration) → TieNone declarations → AreFree (stated origin own specificity rule place declarations)
unfolding stated
stated_free origin own specificity rule place [] free = All-nil IsFree
stated_free origin own specificity rule place (d ∷ others) free =
    All-cons IsFree
    (record { key = record { origin = origin d.important; own = own; specificity = specificity; rule = rule; declaration = place }; property = d.property; value = d.value })
    (stated origin own specificity rule (place + 1) others)
    (All-head FreeDeclaration d others free)
    (stated_free origin own specificity rule (place + 1) others (All-tail FreeDeclaration d others free))

free_if : (matching : Bool) (list : List Claim) → AreFree list → AreFree (if_matching matching list)
free_if true list free = free
free_if false list free = All-nil IsFree

ruled_free : (origin : Bool → Origin) (place : ℕ) (rules : List Ruling) (line : List What) → AreFreeRules rules → AreFree (claims_of_rules origin place rules line)
unfolding claims_of_rules
ruled_free origin place [] line free = All-nil IsFree
ruled_free origin place (rule ∷ rules) line free =
    All-append IsFree (claims_of_rule origin place rule line) (claims_of_rules origin (place + 1) rules line)
    (free_if (matches rule.selector line) (stated origin false (specificity_of rule.selector) place 0 rule.declarations)
    (stated_free origin false (specificity_of rule.selector) place 0 rule.declarations (All-head (λ rule. TieNone rule.declarations) rule rules free)))
    (ruled_free origin (place + 1) rules line (All-tail (λ rule. TieNone rule.declarations) rule rules free))

dir_free : (rule : ℕ) (tag : Tag) (dir : Option Direction) → AreFree (claims_of_dir rule tag dir)
dir_free rule tag None = All-nil IsFree
dir_free rule tag (Some dir) =
    let one = as_default rule 0 properties.Direction (direction_keyword dir) in
    let other = as_default rule 1 properties.UnicodeBidi (isolation tag) in
    All-cons IsFree one (other ∷ []) refl (All-cons IsFree other [] refl (All-nil IsFree))

element_free : (line : List What) → All TiesNone line → AreFree (claims_of_element line)
element_free [] free = All-nil IsFree
element_free (text letters ∷ above) free = All-nil IsFree
element_free (element tag id classes dir own ∷ above) free =
    All-append IsFree (stated author true unspecific 0 0 own) (claims_of_dir (length default_rules) tag dir)
    (stated_free author true unspecific 0 0 own (All-head TiesNone (element tag id classes dir own) above free))
    (dir_free (length default_rules) tag dir)

claims_free : (rules : List Ruling) (line : List What) → AreFreeRules rules → All TiesNone line → AreFree (claims rules line)
claims_free rules line free free_line =
    All-append IsFree (claims_of_rules author 0 rules line) (claims_of_element line ++ claims_of_rules by_default 0 default_rules line)
    (ruled_free author 0 rules line free)
    (All-append IsFree (claims_of_element line) (claims_of_rules by_default 0 default_rules line) (element_free line free_line) (ruled_free by_default 0 default_rules line default_is_free))

-- ---- the line of a node

abbrev OwnFree : State → Type 0
OwnFree state = (number : ℕ) (entry : Entry) → state.node_at number ≡ Some entry → TiesNone entry.what

first_free : (state : State) (above : Option ℕ → List What) (number : ℕ) (found : Option Entry) → OwnFree state → ((parent : Option ℕ) → All TiesNone (above parent)) → state.node_at number ≡ found → All TiesNone (line_with above found)
first_free state above number None free above_free is = All-nil TiesNone
first_free state above number (Some entry) free above_free is = All-cons TiesNone entry.what (above entry.parent) (free number entry is) (above_free entry.parent)

line_to_free : (state : State) (most : ℕ) (number : Option ℕ) → OwnFree state → All TiesNone (line_to most state number)
unfolding line_to
line_to_free state zero number free = All-nil TiesNone
line_to_free state (suc most) None free = All-nil TiesNone
line_to_free state (suc most) (Some number) free = first_free state (line_to most state) number (state.node_at number) free (λ parent. line_to_free state most parent free) refl

-- those of each node of the document
pub node_claims_free : (rules : List Ruling) (state : State) → IsTurnable rules state → (number : ℕ) → AreFree (claims rules (line state number))
node_claims_free rules state turnable number = claims_free rules (line state number) turnable.rules (line_to_free state 64 (Some number) turnable.own)
