-- The numbers of winners are such as a style sheet can say, where those of declarations are.
use Rattle.std.proofs.Common.{◌≡◌, ℕ, zero, suc, ◌+◌, Bool, true, false, ◌&&◌, leb, List, [], ◌∷◌, ◌++◌, length, refl, Option, Some, None}
use Rattle.std.specs.Prelude.{IfSome, filter_map, option_map, unsigned_abs, cond}
use Rattle.std.specs.List.{All, cons_option}
use Rattle.std.proofs.lemmas.Bool.{and_parts, leb-true}
use Rattle.std.proofs.lemmas.List.Elements.{All-nil, All-cons, All-head, All-tail, All-append, All-filter}
use Rattle.wm_modes.specs.declared.mode.WritingMode.{WritingMode}
use Rattle.wm_modes.specs.declared.mode.Direction.{Direction}
use Rattle.html_tokens.specs.declared.tag.Tag.{Tag}
use Rattle.css_types.specs.declared.property.Property.{Property}
use Rattle.css_types.specs.declared.property.Property.TheVariants as properties
use Rattle.style_types.specs.declared.style.Style.{Style}
use Rattle.css_types.specs.declared.table.PropertyRow.{PropertyRow}
use Rattle.css_types.specs.declared.value.Declaration.{Declaration}
use Rattle.css_types.specs.declared.value.Value.{Value}
use Rattle.css_types.specs.declared.value.Value.TheVariants.{Initial, Inherit, Keyword, Px, Em, Percent, Number, Face, Digits}
use Rattle.css_types.specs.Page.{page_of}
use Rattle.css_types.specs.Rule.{Ruling}
use Rattle.css_types.specs.Table.{rows}
use Rattle.css_types.specs.Value.{HasSayable}
use Rattle.css_sheet.specs.declared.counts.Specificity.{Specificity}
use Rattle.css_sheet.specs.Default.{default_rules}
use Rattle.css_sheet.specs.Specificity.{specificity_of}
use Rattle.dom_store.specs.State.{Entry, State, What, element, text, AreSaid, IsSaid, IsSaidState, line, line_with, line_to}
use Rattle.cascade.specs.declared.claim.Claim.{Claim}
use Rattle.cascade.specs.declared.claim.Origin.{Origin}
use Rattle.cascade.specs.Claims.{is_below, author, by_default, stated, if_matching, claims_of_rule, claims_of_rules, unspecific, direction_keyword, isolation, as_default, claims_of_dir, claims_of_element, claims}
use Rattle.cascade.specs.Matching.{matches}
use Rattle.cascade.specs.Winners.{greater, greatest, greatest_from, same_property, naming, winner, paired, winners_in, turned, direction_of, AreSaidRules, IsSaidLine, AreSaidWinners}

-- ---- the default sheet

-- a test that tells it of written numbers
says : Value → Bool
says (Px n) = leb (unsigned_abs n) 999999999
says (Em n) = leb (unsigned_abs n) 999999999
says (Percent n) = leb (unsigned_abs n) 999999999
says (Number n) = leb (unsigned_abs n) 999999999
says other = true

says_all : List Declaration → Bool
says_all [] = true
says_all (d ∷ others) = says d.value && says_all others

say_all : List Ruling → Bool
say_all [] = true
say_all (rule ∷ rules) = says_all rule.declarations && say_all rules

said_where : (value : Value) → says value ≡ true → HasSayable value
unfolding says
said_where Initial is = tt
said_where Inherit is = tt
said_where (Keyword k) is = tt
said_where (Px n) is = leb-true (unsigned_abs n) 999999999 is
said_where (Em n) is = leb-true (unsigned_abs n) 999999999 is
said_where (Percent n) is = leb-true (unsigned_abs n) 999999999 is
said_where (Number n) is = leb-true (unsigned_abs n) 999999999 is
said_where (Face n) is = tt
said_where (Digits n) is = tt

all_said_where : (declarations : List Declaration) → says_all declarations ≡ true → AreSaid declarations
unfolding says_all
all_said_where [] is = All-nil (λ d. HasSayable d.value)
all_said_where (d ∷ others) is =
    let both : (says d.value ≡ true) × (says_all others ≡ true) = and_parts (says d.value) (says_all others) is in
    All-cons (λ d. HasSayable d.value) d others (said_where d.value both.0) (all_said_where others both.1)

rules_said_where : (rules : List Ruling) → say_all rules ≡ true → AreSaidRules rules
unfolding say_all
rules_said_where [] is = All-nil (λ rule. AreSaid rule.declarations)
rules_said_where (rule ∷ rules) is =
    let both : (says_all rule.declarations ≡ true) × (say_all rules ≡ true) = and_parts (says_all rule.declarations) (say_all rules) is in
    All-cons (λ rule. AreSaid rule.declarations) rule rules (all_said_where rule.declarations both.0) (rules_said_where rules both.1)

pub default_is_said : AreSaidRules default_rules
unfolding default_rules says says_all say_all
default_is_said = rules_said_where default_rules refl

-- ---- claims

abbrev pub IsSaidClaim : Claim → Type 0
IsSaidClaim claim = HasSayable claim.value

stated_said : (origin : Bool → Origin) (own : Bool) (specificity : Specificity) (rule place : ℕ) (declarations : List Declaration) → AreSaid declarations → All IsSaidClaim (stated origin own specificity rule place declarations)
unfolding stated
stated_said origin own specificity rule place [] said = All-nil IsSaidClaim
stated_said origin own specificity rule place (d ∷ others) said =
    All-cons IsSaidClaim
    (record { key = record { origin = origin d.important; own = own; specificity = specificity; rule = rule; declaration = place }; property = d.property; value = d.value })
    (stated origin own specificity rule (place + 1) others)
    (All-head (λ d. HasSayable d.value) d others said)
    (stated_said origin own specificity rule (place + 1) others (All-tail (λ d. HasSayable d.value) d others said))

said_if : (matching : Bool) (list : List Claim) → All IsSaidClaim list → All IsSaidClaim (if_matching matching list)
said_if true list said = said
said_if false list said = All-nil IsSaidClaim

ruled_said : (origin : Bool → Origin) (place : ℕ) (rules : List Ruling) (line : List What) → AreSaidRules rules → All IsSaidClaim (claims_of_rules origin place rules line)
unfolding claims_of_rules
ruled_said origin place [] line said = All-nil IsSaidClaim
ruled_said origin place (rule ∷ rules) line said =
    All-append IsSaidClaim (claims_of_rule origin place rule line) (claims_of_rules origin (place + 1) rules line)
    (said_if (matches rule.selector line) (stated origin false (specificity_of rule.selector) place 0 rule.declarations)
    (stated_said origin false (specificity_of rule.selector) place 0 rule.declarations (All-head (λ rule. AreSaid rule.declarations) rule rules said)))
    (ruled_said origin (place + 1) rules line (All-tail (λ rule. AreSaid rule.declarations) rule rules said))

dir_said : (rule : ℕ) (tag : Tag) (dir : Option Direction) → All IsSaidClaim (claims_of_dir rule tag dir)
dir_said rule tag None = All-nil IsSaidClaim
dir_said rule tag (Some dir) =
    let one = as_default rule 0 properties.Direction (direction_keyword dir) in
    let other = as_default rule 1 properties.UnicodeBidi (isolation tag) in
    All-cons IsSaidClaim one (other ∷ []) tt (All-cons IsSaidClaim other [] tt (All-nil IsSaidClaim))

element_said : (line : List What) → IsSaidLine line → All IsSaidClaim (claims_of_element line)
element_said [] said = All-nil IsSaidClaim
element_said (text letters ∷ above) said = All-nil IsSaidClaim
element_said (element tag id classes dir own ∷ above) said =
    All-append IsSaidClaim (stated author true unspecific 0 0 own) (claims_of_dir (length default_rules) tag dir)
    (stated_said author true unspecific 0 0 own (All-head IsSaid (element tag id classes dir own) above said))
    (dir_said (length default_rules) tag dir)

pub claims_said : (rules : List Ruling) (line : List What) → AreSaidRules rules → IsSaidLine line → All IsSaidClaim (claims rules line)
claims_said rules line said said_line =
    All-append IsSaidClaim (claims_of_rules author 0 rules line) (claims_of_element line ++ claims_of_rules by_default 0 default_rules line)
    (ruled_said author 0 rules line said)
    (All-append IsSaidClaim (claims_of_element line) (claims_of_rules by_default 0 default_rules line) (element_said line said_line) (ruled_said by_default 0 default_rules line default_is_said))

-- ---- winners

chosen_said : (below : Bool) (best claim : Claim) → IsSaidClaim best → IsSaidClaim claim → IfSome (cond below (Some claim) (Some best)) IsSaidClaim
chosen_said true best claim here there = there
chosen_said false best claim here there = here

greater_said : (best : Option Claim) (claim : Claim) → IfSome best IsSaidClaim → IsSaidClaim claim → IfSome (greater best claim) IsSaidClaim
greater_said None claim here there = there
greater_said (Some best) claim here there = chosen_said (is_below best.key claim.key) best claim here there

greatest_said : (best : Option Claim) (list : List Claim) → IfSome best IsSaidClaim → All IsSaidClaim list → IfSome (greatest_from best list) IsSaidClaim
unfolding greatest_from
greatest_said best [] here said = here
greatest_said best (claim ∷ others) here said =
    greatest_said (greater best claim) others (greater_said best claim here (All-head IsSaidClaim claim others said)) (All-tail IsSaidClaim claim others said)

value_said : (best : Option Claim) → IfSome best IsSaidClaim → IfSome (option_map (λ claim. claim.value) best) HasSayable
value_said None said = tt
value_said (Some claim) said = said

winner_said : (mode : WritingMode) (dir : Direction) (list : List Claim) (page : Property) → All IsSaidClaim list → IfSome (winner mode dir list page) HasSayable
winner_said mode dir list page said =
    value_said (greatest (naming mode dir page list))
    (greatest_said None (naming mode dir page list) tt (All-filter (λ claim. same_property (page_of mode dir claim.property) page) IsSaidClaim list said))

abbrev IsSaidPair : Property × Value → Type 0
IsSaidPair pair = HasSayable pair.1

one_more_said : (property : Property) (value : Option Value) (winners : List (Property × Value)) → IfSome value HasSayable → AreSaidWinners winners → AreSaidWinners (cons_option (paired property value) winners)
one_more_said property None winners here said = said
one_more_said property (Some value) winners here said = All-cons IsSaidPair (property, value) winners here said

rows_said : (mode : WritingMode) (dir : Direction) (list : List Claim) → All IsSaidClaim list → (table : List PropertyRow)
    → AreSaidWinners (filter_map (λ row. paired row.property (winner mode dir list row.property)) table)
rows_said mode dir list said [] = All-nil IsSaidPair
rows_said mode dir list said (row ∷ table) =
    one_more_said row.property (winner mode dir list row.property) (filter_map (λ row. paired row.property (winner mode dir list row.property)) table)
    (winner_said mode dir list row.property said) (rows_said mode dir list said table)

pub winners_said : (list : List Claim) (parent : Style) → All IsSaidClaim list → AreSaidWinners (winners_in list parent)
winners_said list parent said = rows_said (turned list parent).mode (direction_of (turned list parent)) list said rows

-- ---- the line of a node

first_said : (state : State) (above : Option ℕ → List What) (number : ℕ) (found : Option Entry) → IsSaidState state → ((parent : Option ℕ) → IsSaidLine (above parent)) → state.node_at number ≡ found → IsSaidLine (line_with above found)
first_said state above number None said above_said is = All-nil IsSaid
first_said state above number (Some entry) said above_said is = All-cons IsSaid entry.what (above entry.parent) (said number entry is) (above_said entry.parent)

line_to_said : (state : State) (most : ℕ) (number : Option ℕ) → IsSaidState state → IsSaidLine (line_to most state number)
unfolding line_to
line_to_said state zero number said = All-nil IsSaid
line_to_said state (suc most) None said = All-nil IsSaid
line_to_said state (suc most) (Some number) said = first_said state (line_to most state) number (state.node_at number) said (λ parent. line_to_said state most parent said) refl

pub line_said : (state : State) (number : ℕ) → IsSaidState state → IsSaidLine (line state number)
line_said state number said = line_to_said state 64 (Some number) said
