-- The rules that are found are all that match.
use Rattle.std.proofs.Common.{◌≡◌, ◌⊎◌, inl, inr, ℕ, zero, suc, ◌+◌, Bool, true, false, ◌||◌, ◌&&◌, List, [], ◌∷◌, ◌++◌, length, map, get_or, reverse, bytes_eq, refl, sym, subst, ap, ◌∙◌, arith, Option, Some, None}
use Rattle.std.specs.Prelude.{slice_get}
use Rattle.std.specs.List.{Contains}
use Rattle.std.proofs.lemmas.List.Elements.{Contains-append_left, Contains-append_right, Contains-append_cases}
use Rattle.std.proofs.lemmas.Option.{get_or_from_slice_get, slice_get_within}
use Rattle.std.proofs.lemmas.Slice.Eq.{bytes_eq-Decides}
use Rattle.std.proofs.lemmas.Bool.{and_parts}
use Rattle.basic_laws.proofs.Lists.{contains_cases, contains_first, contains_none, contains_other, contained_any}
use Rattle.html_tokens.specs.declared.tag.Tag.{Tag}
use Rattle.html_tokens.specs.Tag.{name_of}
use Rattle.css_sheet.specs.Default.{default_rules}
use Rattle.css_sheet.specs.Specificity.{specificity_of}
use Rattle.style_types.specs.declared.style.Style.{Style}
use Rattle.css_types.specs.declared.rule.Rule.{Rule}
use Rattle.css_types.specs.Rule.{Compound, Ruling, ruling_of, rulings_of, selector_of}
use Rattle.dom_store.specs.State.{What, element, text}
use Rattle.cascade.specs.declared.claim.Claim.{Claim}
use Rattle.cascade.specs.declared.claim.Origin.{Origin}
use Rattle.cascade.specs.declared.shelves.Shelves.{Shelves}
use Rattle.cascade.specs.Claims.{author, by_default, stated, if_matching, claims, claims_of_element, claims_of_rule, claims_of_rules}
use Rattle.cascade.specs.Filing.{Heading, of_id, of_class, of_type, of_any, of_upper_id, of_upper_class, by_first, by_type, heading, heading_above, heading_from_right, headings, headings_of_id, upper_headings, upper_headings_of, shelf, AreShelved, claims_if, claims_at, claims_under}
use Rattle.cascade.specs.Matching.{some, each, tails, fits_type, has_class, has_id, joined, matches_from, matches}
use Rattle.cascade.specs.Winners.{winners, winners_in}
use Rattle.cascade.proofs.Chaining.{joined_above}
use Rattle.cascade.proofs.SameClaims.{same_winners, keys_tell}

-- ---- members of lists

-- ---- a compound that fits an element stands under one of its headings

or_none : (one : Bool) → (one || false) ≡ true → one ≡ true
or_none true is = refl
or_none false is = is

same_bytes : (one other : List ℕ) → bytes_eq one other ≡ true → one ≡ other
same_bytes one other is = (bytes_eq-Decides one other).0 is

among_own : (of : List ℕ → Heading) (own : List ℕ) (classes : List (List ℕ)) (class : List ℕ) (b : Bool) → bytes_eq class own ≡ b → (b || some (bytes_eq class) classes) ≡ true
    → (some (bytes_eq class) classes ≡ true → Contains (map of classes) (of class)) → Contains (of own ∷ map of classes) (of class)
among_own of own classes class true same is later = subst (λ (n : List ℕ). Contains (of own ∷ map of classes) (of n)) (sym (same_bytes class own same)) (contains_first (of own) (map of classes))
among_own of own classes class false same is later = contains_other (of own) (of class) (map of classes) (later is)

among_classes : (of : List ℕ → Heading) (classes : List (List ℕ)) (class : List ℕ) → some (bytes_eq class) classes ≡ true → Contains (map of classes) (of class)
unfolding some
among_classes of [] class is = absurd cc
among_classes of (own ∷ classes) class is = among_own of own classes class (bytes_eq class own) refl is (among_classes of classes class)

id_among : (of : List ℕ → Heading) (own : Option (List ℕ)) (id : List ℕ) → has_id own id ≡ true → Contains (headings_of_id of own) (of id)
id_among of None id is = absurd cc
id_among of (Some own) id is = subst (λ (n : List ℕ). Contains (of own ∷ []) (of n)) (sym (same_bytes id own is)) (contains_first (of own) [])

abbrev pub headings_with : Tag → Option (List ℕ) → List (List ℕ) → List Heading
headings_with tag id classes = of_any ∷ of_type (name_of tag) ∷ (headings_of_id of_id id ++ map of_class classes)

class_found : (tag : Tag) (id : Option (List ℕ)) (classes : List (List ℕ)) (class : List ℕ) → some (bytes_eq class) classes ≡ true → Contains (headings_with tag id classes) (of_class class)
class_found tag id classes class is =
    contains_other of_any (of_class class) (of_type (name_of tag) ∷ (headings_of_id of_id id ++ map of_class classes))
    (contains_other (of_type (name_of tag)) (of_class class) (headings_of_id of_id id ++ map of_class classes)
    (Contains-append_right (headings_of_id of_id id) (map of_class classes) (of_class class) (among_classes of_class classes class is)))

id_found : (tag : Tag) (own : Option (List ℕ)) (classes : List (List ℕ)) (id : List ℕ) → has_id own id ≡ true → Contains (headings_with tag own classes) (of_id id)
id_found tag own classes id is =
    contains_other of_any (of_id id) (of_type (name_of tag) ∷ (headings_of_id of_id own ++ map of_class classes))
    (contains_other (of_type (name_of tag)) (of_id id) (headings_of_id of_id own ++ map of_class classes) (Contains-append_left (headings_of_id of_id own) (map of_class classes) (of_id id) (id_among of_id own id is)))

type_found : (tag : Tag) (id : Option (List ℕ)) (classes : List (List ℕ)) (name : Option (List ℕ)) → fits_type name tag ≡ true → Contains (headings_with tag id classes) (by_type name)
type_found tag id classes None is = contains_first of_any (of_type (name_of tag) ∷ (headings_of_id of_id id ++ map of_class classes))
type_found tag id classes (Some name) is =
    subst (λ (n : List ℕ). Contains (headings_with tag id classes) (of_type n)) (sym (same_bytes name (name_of tag) is))
    (contains_other of_any (of_type (name_of tag)) (of_type (name_of tag) ∷ (headings_of_id of_id id ++ map of_class classes)) (contains_first (of_type (name_of tag)) (headings_of_id of_id id ++ map of_class classes)))

-- the first of some names that an element all has, or what counts without them
by_first_found : (of : List ℕ → Heading) (has : List ℕ → Bool) (names : List (List ℕ)) (all : List Heading) (other : Heading) → each has names ≡ true
    → ((name : List ℕ) → has name ≡ true → Contains all (of name)) → Contains all other → Contains all (by_first of names other)
unfolding each
by_first_found of has [] all other is found there = there
by_first_found of has (name ∷ names) all other is found there = found name ((and_parts (has name) (each has names) is).0)

-- ---- one to the left fits an element above

-- a heading is among these, or is only the one that counts without the compounds to the left
abbrev pub StandsAmong : (all : List Heading) → (under other : Heading) → Type 0
StandsAmong all under other = (under ≡ other) ⊎ Contains all under

stands_first : (of : List ℕ → Heading) (has : List ℕ → Bool) (names : List (List ℕ)) (all : List Heading) (under other : Heading) → each has names ≡ true
    → ((name : List ℕ) → has name ≡ true → Contains all (of name)) → StandsAmong all under other → StandsAmong all (by_first of names under) other
unfolding each
stands_first of has [] all under other is found there = there
stands_first of has (name ∷ names) all under other is found there = inr (found name ((and_parts (has name) (each has names) is).0))

stands_further : (first all : List Heading) (under other : Heading) → StandsAmong all under other → StandsAmong (first ++ all) under other
stands_further first all under other (inl same) = inl same
stands_further first all under other (inr there) = inr (Contains-append_right first all under there)

one_or_further : (f : List What → Bool) (what : What) (above : List What) (under other : Heading) (b : Bool) → f (what ∷ above) ≡ b → (b || some f (tails above)) ≡ true
    → (f (what ∷ above) ≡ true → StandsAmong (upper_headings (what ∷ above)) under other) → (some f (tails above) ≡ true → StandsAmong (upper_headings above) under other)
    → StandsAmong (upper_headings (what ∷ above)) under other
unfolding upper_headings
one_or_further f what above under other true this is here further = here this
one_or_further f what above under other false this is here further = stands_further (upper_headings_of what) (upper_headings above) under other (further is)

among_tails : (f : List What → Bool) (above : List What) (under other : Heading) → ((line : List What) → f line ≡ true → StandsAmong (upper_headings line) under other) → some f (tails above) ≡ true
    → StandsAmong (upper_headings above) under other
unfolding some tails
among_tails f [] under other here is = here [] (or_none (f []) is)
among_tails f (what ∷ above) under other here is = one_or_further f what above under other (f (what ∷ above)) refl is (here (what ∷ above)) (among_tails f above under other here)

upper_id_found : (id : Option (List ℕ)) (classes : List (List ℕ)) (others : List Heading) (name : List ℕ) → has_id id name ≡ true → Contains ((headings_of_id of_upper_id id ++ map of_upper_class classes) ++ others) (of_upper_id name)
upper_id_found id classes others name is =
    Contains-append_left (headings_of_id of_upper_id id ++ map of_upper_class classes) others (of_upper_id name)
    (Contains-append_left (headings_of_id of_upper_id id) (map of_upper_class classes) (of_upper_id name) (id_among of_upper_id id name is))

upper_class_found : (id : Option (List ℕ)) (classes : List (List ℕ)) (others : List Heading) (name : List ℕ) → has_class classes name ≡ true → Contains ((headings_of_id of_upper_id id ++ map of_upper_class classes) ++ others) (of_upper_class name)
upper_class_found id classes others name is =
    Contains-append_left (headings_of_id of_upper_id id ++ map of_upper_class classes) others (of_upper_class name)
    (Contains-append_right (headings_of_id of_upper_id id) (map of_upper_class classes) (of_upper_class name) (among_classes of_upper_class classes name is))

above_is_found : (left : List Compound) (other : Heading) (line : List What) → matches_from left line ≡ true → StandsAmong (upper_headings line) (heading_above left other) other
unfolding matches_from heading_above upper_headings
above_is_found [] other line is = inl refl
above_is_found (compound ∷ left) other [] is = absurd cc
above_is_found (compound ∷ left) other (text letters ∷ above) is = absurd cc
above_is_found (compound ∷ left) other (element tag id classes dir own ∷ above) is =
    let type_fits = fits_type compound.tag tag in
    let classes_fit = each (has_class classes) compound.classes in
    let ids_fit = each (has_id id) compound.ids in
    let fits : (type_fits && (classes_fit && ids_fit)) ≡ true = (and_parts (type_fits && (classes_fit && ids_fit)) (joined compound.joint (matches_from left) above) is).0 in
    let rest : (classes_fit && ids_fit) ≡ true = (and_parts type_fits (classes_fit && ids_fit) fits).1 in
    let further = joined_above compound.joint left above ((and_parts (type_fits && (classes_fit && ids_fit)) (joined compound.joint (matches_from left) above) is).1) in
    let first : List Heading = headings_of_id of_upper_id id ++ map of_upper_class classes in
    stands_first of_upper_id (has_id id) compound.ids (first ++ upper_headings above) _ other ((and_parts classes_fit ids_fit rest).1) (upper_id_found id classes (upper_headings above))
    (stands_first of_upper_class (has_class classes) compound.classes (first ++ upper_headings above) _ other ((and_parts classes_fit ids_fit rest).0) (upper_class_found id classes (upper_headings above))
    (stands_further first (upper_headings above) (heading_above left other) other (among_tails (matches_from left) above (heading_above left other) other (above_is_found left other) further)))

-- ---- so the heading of a rule that matches is one of those of the line

last_or_above : (first above : List Heading) (under other : Heading) → Contains first other → StandsAmong above under other → Contains (first ++ above) under
last_or_above first above under other has (inl same) = Contains-append_left first above under (subst (λ (h : Heading). Contains first h) (sym same) has)
last_or_above first above under other has (inr there) = Contains-append_right first above under there

heading_is_found : (compounds : List Compound) (line : List What) → matches_from compounds line ≡ true → Contains (headings line) (heading_from_right compounds)
unfolding matches_from
heading_is_found [] [] is = contains_first of_any []
heading_is_found [] (text letters ∷ above) is = contains_first of_any (upper_headings above)
heading_is_found [] (element tag id classes dir own ∷ above) is = contains_first of_any ((of_type (name_of tag) ∷ (headings_of_id of_id id ++ map of_class classes)) ++ upper_headings above)
heading_is_found (compound ∷ left) [] is = absurd cc
heading_is_found (compound ∷ left) (text letters ∷ above) is = absurd cc
heading_is_found (compound ∷ left) (element tag id classes dir own ∷ above) is =
    let type_fits = fits_type compound.tag tag in
    let classes_fit = each (has_class classes) compound.classes in
    let ids_fit = each (has_id id) compound.ids in
    let fits : (type_fits && (classes_fit && ids_fit)) ≡ true = (and_parts (type_fits && (classes_fit && ids_fit)) (joined compound.joint (matches_from left) above) is).0 in
    let rest : (classes_fit && ids_fit) ≡ true = (and_parts type_fits (classes_fit && ids_fit) fits).1 in
    let further = joined_above compound.joint left above ((and_parts (type_fits && (classes_fit && ids_fit)) (joined compound.joint (matches_from left) above) is).1) in
    let own_ones = headings_with tag id classes in
    let upper = upper_headings above in
    let under = heading_above left (by_type compound.tag) in
    by_first_found of_id (has_id id) compound.ids (own_ones ++ upper) _ ((and_parts classes_fit ids_fit rest).1)
    (λ name has. Contains-append_left own_ones upper (of_id name) (id_found tag id classes name has))
    (by_first_found of_class (has_class classes) compound.classes (own_ones ++ upper) under ((and_parts classes_fit ids_fit rest).0)
    (λ name has. Contains-append_left own_ones upper (of_class name) (class_found tag id classes name has))
    (last_or_above own_ones upper under (by_type compound.tag) (type_found tag id classes compound.tag ((and_parts type_fits (classes_fit && ids_fit) fits).0))
    (among_tails (matches_from left) above under (by_type compound.tag) (above_is_found left (by_type compound.tag)) further)))

-- ---- the rules of a list, by their places

-- a claim of the rule at a place is one of those of all rules
rule_in : (origin : Bool → Origin) (rules : List Rule) (base place number : ℕ) (rule : Rule) (line : List What) (c : Claim) → number ≡ base + place → slice_get rules place ≡ Some rule
    → Contains (claims_of_rule origin number (ruling_of rule) line) c → Contains (claims_of_rules origin base (rulings_of rules) line) c
unfolding claims_of_rules
rule_in origin [] base place number rule line c at is has = absurd cc
rule_in origin (first ∷ rules) base zero number rule line c at is has =
    let same : first ≡ rule = cc in
    let here : number ≡ base = omega arith in
    Contains-append_left (claims_of_rule origin base (ruling_of first) line) (claims_of_rules origin (base + 1) (rulings_of rules) line) c
    (subst (λ (n : ℕ). Contains (claims_of_rule origin n (ruling_of first) line) c) here (subst (λ (r : Rule). Contains (claims_of_rule origin number (ruling_of r) line) c) (sym same) has))
rule_in origin (first ∷ rules) base (suc place) number rule line c at is has =
    Contains-append_right (claims_of_rule origin base (ruling_of first) line) (claims_of_rules origin (base + 1) (rulings_of rules) line) c
    (rule_in origin rules (base + 1) place number rule line c (omega arith) is has)

-- and each of those is of a rule at a place
record IsOf (origin : Bool → Origin) (rules : List Rule) (base : ℕ) (line : List What) (c : Claim) : Type 0 where
  pub place : ℕ
  pub rule : Rule
  pub there : slice_get rules place ≡ Some rule
  pub has : Contains (claims_of_rule origin (base + place) (ruling_of rule) line) c

of_later : (origin : Bool → Origin) (first : Rule) (rules : List Rule) (base : ℕ) (line : List What) (c : Claim)
    → Contains (claims_of_rule origin base (ruling_of first) line) c ⊎ Contains (claims_of_rules origin (base + 1) (rulings_of rules) line) c
    → (Contains (claims_of_rules origin (base + 1) (rulings_of rules) line) c → IsOf origin rules (base + 1) line c) → IsOf origin (first ∷ rules) base line c
of_later origin first rules base line c (inl has) others =
    let here : base ≡ base + 0 = omega arith in
    record { place = 0; rule = first; there = refl; has = subst (λ (n : ℕ). Contains (claims_of_rule origin n (ruling_of first) line) c) here has }
of_later origin first rules base line c (inr later) others =
    let rest = others later in
    let here : base + 1 + rest.place ≡ base + suc rest.place = omega arith in
    record { place = suc rest.place; rule = rest.rule; there = rest.there; has = subst (λ (n : ℕ). Contains (claims_of_rule origin n (ruling_of rest.rule) line) c) here rest.has }

of_rule : (origin : Bool → Origin) (rules : List Rule) (base : ℕ) (line : List What) (c : Claim) → Contains (claims_of_rules origin base (rulings_of rules) line) c → IsOf origin rules base line c
unfolding claims_of_rules
of_rule origin [] base line c has = absurd (contains_none c has)
of_rule origin (first ∷ rules) base line c has =
    of_later origin first rules base line c (Contains-append_cases (claims_of_rule origin base (ruling_of first) line) (claims_of_rules origin (base + 1) (rulings_of rules) line) c has)
    (of_rule origin rules (base + 1) line c)

-- ---- the claims at places

at_this : (origin : Bool → Origin) (rules : List Rule) (first : ℕ) (places : List ℕ) (line : List What) (place : ℕ) (rule : Rule) (c : Claim) → slice_get rules place ≡ Some rule
    → Contains (claims_of_rule origin place (ruling_of rule) line) c → (first ≡ place) ⊎ Contains places place → (Contains places place → Contains (claims_at origin rules places line) c)
    → Contains (claims_if origin first (slice_get rules first) line ++ claims_at origin rules places line) c
at_this origin rules first places line place rule c is has (inl same) others =
    let here : claims_if origin first (slice_get rules first) line ≡ claims_of_rule origin place (ruling_of rule) line =
    ap (λ (n : ℕ). claims_if origin n (slice_get rules n) line) same ∙ ap (λ (r : Option Rule). claims_if origin place r line) is in
    Contains-append_left (claims_if origin first (slice_get rules first) line) (claims_at origin rules places line) c (subst (λ (l : List Claim). Contains l c) (sym here) has)
at_this origin rules first places line place rule c is has (inr later) others =
    Contains-append_right (claims_if origin first (slice_get rules first) line) (claims_at origin rules places line) c (others later)

at_has : (origin : Bool → Origin) (rules : List Rule) (places : List ℕ) (line : List What) (place : ℕ) (rule : Rule) (c : Claim) → slice_get rules place ≡ Some rule
    → Contains (claims_of_rule origin place (ruling_of rule) line) c → Contains places place → Contains (claims_at origin rules places line) c
unfolding claims_at
at_has origin rules [] line place rule c is has among = absurd (contains_none place among)
at_has origin rules (first ∷ places) line place rule c is has among =
    at_this origin rules first places line place rule c is has (contains_cases first place places among) (at_has origin rules places line place rule c is has)

from_if : (origin : Bool → Origin) (rules : List Rule) (place : ℕ) (rule : Option Rule) (line : List What) (c : Claim) → slice_get rules place ≡ rule → Contains (claims_if origin place rule line) c
    → Contains (claims_of_rules origin 0 (rulings_of rules) line) c
from_if origin rules place None line c is has = absurd (contains_none c has)
from_if origin rules place (Some rule) line c is has = rule_in origin rules 0 place place rule line c (omega arith) is has

from_first : (origin : Bool → Origin) (rules : List Rule) (place : ℕ) (places : List ℕ) (line : List What) (c : Claim)
    → Contains (claims_if origin place (slice_get rules place) line) c ⊎ Contains (claims_at origin rules places line) c
    → (Contains (claims_at origin rules places line) c → Contains (claims_of_rules origin 0 (rulings_of rules) line) c) → Contains (claims_of_rules origin 0 (rulings_of rules) line) c
from_first origin rules place places line c (inl has) others = from_if origin rules place (slice_get rules place) line c refl has
from_first origin rules place places line c (inr later) others = others later

from_places : (origin : Bool → Origin) (rules : List Rule) (places : List ℕ) (line : List What) (c : Claim) → Contains (claims_at origin rules places line) c
    → Contains (claims_of_rules origin 0 (rulings_of rules) line) c
unfolding claims_at
from_places origin rules [] line c has = absurd (contains_none c has)
from_places origin rules (place ∷ places) line c has =
    from_first origin rules place places line c (Contains-append_cases (claims_if origin place (slice_get rules place) line) (claims_at origin rules places line) c has) (from_places origin rules places line c)

-- ---- and under headings

under_this : (origin : Bool → Origin) (rules : List Rule) (shelves : Shelves) (first : Heading) (others : List Heading) (line : List What) (under : Heading) (c : Claim)
    → Contains (claims_at origin rules (shelf shelves under) line) c → (first ≡ under) ⊎ Contains others under → (Contains others under → Contains (claims_under origin rules shelves others line) c)
    → Contains (claims_at origin rules (shelf shelves first) line ++ claims_under origin rules shelves others line) c
under_this origin rules shelves first others line under c has (inl same) rest =
    Contains-append_left (claims_at origin rules (shelf shelves first) line) (claims_under origin rules shelves others line) c
    (subst (λ (h : Heading). Contains (claims_at origin rules (shelf shelves h) line) c) (sym same) has)
under_this origin rules shelves first others line under c has (inr later) rest =
    Contains-append_right (claims_at origin rules (shelf shelves first) line) (claims_under origin rules shelves others line) c (rest later)

under_has : (origin : Bool → Origin) (rules : List Rule) (shelves : Shelves) (all : List Heading) (line : List What) (under : Heading) (c : Claim)
    → Contains (claims_at origin rules (shelf shelves under) line) c → Contains all under → Contains (claims_under origin rules shelves all line) c
unfolding claims_under
under_has origin rules shelves [] line under c has among = absurd (contains_none under among)
under_has origin rules shelves (first ∷ others) line under c has among =
    under_this origin rules shelves first others line under c has (contains_cases first under others among) (under_has origin rules shelves others line under c has)

from_one : (origin : Bool → Origin) (rules : List Rule) (shelves : Shelves) (first : Heading) (others : List Heading) (line : List What) (c : Claim)
    → Contains (claims_at origin rules (shelf shelves first) line) c ⊎ Contains (claims_under origin rules shelves others line) c
    → (Contains (claims_under origin rules shelves others line) c → Contains (claims_of_rules origin 0 (rulings_of rules) line) c) → Contains (claims_of_rules origin 0 (rulings_of rules) line) c
from_one origin rules shelves first others line c (inl has) rest = from_places origin rules (shelf shelves first) line c has
from_one origin rules shelves first others line c (inr later) rest = rest later

-- what is found is of one of the rules
pub from_headings : (origin : Bool → Origin) (rules : List Rule) (shelves : Shelves) (all : List Heading) (line : List What) (c : Claim) → Contains (claims_under origin rules shelves all line) c
    → Contains (claims_of_rules origin 0 (rulings_of rules) line) c
unfolding claims_under
from_headings origin rules shelves [] line c has = absurd (contains_none c has)
from_headings origin rules shelves (first ∷ others) line c has =
    from_one origin rules shelves first others line c (Contains-append_cases (claims_at origin rules (shelf shelves first) line) (claims_under origin rules shelves others line) c has)
    (from_headings origin rules shelves others line c)

matched : (b : Bool) (list : List Claim) (c : Claim) → Contains (if_matching b list) c → b ≡ true
matched true list c has = refl
matched false list c has = absurd (contains_none c has)

-- what is of one of the rules is found
pub is_candidate : (origin : Bool → Origin) (rules : List Rule) (shelves : Shelves) (line : List What) (c : Claim) → AreShelved shelves rules (length rules)
    → Contains (claims_of_rules origin 0 (rulings_of rules) line) c → Contains (claims_under origin rules shelves (headings line) line) c
is_candidate origin rules shelves line c shelved has =
    let of = of_rule origin rules 0 line c has in
    let under : Heading = heading (selector_of of.rule.selector) in
    let here : 0 + of.place ≡ of.place = omega arith in
    let claimed = subst (λ (n : ℕ). Contains (claims_of_rule origin n (ruling_of of.rule) line) c) here of.has in
    let does = matched (matches (selector_of of.rule.selector) line) (stated origin false (specificity_of (selector_of of.rule.selector)) of.place 0 of.rule.declarations.value.items) c claimed in
    let same : get_or rules of.place of.rule ≡ of.rule = get_or_from_slice_get rules of.place of.rule of.rule of.there in
    let there = contained_any (shelf shelves (heading (selector_of (get_or rules of.place of.rule).selector))) of.place (shelved.each of.place of.rule (slice_get_within rules of.place of.rule of.there)) in
    let place : Contains (shelf shelves under) of.place = subst (λ (r : Rule). Contains (shelf shelves (heading (selector_of r.selector))) of.place) same there in
    under_has origin rules shelves (headings line) line under c (at_has origin rules (shelf shelves under) line of.place of.rule c of.there claimed place)
    (heading_is_found (reverse (selector_of of.rule.selector)) line does)

-- ---- all claims of an element

abbrev pub HaveSame : List Claim → List Claim → Type 0
HaveSame one other = (c : Claim) → (Contains one c → Contains other c) × (Contains other c → Contains one c)

both_parts : (one two three four : List Claim) (c : Claim) → (Contains one c → Contains three c) → (Contains two c → Contains four c) → Contains one c ⊎ Contains two c → Contains (three ++ four) c
both_parts one two three four c first second (inl has) = Contains-append_left three four c (first has)
both_parts one two three four c first second (inr has) = Contains-append_right three four c (second has)

beside : (one two three four : List Claim) (c : Claim) → (Contains one c → Contains three c) → (Contains two c → Contains four c) → Contains (one ++ two) c → Contains (three ++ four) c
beside one two three four c first second has = both_parts one two three four c first second (Contains-append_cases one two c has)

-- an author's rules, what the element says, the rules of the default sheet
pub have_same : (rules defaults : List Rule) (shelves default_shelves : Shelves) (line : List What) → AreShelved shelves rules (length rules) → AreShelved default_shelves defaults (length defaults)
    → rulings_of defaults ≡ default_rules → HaveSame (claims (rulings_of rules) line) (claims_under author rules shelves (headings line) line ++ (claims_of_element line ++ claims_under by_default defaults default_shelves (headings line) line))
have_same rules defaults shelves default_shelves line shelved default_shelved are_default c =
    let same_rules = ap (λ (all : List Ruling). claims_of_rules by_default 0 all line) are_default in (
      beside (claims_of_rules author 0 (rulings_of rules) line) (claims_of_element line ++ claims_of_rules by_default 0 default_rules line)
          (claims_under author rules shelves (headings line) line) (claims_of_element line ++ claims_under by_default defaults default_shelves (headings line) line) c
          (is_candidate author rules shelves line c shelved)
          (beside (claims_of_element line) (claims_of_rules by_default 0 default_rules line) (claims_of_element line) (claims_under by_default defaults default_shelves (headings line) line) c (λ (has : Contains (claims_of_element line) c). has)
          (λ (has : Contains (claims_of_rules by_default 0 default_rules line) c). is_candidate by_default defaults default_shelves line c default_shelved (subst (λ (l : List Claim). Contains l c) (sym same_rules) has))),
      beside (claims_under author rules shelves (headings line) line) (claims_of_element line ++ claims_under by_default defaults default_shelves (headings line) line)
          (claims_of_rules author 0 (rulings_of rules) line) (claims_of_element line ++ claims_of_rules by_default 0 default_rules line) c
          (from_headings author rules shelves (headings line) line c)
          (beside (claims_of_element line) (claims_under by_default defaults default_shelves (headings line) line) (claims_of_element line) (claims_of_rules by_default 0 default_rules line) c (λ (has : Contains (claims_of_element line) c). has)
          (λ (has : Contains (claims_under by_default defaults default_shelves (headings line) line) c). subst (λ (l : List Claim). Contains l c) same_rules (from_headings by_default defaults default_shelves (headings line) line c has))),
    )

-- so they have the same winners
pub winners_are_same : (rules defaults : List Rule) (shelves default_shelves : Shelves) (line : List What) (parent : Style) → AreShelved shelves rules (length rules) → AreShelved default_shelves defaults (length defaults)
    → rulings_of defaults ≡ default_rules
    → winners_in (claims_under author rules shelves (headings line) line ++ (claims_of_element line ++ claims_under by_default defaults default_shelves (headings line) line)) parent ≡ winners (rulings_of rules) line parent
winners_are_same rules defaults shelves default_shelves line parent shelved default_shelved are_default =
    sym (same_winners (claims (rulings_of rules) line) (claims_under author rules shelves (headings line) line ++ (claims_of_element line ++ claims_under by_default defaults default_shelves (headings line) line))
    (have_same rules defaults shelves default_shelves line shelved default_shelved are_default) (keys_tell (rulings_of rules) line) parent)
