-- Rules that say nothing of a property, wherever they stand among an author's rules, leave what wins for it: with them the rules
-- behind them stand so many places further on, and that is all.
use Rattle.std.proofs.Common.{◌≡◌, ◌∙◌, ◌⊎◌, inl, inr, ℕ, zero, suc, ◌+◌, ◌<◌, ◌≤◌, Bool, true, false, ◌||◌, ◌&&◌, ltb, eqb, List, [], ◌∷◌, ◌++◌, length, map, Option, Some, None, option_map, refl, ap, sym, arith, append_assoc}
use Rattle.std.specs.Prelude.{cond, filter, not}
use Rattle.std.specs.List.{list_any}
use Rattle.std.proofs.lemmas.Bool.{cases_order, cond-false, and_parts, or_parts, not-true, eq-eqb, ne_eqb, lt-ltb, le-ltb, ltb-true, ltb-false, true≢false}
use Rattle.std.proofs.lemmas.Bool.Decides.{eqb_tells}
use Rattle.std.proofs.lemmas.List.{map-append}
use Rattle.std.proofs.lemmas.List.Elements.{filter-append}
use Rattle.wm_modes.specs.declared.mode.Direction.{Direction}
use Rattle.html_tokens.specs.declared.tag.Tag.{Tag}
use Rattle.css_types.specs.declared.property.Property.{Property}
use Rattle.css_types.specs.declared.value.Declaration.{Declaration}
use Rattle.css_types.specs.declared.value.Value.{Value}
use Rattle.css_types.specs.Rule.{Ruling}
use Rattle.css_sheet.specs.declared.counts.Specificity.{Specificity}
use Rattle.css_sheet.specs.Default.{default_rules}
use Rattle.css_sheet.specs.Specificity.{specificity_of}
use Rattle.dom_store.specs.State.{What, element, text}
use Rattle.cascade.specs.declared.claim.Claim.{Claim}
use Rattle.cascade.specs.declared.claim.Key.{Key}
use Rattle.cascade.specs.declared.claim.Origin.{Origin}
use Rattle.cascade.specs.Claims.{author, by_default, claims, claims_of_dir, claims_of_element, claims_of_rule, claims_of_rules, if_matching, is_below, is_less, own_rank, rank_of, stated, unspecific}
use Rattle.cascade.specs.Matching.{matches}
use Rattle.cascade.specs.Winners.{greater, greatest, greatest_from}
use Rattle.box_limits.specs.Rules.{turn_none, turns}

-- the value of the greatest claim
abbrev pub best_value : List Claim → Option Value
best_value list = option_map (λ claim. claim.value) (greatest list)

-- ---- numbers that compare the same

-- what is behind two numbers counts only where these are equal
by_equal : (m n : ℕ) (one other : Bool) → (m ≡ n → one ≡ other) → (ltb m n || (eqb m n && one)) ≡ (ltb m n || (eqb m n && other))
by_equal m n one other same = elim (eqb_tells m n) [
  | inl is ↦ ap (λ (b : Bool). ltb m n || (eqb m n && b)) (same is.1)
  | inr differ ↦ ap (λ (b : Bool). ltb m n || (b && one)) differ.0 ∙ sym (ap (λ (b : Bool). ltb m n || (b && other)) differ.0)
]

-- ---- claims whose rules move

-- rules from the first on stand so many places further on
module _ (first count : ℕ) where
  abbrev moved_by : (stays : Bool) → (place : ℕ) → ℕ
  moved_by true place = place
  moved_by false place = place + count

  abbrev moved_place : (place : ℕ) → ℕ
  moved_place place = moved_by (ltb place first) place

  -- but only an author's: the default sheet and what an element says of itself stay
  abbrev moved_number : (rank own place : ℕ) → ℕ
  moved_number zero own place = place
  moved_number (suc rank) zero place = moved_place place
  moved_number (suc rank) (suc own) place = place

  abbrev moved_key : Key → Key
  moved_key key = record key { rule = moved_number (rank_of key.origin) (own_rank key.own) key.rule }

  abbrev moved : Claim → Claim
  moved claim = record claim { key = moved_key claim.key }

  -- ---- they keep their order

  -- where a rule stands then
  abbrev StandsSo : (place moved : ℕ) → Type 0
  StandsSo place moved = ((place < first) × (moved ≡ place)) ⊎ ((first ≤ place) × (moved ≡ place + count))

  stands_by : (place : ℕ) (stays : Bool) → ltb place first ≡ stays → StandsSo place (moved_by stays place)
  stands_by place true is = inl (ltb-true place first is, refl)
  stands_by place false is = inr (ltb-false place first is, refl)

  stands : (place : ℕ) → StandsSo place (moved_place place)
  stands place = stands_by place (ltb place first) refl

  stays_before : (place : ℕ) → place < first → moved_place place ≡ place
  stays_before place before = ap (λ (b : Bool). moved_by b place) (lt-ltb place first before)

  goes_on_behind : (place : ℕ) → first ≤ place → moved_place place ≡ place + count
  goes_on_behind place behind = ap (λ (b : Bool). moved_by b place) (le-ltb place first behind)

  -- two numbers compare as two others
  abbrev CompareSo : (p q one other : ℕ) → Type 0
  CompareSo p q one other = (ltb one other ≡ ltb p q) × (eqb one other ≡ eqb p q)

  comparing : (p q one other : ℕ) → (p < q → one < other) → (q < p → other < one) → (p ≡ q → one ≡ other) → CompareSo p q one other
  comparing p q one other less more same = elim (cases_order p q) [
    | inl is ↦ (le-ltb one other (omega (arith, same is)) ∙ sym (le-ltb p q (omega (arith, is))), eq-eqb one other (same is) ∙ sym (eq-eqb p q is))
    | inr differ ↦ elim differ [
      | inl below ↦ let moved_ = less below in (lt-ltb one other moved_ ∙ sym (lt-ltb p q below), ne_eqb one other (λ is. absurd (omega (arith, moved_, is))) ∙ sym (ne_eqb p q (λ is. absurd (omega (arith, below, is)))))
      | inr above ↦ let moved_ = more above in (le-ltb one other (omega (arith, moved_)) ∙ sym (le-ltb p q (omega (arith, above))), ne_eqb one other (λ is. absurd (omega (arith, moved_, is))) ∙ sym (ne_eqb p q (λ is. absurd (omega (arith, above, is)))))
    ]
  ]

  places_compare : (p q one other : ℕ) → StandsSo p one → StandsSo q other → CompareSo p q one other
  places_compare p q one other (inl here) (inl there) = comparing p q one other (λ is. omega (arith, here, there, is)) (λ is. omega (arith, here, there, is)) (λ is. omega (arith, here, there, is))
  places_compare p q one other (inl here) (inr there) = comparing p q one other (λ is. omega (arith, here, there, is)) (λ is. omega (arith, here, there, is)) (λ is. omega (arith, here, there, is))
  places_compare p q one other (inr here) (inl there) = comparing p q one other (λ is. omega (arith, here, there, is)) (λ is. omega (arith, here, there, is)) (λ is. omega (arith, here, there, is))
  places_compare p q one other (inr here) (inr there) = comparing p q one other (λ is. omega (arith, here, there, is)) (λ is. omega (arith, here, there, is)) (λ is. omega (arith, here, there, is))

  numbers_compare : (rank own p q : ℕ) → CompareSo p q (moved_number rank own p) (moved_number rank own q)
  numbers_compare zero own p q = (refl, refl)
  numbers_compare (suc rank) zero p q = places_compare p q (moved_place p) (moved_place q) (stands p) (stands q)
  numbers_compare (suc rank) (suc own) p q = (refl, refl)

  -- two keys by how the places of their rules compare, where they are equal up to there
  abbrev behind_places : (one other : Key) → (less same : Bool) → Bool
  behind_places one other less same = less || (same && is_less (one.declaration ∷ []) (other.declaration ∷ []))

  rules_compare : (one other : Key) → rank_of one.origin ≡ rank_of other.origin → own_rank one.own ≡ own_rank other.own
      → behind_places one other (ltb (moved_key one).rule (moved_key other).rule) (eqb (moved_key one).rule (moved_key other).rule)
      ≡ behind_places one other (ltb one.rule other.rule) (eqb one.rule other.rule)
  rules_compare one other rank own =
      let number : ℕ = moved_number (rank_of one.origin) (own_rank one.own) one.rule in
      let same : (moved_key other).rule ≡ moved_number (rank_of one.origin) (own_rank one.own) other.rule =
      ap (λ (r : ℕ). moved_number r (own_rank other.own) other.rule) (sym rank) ∙ ap (λ (r : ℕ). moved_number (rank_of one.origin) r other.rule) (sym own) in
      let compare = numbers_compare (rank_of one.origin) (own_rank one.own) one.rule other.rule in
      ap (λ (n : ℕ). behind_places one other (ltb number n) (eqb number n)) same
      ∙ ap (λ (b : Bool). behind_places one other b (eqb number (moved_number (rank_of one.origin) (own_rank one.own) other.rule))) compare.0
      ∙ ap (behind_places one other (ltb one.rule other.rule)) compare.1

  below_kept : (one other : Key) → is_below (moved_key one) (moved_key other) ≡ is_below one other
  unfolding is_less
  below_kept one other =
      by_equal (rank_of one.origin) (rank_of other.origin) _ _ (λ rank.
      by_equal (own_rank one.own) (own_rank other.own) _ _ (λ own.
      by_equal one.specificity.ids other.specificity.ids _ _ (λ ids.
      by_equal one.specificity.classes other.specificity.classes _ _ (λ classes.
      by_equal one.specificity.types other.specificity.types _ _ (λ types.
      rules_compare one other rank own)))))

  -- ---- the greatest moves too, with its value

  either_moves : (second : Bool) (one other : Claim) → cond second (Some (moved other)) (Some (moved one)) ≡ option_map moved (cond second (Some other) (Some one))
  either_moves true one other = refl
  either_moves false one other = refl

  greater_moves : (best : Option Claim) (claim : Claim) → greater (option_map moved best) (moved claim) ≡ option_map moved (greater best claim)
  greater_moves None claim = refl
  greater_moves (Some best) claim =
      ap (λ (b : Bool). cond b (Some (moved claim)) (Some (moved best))) (below_kept best.key claim.key) ∙ either_moves (is_below best.key claim.key) best claim

  greatest_moves : (best : Option Claim) (list : List Claim) → greatest_from (option_map moved best) (map moved list) ≡ option_map moved (greatest_from best list)
  unfolding greatest_from
  greatest_moves best [] = refl
  greatest_moves best (claim ∷ others) = ap (λ (b : Option Claim). greatest_from b (map moved others)) (greater_moves best claim) ∙ greatest_moves (greater best claim) others

  value_stays : (best : Option Claim) → option_map (λ (claim : Claim). claim.value) (option_map moved best) ≡ option_map (λ (claim : Claim). claim.value) best
  value_stays None = refl
  value_stays (Some best) = refl

  best_stays : (list : List Claim) → best_value (map moved list) ≡ best_value list
  best_stays list = ap (option_map (λ (claim : Claim). claim.value)) (greatest_moves None list) ∙ value_stays (greatest list)

  -- ---- which claims there are

  kept_moves : (keeps : Bool) (claim : Claim) (others kept : List Claim) → others ≡ map moved kept → cond keeps (moved claim ∷ others) others ≡ map moved (cond keeps (claim ∷ kept) kept)
  kept_moves true claim others kept are = ap (λ (l : List Claim). moved claim ∷ l) are
  kept_moves false claim others kept are = are

  -- of those that move the same are of some properties
  filter_moves : (are : Property → Bool) (list : List Claim) → filter (λ claim. are claim.property) (map moved list) ≡ map moved (filter (λ claim. are claim.property) list)
  filter_moves are [] = refl
  filter_moves are (claim ∷ others) =
      kept_moves (are claim.property) claim (filter (λ claim. are claim.property) (map moved others)) (filter (λ claim. are claim.property) others) (filter_moves are others)

  -- a declaration of the rule at a place
  abbrev stating : (origin : Bool → Origin) → (own : Bool) → Specificity → (place : ℕ) → Declaration → (rule : ℕ) → Claim
  stating origin own specificity place d rule =
      record { key = record { origin = origin d.important; own = own; specificity = specificity; rule = rule; declaration = place }; property = d.property; value = d.value }

  stated_moves : (origin : Bool → Origin) (own : Bool) (specificity : Specificity) (rule to place : ℕ) (list : List Declaration)
      → ((important : Bool) → moved_number (rank_of (origin important)) (own_rank own) rule ≡ to)
      → map moved (stated origin own specificity rule place list) ≡ stated origin own specificity to place list
  unfolding stated
  stated_moves origin own specificity rule to place [] at = refl
  stated_moves origin own specificity rule to place (d ∷ others) at =
      ap (λ (n : ℕ). stating origin own specificity place d n ∷ map moved (stated origin own specificity rule (place + 1) others)) (at d.important)
      ∙ ap (λ (l : List Claim). stating origin own specificity place d to ∷ l) (stated_moves origin own specificity rule to (place + 1) others at)

  matching_moves : (matches_ : Bool) (one other : List Claim) → map moved one ≡ other → map moved (if_matching matches_ one) ≡ if_matching matches_ other
  matching_moves true one other are = are
  matching_moves false one other are = refl

  -- rules from a place on come to stand from another place on
  abbrev Move : (origin : Bool → Origin) → (from to count : ℕ) → Type 0
  Move origin from to some = (important : Bool) (i : ℕ) → i < some → moved_number (rank_of (origin important)) 0 (from + i) ≡ to + i

  ruled_move : (origin : Bool → Origin) (from to : ℕ) (rules : List Ruling) (line : List What) → Move origin from to (length rules)
      → map moved (claims_of_rules origin from rules line) ≡ claims_of_rules origin to rules line
  unfolding claims_of_rules
  ruled_move origin from to [] line at = refl
  ruled_move origin from to (rule ∷ rules) line at =
      let here : (important : Bool) → moved_number (rank_of (origin important)) 0 from ≡ to = λ important.
      ap (moved_number (rank_of (origin important)) 0) (omega arith) ∙ at important 0 (omega arith) ∙ omega arith in
      let behind : Move origin (from + 1) (to + 1) (length rules) = λ important i within.
      ap (moved_number (rank_of (origin important)) 0) (omega arith) ∙ at important (suc i) (omega (arith, within)) ∙ omega arith in
      map-append moved (claims_of_rule origin from rule line) (claims_of_rules origin (from + 1) rules line)
      ∙ ap (λ (l : List Claim). l ++ map moved (claims_of_rules origin (from + 1) rules line))
      (matching_moves (matches rule.selector line) _ _ (stated_moves origin false (specificity_of rule.selector) from to 0 rule.declarations here))
      ∙ ap (λ (l : List Claim). claims_of_rule origin to rule line ++ l) (ruled_move origin (from + 1) (to + 1) rules line behind)

  dir_stays : (rule : ℕ) (tag : Tag) (dir : Option Direction) → map moved (claims_of_dir rule tag dir) ≡ claims_of_dir rule tag dir
  dir_stays rule tag None = refl
  dir_stays rule tag (Some dir) = refl

  own_stays : (important : Bool) → moved_number (rank_of (author important)) 1 0 ≡ 0
  own_stays true = refl
  own_stays false = refl

  element_stays : (line : List What) → map moved (claims_of_element line) ≡ claims_of_element line
  element_stays [] = refl
  element_stays (text letters ∷ above) = refl
  element_stays (element tag id classes dir own ∷ above) =
      map-append moved (stated author true unspecific 0 0 own) (claims_of_dir (length default_rules) tag dir)
      ∙ ap (λ (l : List Claim). l ++ map moved (claims_of_dir (length default_rules) tag dir)) (stated_moves author true unspecific 0 0 0 own own_stays)
      ∙ ap (λ (l : List Claim). stated author true unspecific 0 0 own ++ l) (dir_stays (length default_rules) tag dir)

  default_stays : (line : List What) → map moved (claims_of_rules by_default 0 default_rules line) ≡ claims_of_rules by_default 0 default_rules line
  default_stays line = ruled_move by_default 0 0 default_rules line (λ important i within. refl)

  author_number : (important : Bool) (place : ℕ) → moved_number (rank_of (author important)) 0 place ≡ moved_place place
  author_number true place = refl
  author_number false place = refl

  -- an author's rules up to the first stay
  before_stay : (before : List Ruling) (line : List What) → length before ≤ first → map moved (claims_of_rules author 0 before line) ≡ claims_of_rules author 0 before line
  before_stay before line within =
      ruled_move author 0 0 before line (λ important i below. author_number important (0 + i) ∙ stays_before (0 + i) (omega (arith, within, below)))

  -- and those from it on move
  behind_move : (from : ℕ) (behind : List Ruling) (line : List What) → first ≤ from → map moved (claims_of_rules author from behind line) ≡ claims_of_rules author (from + count) behind line
  behind_move from behind line within =
      ruled_move author from (from + count) behind line (λ important i below. author_number important (from + i) ∙ goes_on_behind (from + i) (omega (arith, within)) ∙ omega arith)

-- ---- rules one after the other

ruled_both : (origin : Bool → Origin) (place : ℕ) (one other : List Ruling) (line : List What)
    → claims_of_rules origin place (one ++ other) line ≡ claims_of_rules origin place one line ++ claims_of_rules origin (place + length one) other line
unfolding claims_of_rules
ruled_both origin place [] other line = ap (λ (n : ℕ). claims_of_rules origin n other line) (omega arith)
ruled_both origin place (rule ∷ one) other line =
    let here = claims_of_rule origin place rule line in
    ap (λ (l : List Claim). here ++ l) (ruled_both origin (place + 1) one other line)
    ∙ sym (append_assoc here (claims_of_rules origin (place + 1) one line) (claims_of_rules origin (place + 1 + length one) other line))
    ∙ ap (λ (n : ℕ). (here ++ claims_of_rules origin (place + 1) one line) ++ claims_of_rules origin n other line) (omega arith)

-- ---- rules that say nothing of some properties

module _ (are : Property → Bool) (turning : (d : Declaration) → are d.property ≡ true → turns d ≡ true) where
  abbrev among : List Claim → List Claim
  among list = filter (λ claim. are claim.property) list

  no_other : (d : Declaration) (is : Bool) → are d.property ≡ is → turns d ≡ false → is ≡ false
  no_other d true is none = absurd (true≢false (sym (turning d is) ∙ none))
  no_other d false is none = refl

  stated_silent : (origin : Bool → Origin) (own : Bool) (specificity : Specificity) (rule place : ℕ) (list : List Declaration) → list_any turns list ≡ false
      → among (stated origin own specificity rule place list) ≡ []
  unfolding stated
  stated_silent origin own specificity rule place [] none = refl
  stated_silent origin own specificity rule place (d ∷ others) none =
      let parts = or_parts (turns d) (list_any turns others) none in
      cond-false (are d.property) _ _ (no_other d (are d.property) refl parts.0)
      ∙ stated_silent origin own specificity rule (place + 1) others parts.1

  matching_silent : (matches_ : Bool) (list : List Claim) → among list ≡ [] → among (if_matching matches_ list) ≡ []
  matching_silent true list none = none
  matching_silent false list none = refl

  silent : (origin : Bool → Origin) (place : ℕ) (rules : List Ruling) (line : List What) → turn_none rules ≡ true → among (claims_of_rules origin place rules line) ≡ []
  unfolding claims_of_rules
  silent origin place [] line none = refl
  silent origin place (rule ∷ rules) line none =
      let parts = and_parts (not (list_any turns rule.declarations)) (turn_none rules) none in
      filter-append (λ claim. are claim.property) (claims_of_rule origin place rule line) (claims_of_rules origin (place + 1) rules line)
      ∙ ap (λ (l : List Claim). l ++ among (claims_of_rules origin (place + 1) rules line))
      (matching_silent (matches rule.selector line) _ (stated_silent origin false (specificity_of rule.selector) place 0 rule.declarations (not-true (list_any turns rule.declarations) parts.0)))
      ∙ silent origin (place + 1) rules line parts.1

  -- ---- all claims

  module _ (before rules behind : List Ruling) (line : List What) (none : turn_none rules ≡ true) where
    abbrev first : ℕ
    first = length before

    abbrev count : ℕ
    count = length rules

    abbrev elements : List Claim
    elements = claims_of_element line ++ claims_of_rules by_default 0 default_rules line

    rest_stays : map (moved first count) elements ≡ elements
    rest_stays =
        map-append (moved first count) (claims_of_element line) (claims_of_rules by_default 0 default_rules line)
        ∙ ap (λ (l : List Claim). l ++ map (moved first count) (claims_of_rules by_default 0 default_rules line)) (element_stays first count line)
        ∙ ap (λ (l : List Claim). claims_of_element line ++ l) (default_stays first count line)

    -- without the rules, but with the rules behind them where they stand with them
    moved_claims : map (moved first count) (claims (before ++ behind) line)
        ≡ (claims_of_rules author 0 before line ++ claims_of_rules author (0 + first + count) behind line) ++ elements
    moved_claims =
        ap (λ (l : List Claim). map (moved first count) (l ++ elements)) (ruled_both author 0 before behind line)
        ∙ map-append (moved first count) (claims_of_rules author 0 before line ++ claims_of_rules author (0 + first) behind line) elements
        ∙ ap (λ (l : List Claim). l ++ map (moved first count) elements)
        (map-append (moved first count) (claims_of_rules author 0 before line) (claims_of_rules author (0 + first) behind line)
        ∙ ap (λ (l : List Claim). l ++ map (moved first count) (claims_of_rules author (0 + first) behind line)) (before_stay first count before line (omega arith))
        ∙ ap (λ (l : List Claim). claims_of_rules author 0 before line ++ l) (behind_move first count (0 + first) behind line (omega arith)))
        ∙ ap (λ (l : List Claim). (claims_of_rules author 0 before line ++ claims_of_rules author (0 + first + count) behind line) ++ l) rest_stays

    among_three : (one two three : List Claim) → among two ≡ [] → among (one ++ (two ++ three)) ≡ among (one ++ three)
    among_three one two three silent_ =
        filter-append (λ claim. are claim.property) one (two ++ three)
        ∙ ap (λ (l : List Claim). among one ++ l) (filter-append (λ claim. are claim.property) two three ∙ ap (λ (l : List Claim). l ++ among three) silent_)
        ∙ sym (filter-append (λ claim. are claim.property) one three)

    among_all : among (claims (before ++ rules ++ behind) line) ≡ among (map (moved first count) (claims (before ++ behind) line))
    among_all =
        let here = claims_of_rules author 0 before line in
        let there = claims_of_rules author (0 + first) rules line in
        let last = claims_of_rules author (0 + first + count) behind line in
        ap (λ (all : List Ruling). among (claims all line)) (append_assoc before rules behind)
        ∙ ap (λ (l : List Claim). among (l ++ elements)) (ruled_both author 0 before (rules ++ behind) line ∙ ap (λ (l : List Claim). here ++ l) (ruled_both author (0 + first) rules behind line))
        ∙ filter-append (λ claim. are claim.property) (here ++ (there ++ last)) elements
        ∙ ap (λ (l : List Claim). l ++ among elements) (among_three here there last (silent author (0 + first) rules line none))
        ∙ sym (filter-append (λ claim. are claim.property) (here ++ last) elements)
        ∙ ap among (sym moved_claims)

    -- so one value wins with the rules and without them
    pub same_best : best_value (among (claims (before ++ rules ++ behind) line)) ≡ best_value (among (claims (before ++ behind) line))
    same_best =
        ap best_value (among_all ∙ filter_moves first count are (claims (before ++ behind) line))
        ∙ best_stays first count (among (claims (before ++ behind) line))
