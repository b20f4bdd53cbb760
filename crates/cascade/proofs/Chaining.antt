-- The search that takes the nearest place finds a match exactly where there is one.
use Rattle.std.proofs.Common.{◌≡◌, ℕ, suc, ◌-◌, ◌<◌, ◌≤◌, Bool, true, false, ◌||◌, ◌&&◌, List, [], ◌∷◌, ◌++◌, length, take, drop, get_or, reverse, refl, sym, ap, ◌∙◌, arith, Option, Some, None, inl, inr}
use Rattle.std.specs.Borrow.{Bor}
use Rattle.std.proofs.Math.Seq.{take-suc}
use Rattle.std.proofs.lemmas.List.{take_all, length-take, length-drop, map-append, reverse-append}
use Rattle.std.proofs.lemmas.Bool.{or_cases, false≢true, and_parts}
use Rattle.std.proofs.Math.Bool.{or-true, or-false}
use Rattle.css_types.specs.declared.rule.Joint.{Joint}
use Rattle.css_types.specs.declared.rule.Joint.TheVariants.{Child, Descendant}
use Rattle.css_types.specs.declared.rule.Part.{Part}
use Rattle.css_types.specs.Rule.{Compound, compound_of, compounds_of}
use Rattle.dom_store.specs.declared.node.Node.{Node}
use Rattle.dom_store.specs.State.{What, what_of}
use Rattle.cascade.specs.Chains.{Left, if_fitting, behind, behind_chain, or_else, behind_nearest}
use Rattle.cascade.specs.Line.{whats_of}
use Rattle.cascade.specs.Matching.{some, tails, fits, joined, matches_from}

-- ---- the lists of the code

abbrev pub from_right : List Part → List Compound
from_right parts = reverse (compounds_of parts)

pub ends_in : (parts : List Part) (last : Part) → 1 ≤ length parts → last ≡ get_or parts (length parts - 1) last
    → from_right parts ≡ compound_of last ∷ from_right (take (length parts - 1) parts)
ends_in parts last le is =
    let whole : take (suc (length parts - 1)) parts ≡ parts = take_all (suc (length parts - 1)) parts (omega arith) in
    let cut : take (suc (length parts - 1)) parts ≡ take (length parts - 1) parts ++ get_or parts (length parts - 1) last ∷ [] = take-suc parts (length parts - 1) last (omega arith) in
    let parted : parts ≡ take (length parts - 1) parts ++ last ∷ [] = sym whole ∙ cut ∙ ap (λ (p : Part). take (length parts - 1) parts ++ p ∷ []) (sym is) in
    ap from_right parted ∙ ap (λ (cs : List Compound). reverse cs) (map-append compound_of (take (length parts - 1) parts) (last ∷ []))
    ∙ reverse-append (compounds_of (take (length parts - 1) parts)) (compound_of last ∷ [])

pub begins_with : (line : List (Bor Node)) (node : Bor Node) → 1 ≤ length line → node ≡ get_or line 0 node
    → whats_of line ≡ what_of node.now.kind ∷ whats_of (take (length line - 1) (drop 1 line))
begins_with [] node le is = absurd (omega arith)
begins_with (first ∷ others) node le is =
    let less : length (first ∷ others) - 1 ≡ length others = omega arith in
    let rest : take (length (first ∷ others) - 1) others ≡ others = ap (λ (n : ℕ). take n others) less ∙ take_all (length others) others (omega arith) in
    ap (λ (n : Bor Node). what_of n.now.kind ∷ whats_of others) (sym is) ∙ ap (λ (ns : List (Bor Node)). what_of node.now.kind ∷ whats_of ns) (sym rest)

pub none_there : {A : Type 0} (xs : List A) → length xs < 1 → xs ≡ []
none_there [] lt = refl
none_there (x ∷ xs) lt = absurd (omega arith)

-- ---- a chain

pub chain_of_none : (line : List What) → Some ([], line) ≡ behind_chain [] line
unfolding behind_chain
chain_of_none line = refl

pub chain_at_none : (compound : Compound) (left : List Compound) → None ≡ behind_chain (compound ∷ left) []
unfolding behind_chain
chain_at_none compound left = refl

pub chain_turn : (compound : Compound) (left : List Compound) (what : What) (above : List What) → behind_chain (compound ∷ left) (what ∷ above) ≡ if_fitting (fits compound what) (behind compound.joint (behind_chain left) left above)
unfolding behind_chain
chain_turn compound left what above = refl

-- a turn, on the lists of the code
pub chain_goes_on : (parts : List Part) (line : List (Bor Node)) (last : Part) (node : Bor Node) → 1 ≤ length parts → last ≡ get_or parts (length parts - 1) last → 1 ≤ length line → node ≡ get_or line 0 node
    → if_fitting (fits (compound_of last) (what_of node.now.kind)) (behind last.joint (behind_chain (from_right (take (length parts - 1) parts))) (from_right (take (length parts - 1) parts)) (whats_of (take (length line - 1) (drop 1 line))))
    ≡ behind_chain (from_right parts) (whats_of line)
chain_goes_on parts line last node some_part at_end some_node first =
    sym (ap (λ (cs : List Compound). behind_chain cs (whats_of line)) (ends_in parts last some_part at_end)
    ∙ ap (λ (ws : List What). behind_chain (compound_of last ∷ from_right (take (length parts - 1) parts)) ws) (begins_with line node some_node first)
    ∙ chain_turn (compound_of last) (from_right (take (length parts - 1) parts)) (what_of node.now.kind) (whats_of (take (length line - 1) (drop 1 line))))

-- ---- what is left to match

abbrev pub still : Option Left → Bool
still None = false
still (Some left) = some (matches_from left.0) (tails left.1)

-- one of the tails of each line matches no compounds: the line itself
none_matches : (line : List What) → some (matches_from []) (tails line) ≡ true
unfolding some tails matches_from
none_matches [] = refl
none_matches (what ∷ above) = refl

chain_is_fitting : (b : Bool) (left : Option Left) (rest : Bool) → rest ≡ still left → (b && rest) ≡ still (if_fitting b left)
chain_is_fitting true left rest is = is
chain_is_fitting false left rest is = refl

chain_is_joined : (joint : Joint) (left : List Compound) (above : List What) → matches_from left above ≡ still (behind_chain left above) → joined joint (matches_from left) above ≡ still (behind joint (behind_chain left) left above)
chain_is_joined Child left above is = is
chain_is_joined Descendant left above is = refl

-- what matches from here is the chain here and then the others above
pub chain_is : (compounds : List Compound) (line : List What) → matches_from compounds line ≡ still (behind_chain compounds line)
unfolding matches_from behind_chain
chain_is [] line = sym (none_matches line)
chain_is (compound ∷ left) [] = refl
chain_is (compound ∷ left) (what ∷ above) =
    chain_is_fitting (fits compound what) (behind compound.joint (behind_chain left) left above) (joined compound.joint (matches_from left) above) (chain_is_joined compound.joint left above (chain_is left above))

-- ---- the nearest place is as good as any

pub joined_above : (joint : Joint) (left : List Compound) (above : List What) → joined joint (matches_from left) above ≡ true → some (matches_from left) (tails above) ≡ true
unfolding some tails
joined_above Child left [] is = rw is refl
joined_above Child left (what ∷ above) is = rw is refl
joined_above Descendant left above is = is

joined_here : (compound : Compound) (left : List Compound) (what : What) (above : List What) → matches_from (compound ∷ left) (what ∷ above) ≡ true → some (matches_from left) (tails above) ≡ true
unfolding matches_from
joined_here compound left what above is = joined_above compound.joint left above ((and_parts (fits compound what) (joined compound.joint (matches_from left) above) is).1)

nowhere : (compound : Compound) (left : List Compound) → some (matches_from (compound ∷ left)) (tails []) ≡ true → false ≡ true
unfolding some tails matches_from
nowhere compound left is = is

here_or_above : (compounds : List Compound) (what : What) (above : List What) → some (matches_from compounds) (tails (what ∷ above)) ≡ (matches_from compounds (what ∷ above) || some (matches_from compounds) (tails above))
unfolding some tails
here_or_above compounds what above = refl

-- where compounds match here or further up, those to the left match above
left_matches : (compound : Compound) (left : List Compound) (what : What) (above : List What) → some (matches_from (compound ∷ left)) (tails (what ∷ above)) ≡ true → some (matches_from left) (tails above) ≡ true
left_matches compound left what [] is =
    elim (or_cases (matches_from (compound ∷ left) (what ∷ [])) (some (matches_from (compound ∷ left)) (tails [])) (sym (here_or_above (compound ∷ left) what []) ∙ is)) [
      | inl here ↦ joined_here compound left what [] here
      | inr there ↦ absurd (false≢true (nowhere compound left there))
    ]
left_matches compound left what (next ∷ above) is =
    elim (or_cases (matches_from (compound ∷ left) (what ∷ next ∷ above)) (some (matches_from (compound ∷ left)) (tails (next ∷ above))) (sym (here_or_above (compound ∷ left) what (next ∷ above)) ∙ is)) [
      | inl here ↦ joined_here compound left what (next ∷ above) here
      | inr there ↦ here_or_above left next above ∙ ap (λ (b : Bool). matches_from left (next ∷ above) || b) (left_matches compound left next above there) ∙ or-true (matches_from left (next ∷ above))
    ]

enough_behind : (fitting : Bool) (joint : Joint) (compounds : List Compound) (above : List What) (left : Left) → if_fitting fitting (behind joint (behind_chain compounds) compounds above) ≡ Some left
    → some (matches_from compounds) (tails above) ≡ true → (behind_chain compounds above ≡ Some left → still (Some left) ≡ true) → still (Some left) ≡ true
enough_behind false joint compounds above left is some_ chained = absurd cc
enough_behind true Child compounds above left is some_ chained = chained is
enough_behind true Descendant compounds above left is some_ chained = ap still (sym is) ∙ some_

-- where the chain matches here, and all match here or further up, those left match behind the chain
enough : (compounds : List Compound) (line : List What) (left : Left) → behind_chain compounds line ≡ Some left → some (matches_from compounds) (tails line) ≡ true → still (Some left) ≡ true
enough [] line left is some_ = ap still (sym is ∙ sym (chain_of_none line)) ∙ none_matches line
enough (compound ∷ compounds) [] left is some_ = let none = chain_at_none compound compounds in absurd cc
enough (compound ∷ compounds) (what ∷ above) left is some_ =
    let here = left_matches compound compounds what above some_ in
    enough_behind (fits compound what) compound.joint compounds above left (sym (chain_turn compound compounds what above) ∙ is) here (λ chained. enough compounds above left chained here)

same_if_enough : (here rest all : Bool) → here ≡ all → ((here || rest) ≡ true → all ≡ true) → (here || rest) ≡ all
same_if_enough true rest all is enough_ = is
same_if_enough false true all is enough_ = sym (enough_ refl)
same_if_enough false false all is enough_ = is

nearest_is_first : (found : Option Left) (here rest : Bool) (further : Option Left) → here ≡ still found → rest ≡ still further → ((left : Left) → found ≡ Some left → (here || rest) ≡ true → still (Some left) ≡ true)
    → (here || rest) ≡ still (or_else found further)
nearest_is_first None here rest further is above enough_ = rw is above
nearest_is_first (Some left) here rest further is above enough_ = same_if_enough here rest (still (Some left)) is (enough_ left refl)

-- all match from some place on exactly where those left match behind the nearest place for the chain
pub nearest_is : (compounds : List Compound) (line : List What) → some (matches_from compounds) (tails line) ≡ still (behind_nearest compounds line)
unfolding some tails behind_nearest
nearest_is compounds [] = or-false (matches_from compounds []) ∙ chain_is compounds []
nearest_is compounds (what ∷ above) =
    nearest_is_first (behind_chain compounds (what ∷ above)) (matches_from compounds (what ∷ above)) (some (matches_from compounds) (tails above)) (behind_nearest compounds above)
    (chain_is compounds (what ∷ above)) (nearest_is compounds above) (λ left is all. enough compounds (what ∷ above) left is (here_or_above compounds what above ∙ all))

-- ---- the nearest place, turn by turn

pub nearest_found : (compounds : List Compound) (line : List What) (left : Left) → Some left ≡ behind_chain compounds line → Some left ≡ behind_nearest compounds line
unfolding behind_nearest
nearest_found compounds [] left is = is
nearest_found compounds (what ∷ above) left is = rw (← is) refl

pub nearest_ends : (compounds : List Compound) → None ≡ behind_chain compounds [] → None ≡ behind_nearest compounds []
unfolding behind_nearest
nearest_ends compounds is = is

pub nearest_goes_on : (compounds : List Compound) (what : What) (above : List What) → None ≡ behind_chain compounds (what ∷ above) → behind_nearest compounds above ≡ behind_nearest compounds (what ∷ above)
unfolding behind_nearest
nearest_goes_on compounds what above is = rw (← is) refl

-- nothing is left
pub all_matched : (parts : List Part) (line : List What) → length parts ≡ 0 → some (matches_from (from_right parts)) (tails line) ≡ true
all_matched [] line is = none_matches line
all_matched (part ∷ parts) line is = absurd (omega arith)

pub above_is_shorter : (line : List (Bor Node)) → 1 ≤ length line → length (take (length line - 1) (drop 1 line)) < length line
above_is_shorter line le = omega (arith, length-take (length line - 1) (drop 1 line), length-drop 1 line)

-- one place further, on the lists of the code
pub nearest_above : (parts : List Part) (line : List (Bor Node)) → 1 ≤ length line → None ≡ behind_chain (from_right parts) (whats_of line)
    → behind_nearest (from_right parts) (whats_of (take (length line - 1) (drop 1 line))) ≡ behind_nearest (from_right parts) (whats_of line)
nearest_above parts [] le is = absurd (omega arith)
nearest_above parts (node ∷ line) le is =
    let less : length (node ∷ line) - 1 ≡ length line = omega arith in
    let rest : take (length (node ∷ line) - 1) line ≡ line = ap (λ (n : ℕ). take n line) less ∙ take_all (length line) line (omega arith) in
    ap (λ (ns : List (Bor Node)). behind_nearest (from_right parts) (whats_of ns)) rest ∙ nearest_goes_on (from_right parts) (what_of node.now.kind) (whats_of line) is
