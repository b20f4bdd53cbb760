-- The declarations of rules that were filed, part by part.
use Rattle.std.proofs.Common.{◌≡◌, ℕ, zero, suc, ◌+◌, ◌<◌, ◌≤◌, Bool, List, [], ◌∷◌, ◌++◌, length, drop, map, get_or, append-nil, append_assoc, refl, ap, sym, ◌∙◌, arith, Option, Some, None, option_map}
use Rattle.std.specs.Prelude.{slice_get}
use Rattle.std.specs.Borrow.{Bor}
use Rattle.std.specs.String.{string_bytes}
use Rattle.std.proofs.lemmas.List.{drop_all, drop_more}
use Rattle.css_types.specs.declared.rule.Rule.{Rule}
use Rattle.dom_store.specs.declared.node.Node.{Node}
use Rattle.dom_store.specs.State.{What, what_of}
use Rattle.cascade.specs.declared.claim.Claim.{Claim}
use Rattle.cascade.specs.declared.claim.Origin.{Origin}
use Rattle.cascade.specs.declared.shelves.Shelves.{Shelves}
use Rattle.cascade.specs.Filing.{Heading, headings_of_id, upper_headings, upper_headings_of, shelf, claims_if, claims_at, claims_under}
use Rattle.cascade.specs.Line.{whats_of}
use Rattle.cascade.proofs.Shelving.{Letters}

-- no rule is at this place
pub none_there : (all : List Claim) (origin : Bool → Origin) (place : ℕ) (rule : Option Rule) (line : List What) → None ≡ rule → all ≡ all ++ claims_if origin place rule line
none_there all origin place rule line none = sym (ap (λ (r : Option Rule). all ++ claims_if origin place r line) (sym none) ∙ append-nil all)

-- no place is left
pub placed_none : (all : List Claim) (origin : Bool → Origin) (rules : List Rule) (i : ℕ) (places : List ℕ) (line : List What) → length places ≤ i → all ++ claims_at origin rules (drop i places) line ≡ all
unfolding claims_at
placed_none all origin rules i places line le = rw (drop_all i places le) (append-nil all)

pub nothing_at : (rules : List Rule) (place : ℕ) → length rules ≤ place → None ≡ slice_get rules place
nothing_at [] place le = refl
nothing_at (rule ∷ rules) zero le = absurd (omega arith)
nothing_at (rule ∷ rules) (suc place) le = nothing_at rules place (omega arith)

-- ---- those under headings

under_none : (all : List Claim) (origin : Bool → Origin) (rules : List Rule) (shelves : Shelves) (line : List What) → all ++ claims_under origin rules shelves [] line ≡ all
unfolding claims_under
under_none all origin rules shelves line = append-nil all

under_one : (all : List Claim) (origin : Bool → Origin) (rules : List Rule) (shelves : Shelves) (under : Heading) (line : List What)
    → all ++ claims_under origin rules shelves (under ∷ []) line ≡ all ++ claims_at origin rules (shelf shelves under) line
unfolding claims_under
under_one all origin rules shelves under line = ap (λ (l : List Claim). all ++ l) (append-nil (claims_at origin rules (shelf shelves under) line))

under_more : (origin : Bool → Origin) (rules : List Rule) (shelves : Shelves) (under : Heading) (others : List Heading) (line : List What)
    → claims_under origin rules shelves (under ∷ others) line ≡ claims_at origin rules (shelf shelves under) line ++ claims_under origin rules shelves others line
unfolding claims_under
under_more origin rules shelves under others line = refl

pub under_both : (origin : Bool → Origin) (rules : List Rule) (shelves : Shelves) (one other : List Heading) (line : List What)
    → claims_under origin rules shelves (one ++ other) line ≡ claims_under origin rules shelves one line ++ claims_under origin rules shelves other line
unfolding claims_under
under_both origin rules shelves [] other line = refl
under_both origin rules shelves (under ∷ one) other line =
    ap (λ (l : List Claim). claims_at origin rules (shelf shelves under) line ++ l) (under_both origin rules shelves one other line)
    ∙ sym (append_assoc (claims_at origin rules (shelf shelves under) line) (claims_under origin rules shelves one line) (claims_under origin rules shelves other line))

-- no class is left
pub classes_none : (all : List Claim) (origin : Bool → Origin) (rules : List Rule) (shelves : Shelves) (of : List ℕ → Heading) (i : ℕ) (classes : List Letters) (line : List What) → length classes ≤ i
    → all ++ claims_under origin rules shelves (map of (map (λ c. string_bytes c) (drop i classes))) line ≡ all
classes_none all origin rules shelves of i classes line le = rw (drop_all i classes le) (under_none all origin rules shelves line)

-- no element above is left
pub above_none : (all : List Claim) (origin : Bool → Origin) (rules : List Rule) (shelves : Shelves) (i : ℕ) (above : List (Bor Node)) (line : List What) → length above ≤ i
    → all ++ claims_under origin rules shelves (upper_headings (whats_of (drop i above))) line ≡ all
unfolding upper_headings
above_none all origin rules shelves i above line le = rw (drop_all i above le) (under_none all origin rules shelves line)

-- an id or none
pub under_id : (all after : List Claim) (origin : Bool → Origin) (rules : List Rule) (shelves : Shelves) (of : List ℕ → Heading) (own : Option Letters) (id : Letters) (name places : List ℕ) (line : List What)
    → own ≡ Some id → name ≡ string_bytes id → places ≡ shelf shelves (of name) → after ≡ all ++ claims_at origin rules places line
    → after ≡ all ++ claims_under origin rules shelves (headings_of_id of (option_map (λ i. string_bytes i) own)) line
under_id all after origin rules shelves of own id name places line is named found put =
    put ∙ ap (λ (l : List ℕ). all ++ claims_at origin rules l line) (found ∙ ap (λ (n : List ℕ). shelf shelves (of n)) named)
    ∙ sym (under_one all origin rules shelves (of (string_bytes id)) line)
    ∙ ap (λ (o : Option Letters). all ++ claims_under origin rules shelves (headings_of_id of (option_map (λ i. string_bytes i) o)) line) (sym is)

pub under_no_id : (all : List Claim) (origin : Bool → Origin) (rules : List Rule) (shelves : Shelves) (of : List ℕ → Heading) (own : Option Letters) (line : List What) → own ≡ None
    → all ≡ all ++ claims_under origin rules shelves (headings_of_id of (option_map (λ i. string_bytes i) own)) line
under_no_id all origin rules shelves of own line is =
    sym (under_none all origin rules shelves line) ∙ ap (λ (o : Option Letters). all ++ claims_under origin rules shelves (headings_of_id of (option_map (λ i. string_bytes i) o)) line) (sym is)

-- what stands behind what was put under a heading
pub under_then : (all one two : List Claim) (origin : Bool → Origin) (rules : List Rule) (shelves : Shelves) (under : Heading) (others : List Heading) (line : List What)
    → one ≡ all ++ claims_at origin rules (shelf shelves under) line → two ≡ one ++ claims_under origin rules shelves others line → two ≡ all ++ claims_under origin rules shelves (under ∷ others) line
under_then all one two origin rules shelves under others line first rest =
    rest ∙ ap (λ (l : List Claim). l ++ claims_under origin rules shelves others line) first
    ∙ append_assoc all (claims_at origin rules (shelf shelves under) line) (claims_under origin rules shelves others line)
    ∙ ap (λ (l : List Claim). all ++ l) (sym (under_more origin rules shelves under others line))

pub under_parts : (all one two : List Claim) (origin : Bool → Origin) (rules : List Rule) (shelves : Shelves) (first others : List Heading) (line : List What)
    → one ≡ all ++ claims_under origin rules shelves first line → two ≡ one ++ claims_under origin rules shelves others line → two ≡ all ++ claims_under origin rules shelves (first ++ others) line
under_parts all one two origin rules shelves first others line begins rest =
    rest ∙ ap (λ (l : List Claim). l ++ claims_under origin rules shelves others line) begins
    ∙ append_assoc all (claims_under origin rules shelves first line) (claims_under origin rules shelves others line)
    ∙ ap (λ (l : List Claim). all ++ l) (sym (under_both origin rules shelves first others line))

pub under_nothing : (all : List Claim) (origin : Bool → Origin) (rules : List Rule) (shelves : Shelves) (line : List What) → all ≡ all ++ claims_under origin rules shelves [] line
under_nothing all origin rules shelves line = sym (under_none all origin rules shelves line)

-- one element above, and those behind it
pub above_more : (all after : List Claim) (origin : Bool → Origin) (rules : List Rule) (shelves : Shelves) (i : ℕ) (above : List (Bor Node)) (node : Bor Node) (line : List What) → i < length above → node ≡ get_or above i node
    → after ≡ all ++ claims_under origin rules shelves (upper_headings_of (what_of node.now.kind)) line
    → after ++ claims_under origin rules shelves (upper_headings (whats_of (drop (i + 1) above))) line ≡ all ++ claims_under origin rules shelves (upper_headings (whats_of (drop i above))) line
unfolding upper_headings
above_more all after origin rules shelves i above node line lt is put =
    let behind : List What = whats_of (drop (i + 1) above) in
    let parted : drop i above ≡ node ∷ drop (i + 1) above = drop_more above i node lt ∙ ap (λ (n : Bor Node). n ∷ drop (i + 1) above) (sym is) in
    under_parts all after (after ++ claims_under origin rules shelves (upper_headings behind) line) origin rules shelves (upper_headings_of (what_of node.now.kind)) (upper_headings behind) line put refl
    ∙ ap (λ (nodes : List (Bor Node)). all ++ claims_under origin rules shelves (upper_headings (whats_of nodes)) line) (sym parted)
