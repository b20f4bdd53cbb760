-- The lists of claims, part by part.
use Rattle.std.proofs.Common.{◌≡◌, ℕ, ◌≤◌, Bool, List, ◌++◌, length, drop, append-nil}
use Rattle.std.proofs.lemmas.List.{drop_all}
use Rattle.css_sheet.specs.declared.counts.Specificity.{Specificity}
use Rattle.css_types.specs.declared.value.Declaration.{Declaration}
use Rattle.css_types.specs.declared.rule.Rule.{Rule}
use Rattle.css_types.specs.Rule.{rulings_of}
use Rattle.dom_store.specs.State.{What}
use Rattle.cascade.specs.declared.claim.Claim.{Claim}
use Rattle.cascade.specs.declared.claim.Origin.{Origin}
use Rattle.cascade.specs.Claims.{stated, claims_of_rules}

-- no declaration is left
pub stated_none : (all : List Claim) (origin : Bool → Origin) (own : Bool) (specificity : Specificity) (rule place i : ℕ) (declarations : List Declaration) → length declarations ≤ i
    → all ++ stated origin own specificity rule place (drop i declarations) ≡ all
unfolding stated
stated_none all origin own specificity rule place i declarations le = rw (drop_all i declarations le) (append-nil all)

-- no rule is left
pub ruled_none : (all : List Claim) (origin : Bool → Origin) (place i : ℕ) (rules : List Rule) (line : List What) → length rules ≤ i → all ++ claims_of_rules origin place (rulings_of (drop i rules)) line ≡ all
unfolding claims_of_rules
ruled_none all origin place i rules line le = rw (drop_all i rules le) (append-nil all)
