-- What an edit of the rules leads to.
use Rattle.std.proofs.Common.{◌≡◌, ◌⊎◌, ◌∙◌, ◌+◌, ◌<◌, refl, inl, inr, ap, sym, subst, ℕ, nat_lt, Bool, true, false, if◌then◌else◌, List, [], ◌++◌, length, take, drop, Some, None, Err, arith}
use Rattle.std.proofs.lemmas.List.{append-nil, append_assoc, drop-drop, length-map, map-append, take-append-drop, take-map, drop-map}
use Rattle.std.proofs.lemmas.Bool.{lt-ltb}
use Rattle.std.proofs.lemmas.List.Elements.{All-append, All-drop, All-take}
use Rattle.css_types.specs.declared.rule.Rule.{Rule}
use Rattle.css_types.specs.Rule.{Ruling, ruling_of, rulings_of}
use Rattle.cascade.specs.Winners.{AreSaidRules}
use Rattle.dom_store.specs.State as dom
use Rattle.dom_store.specs.State.{AreSaid}
use Rattle.style_tree.specs.Styling.{styled_document}
use Rattle.box_gen.specs.Limit.{IsWithinLimits, Passes}
use Rattle.box_limits.specs.Limits.{Answers}
use Rattle.box_limits.specs.Rules.{RulesThatTurnNone, turn_none}
use Rattle.box_limits.specs.declared.error.LimitError.{LimitError}
use Rattle.box_limits.specs.declared.error.LimitError.TheVariants as limits
use Rattle.edits.specs.Change.{Change, rule, unrule}
use Rattle.edits.specs.Edited.{are_too_many, no_rule, refusal, too_many_rules, without}
use Rattle.edits.specs.Exact.{put_at, taken_at}
use Rattle.edits.specs.State.{State}
use Rattle.session.specs.declared.error.ApplyError.TheVariants as applying
use Rattle.session.specs.Editing.{IsRefusedEdit, of_limit_error, styled_after}

-- ---- boxes under rules

-- boxes that break the limit are the same ones where rules come behind that turn none
pub within_behind : RulesThatTurnNone → (rules more : List Ruling) (tree : dom.State) → turn_none more ≡ true → IsWithinLimits (styled_document rules tree) → IsWithinLimits (styled_document (rules ++ more) tree)
within_behind none rules more tree turn within =
    let same = none rules more [] tree turn in
    let more_nil : rules ++ more ++ [] ≡ rules ++ more = append-nil (rules ++ more) in
    let P : List Ruling → Type 0 = λ list. IsWithinLimits (styled_document list tree) in
    subst P more_nil (record { turns = same ∙ (subst P (sym (append-nil rules)) within).turns })

-- rules are those before one, that one, and those behind it
parts : (index : ℕ) (rules : List Ruling) → take index rules ++ take 1 (drop index rules) ++ drop (index + 1) rules ≡ rules
parts index rules =
    append_assoc (take index rules) (take 1 (drop index rules)) (drop (index + 1) rules)
    ∙ ap (λ (rest : List Ruling). take index rules ++ (take 1 (drop index rules) ++ rest)) (sym (drop-drop 1 index rules))
    ∙ ap (λ (rest : List Ruling). take index rules ++ rest) (take-append-drop 1 (drop index rules))
    ∙ take-append-drop index rules

pub within_without : RulesThatTurnNone → (rules : List Ruling) (index : ℕ) (tree : dom.State) → turn_none (take 1 (drop index rules)) ≡ true → IsWithinLimits (styled_document rules tree)
    → IsWithinLimits (styled_document (without index rules) tree)
within_without none rules index tree turn within =
    let P : List Ruling → Type 0 = λ list. IsWithinLimits (styled_document list tree) in
    record { turns = sym (none (take index rules) (take 1 (drop index rules)) (drop (index + 1) rules) tree turn) ∙ (subst P (sym (parts index rules)) within).turns }

-- ---- numbers that a style sheet can say

pub said_behind : (rules more : List Ruling) → AreSaidRules rules → AreSaidRules more → AreSaidRules (rules ++ more)
said_behind rules more said also = All-append (λ (rule : Ruling). AreSaid rule.declarations) rules more said also

pub said_without : (index : ℕ) (rules : List Ruling) → AreSaidRules rules → AreSaidRules (without index rules)
said_without index rules said =
    All-append (λ (rule : Ruling). AreSaid rule.declarations) (take index rules) (drop (index + 1) rules)
    (All-take (λ (rule : Ruling). AreSaid rule.declarations) index rules said) (All-drop (λ (rule : Ruling). AreSaid rule.declarations) (index + 1) rules said)

-- ---- rules in memory

pub rulings_without : (index : ℕ) (rules : List Rule) → rulings_of (take index rules ++ drop (index + 1) rules) ≡ without index (rulings_of rules)
rulings_without index rules =
    map-append ruling_of (take index rules) (drop (index + 1) rules)
    ∙ ap (λ (front : List Ruling). front ++ rulings_of (drop (index + 1) rules)) (sym (take-map ruling_of index rules))
    ∙ ap (λ (back : List Ruling). take index (rulings_of rules) ++ back) (sym (drop-map ruling_of (index + 1) rules))

-- rules come among others
pub rulings_put : (index : ℕ) (rules more : List Rule) → rulings_of (take index rules ++ (more ++ drop index rules)) ≡ put_at index (rulings_of more) (rulings_of rules)
rulings_put index rules more =
    map-append ruling_of (take index rules) (more ++ drop index rules)
    ∙ ap (λ (back : List Ruling). rulings_of (take index rules) ++ back) (map-append ruling_of more (drop index rules))
    ∙ ap (λ (front : List Ruling). front ++ (rulings_of more ++ rulings_of (drop index rules))) (sym (take-map ruling_of index rules))
    ∙ ap (λ (back : List Ruling). take index (rulings_of rules) ++ (rulings_of more ++ back)) (sym (drop-map ruling_of index rules))

-- and go from among them
pub rulings_taken : (index count : ℕ) (rules : List Rule) → rulings_of (take index rules ++ drop (index + count) rules) ≡ taken_at index count (rulings_of rules)
rulings_taken index count rules =
    map-append ruling_of (take index rules) (drop (index + count) rules)
    ∙ ap (λ (front : List Ruling). front ++ rulings_of (drop (index + count) rules)) (sym (take-map ruling_of index rules))
    ∙ ap (λ (back : List Ruling). take index (rulings_of rules) ++ back) (sym (drop-map ruling_of (index + count) rules))

-- there are as many
pub has_rule : (index : ℕ) (rules : List Rule) → index < length rules → nat_lt index (length (rulings_of rules)) ≡ true
has_rule index rules lt = let same = length-map rules ruling_of in lt-ltb index (length (rulings_of rules)) (omega (arith, lt, same))

-- all of a document with these rules
abbrev pub with_rules : State → List Ruling → State
with_rules state rules = record state { rules = rules }

-- ---- outcomes

module _ (state : State) where
  pub too_many : (more : List Ruling) → are_too_many (state.rules ++ more) ≡ true → refusal state (rule more) ≡ Some too_many_rules
  too_many more is = ap (λ (b : Bool). if b then Some too_many_rules else None) is

  pub not_too_many : (more : List Ruling) → are_too_many (state.rules ++ more) ≡ false → refusal state (rule more) ≡ None
  not_too_many more is = ap (λ (b : Bool). if b then Some too_many_rules else None) is

  pub no_such : (index : ℕ) → nat_lt index (length state.rules) ≡ false → refusal state (unrule index) ≡ Some no_rule
  no_such index is = ap (λ (b : Bool). if b then None else Some no_rule) is

  pub is_there : (index : ℕ) → nat_lt index (length state.rules) ≡ true → refusal state (unrule index) ≡ None
  is_there index is = ap (λ (b : Bool). if b then None else Some no_rule) is

  -- what the boxes are refused for is what the edit is refused for
  pub limit_refuses : (change : Change) (rules : List Ruling) (error : LimitError) → refusal state change ≡ None → Answers rules state.tree (Err error) → styled_document rules state.tree ≡ styled_after state change
      → (of_limit_error error ≡ applying.Memory) ⊎ IsRefusedEdit state change (of_limit_error error)
  limit_refuses change rules (limits.Limit limit) none passes is = inr (none, subst (λ (nodes : _). Passes nodes limit) is passes)
  limit_refuses change rules limits.Memory none answers is = inl refl
