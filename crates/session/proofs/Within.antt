-- Boxes stay within their limit where a node goes, and other edits are taken back.
use Rattle.std.proofs.Common.{◌≡◌, ℕ, List, [], ◌∷◌, refl, ap, sym, subst, arith}
use Rattle.std.specs.List.{Contains}
use Rattle.css_types.specs.Rule.{Ruling}
use Rattle.dom_store.specs.State.{State}
use Rattle.dom_store.specs.Edits.{EditOf, set_text, set_style, set_class, insert, remove, move_to, after}
use Rattle.dom_store.specs.Laws.{KeepRoots}
use Rattle.dom_store.specs.Taking.{BeforeOf, LeadsBack, taken_back}
use Rattle.tree_laws.specs.Laws.{ChildrenHaveParents, EditsKeepWhole}
use Rattle.tree_laws.specs.Reached.{EditsKeepReached}
use Rattle.style_tree.specs.Styling.{styled_document}
use Rattle.box_gen.specs.Limit.{IsWithinLimits}
use Rattle.box_limits.specs.Limits.{DocumentsAreJudgedByLines, EditsAreJudgedByTheirParts, IsEditedFrom, all_below, part, touched}
use Rattle.session.specs.Editing.{CanBeTakenBack}
use Rattle.session.proofs.Limiting.{none_there}

-- a list of no number
empty : (numbers : List ℕ) → ((number : ℕ) → Contains numbers number → ⊥) → numbers ≡ []
empty [] none = refl
empty (number ∷ numbers) none = absurd (none number (0, omega arith, refl))

-- after an edit that touches no node on which boxes hang no box breaks the limit
untouched_within : DocumentsAreJudgedByLines → EditsAreJudgedByTheirParts → KeepRoots → ChildrenHaveParents → EditsKeepWhole → EditsKeepReached
    → (rules : List Ruling) (next state : State) (edit : EditOf) → touched state edit ≡ [] → IsEditedFrom rules edit next state → IsWithinLimits (styled_document rules next)
untouched_within by_lines by_parts roots parents whole reached rules next state edit none edited =
    let judged = by_lines rules (after state edit) (roots state edit edited.rooted (parents state edited.whole) edited.taken) (whole state edit edited.whole edited.taken)
    (reached state edit edited.fitting edited.rooted edited.whole edited.reached edited.taken) in
    let stay = by_parts rules state edit edited.fitting edited.rooted edited.whole edited.reached edited.taken edited.within in
    subst (λ (s : State). IsWithinLimits (styled_document rules s)) (sym edited.is) (record {
      turns = empty _ (λ other held. let told = (judged other).0 held in none_there (part state edit) other (ap (all_below (after state edit)) none) (stay other told.0 told.1));
    })

-- as a removal
pub removed_within : DocumentsAreJudgedByLines → EditsAreJudgedByTheirParts → KeepRoots → ChildrenHaveParents → EditsKeepWhole → EditsKeepReached
    → (rules : List Ruling) (next state : State) (number : ℕ) → IsEditedFrom rules (remove number) next state → IsWithinLimits (styled_document rules next)
removed_within by_lines by_parts roots parents whole reached rules next state number edited = untouched_within by_lines by_parts roots parents whole reached rules next state (remove number) refl edited

-- and a text that is set
pub text_within : DocumentsAreJudgedByLines → EditsAreJudgedByTheirParts → KeepRoots → ChildrenHaveParents → EditsKeepWhole → EditsKeepReached
    → (rules : List Ruling) (next state : State) (number : ℕ) (letters : List ℕ) → IsEditedFrom rules (set_text number letters) next state → IsWithinLimits (styled_document rules next)
text_within by_lines by_parts roots parents whole reached rules next state number letters edited =
    untouched_within by_lines by_parts roots parents whole reached rules next state (set_text number letters) refl edited

-- what is kept of another edit leads back
pub leads_back : (edit : EditOf) (before : BeforeOf) (new old : State) → CanBeTakenBack edit → LeadsBack edit before new old → taken_back before new ≡ old
leads_back (set_text number letters) before new old can leads = leads
leads_back (set_style number own) before new old can leads = leads
leads_back (set_class number words) before new old can leads = leads
leads_back (insert parent index nodes own) before new old can leads = leads
leads_back (remove number) before new old can leads = absurd can
leads_back (move_to number parent index) before new old can leads = leads
