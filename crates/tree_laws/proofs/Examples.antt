-- Small documents: what a tree and a state weigh, where a state isn't whole, where a node that lives isn't reached, and which steps can be done.
use Rattle.std.specs.Prelude.{◌≡◌, refl, ℕ, zero, suc, ◌<◌, true, List, [], ◌∷◌, get_or, Option, Some, None, unwrap_or}
use Rattle.std.proofs.Common.{◌∙◌, ap, arith, subst, sym}
use Rattle.std.proofs.lemmas.Option.{slice_get_within}
use Rattle.html_tokens.specs.declared.tag.Tag.TheVariants as tags
use Rattle.html_read.specs.Shape.{IsShaped}
use Rattle.html_read.specs.Values as html
use Rattle.html_read.specs.Values.{Node}
use Rattle.dom_store.specs.State.{Entry, State, element, text, tree_of, tree_to}
use Rattle.dom_store.specs.Opening.{children_from, depths_from, opened}
use Rattle.dom_store.specs.Standing.{ancestors_to, below_levels, count_below, live_count, lives, parent_at}
use Rattle.dom_store.specs.Building.{with_next}
use Rattle.dom_store.specs.Edits.{EditOf, after, insert, move_to, remove, set_text}
use Rattle.dom_store.specs.Edited.{bytes_brought}
use Rattle.dom_store.specs.Exactly.{CanBeDone, CanStand}
use Rattle.dom_store.specs.Refusals.{refusal}
use Rattle.dom_store.specs.Steps.{step_of}
use Rattle.dom_store.specs.declared.error.EditError.TheVariants.{NotElement}
use Rattle.tree_laws.specs.Reached.{IsAtLevel, IsReached}
use Rattle.tree_laws.specs.Weight.{bytes, one, sum_below, total, weight_in}
use Rattle.tree_laws.specs.Wholeness.{IsWhole}
use Rattle.tree_laws.proofs.Edited.{edits_keep_whole}
use Rattle.tree_laws.proofs.Inserting.{opened_whole}
use Rattle.tree_laws.proofs.Levels.{parent_of_child}

abbrev of : List (Option Entry) → ℕ → State
of entries next = record { node_at = λ n. get_or entries n None; next = next }

-- what is said of a state: the nodes and the bytes of its tree, then of all that lives
abbrev told : State → List ℕ
told state = weight_in one (tree_of state) ∷ weight_in bytes (tree_of state) ∷ total one state ∷ total bytes state ∷ live_count state ∷ []

-- `html`, `body` with the text "ab" and an `i` with the text "cde"; the number 5 was given, and its node went
abbrev small : State
small = of (
    Some (record { parent = None; children = 1 ∷ []; what = element tags.Html None [] None [] })
    ∷ Some (record { parent = Some 0; children = 2 ∷ 3 ∷ []; what = element tags.Body None [] None [] })
    ∷ Some (record { parent = Some 1; children = []; what = text (97 ∷ 98 ∷ []) })
    ∷ Some (record { parent = Some 1; children = 4 ∷ []; what = element tags.I None [] None [] })
    ∷ Some (record { parent = Some 3; children = []; what = text (99 ∷ 100 ∷ 101 ∷ []) })
    ∷ None
    ∷ []) 6

as_it_is : told small ≡ 5 ∷ 5 ∷ 5 ∷ 5 ∷ 5 ∷ []
unfolding tree_to weight_in sum_below count_below
as_it_is = refl

-- four letters in place of two
a_text : told (after small (set_text 2 (97 ∷ 97 ∷ 97 ∷ 97 ∷ []))) ≡ 5 ∷ 7 ∷ 5 ∷ 7 ∷ 5 ∷ []
unfolding tree_to weight_in sum_below count_below
a_text = refl

-- the `i` goes with its text
a_removal : told (after small (remove 3)) ≡ 3 ∷ 2 ∷ 3 ∷ 2 ∷ 3 ∷ []
unfolding tree_to weight_in sum_below count_below below_levels
a_removal = refl

-- the text "ab" comes into the `i`
a_move : told (after small (move_to 2 3 1)) ≡ 5 ∷ 5 ∷ 5 ∷ 5 ∷ 5 ∷ []
unfolding tree_to weight_in sum_below count_below
a_move = refl

-- a `b` with the text "x" comes into the `i`
abbrev some_nodes : List Node
some_nodes = record { parent = None; kind = html.element tags.B (record { id = None; classes = []; dir = None; style = None }) } ∷ record { parent = Some 0; kind = html.text (120 ∷ []) } ∷ []

an_insertion : told (after small (insert 3 0 some_nodes ([] ∷ [] ∷ []))) ≡ 7 ∷ 6 ∷ 7 ∷ 6 ∷ 7 ∷ []
unfolding tree_to weight_in sum_below count_below children_from
an_insertion = refl

what_it_brings : bytes_brought (insert 3 0 some_nodes ([] ∷ [] ∷ [])) ≡ 1
what_it_brings = refl

-- the text stands in two elements: it is met twice, and lives once
abbrev twice : State
twice = of (
    Some (record { parent = None; children = 1 ∷ []; what = element tags.Html None [] None [] })
    ∷ Some (record { parent = Some 0; children = 2 ∷ 3 ∷ []; what = element tags.Body None [] None [] })
    ∷ Some (record { parent = Some 1; children = []; what = text (97 ∷ 98 ∷ []) })
    ∷ Some (record { parent = Some 1; children = 2 ∷ []; what = element tags.I None [] None [] })
    ∷ []) 4

met_twice : told twice ≡ 5 ∷ 4 ∷ 4 ∷ 2 ∷ 4 ∷ []
unfolding tree_to weight_in sum_below count_below
met_twice = refl

not_whole : IsWhole twice → ⊥
not_whole whole = omega (arith, whole.inside 3 2)

-- ---- reached

abbrev plain : html.Acting
plain = record { id = None; classes = []; dir = None; style = None }

-- `html` with an empty `body`
abbrev two_nodes : List Node
two_nodes = record { parent = None; kind = html.element tags.Html plain } ∷ record { parent = Some 0; kind = html.element tags.Body plain } ∷ []

abbrev two : State
two = opened two_nodes []

two_shaped : IsShaped two_nodes
two_shaped = record {
  html = (plain, refl);
  body = (plain, refl);
  others = λ place node late here. let within : place < 2 = slice_get_within two_nodes place node here in absurd (omega (arith, within, late));
}

-- an element that stands in itself, which no fragment has, would come into `body`
abbrev in_itself : EditOf
in_itself = insert 1 0 (record { parent = Some 0; kind = html.element tags.B plain } ∷ []) ([] ∷ [])

nothing_refuses : refusal two in_itself ≡ None
unfolding children_from depths_from ancestors_to count_below
nothing_refuses = refl

its_parent : parent_at (after two in_itself) 2 ≡ Some 2
unfolding children_from
its_parent = refl

-- it lives, and is below itself alone
no_level : IsWhole (after two in_itself) → (level : ℕ) → IsAtLevel (after two in_itself) level 2 → ⊥
no_level whole zero at = absurd (omega (arith, at))
no_level whole (suc level) (parent, at, there) =
    let same : 2 ≡ parent = ap (λ (o : Option ℕ). unwrap_or o 0) (sym its_parent ∙ parent_of_child (after two in_itself) whole parent 2 there) in
    no_level whole level (subst (IsAtLevel (after two in_itself) level) (sym same) at)

its_life : lives (after two in_itself) 2 ≡ true
unfolding children_from
its_life = refl

-- an edit must fit, for its nodes to be reached
not_reached : IsReached (after two in_itself) → ⊥
not_reached reached =
    let whole : IsWhole two = opened_whole two_nodes [] two_shaped in
    let (level, low, at) = reached.reached 2 its_life in
    no_level (edits_keep_whole two in_itself whole nothing_refuses) level at

-- ---- steps that can be done

-- the text that came into the `i` may go back to its place
a_move_back : CanBeDone (with_next 9 (after small (move_to 2 3 1))) (step_of small (move_to 2 3 1)).back
unfolding ancestors_to below_levels
a_move_back = refl

-- the `i` that went can stand again in `body`, and its text behind it
a_removal_back : CanBeDone (with_next 9 (after small (remove 3))) (step_of small (remove 3)).back
unfolding below_levels CanStand
a_removal_back = (
  omega arith,
  (record { drawn = omega arith; gone = refl; once = refl; parent = refl }, (record { drawn = omega arith; gone = refl; once = refl; parent = refl }, tt)),
)

-- where less than the number of its text was drawn, the text can't
not_drawn : CanBeDone (with_next 4 (after small (remove 3))) (step_of small (remove 3)).back → ⊥
unfolding below_levels CanStand
not_drawn (within, (first, (second, others))) = omega (arith, second.drawn)

-- a text stands in a `br`
abbrev in_br : State
in_br = of (
    Some (record { parent = None; children = 1 ∷ []; what = element tags.Html None [] None [] })
    ∷ Some (record { parent = Some 0; children = 2 ∷ []; what = element tags.Body None [] None [] })
    ∷ Some (record { parent = Some 1; children = 3 ∷ []; what = element tags.Br None [] None [] })
    ∷ Some (record { parent = Some 2; children = []; what = text (97 ∷ []) })
    ∷ []) 4

-- it may leave it, and then not go back: nodes must be held, for steps to lead back
out_of_br : refusal in_br (move_to 3 1 0) ≡ None
unfolding ancestors_to below_levels
out_of_br = refl

not_into_br : refusal (after in_br (move_to 3 1 0)) (move_to 3 2 0) ≡ Some NotElement
not_into_br = refl
