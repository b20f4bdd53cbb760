-- Which exact edits can be done in a small document.
use Rattle.std.specs.Prelude.{refl, ℕ, [], ◌∷◌, List, get_or, Option, Some, None}
use Rattle.std.proofs.Common.{arith, true≢false, sym}
use Rattle.std.proofs.lemmas.Option.{none-some}
use Rattle.html_tokens.specs.declared.tag.Tag.TheVariants as tags
use Rattle.dom_store.specs.State.{Entry, State, What, element, text}
use Rattle.dom_store.specs.Standing.{ancestors_to, below_levels}
use Rattle.dom_store.specs.Exact.{NumberedOf, exact_move, restore, take_nodes}
use Rattle.dom_store.specs.Exactly.{CanBeDone, CanStand}

abbrev of : List (Option Entry) → ℕ → State
of entries next = record { node_at = λ n. get_or entries n None; next = next }

abbrev div : What
div = element tags.Div None [] None []

abbrev stands : (number parent : ℕ) → What → NumberedOf
stands number parent what = record { number = number; parent = parent; what = what }

-- `html`, `body` and a `div` with a text in it; 4, 5 and 6 went
abbrev small : State
small = of (Some (record { parent = None; children = 1 ∷ []; what = element tags.Html None [] None [] })
    ∷ Some (record { parent = Some 0; children = 2 ∷ []; what = element tags.Body None [] None [] })
    ∷ Some (record { parent = Some 1; children = 3 ∷ []; what = div })
    ∷ Some (record { parent = Some 2; children = []; what = text (97 ∷ []) })
    ∷ []) 7

-- a node with one in it stands again, in the other order than their numbers
inner_first : CanBeDone small (restore 1 1 (stands 6 1 div ∷ stands 4 6 (text (98 ∷ [])) ∷ stands 5 1 div ∷ []))
unfolding CanStand
inner_first = (omega arith, (record { drawn = omega arith; gone = refl; once = refl; parent = refl }, (record { drawn = omega arith; gone = refl; once = refl; parent = refl }, (record { drawn = omega arith; gone = refl; once = refl; parent = refl }, tt))))

-- what isn't a child of the parent can be taken too, and what doesn't live
wherever : CanBeDone small (take_nodes 2 (1 ∷ 9 ∷ []))
wherever = tt

-- a number under which a node lives can't stand again
lives : CanBeDone small (restore 1 0 (stands 3 1 div ∷ [])) → ⊥
unfolding CanStand
lives can = none-some _ (sym can.1.0.gone)

-- nor one that was never drawn
undrawn : CanBeDone small (restore 1 0 (stands 7 1 div ∷ [])) → ⊥
unfolding CanStand
undrawn can = omega (arith, can.1.0.drawn)

-- nor twice the same one
twice : CanBeDone small (restore 1 0 (stands 4 1 div ∷ stands 4 1 div ∷ [])) → ⊥
unfolding CanStand
twice can = true≢false can.1.1.0.once

-- nor one before its parent
before_its_parent : CanBeDone small (restore 1 0 (stands 5 4 div ∷ stands 4 1 div ∷ [])) → ⊥
unfolding CanStand
before_its_parent can = true≢false (sym can.1.0.parent)

-- nor behind more children than there are
behind_the_last : CanBeDone small (restore 1 2 (stands 4 1 div ∷ [])) → ⊥
behind_the_last can = omega (arith, can.0)

-- what moves can be done exactly
outward : CanBeDone small (exact_move 3 1 1)
unfolding ancestors_to below_levels
outward = refl
