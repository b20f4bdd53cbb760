-- The least of some nodes, and of all.
use Rattle.std.proofs.Common.{◌≡◌, ◌∙◌, ℕ, suc, ◌+◌, ◌<◌, Bool, true, false, List, [], ◌∷◌, refl, ap, sym, subst, arith, Option, Some, None, inl}
use Rattle.std.specs.Prelude.{filter, is_some}
use Rattle.std.specs.List.{Contains}
use Rattle.css_types.specs.Rule.{Ruling}
use Rattle.dom_store.specs.State.{Entry, State, line, tree_to}
use Rattle.dom_store.specs.Standing.{children_at}
use Rattle.tree_laws.specs.Reached.{IsAtLevel}
use Rattle.style_tree.specs.Styling.{styled_document, styled_in}
use Rattle.box_gen.specs.declared.found.Found.{Found}
use Rattle.box_gen.specs.Building.{least}
use Rattle.box_gen.specs.Found.{found_from, past_from}
use Rattle.box_gen.specs.Orthogonal.{IsLeastOf, root_past}
use Rattle.box_gen.proofs.Least.{least_is, none_least}
use Rattle.box_limits.specs.declared.place.Place.{Place}
use Rattle.box_limits.specs.Limits.{AreCovered, AreThoseThatBreak, IsLeastAmong, all_below, breaks}
use Rattle.box_limits.specs.Lines.{place_on}
use Rattle.box_limits.specs.Judging.{AreInside, FindsAll, FindsBelow, IsTree}
use Rattle.box_limits.proofs.Among.{IsIn, contained, found, from_all, kept, passes}
use Rattle.box_limits.proofs.Judged.{past_are}
use Rattle.box_limits.proofs.Levels.{child_lives, one_level}
use Rattle.box_limits.proofs.Parts.{two_at}
use Rattle.box_limits.proofs.Walks.{breaking_lives, walks}

module _ (rules : List Ruling) (state : State) (among : List ℕ) where
  abbrev those_among : List ℕ
  those_among = filter (breaks rules state) among

  said_not : (number : ℕ) (is : Bool) → breaks rules state number ≡ is → (breaks rules state number ≡ true → ⊥) → breaks rules state number ≡ false
  said_not number true is never = absurd (never is)
  said_not number false is never = is

  least_among : (o : Option ℕ) → o ≡ least those_among → IsLeastAmong rules state among o
  least_among None is = λ number there.
      said_not number (breaks rules state number) refl (λ good. subst (IsIn number) (none_least those_among (sym is)) (kept (breaks rules state) number among (found number among there) good))
  least_among (Some number) is =
      let (there, first) = least_is those_among number (sym is) in
      let in_ = found number those_among there in (
        contained number among (from_all (breaks rules state) number among in_),
        passes (breaks rules state) number among in_,
        λ other at good. first other (contained other those_among (kept (breaks rules state) other among (found other among at) good)),
      )

  module _ (cover : AreCovered rules state among) where
    none_at_all : (numbers : List ℕ) → AreThoseThatBreak rules state numbers → ((number : ℕ) → Contains among number → breaks rules state number ≡ false) → numbers ≡ []
    none_at_all [] those none = refl
    none_at_all (number ∷ numbers) those none =
        let (living, good) = (those number).0 (contained number (number ∷ numbers) (inl refl)) in
        absurd (let both : false ≡ true = sym (none number (cover number living good)) ∙ good in cc)

    least_of_all : (numbers : List ℕ) → AreThoseThatBreak rules state numbers → (o : Option ℕ) → IsLeastAmong rules state among o → IsLeastOf numbers o
    least_of_all numbers those None none = none_at_all numbers those none
    least_of_all numbers those (Some number) (there, good, first) = (
      (those number).1 (breaking_lives rules state number good, good),
      λ other at. let (living, good_too) = (those other).0 at in first other (cover other living good_too) good_too,
    )

module _ (rules : List Ruling) (state : State) (tree : IsTree state) where
  within : (level number : ℕ) → IsAtLevel state (suc level) number → suc level < 64
  within level number (parent, above, contains) =
      let (entry, here, stands) = child_lives state tree.whole parent number (found number (children_at state parent) contains) in
      let (own, deep, at) = tree.reached.reached number (ap (λ (o : Option Entry). is_some o) here) in
      let same : suc level ≡ own = one_level state tree.whole (suc level) own number (parent, above, contains) at in
      omega (arith, same, deep)

  -- children of a node, and all below them
  pub finds_below : (parent : ℕ) (numbers : List ℕ) → AreInside state parent numbers → (place : Place) → ((level : ℕ) → IsAtLevel state level parent → level < 64 → place ≡ place_on rules (line state parent))
      → (result : Found) → result ≡ found_from place.site (styled_in rules state place.style (tree_to 64 state numbers)) → FindsBelow rules state numbers result
  finds_below parent numbers inside place placed result is =
      let (level, below) = inside.below in
      let at : IsAtLevel state (suc level) parent = let same : level + 1 ≡ suc level = omega arith in subst (λ (n : ℕ). IsAtLevel state n parent) same below in
      let listed : past_from place.site (styled_in rules state place.style (tree_to 64 state numbers)) ≡ filter (breaks rules state) (all_below state numbers) =
      walks rules state tree.whole tree.reached 64 (suc level) parent place numbers at (two_at state tree.rooted tree.whole tree.reached level parent at) (placed (suc level) at (within level parent at))
      (λ number there. found number (children_at state parent) (inside.children number (contained number numbers there))) in
      least_among rules state (all_below state numbers) result.past (ap (λ (f : Found). f.past) is ∙ ap least listed)

  -- where no other node breaks the limit
  pub finds_all : (among : List ℕ) (result : Found) → AreCovered rules state among → IsLeastAmong rules state among result.past → FindsAll rules state result
  finds_all among result cover =
      least_of_all rules state among cover (root_past (styled_document rules state)) (past_are rules state tree.rooted tree.whole tree.reached) result.past
