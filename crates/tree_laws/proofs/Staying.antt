-- Nodes that stay reached: where nodes are changed, where others go, and where one is moved.
use Rattle.std.proofs.Common.{◌≡◌, ◌∙◌, ◌⊎◌, ℕ, zero, suc, ◌+◌, ◌-◌, ◌<◌, ◌≤◌, Bool, true, false, List, [], ◌∷◌, refl, ap, sym, subst, arith, Option, Some, None, option_map, if◌then◌else◌, inl, inr}
use Rattle.std.specs.Prelude.{nat_eq, is_some, ◌≢◌}
use Rattle.std.specs.List.{Contains, list_any}
use Rattle.std.proofs.lemmas.Bool.{cases_eq, cases_lt, eq-eqb, false≢true}
use Rattle.basic_laws.proofs.Lists.{any_contained, contained_any}
use Rattle.dom_store.specs.State.{What, Entry, State, greatest_depth}
use Rattle.dom_store.specs.Standing.{children_at, depth_at, inclusive_ancestors, inclusive_descendants, lives, parent_at}
use Rattle.dom_store.specs.Edits.{changed, moved, removed, with_children, with_moved, with_parent, with_what, without}
use Rattle.tree_laws.specs.Reached.{IsAtLevel, IsReached}
use Rattle.tree_laws.specs.Wholeness.{IsWhole, times}
use Rattle.tree_laws.proofs.Keeping.{children_of, left, left_lives, lives_changed, parent_children, what_children}
use Rattle.tree_laws.proofs.Levels.{IsBelow, ancestor_of_chain, chain_of_descendant, contained_times, descendant_of_chain, level_above, level_below, level_depth, times_contained}
use Rattle.tree_laws.proofs.Refusing.{Moves}
use Rattle.tree_laws.proofs.Times.{others_without, times-put, times_moved}

-- ---- nodes stay where they are

-- where each node keeps its children, it keeps its level
pub level_kept : (one other : State) → ((number child : ℕ) → Contains (children_at one number) child → Contains (children_at other number) child) → (level number : ℕ) → IsAtLevel one level number → IsAtLevel other level number
level_kept one other keeps zero number at = at
level_kept one other keeps (suc level) number (parent, at, there) = (parent, level_kept one other keeps level parent at, keeps parent number there)

pub what_reached : (state : State) (number : ℕ) (change : What → What) → IsReached state → IsReached (changed state number (with_what change))
what_reached state number change reached = record {
  reached = λ other alive.
      let (level, low, at) = reached.reached other (sym (lives_changed (with_what change) (nat_eq other number) (state.node_at other)) ∙ alive) in (
        level,
        low,
        level_kept state (changed state number (with_what change))
            (λ parent child there. subst (λ (children : List ℕ). Contains children child) (sym (what_children change (nat_eq parent number) (state.node_at parent))) there) level other at,
      );
}

-- ---- a node goes

module _ (state : State) (number : ℕ) where
  left_at : (child : ℕ) → child ≢ number → (here : Bool) (o : Option Entry) → times child (children_of o) ≤ times child (children_of (if here then option_map (with_children (without number)) o else o))
  left_at child apart true None = omega arith
  left_at child apart true (Some entry) = others_without number child entry.children apart
  left_at child apart false o = omega arith

  -- the other children stay
  left_others : (parent : Option ℕ) (child other : ℕ) → child ≢ number → times child (children_at state other) ≤ times child (children_at (left state number parent) other)
  left_others None child other apart = omega arith
  left_others (Some parent) child other apart = left_at child apart (nat_eq other parent) (state.node_at other)

  stays_alive : (out : Bool) (o : Option Entry) → is_some (if out then None else o) ≡ true → (out ≡ false) × (is_some o ≡ true)
  stays_alive true o alive = absurd (false≢true alive)
  stays_alive false o alive = (refl, alive)

module _ (state : State) (whole : IsWhole state) (reached : IsReached state) (number : ℕ) where
  abbrev gone : List ℕ
  gone = inclusive_descendants state number

  abbrev mid : State
  mid = left state number (parent_at state number)

  -- below one that goes, all go
  pub goes_on : (level parent child : ℕ) → suc level < greatest_depth → IsAtLevel state level parent → Contains (children_at state parent) child → Contains gone parent → Contains gone child
  goes_on level parent child low at there goes =
      let (levels, none, few, below) = chain_of_descendant state greatest_depth 0 number parent goes in
      let (above, sum, top) = level_above state whole levels level number parent at below in
      descendant_of_chain state (suc levels) 0 greatest_depth number child (omega arith) (omega (arith, sum, low)) (parent, below, there)

  itself_goes : Contains gone number
  itself_goes = descendant_of_chain state 0 0 greatest_depth number number (omega arith) (omega arith) refl

  stays : (parent child : ℕ) → list_any (nat_eq parent) gone ≡ false → list_any (nat_eq child) gone ≡ false → Contains (children_at state parent) child → Contains (children_at (removed state number) parent) child
  stays parent child parent_stays child_stays there =
      let apart : child ≢ number = λ same. false≢true (sym child_stays ∙ any_contained gone child (subst (Contains gone) (sym same) itself_goes)) in
      let many : times child (children_at state parent) ≤ times child (children_at mid parent) = left_others state number (parent_at state number) child parent apart in
      let same : children_at (removed state number) parent ≡ children_at mid parent = ap (λ (b : Bool). children_of (if b then None else mid.node_at parent)) parent_stays in
      subst (λ (children : List ℕ). Contains children child) (sym same) (contained_times (children_at mid parent) child (omega (arith, many, times_contained (children_at state parent) child there)))

  parent_stays : (level parent child : ℕ) (b : Bool) → list_any (nat_eq parent) gone ≡ b → suc level < greatest_depth → IsAtLevel state level parent → list_any (nat_eq child) gone ≡ false → Contains (children_at state parent) child
      → list_any (nat_eq parent) gone ≡ false
  parent_stays level parent child true goes low at child_stays there =
      absurd (false≢true (sym child_stays ∙ any_contained gone child (goes_on level parent child low at there (contained_any gone parent goes))))
  parent_stays level parent child false is low at child_stays there = is

  level_stays : (level child : ℕ) → level < greatest_depth → list_any (nat_eq child) gone ≡ false → IsAtLevel state level child → IsAtLevel (removed state number) level child
  level_stays zero child low child_stays at = at
  level_stays (suc level) child low child_stays (parent, at, there) =
      let its = parent_stays level parent child (list_any (nat_eq parent) gone) refl low at child_stays there in
      (parent, level_stays level parent (omega (arith, low)) its at, stays parent child its child_stays there)

  pub removed_reached : IsReached (removed state number)
  removed_reached = record {
    reached = λ other alive.
        let (other_stays, was) = stays_alive state number (list_any (nat_eq other) gone) (mid.node_at other) alive in
        let (level, low, at) = reached.reached other (sym (left_lives state number (parent_at state number) other) ∙ was) in
        (level, low, level_stays level other low other_stays at);
  }

-- ---- a node is moved

moved_at : (number index child : ℕ) → child ≢ number → (here : Bool) (o : Option Entry) → times child (children_of o) ≤ times child (children_of (if here then option_map (with_children (with_moved number index)) o else o))
moved_at number index child apart true None = omega arith
moved_at number index child apart true (Some entry) = omega (arith, times-put index child (number ∷ []) (without number entry.children), others_without number child entry.children apart)
moved_at number index child apart false o = omega arith

put_there : (number index : ℕ) (o : Option Entry) → is_some o ≡ true → 1 ≤ times number (children_of (option_map (with_children (with_moved number index)) o))
put_there number index None alive = absurd (false≢true alive)
put_there number index (Some entry) alive = omega (arith, times_moved number index entry.children)

module _ (state : State) (whole : IsWhole state) (reached : IsReached state) (number parent index : ℕ) (moves : Moves state number parent) where
  abbrev away : State
  away = left state number (parent_at state number)

  abbrev put : State
  put = changed away parent (with_children (with_moved number index))

  abbrev new : State
  new = moved state number parent index

  new_children : (other : ℕ) → children_at new other ≡ children_at put other
  new_children other = parent_children parent (nat_eq other number) (put.node_at other)

  new_lives : (other : ℕ) → lives new other ≡ lives state other
  new_lives other =
      lives_changed (with_parent parent) (nat_eq other number) (put.node_at other)
      ∙ (lives_changed (with_children (with_moved number index)) (nat_eq other parent) (away.node_at other) ∙ left_lives state number (parent_at state number) other)

  others_kept : (other child : ℕ) → child ≢ number → Contains (children_at state other) child → Contains (children_at new other) child
  others_kept other child apart there =
      let many : times child (children_at state other) ≤ times child (children_at put other) =
      omega (arith, left_others state number (parent_at state number) child other apart, moved_at number index child apart (nat_eq other parent) (away.node_at other)) in
      subst (λ (children : List ℕ). Contains children child) (sym (new_children other)) (contained_times (children_at put other) child (omega (arith, many, times_contained (children_at state other) child there)))

  there_now : Contains (children_at new parent) number
  there_now =
      let alive : lives away parent ≡ true = left_lives state number (parent_at state number) parent ∙ moves.parent_lives in
      let same : children_at put parent ≡ children_of (option_map (with_children (with_moved number index)) (away.node_at parent)) =
      ap (λ (b : Bool). children_of (if b then option_map (with_children (with_moved number index)) (away.node_at parent) else away.node_at parent)) (eq-eqb parent parent refl) in
      subst (λ (children : List ℕ). Contains children number) (sym (new_children parent ∙ same)) (contained_times _ number (put_there number index (away.node_at parent) alive))

  -- a node keeps its level, or it is as far below the moved node as before
  abbrev Follows : (level other : ℕ) → Type 0
  Follows level other = IsAtLevel new level other ⊎ ((levels : ℕ) × (levels ≤ level) × IsBelow state number levels other × IsBelow new number levels other)

  further : (level upper other : ℕ) → other ≢ number → Contains (children_at state upper) other → Follows level upper → Follows (suc level) other
  further level upper other apart there (inl at) = inl (upper, at, others_kept upper other apart there)
  further level upper other apart there (inr (levels, few, below, now)) = inr (suc levels, omega (arith, few), (upper, below, there), (upper, now, others_kept upper other apart there))

  follows : (level other : ℕ) → IsAtLevel state level other → Follows level other
  follows zero other at = inl at
  follows (suc level) other (upper, at, there) = elim (cases_eq other number) [
    | inl same ↦ inr (0, omega arith, same, same)
    | inr apart ↦ further level upper other apart there (follows level upper at)
  ]

  -- the new parent isn't below the moved node
  parent_kept : (level : ℕ) → level < greatest_depth → Follows level parent → IsAtLevel new level parent
  parent_kept level low (inl at) = at
  parent_kept level low (inr (levels, few, below, now)) =
      absurd (false≢true (sym moves.apart ∙ any_contained (inclusive_ancestors state parent) number (ancestor_of_chain state whole levels greatest_depth number parent (omega (arith, few, low)) below)))

  module _ (upper : ℕ) (low : upper < greatest_depth) (at : IsAtLevel state upper parent) where
    number_at : IsAtLevel new (suc upper) number
    number_at = (parent, parent_kept upper low (follows upper parent at), there_now)

    -- a node so far below the moved one still stands no deeper than it may
    still_shallow : (levels other : ℕ) → levels < greatest_depth → IsBelow state number levels other → suc upper + levels < greatest_depth
    still_shallow levels other few below = elim (cases_lt (suc upper + levels) greatest_depth) [
      | inl within ↦ within
      | inr past ↦
          let depth : depth_at state parent ≡ upper + 1 = level_depth state whole upper parent low at in
          absurd (moves.shallow other (descendant_of_chain state levels (greatest_depth - depth_at state parent) greatest_depth number other (omega (arith, depth, past)) few below))
    ]

    is_reached : (level other : ℕ) → level < greatest_depth → Follows level other → (level : ℕ) × (level < greatest_depth) × IsAtLevel new level other
    is_reached level other within (inl at) = (level, within, at)
    is_reached level other within (inr (levels, few, below, now)) =
        (suc upper + levels, still_shallow levels other (omega (arith, few, within)) below, level_below new (suc upper) levels number other number_at now)

  pub moved_reached : IsReached new
  moved_reached = record {
    reached = λ other alive.
        let (upper, low, at) = reached.reached parent moves.parent_lives in
        let (level, within, its) = reached.reached other (sym (new_lives other) ∙ alive) in
        is_reached upper low at level other within (follows level other its);
  }
