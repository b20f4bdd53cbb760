-- A node that stands below another has its parent there too.
use Rattle.std.proofs.Common.{◌≡◌, ℕ, zero, suc, ◌+◌, ◌≤◌, List, [], ◌∷◌, ◌++◌, refl, ap, arith, Option, Some, None}
use Rattle.std.specs.Prelude.{flat_map, option_to_list}
use Rattle.dom_store.specs.State.{State}
use Rattle.dom_store.specs.Standing.{below_levels, children_at}
use Rattle.tree_laws.specs.Wholeness.{times}
use Rattle.tree_laws.proofs.Times.{hit, hit_turned, times-append}

-- how often a parent is in a list, where there is one
abbrev pub above : (parent : Option ℕ) → List ℕ → ℕ
above None numbers = 0
above (Some parent) numbers = times parent numbers

above-append : (parent : Option ℕ) (one two : List ℕ) → above parent (one ++ two) ≡ above parent one + above parent two
above-append None one two = refl
above-append (Some parent) one two = times-append parent one two

-- a parent that stands before others
above_first : (parent : Option ℕ) (number : ℕ) (others : List ℕ) → times number (option_to_list parent) + above parent others ≤ above parent (number ∷ others)
above_first None number others = omega arith
above_first (Some parent) number others = omega (arith, hit_turned number parent)

pub no_level : (state : State) (numbers : List ℕ) → flat_map (below_levels 0 0 state) numbers ≡ []
unfolding below_levels
no_level state [] = refl
no_level state (number ∷ numbers) = no_level state numbers

module _ (state : State) (child : ℕ) (parent : Option ℕ) (inside : (number : ℕ) → times child (children_at state number) ≤ times number (option_to_list parent)) where
  abbrev Reaches : (levels : ℕ) → Type 0
  Reaches levels = (number : ℕ) → times child (below_levels 0 (suc levels) state number) ≤ hit child number + above parent (below_levels 0 levels state number)

  reach_all : (levels : ℕ) → Reaches levels → (numbers : List ℕ)
      → times child (flat_map (below_levels 0 (suc levels) state) numbers) ≤ times child numbers + above parent (flat_map (below_levels 0 levels state) numbers)
  reach_all levels reaches [] = omega arith
  reach_all levels reaches (number ∷ numbers) =
      let lower : List ℕ = below_levels 0 (suc levels) state number in
      let higher : List ℕ = below_levels 0 levels state number in
      omega (
        arith,
        times-append child lower (flat_map (below_levels 0 (suc levels) state) numbers),
        above-append parent higher (flat_map (below_levels 0 levels state) numbers),
        reaches number,
        reach_all levels reaches numbers,
      )

  -- a node below another is that node, or its parent is there one level higher
  pub reach : (levels : ℕ) → Reaches levels
  unfolding below_levels
  reach zero number = omega (arith, ap (times child) (no_level state (children_at state number)))
  reach (suc levels) number =
      omega (
        arith,
        reach_all levels (reach levels) (children_at state number),
        inside number,
        above_first parent number (flat_map (below_levels 0 levels state) (children_at state number)),
      )

-- on more levels there are no fewer nodes
more_all : (state : State) (levels child : ℕ) → ((number : ℕ) → times child (below_levels 0 levels state number) ≤ times child (below_levels 0 (suc levels) state number)) → (numbers : List ℕ)
    → times child (flat_map (below_levels 0 levels state) numbers) ≤ times child (flat_map (below_levels 0 (suc levels) state) numbers)
more_all state levels child more [] = omega arith
more_all state levels child more (number ∷ numbers) =
    let lower : List ℕ = below_levels 0 (suc levels) state number in
    let higher : List ℕ = below_levels 0 levels state number in
    omega (
      arith,
      times-append child lower (flat_map (below_levels 0 (suc levels) state) numbers),
      times-append child higher (flat_map (below_levels 0 levels state) numbers),
      more number,
      more_all state levels child more numbers,
    )

pub more_levels : (state : State) (levels child number : ℕ) → times child (below_levels 0 levels state number) ≤ times child (below_levels 0 (suc levels) state number)
unfolding below_levels
more_levels state zero child number = omega arith
more_levels state (suc levels) child number = omega (arith, more_all state levels child (more_levels state levels child) (children_at state number))
