-- Nodes above and below others, one level at a time.
use Rattle.std.proofs.Common.{◌≡◌, ℕ, zero, suc, ◌-◌, ◌<◌, [], ◌∷◌, ◌++◌, refl, ap, arith, Option, Some, None}
use Rattle.std.specs.Prelude.{flat_map}
use Rattle.dom_store.specs.State.{State}
use Rattle.dom_store.specs.Standing.{ancestors_to, below_levels, children_at, parent_at, unless_skipped}

one_less : (n : ℕ) → 0 < n → n ≡ suc (n - 1)
one_less n some = omega (arith, some)

pub up_none : (most : ℕ) (state : State) → ancestors_to most state None ≡ []
unfolding ancestors_to
up_none zero state = refl
up_none (suc most) state = refl

pub up_zero : (state : State) (number : Option ℕ) → ancestors_to 0 state number ≡ []
unfolding ancestors_to
up_zero state number = refl

-- a node, and those above its parent
pub up_some : (most : ℕ) (state : State) (number : ℕ) → 0 < most → ancestors_to most state (Some number) ≡ number ∷ ancestors_to (most - 1) state (parent_at state number)
unfolding ancestors_to
up_some most state number some = ap (λ (m : ℕ). ancestors_to m state (Some number)) (one_less most some)

pub no_level : (skipped : ℕ) (state : State) (number : ℕ) → below_levels skipped 0 state number ≡ []
unfolding below_levels
no_level skipped state number = refl

-- a node, and those below its children
pub levels_at : (skipped levels : ℕ) (state : State) (number : ℕ) → 0 < levels
    → below_levels skipped levels state number ≡ unless_skipped skipped number ++ flat_map (below_levels (skipped - 1) (levels - 1) state) (children_at state number)
unfolding below_levels
levels_at skipped levels state number some = ap (λ (l : ℕ). below_levels skipped l state number) (one_less levels some)
