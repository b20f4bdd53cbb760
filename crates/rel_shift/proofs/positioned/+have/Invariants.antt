use Rattle.std.proofs.Common.{◌≡◌, ℕ, drop}
use Rattle.std.specs.List.{list_any}
use Rattle.style_types.specs.Tree.{all_nodes_of}
use Rattle.rel_shift.specs.Positions.{has_insets, positions_in}
use Rattle.rel_shift.proofs.positioned.+have.Given as goal

-- there is one among those to come where there is one among all
abbrev pub invariant-have_relative-loop-node : goal.invariant-have_relative-loop-node
invariant-have_relative-loop-node l = (parent holder : ℕ)
    → list_any has_insets (positions_in parent holder (all_nodes_of (drop l.node-index l.nodes))) ≡ list_any has_insets (positions_in parent holder (all_nodes_of l.nodes))
