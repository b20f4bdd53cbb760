-- The line of a node, node by node.
use Rattle.std.proofs.Common.{◌≡◌, ℕ, zero, suc, ◌+◌, ◌-◌, ◌<◌, ◌≤◌, List, [], ◌∷◌, ◌++◌, length, take, refl, sym, ap, ◌∙◌, append_assoc, append-nil, arith, Option, Some, None, option_and_then}
use Rattle.std.specs.Borrow.{Bor}
use Rattle.std.specs.Prelude.{slice_set}
use Rattle.std.proofs.lemmas.List.{take_more_set, map-append}
use Rattle.dom_store.specs.State.{Entry, State, entry_of, what_of, line_to}
use Rattle.dom_store.specs.declared.node.Node.{Node}
use Rattle.cascade.specs.Line.{whats_of}

-- what the nodes are, and what stands above them, is the line
abbrev pub IsClimbing : State → (node : ℕ) → (nodes : List (Bor Node)) → (length : ℕ) → (last : Node) → Type 0
IsClimbing state node nodes length last =
    whats_of (take length nodes) ++ line_to (64 - length) state last.parent ≡ line_to 64 state (Some node)

goes_on : (state : State) (most : ℕ) (parent : Option ℕ) (e : Entry) → Some e ≡ option_and_then state.node_at parent → 0 < most → line_to most state parent ≡ e.what ∷ line_to (most - 1) state e.parent
unfolding line_to
goes_on state zero parent e is lt = absurd (omega arith)
goes_on state (suc most) None e is lt = absurd cc
goes_on state (suc most) (Some number) e is lt =
    let less : suc most - 1 ≡ most = omega arith in
    rw (← is, less) refl

stops : (state : State) (most : ℕ) (parent : Option ℕ) → None ≡ option_and_then state.node_at parent → line_to most state parent ≡ []
unfolding line_to
stops state zero parent is = refl
stops state (suc most) None is = refl
stops state (suc most) (Some number) is = rw (← is) refl

full : (state : State) (parent : Option ℕ) → line_to 0 state parent ≡ []
unfolding line_to
full state parent = refl

-- ---- the steps of the climb

pub line_of_none : (state : State) (node : ℕ) → None ≡ state.node_at node → line_to 64 state (Some node) ≡ []
line_of_none state node is = stops state 64 (Some node) is

pub climb_begins : (state : State) (node : ℕ) (last : Node) → Some (entry_of last) ≡ state.node_at node → what_of last.kind ∷ line_to 63 state last.parent ≡ line_to 64 state (Some node)
climb_begins state node last is = sym (goes_on state 64 (Some node) (entry_of last) is (omega arith))

pub climb_goes_on : (state : State) (node : ℕ) (nodes after : List (Bor Node)) (length_ : ℕ) (last : Node) (parent : Bor Node) → length nodes ≡ 64 → length_ < 64
    → Some (entry_of parent.now) ≡ option_and_then state.node_at last.parent → after ≡ slice_set nodes length_ parent → IsClimbing state node nodes length_ last → IsClimbing state node after (length_ + 1) parent.now
climb_goes_on state node nodes after length_ last parent long lt is set now =
    let most : 64 - (length_ + 1) ≡ 64 - length_ - 1 = omega arith in
    let one = goes_on state (64 - length_) last.parent (entry_of parent.now) is (omega arith) in
    let taken : take (length_ + 1) after ≡ take length_ nodes ++ parent ∷ [] = ap (take (length_ + 1)) set ∙ take_more_set nodes length_ parent (omega arith) in
    rw (taken, most) (simp (map-append, append_assoc) (rw one at now))

pub climb_ends : (state : State) (node : ℕ) (nodes : List (Bor Node)) (length_ : ℕ) (last : Node) → None ≡ option_and_then state.node_at last.parent → IsClimbing state node nodes length_ last
    → whats_of (take length_ nodes) ≡ line_to 64 state (Some node)
climb_ends state node nodes length_ last is now = sym (append-nil _) ∙ (rw (stops state (64 - length_) last.parent is) at now)

pub climb_fills : (state : State) (node : ℕ) (nodes : List (Bor Node)) (length_ : ℕ) (last : Node) → 64 ≤ length_ → IsClimbing state node nodes length_ last
    → whats_of (take length_ nodes) ≡ line_to 64 state (Some node)
climb_fills state node nodes length_ last le now =
    let none : 64 - length_ ≡ 0 = omega arith in
    sym (append-nil _) ∙ (rw (none, full state last.parent) at now)
