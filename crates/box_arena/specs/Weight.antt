-- Freeing a box and all inside it: what is inside a child is lifted before it, until no child is left.
use Rattle.std.specs.Prelude.{ℕ, nat_eq, Bool, false, List, Option, Some, None, option_map, sum_by, cond}
use Rattle.box_arena.specs.declared.entry.Entry.{Entry}
use Rattle.box_arena.specs.declared.entry.Links.{Links}

abbrev pub is_child : (root : ℕ) (parent : Option ℕ) → Bool
is_child root None = false
is_child root (Some p) = nat_eq p root

-- how many steps a box still takes: one more where it isn't a child of the root
abbrev pub links_weight : (root : ℕ) → Option Links → ℕ
links_weight root None = 0
links_weight root (Some links) = cond (is_child root links.parent) 1 2

abbrev pub weight : {T : Type 0} → (root : ℕ) → List (Option (Entry T)) → ℕ
weight root slots = sum_by (λ slot. links_weight root (option_map (λ entry. entry.links) slot)) slots
