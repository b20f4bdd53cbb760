-- Small arenas, by computation: box 0 holds 1 and 2, box 1 holds 3, and 4 isn't attached.
use Rattle.std.specs.Prelude.{◌≡◌, ℕ, zero, suc, refl, Bool, true, false, [], ◌∷◌, Option, Some, None, pos}
use Rattle.fragment_types.specs.declared.fragment.Fragment.{Fragment}
use Rattle.fragment_types.specs.Fragment.{piece_of}
use Rattle.style_types.specs.Initial.{initial}
use Rattle.box_gen.specs.declared.tree.BoxNode.{BoxNode}
use Rattle.box_gen.specs.declared.tree.Content.TheVariants.{Blocks}
use Rattle.box_gen.specs.Tree.{Boxes, none, box, blocks}
use Rattle.box_arena.specs.declared.entry.Entry.{Entry}
use Rattle.box_arena.specs.At.{Slots, HasChildren, IsAbove, kept_at, parent_at, text_at}
use Rattle.box_arena.specs.Boxes.{Stands}
use Rattle.box_arena.specs.Results.{Results, result_for}

abbrev node : ℕ → BoxNode
node n = record { name = record { node = n; ordinal = 0 }; style = initial; content = Blocks }

abbrev linked : (n : ℕ) (parent first last previous next : Option ℕ) → Option (Entry ℕ)
linked n parent first last previous next =
    Some (record { links = record { parent = parent; first = first; last = last; previous = previous; next = next }; mark = record { marked = false; seen = false }; held = record { node = node n; text = None; results = [] } })

abbrev five : Slots ℕ
five =
    linked 10 None (Some 1) (Some 2) None None ∷ linked 11 (Some 0) (Some 3) (Some 3) None (Some 2) ∷ linked 12 (Some 0) None None (Some 1) None
    ∷ linked 13 (Some 1) None None None None ∷ linked 14 None None None None None ∷ []

the_parent_of_3 : parent_at five 3 ≡ Some 1
the_parent_of_3 = refl

the_children_of_0 : HasChildren five 0 (1 ∷ 2 ∷ [])
the_children_of_0 = (refl, (refl, refl))

above_3 : IsAbove five 0 3
above_3 = (suc (suc zero), (3, refl, (1, refl, refl)))

itself : IsAbove five 4 4
itself = (zero, refl)

-- the tree under 0, and that under 1 without what stands behind it
abbrev boxed : (n : ℕ) (inner next : Boxes) → Boxes
boxed n inner next = box (record { node = n; ordinal = 0 }) initial blocks inner next

the_tree_under_0 : Stands five 0 (boxed 10 (boxed 11 (boxed 13 none none) (boxed 12 none none)) none)
the_tree_under_0 = (refl, (1, refl, refl, (3, refl, refl, refl, refl), (2, refl, refl, refl, refl)), refl)

the_tree_under_1 : Stands five 1 (boxed 11 (boxed 13 none none) none)
the_tree_under_1 = (refl, (3, refl, refl, refl, refl), refl)

-- results are kept by both sizes, and known sizes are others than unknown ones
two_results : (f g : Fragment) → Results
two_results f g = ((Some (pos 64), None), f) ∷ ((Some (pos 64), Some (pos 128)), g) ∷ []

by_both : (f g : Fragment) → result_for (two_results f g) (record { inline = Some (pos 64); block = Some (pos 128) }) ≡ Some g
unfolding two_results
by_both f g = refl

with_no_block_size : (f g : Fragment) → result_for (two_results f g) (record { inline = Some (pos 64); block = None }) ≡ Some f
unfolding two_results
with_no_block_size f g = refl

not_kept : (f g : Fragment) → result_for (two_results f g) (record { inline = None; block = Some (pos 128) }) ≡ None
unfolding two_results
not_kept f g = refl

-- a mark hides what is kept
marked_slots : (marked : Bool) (f g : Fragment) → Slots ℕ
marked_slots marked f g =
    Some (record { links = record { parent = None; first = None; last = None; previous = None; next = None }; mark = record { marked = marked; seen = false }; held = record { node = node 10; text = Some 7; results = two_results f g } }) ∷ []

kept_unmarked : (f g : Fragment) → kept_at (marked_slots false f g) 0 (record { inline = Some (pos 64); block = None }) ≡ Some (piece_of f)
unfolding two_results marked_slots
kept_unmarked f g = refl

nothing_marked : (f g : Fragment) → kept_at (marked_slots true f g) 0 (record { inline = Some (pos 64); block = None }) ≡ None
unfolding two_results marked_slots
nothing_marked f g = refl

text_marked : (f g : Fragment) → text_at (marked_slots true f g) 0 ≡ Some 7
unfolding two_results marked_slots
text_marked f g = refl
