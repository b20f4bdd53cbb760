-- What stands at a key of an arena.
use Rattle.std.specs.Prelude.{ℕ, Bool, List, Option, None, option_map, option_and_then, slice_index_or, if◌then◌else◌}
use Rattle.fragment_types.specs.declared.constraint.Constraint.{Constraint}
use Rattle.fragment_types.specs.declared.item.BoxName.{BoxName}
use Rattle.style_types.specs.declared.style.Style.{Style}
use Rattle.fragment_types.specs.Fragment.{Pieces, piece_of}
use Rattle.box_gen.specs.declared.tree.BoxNode as code_node
use Rattle.box_gen.specs.Tree.{Content, content_of}
use Rattle.box_arena.specs.declared.entry.Entry.{Entry}
use Rattle.box_arena.specs.declared.entry.Held.{Held}
use Rattle.box_arena.specs.Links.{IsLinked, Linking, Reaches, Chain, parent_of, first_of, next_of}
use Rattle.box_arena.specs.Marks.{IsStill, Marking, is_marked}
use Rattle.box_arena.specs.Results.{result_for}

-- a box: its name, its style and what it holds
pub record Node : Type 0 where
  pub name : BoxName
  pub style : Style
  pub content : Content

abbrev pub node_of : code_node.BoxNode → Node
node_of node = record { name = node.name; style = node.style; content = content_of node.content }

-- what an arena has under each key from 0 on
abbrev pub Slots : (T : Type 0) → Type 0
Slots T = List (Option (Entry T))

module _ {T : Type 0} where
  abbrev pub links_at : Slots T → Linking
  links_at slots key = option_map (λ entry. entry.links) (slice_index_or slots key None)

  abbrev pub mark_at : Slots T → Marking
  mark_at slots key = option_map (λ entry. entry.mark) (slice_index_or slots key None)

  abbrev pub held_at : Slots T → (key : ℕ) → Option (Held T)
  held_at slots key = option_map (λ entry. entry.held) (slice_index_or slots key None)

  -- its parent
  abbrev pub parent_at : Slots T → (key : ℕ) → Option ℕ
  parent_at slots key = parent_of (links_at slots key)

  -- its first child
  abbrev pub first_at : Slots T → (key : ℕ) → Option ℕ
  first_at slots key = first_of (links_at slots key)

  -- the sibling behind it
  abbrev pub next_at : Slots T → (key : ℕ) → Option ℕ
  next_at slots key = next_of (links_at slots key)

  -- whether it is marked: what is kept for it is out of date
  abbrev pub marked_at : Slots T → (key : ℕ) → Bool
  marked_at slots key = is_marked (mark_at slots key)

  abbrev pub node_at : Slots T → (key : ℕ) → Option Node
  node_at slots key = option_map (λ held. node_of held.node) (held_at slots key)

  -- what was prepared of its text
  abbrev pub text_at : Slots T → (key : ℕ) → Option T
  text_at slots key = option_and_then (λ held. held.text) (held_at slots key)

  -- what was laid out for a constraint, marked or not
  abbrev pub result_at : Slots T → (key : ℕ) (c : Constraint) → Option Pieces
  result_at slots key c = option_and_then (λ held. option_map piece_of (result_for held.results c)) (held_at slots key)

  -- what is kept for a constraint: nothing for a marked box
  abbrev pub kept_at : Slots T → (key : ℕ) (c : Constraint) → Option Pieces
  kept_at slots key c = if marked_at slots key then None else result_at slots key c

  -- `k` is the box under the key, its parent, that one's parent, and so on
  abbrev pub IsAbove : Slots T → (k key : ℕ) → Type 0
  IsAbove slots k key = Reaches (links_at slots) k key

  -- the children of a box are these, in order
  abbrev pub HasChildren : Slots T → (key : ℕ) → List ℕ → Type 0
  HasChildren slots key ks = Chain (links_at slots) (first_at slots key) ks

  -- what holds of every arena
  pub record IsSound (slots : Slots T) : Type 0 where
    pub linked : IsLinked (links_at slots)
    pub still : IsStill (mark_at slots)
