-- Edits that are taken back.
use Rattle.std.specs.Prelude.{◌≡◌, ℕ, ◌+◌, List, [], ◌∷◌, ◌++◌, map, take, drop, nat_eq, nat_lt, if◌then◌else◌, Option, Some, None, string_bytes}
use Rattle.css_types.specs.declared.value.Declaration.{Declaration}
use Rattle.dom_store.specs.declared.edit.Before as code_before
use Rattle.dom_store.specs.declared.edit.Before.TheVariants as stood
use Rattle.dom_store.specs.declared.edit.Stood as code_stood
use Rattle.dom_store.specs.declared.edit.Stood.TheVariants as stands
use Rattle.dom_store.specs.declared.siblings.Standing as code_standing
use Rattle.dom_store.specs.declared.siblings.Standing.TheVariants as standings
use Rattle.dom_store.specs.State.{What, Entry, State, what_of}
use Rattle.dom_store.specs.Edits.{EditOf, set_text, set_style, set_class, insert, remove, move_to, changed, changed_if, with_children, with_classes, with_own, with_put, with_what, without}

-- where a node stood among the children of the parent into which it was moved: nowhere, at one place, or more than once
-- among these
pub data StoodOf : Type 0 where
  nowhere : StoodOf
  once_at : (place : ℕ) → StoodOf
  often_among : (children : List ℕ) → StoodOf

-- what stood before an edit, without where it lies in memory
pub data BeforeOf : Type 0 where
  what_was : (number : ℕ) (what : What) → BeforeOf
  style_was : (number : ℕ) (own : List Declaration) → BeforeOf
  class_was : (number : ℕ) (words : List (List ℕ)) → BeforeOf
  inserted_in : (parent index count next : ℕ) → BeforeOf
  moved_from : (number : ℕ) (from : Option ℕ) (left : List ℕ) (parent index : ℕ) (stood : StoodOf) → BeforeOf
  not_kept : BeforeOf

abbrev pub stood_of : code_stood.Stood → StoodOf
stood_of stands.Nowhere = nowhere
stood_of (stands.At place) = once_at place
stood_of (stands.Among children) = often_among children.items

abbrev pub before_of : code_before.Before → BeforeOf
before_of (stood.Text number kind) = what_was number (what_of kind)
before_of (stood.Style number own) = style_was number own.items
before_of (stood.Class number words) = class_was number (map (λ word. string_bytes word) words.items)
before_of (stood.Insert parent index count next) = inserted_in parent index count next
before_of (stood.Move number from left parent index place) = moved_from number from left.items parent index (stood_of place)
before_of stood.NotKept = not_kept

-- the parent that a node leaves where it moves into this one
abbrev pub parent_left : (from : Option ℕ) → (parent : ℕ) → Option ℕ
parent_left None parent = None
parent_left (Some old) parent = if nat_eq old parent then None else Some old

-- a node stands in this one
abbrev pub standing_in : Option ℕ → Entry → Entry
standing_in parent entry = record entry { parent = parent }

-- the nodes from this number on are gone, and it is given next
abbrev pub up_to : (next : ℕ) → State → State
up_to next state = record { node_at = λ number. if nat_lt number next then state.node_at number else None; next = next }

-- so many children less, from the index on
abbrev pub without_run : (index count : ℕ) → List ℕ → List ℕ
without_run index count children = take index children ++ drop (index + count) children

-- the child at one place comes to another
abbrev pub turned : (from to : ℕ) → List ℕ → List ℕ
turned from to children = with_put to (take 1 (drop from children)) (without_run from 1 children)

-- the children among which a node came at this index, as they stood before
abbrev pub unplaced : StoodOf → (index : ℕ) → List ℕ → List ℕ
unplaced nowhere index children = without_run index 1 children
unplaced (once_at place) index children = turned index place children
unplaced (often_among before) index children = before

-- the state in which this stands again
abbrev pub taken_back : BeforeOf → State → State
taken_back (what_was number what) state = changed state number (with_what (λ now. what))
taken_back (style_was number own) state = changed state number (with_what (with_own own))
taken_back (class_was number words) state = changed state number (with_what (with_classes words))
taken_back (inserted_in parent index count next) state = up_to next (changed state parent (with_children (without_run index count)))
taken_back (moved_from number from left parent index stood) state =
    let standing = changed state number (standing_in from) in
    changed (changed_if standing (parent_left from parent) (with_children (λ now. left))) parent (with_children (unplaced stood index))
taken_back not_kept state = state

-- what is kept of an edit leads back to the state before; of a removal nothing is kept
abbrev pub LeadsBack : EditOf → BeforeOf → (new old : State) → Type 0
LeadsBack (set_text number letters) before new old = taken_back before new ≡ old
LeadsBack (set_style number own) before new old = taken_back before new ≡ old
LeadsBack (set_class number words) before new old = taken_back before new ≡ old
LeadsBack (insert parent index nodes own) before new old = taken_back before new ≡ old
LeadsBack (remove number) before new old = before ≡ not_kept
LeadsBack (move_to number parent index) before new old = taken_back before new ≡ old

-- ---- within the crate

-- where a number stands in a list, and what is left without it
abbrev pub IsStanding : (number : ℕ) → List ℕ → code_standing.Standing → Type 0
IsStanding number numbers standings.Nowhere = without number numbers ≡ numbers
IsStanding number numbers (standings.At place) = (take 1 (drop place numbers) ≡ number ∷ []) × (without number numbers ≡ without_run place 1 numbers)
IsStanding number numbers (standings.Among others) = others.items ≡ without number numbers
