-- What an arena has for the boxes of a page, told by their names: the page stands in the arena, or an earlier one of which some boxes are the same.
use Rattle.std.specs.Prelude.{◌≡◌, ℕ, ◌+◌, ◌≤◌, Bool, false, List, Contains, filter, length, Option, Some, None, IsSome, option_map}
use Rattle.slab.specs.Slab.{Slab}
use Rattle.face_api.specs.Table.{Table}
use Rattle.wm_units.specs.declared.view.View.{View}
use Rattle.fragment_types.specs.declared.constraint.Constraint.{Constraint}
use Rattle.fragment_types.specs.declared.item.BoxName.{BoxName}
use Rattle.box_gen.specs.Places.{AreAlike, IsPlaceOf, Place, paragraphs, tree_of}
use Rattle.box_gen.specs.Tree.{Boxes, box, none}
use Rattle.box_arena.specs.declared.entry.Entry.{Entry}
use Rattle.box_arena.specs.At.{IsSound, Node, Slots, kept_at, node_at, parent_at, text_at}
use Rattle.box_arena.specs.Boxes.{Stands}
use Rattle.box_arena.specs.Reusing.{AreNamedOnce, LosesNothing, Reuses, around_at}
use Rattle.para_prepare.specs.Preparation.{Preparation}
use Rattle.relayout.specs.Asks.{Pair, asks}
use Rattle.relayout.specs.Counts.{AreFoundedUnder, ArrangedRise, IsAllKept, TextsRise}
use Rattle.relayout.specs.Laws.{IsBare}

-- ---- what is found

-- the mode of the box under a root is that of this page
abbrev pub HasMode : Slots Preparation → (root : ℕ) → (page : Boxes) → Type 0
HasMode slots root none = ⊥
HasMode slots root (box name style content inner next) = (node : Node) × (node_at slots root ≡ Some node) × (node.style.mode ≡ style.mode)

-- a box of this name, this style and this content stands in the arena, and its text is kept
pub record HasTextOf (slots : Slots Preparation) (place : Place) : Type 0 where
  pub key : ℕ
  pub node : node_at slots key ≡ Some (record { name = place.name; style = place.style; content = place.content })
  pub text : IsSome (text_at slots key)

-- this box stands there with those inside it, in a box whose lines run alike, and its result for a constraint is kept
pub record HasResultOf (slots : Slots Preparation) (place : Place) (c : Constraint) : Type 0 where
  pub key : ℕ
  pub tree : Stands slots key (tree_of place)
  pub around : AreAlike (option_map (λ node. node.style) (around_at slots key)) place.around
  pub kept : IsSome (kept_at slots key c)

-- the text of the box of this name in a page is found, if there is such a box
pub record FindsText (slots : Slots Preparation) (root : ℕ) (page : Boxes) (name : BoxName) : Type 0 where
  pub mode : HasMode slots root page
  pub text : (place : Place) → IsPlaceOf page place → place.name ≡ name → HasTextOf slots place

-- what the box of this name in a page comes to under this constraint is found, if there is such a box
pub record FindsResult (slots : Slots Preparation) (root : ℕ) (page : Boxes) (pair : Pair) : Type 0 where
  pub mode : HasMode slots root page
  pub result : (place : Place) → IsPlaceOf page place → place.name ≡ pair.name → HasResultOf slots place pair.constraint

-- the text of each paragraph of a page is found, and each pair that is met in its layout
pub record FindsAll (faces : List (Option Table)) (view : View) (slots : Slots Preparation) (root : ℕ) (page : Boxes) : Type 0 where
  pub texts : (name : BoxName) → Contains (paragraphs page) name → FindsText slots root page name
  pub results : (pair : Pair) → Contains (asks faces view page) pair → FindsResult slots root page pair

-- ---- how often

-- texts are prepared for no more paragraphs of a page than are owed, where the text of each other one is found
abbrev pub PreparesOwed : Slots Preparation → (root : ℕ) → (page : Boxes) → (was is : ℕ) → Type 0
PreparesOwed slots root page was is =
    (owed : BoxName → Bool) → ((name : BoxName) → Contains (paragraphs page) name → owed name ≡ false → FindsText slots root page name)
    → is ≤ was + length (filter owed (paragraphs page))

-- contents are arranged for no more pairs that are met in a page than are owed, where each other one is found
abbrev pub ArrangesOwed : (faces : List (Option Table)) → View → Slots Preparation → (root : ℕ) → (page : Boxes) → (was is : ℕ) → Type 0
ArrangesOwed faces view slots root page was is =
    (owed : Pair → Bool) → ((pair : Pair) → Contains (asks faces view page) pair → owed pair ≡ false → FindsResult slots root page pair)
    → is ≤ was + length (filter owed (asks faces view page))

-- ---- laws

-- a page stands under a root of an arena, in which each box is told by its name
pub record IsPageUnder (slots : Slots Preparation) (root : ℕ) (page : Boxes) : Type 0 where
  pub stands : Stands slots root page
  pub free : parent_at slots root ≡ None
  pub named : AreNamedOnce slots
  pub sound : IsSound slots

-- what `relayout` says of its counters by keys holds by names too
pub record CountsAreByName : Type 0 where
  pub texts : (slots : Slots Preparation) (root : ℕ) (page : Boxes) (was is : ℕ) → IsPageUnder slots root page → TextsRise slots root was is → PreparesOwed slots root page was is
  pub arranged : (faces : List (Option Table)) (view : View) (slots : Slots Preparation) (root : ℕ) (page : Boxes) (was is : ℕ) → IsPageUnder slots root page
      → ArrangedRise faces view slots root was is → ArrangesOwed faces view slots root page was is
  pub kept : (faces : List (Option Table)) (view : View) (slots : Slots Preparation) (root : ℕ) (page : Boxes) → IsPageUnder slots root page
      → IsAllKept faces view slots root → FindsAll faces view slots root page

-- what is kept of an earlier page goes to an arena in which a page stands and nothing is kept
pub record HandsOver (giver given old new : Slab (Entry Preparation)) (root : ℕ) (page : Boxes) : Type 0 where
  pub under : IsPageUnder old.slots root page
  pub bare : IsBare old.slots
  pub reuses : Reuses giver given old new
  pub all : LosesNothing giver.slots old.slots new.slots root

-- what was found before is found then, and with each result that is kept there is all that was met where its box was laid out
pub record ReusedIsFound : Type 0 where
  pub texts : (giver given old new : Slab (Entry Preparation)) (from root : ℕ) (page : Boxes) (name : BoxName) → HandsOver giver given old new root page
      → FindsText giver.slots from page name → FindsText new.slots root page name
  pub results : (giver given old new : Slab (Entry Preparation)) (from root : ℕ) (page : Boxes) (pair : Pair) → HandsOver giver given old new root page
      → FindsResult giver.slots from page pair → FindsResult new.slots root page pair
  pub founded : (faces : List (Option Table)) (view : View) (giver given old new : Slab (Entry Preparation)) (from root : ℕ) (page : Boxes) → HandsOver giver given old new root page
      → IsSound giver.slots → HasMode giver.slots from page → AreFoundedUnder faces view giver.slots from → AreFoundedUnder faces view new.slots root

-- where nothing is kept, nothing rests on anything
abbrev pub BareIsFounded : Type 0
BareIsFounded = (faces : List (Option Table)) (view : View) (slots : Slots Preparation) (root : ℕ) → IsBare slots → AreFoundedUnder faces view slots root
