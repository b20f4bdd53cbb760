-- Which tree of boxes stands under a key.
use Rattle.std.specs.Prelude.{◌≡◌, ℕ, Option, Some, None}
use Rattle.box_gen.specs.Tree.{Boxes, none, box}
use Rattle.box_arena.specs.At.{Slots, node_at, first_at, next_at}

module _ {T : Type 0} where
  -- from there on these boxes stand one behind the other, each with those inside it
  abbrev pub StandFrom : Slots T → Option ℕ → Boxes → Type 0
  StandFrom slots from none = from ≡ None
  StandFrom slots from (box name style content inner next) =
      (key : ℕ) × (from ≡ Some key) × (node_at slots key ≡ Some (record { name = name; style = style; content = content }))
      × StandFrom slots (first_at slots key) inner × StandFrom slots (next_at slots key) next

  -- under this key stands this box, with those inside it
  abbrev pub Stands : Slots T → (key : ℕ) → Boxes → Type 0
  Stands slots key none = ⊥
  Stands slots key (box name style content inner next) =
      (node_at slots key ≡ Some (record { name = name; style = style; content = content }))
      × StandFrom slots (first_at slots key) inner × (next ≡ none)
