-- Rows of boxes, gone through and after a text was set.
use Rattle.std.proofs.Common.{◌≡◌, ◌∙◌, ℕ, Bool, true, false, List, Option, Some, None, IsSome, option_map, refl, sym, ap, subst, inl, inr}
use Rattle.std.specs.Prelude.{IsTrue}
use Rattle.std.proofs.lemmas.Bool.{cases_eq}
use Rattle.std.proofs.lemmas.Option.{none-some, same_Some}
use Rattle.slab.specs.Slab.{ContainsKey, Slab, get}
use Rattle.box_gen.specs.Tree.{Boxes, box, none}
use Rattle.box_arena.specs.declared.entry.Entry.{Entry}
use Rattle.box_arena.specs.At.{Node, Slots, first_at, next_at, node_at, node_of}
use Rattle.box_arena.specs.Boxes.{StandFrom}
use Rattle.box_arena.specs.Links.{first_of, next_of}
use Rattle.box_arena.specs.Reusing.{IsTree}
use Rattle.text_boxes.specs.Boxes.{node_with}
use Rattle.text_boxes.specs.Setting.{SetsText}

-- from there on boxes stand
abbrev pub IsRow : {T : Type 0} (slots : Slots T) (from : Option ℕ) → Type 0
IsRow slots from = (boxes : Boxes) × StandFrom slots from boxes

-- the first of them stands, and behind it stand boxes
pub row_begins : {T : Type 0} (boxes : Slab (Entry T)) (from : Option ℕ) (key : ℕ) → IsRow boxes.slots from → from ≡ Some key → ContainsKey boxes key × IsRow boxes.slots (next_at boxes.slots key)
row_begins boxes from key (none, at) is = absurd (none-some key (sym at ∙ is))
row_begins {T} boxes from key (box name style content inner next, (k, at, here, within, behind)) is =
    let P : ℕ → Type 0 = λ j. ContainsKey boxes j × IsRow boxes.slots (next_at boxes.slots j) in
    subst P (same_Some k key (sym at ∙ is)) (live (get boxes k) here, (next, behind))
  where
    live : (o : Option (Entry T)) → option_map (λ held. node_of held.node) (option_map (λ entry. entry.held) o) ≡ Some (record { name = name; style = style; content = content }) → IsSome o
    live None is = absurd (none-some _ is)
    live (Some entry) is = refl

module _ {T : Type 0} (old new : Slab (Entry T)) (root number : ℕ) (letters : List ℕ) (sets : SetsText old new root number letters) where
  node_after : (k : ℕ) (node : Node) → node_at old.slots k ≡ Some node → (put : Node) × (node_at new.slots k ≡ Some put)
  node_after k node is = elim (cases_eq k sets.key) [
    | inl same ↦ (node_with number letters sets.node, ap (node_at new.slots) same ∙ sets.restyles.here)
    | inr apart ↦ (node, sets.restyles.elsewhere k apart ∙ is)
  ]

  row_after : (from : Option ℕ) (row : Boxes) → StandFrom old.slots from row → IsRow new.slots from
  row_after from none is = (none, is)
  row_after from (box name style content inner next) (key, is, node, within, behind) =
      let P : Option ℕ → Type 0 = λ o. IsRow new.slots o in
      let (put, here) = node_after key (record { name = name; style = style; content = content }) node in
      let (others, inside) = subst P (sym (ap first_of (sets.restyles.links key))) (row_after (first_at old.slots key) inner within) in
      let (rest, after) = subst P (sym (ap next_of (sets.restyles.links key))) (row_after (next_at old.slots key) next behind) in
      (box put.name put.style put.content others rest, (key, is, here, inside, after))

  tree_after : IsTree old.slots root → IsTree new.slots root
  tree_after tree =
      let P : Option ℕ → Type 0 = λ o. IsRow new.slots o in
      let (put, here) = node_after root tree.node tree.is in
      let (others, inside) = subst P (sym (ap first_of (sets.restyles.links root))) (row_after (first_at old.slots root) tree.inner tree.inside) in
      record { node = put; inner = others; is = here; inside = inside }

-- a tree stands where a text was set in it, or wasn't
pub tree_stands : {T : Type 0} (old new : Slab (Entry T)) (root number : ℕ) (letters : List ℕ) (done : Bool) → (IsTrue done → SetsText old new root number letters) → (done ≡ false → new ≡ old)
    → IsTree old.slots root → IsTree new.slots root
tree_stands old new root number letters true set not tree = tree_after old new root number letters (set refl) tree
tree_stands {T} old new root number letters false set not tree = let P : Slab (Entry T) → Type 0 = λ s. IsTree s.slots root in subst P (sym (not refl)) tree
