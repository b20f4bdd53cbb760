-- A kept character stands at a place of its text.
use Rattle.std.proofs.Common.{◌≡◌, ap, subst, sym, ℕ, ◌+◌, ◌<◌, ◌≤◌, ◌^◌, Bool, true, false, List, [], ◌∷◌, length, slice_index_or, drop, arith}
use Rattle.std.specs.Prelude.{All}
use Rattle.std.specs.Str.{chars}
use Rattle.std.specs.String.{string_bytes}
use Rattle.std.proofs.lemmas.List.{length-map}
use Rattle.std.proofs.lemmas.List.Elements.{All-append, All-cons}
use Rattle.std.proofs.lemmas.Str.{encodes-chars, IsUtf8-string_bytes, length-le-encodes}
use Rattle.fragment_types.specs.Item.{entries_of, entry_of}
use Rattle.fragment_types.specs.declared.item.Item.{Item}
use Rattle.fragment_types.specs.declared.item.Item.TheVariants as items
use Rattle.para_prepare.specs.declared.letter.Letter.{Letter}
use Rattle.para_prepare.specs.Kept.{joined, kept, kept_from, kept_in}
use Rattle.para_prepare.specs.Limits.{bytes_in, text_bytes}
use Rattle.para_prepare.specs.Views.{IsPlaced}
use Rattle.para_prepare.specs.White.{chosen, letter, marks, sign_of, signs_in}
use Rattle.para_prepare.proofs.ContentLaws.{bytes_at}

-- an item has fewer signs than places can tell
item_signs : (item : Item) → bytes_in (entry_of item) ≤ 1048576 → length (signs_in (entry_of item)) < 2 ^ 32
item_signs (items.Text node letters style) few =
    let fewer = length-le-encodes (chars (string_bytes letters)) in
    let same = ap length (encodes-chars (string_bytes letters) (IsUtf8-string_bytes letters)) in
    let each = length-map (chars (string_bytes letters)) sign_of in
    omega arith
item_signs (items.Open node style opens) few = omega arith
item_signs (items.Close node closes) few = omega arith
item_signs (items.Atom name) few = omega arith
item_signs (items.Break node) few = omega arith

pub few_signs : (items : List Item) (i : ℕ) (item : Item) → i < length items → item ≡ slice_index_or items i item → text_bytes (entries_of items) ≤ 1048576
    → length (signs_in (entry_of item)) < 2 ^ 32
few_signs items i item lt is few = let here = bytes_at items i item lt is in item_signs item (omega arith)

chosen_placed : (place : ℕ) (cs : List ℕ) (marks : List Bool) → place + length cs ≤ 1048576 → All IsPlaced (chosen place cs marks)
chosen_placed place [] marks few = λ k d lt. absurd (omega arith)
chosen_placed place (c ∷ cs) [] few = λ k d lt. absurd (omega arith)
chosen_placed place (c ∷ cs) (true ∷ marks) few =
    All-cons IsPlaced (letter place c) (chosen (place + 1) cs marks) (omega arith) (chosen_placed (place + 1) cs marks (omega arith))
chosen_placed place (c ∷ cs) (false ∷ marks) few = chosen_placed (place + 1) cs marks (omega arith)

item_placed : (item : Item) (marks : List Bool) → bytes_in (entry_of item) ≤ 1048576 → All IsPlaced (kept_in (entry_of item) marks)
item_placed (items.Text node letters style) marks few =
    let fewer = length-le-encodes (chars (string_bytes letters)) in
    let same = ap length (encodes-chars (string_bytes letters) (IsUtf8-string_bytes letters)) in
    chosen_placed 0 (chars (string_bytes letters)) marks (omega arith)
item_placed (items.Open node style opens) marks few = λ k d lt. absurd (omega arith)
item_placed (items.Close node closes) marks few = λ k d lt. absurd (omega arith)
item_placed (items.Atom name) marks few = λ k d lt. absurd (omega arith)
item_placed (items.Break node) marks few = λ k d lt. absurd (omega arith)

all_placed : (items : List Item) (marks : List Bool) → text_bytes (entries_of items) ≤ 1048576 → All IsPlaced (joined (kept_from (entries_of items) marks))
all_placed [] marks few = λ k d lt. absurd (omega arith)
all_placed (item ∷ items) marks few =
    let left = drop (length (signs_in (entry_of item))) marks in
    All-append IsPlaced (kept_in (entry_of item) marks) (joined (kept_from (entries_of items) left)) (item_placed item marks (omega arith)) (all_placed items left (omega arith))

pub placed_of : (items : List Item) (letters : List Letter) → letters ≡ joined (kept (entries_of items)) → text_bytes (entries_of items) ≤ 1048576 → All IsPlaced letters
unfolding kept
placed_of items letters is few = subst (All IsPlaced) (sym is) (all_placed items (marks (entries_of items)) few)
