-- A line whose items all have level 0, where that is the base level too, has them in their own order.
use Rattle.std.proofs.Common.{◌≡◌, ◌∙◌, refl, sym, ap, arith, ℕ, zero, suc, ◌+◌, ◌<◌, Bool, true, false, cond, add-one, List, [], ◌∷◌, ◌++◌, append_assoc, length, map, get_or, drop, ◌≤◌, Option}
use Rattle.std.specs.Prelude.{slice_get}
use Rattle.std.specs.List.{All, filter_map, range_with_len}
use Rattle.std.proofs.lemmas.List.{drop_more, get_or-map, length-map, map_push}
use Rattle.wm_chars.specs.declared.classes.BidiClass.{BidiClass}
use Rattle.bidi_order.specs.Blanks.{leads_out, reset}
use Rattle.bidi_order.specs.Laws.{LevelZeroStays}
use Rattle.bidi_order.specs.Visual.{visual_order}
use Rattle.line_place.specs.declared.leaves.Leaf as code
use Rattle.line_place.specs.Line.{Item, Line, no_item}
use Rattle.line_place.specs.Leaves.{Leaf, are_spaces, leaf, leaf_in, leaves, leaves_from, levels_of, in_logical_order}
use Rattle.line_place.proofs.ReachLaws.{from_length}

abbrev levels_in : List Item → List ℕ
levels_in items = map (λ (item : Item). item.level) items

-- ---- one item more

pub one_more : (items : List Item) (k : ℕ) (hangs : Bool) (made : List code.Leaf) (whole : List Leaf)
    → k < length items → (get_or items k no_item).level ≡ 0 → are_spaces (drop k items) ≡ hangs
    → map (leaf_in items) made ++ leaves_from k (drop k (levels_in items)) (drop k items) ≡ whole
    → map (leaf_in items) (made ++ record { place = k; level = 0; hangs = hangs } ∷ []) ++ leaves_from (k + 1) (drop (k + 1) (levels_in items)) (drop (k + 1) items) ≡ whole
one_more items k hangs made whole lt zero_level spaces before =
    let x : Item = get_or items k no_item in
    let own : code.Leaf = record { place = k; level = 0; hangs = hangs } in
    let rest : List Leaf = leaves_from (k + 1) (drop (k + 1) (levels_in items)) (drop (k + 1) items) in
    let m : length (levels_in items) ≡ length items = length-map items (λ (item : Item). item.level) in
    let level : get_or (levels_in items) k 0 ≡ 0 = get_or-map (λ (item : Item). item.level) items k no_item 0 lt ∙ zero_level in
    let d : drop k items ≡ x ∷ drop (k + 1) items = drop_more items k no_item lt in
    let e : drop k (levels_in items) ≡ 0 ∷ drop (k + 1) (levels_in items) = drop_more (levels_in items) k 0 (omega arith) ∙ ap (λ (l : ℕ). l ∷ drop (k + 1) (levels_in items)) level in
    let s : are_spaces (x ∷ drop (k + 1) items) ≡ hangs = ap are_spaces (sym d) ∙ spaces in
    let first : leaves_from k (drop k (levels_in items)) (drop k items) ≡ leaf_in items own ∷ rest =
    ap (λ (ls : List ℕ). leaves_from k ls (drop k items)) e
    ∙ ap (λ (is : List Item). leaves_from k (0 ∷ drop (k + 1) (levels_in items)) is) d
    ∙ ap (λ (h : Bool). leaf k 0 x h ∷ rest) s in
    ap (λ (l : List Leaf). l ++ rest) (map_push (leaf_in items) made own)
    ∙ append_assoc (map (leaf_in items) made) (leaf_in items own ∷ []) rest
    ∙ ap (λ (l : List Leaf). map (leaf_in items) made ++ l) (sym first)
    ∙ before

-- ---- L1 and L2

zeros : (items : List Item) → All (λ (item : Item). item.level ≡ 0) items → All (λ level. level ≡ 0) (levels_in items)
zeros [] all k d lt = absurd (omega arith)
zeros (item ∷ items) all zero d lt = all 0 item (omega arith)
zeros (item ∷ items) all (suc k) d lt = zeros items (λ j e less. all (suc j) e (omega arith)) k d (omega arith)

one_reset : (b : Bool) (n : ℕ) → cond b n n ≡ n
one_reset true n = refl
one_reset false n = refl

unreset : (levels : List ℕ) (classes : List BidiClass) → All (λ level. level ≡ 0) levels → reset 0 levels classes ≡ levels
unfolding reset
unreset [] classes all = refl
unreset (level ∷ levels) [] all = refl
unreset (level ∷ levels) (c ∷ classes) all =
    let e : level ≡ 0 = all 0 0 (omega arith) in
    let h : reset 0 levels classes ≡ levels = unreset levels classes (λ k d lt. all (suc k) d (omega arith)) in
    rw (e, h) (ap (λ (l : ℕ). l ∷ levels) (one_reset (leads_out (c ∷ classes)) 0))

shifted : {X : Type 0} (x : X) (xs : List X) (at n : ℕ) → filter_map (λ p. slice_get (x ∷ xs) p) (range_with_len (at + 1) n) ≡ filter_map (λ p. slice_get xs p) (range_with_len at n)
shifted x xs at zero = refl
shifted x xs at (suc n) =
    let read : slice_get (x ∷ xs) (at + 1) ≡ slice_get xs at = rw add-one refl in
    rw (shifted x xs (at + 1) n, read) refl

all_there : {X : Type 0} (xs : List X) → filter_map (λ p. slice_get xs p) (range_with_len 0 (length xs)) ≡ xs
all_there [] = refl
all_there {X = X} (x ∷ xs) = ap (λ (l : List X). x ∷ l) (shifted x xs 0 (length xs) ∙ all_there xs)

pub in_order : LevelZeroStays → (line : Line) → line.base ≡ 0 → All (λ (item : Item). item.level ≡ 0) line.items → leaves line ≡ in_logical_order line.items
unfolding leaves
in_order stays line base zero_items =
    let all = zeros line.items zero_items in
    let own : List ℕ = levels_in line.items in
    let aparts : List (Option ℕ) = map (λ (item : Item). item.apart) line.items in
    let classes : List BidiClass = map (λ (item : Item). item.class) line.items in
    let l : length own ≡ length line.items = length-map line.items (λ (item : Item). item.level) in
    let m : length aparts ≡ length line.items = length-map line.items (λ (item : Item). item.apart) in
    let n : length (leaves_from 0 own line.items) ≡ length own = from_length 0 own line.items l ∙ sym l in
    let levels : levels_of line ≡ own = ap (λ (base : ℕ). reset base own classes) base ∙ unreset own classes all in
    ap (λ (ls : List ℕ). filter_map (λ place. slice_get (leaves_from 0 ls line.items) place) (visual_order ls aparts)) levels
    ∙ ap (filter_map (λ place. slice_get (leaves_from 0 own line.items) place)) (stays own aparts (l ∙ sym m) all ∙ ap (range_with_len 0) (sym n))
    ∙ all_there (leaves_from 0 own line.items)
