-- The lengths of a line as a sum, and where its items stand.
use Rattle.std.proofs.Common.{◌≡◌, refl, ap, ◌∙◌, subst, ℕ, ◌+◌, ◌≤◌, ◌^◌, List, [], ◌∷◌, All, map, sum_by, unsigned_abs}
use Rattle.std.proofs.lemmas.List.Elements.{All-map}
use Rattle.std.proofs.lemmas.List.Sums.{sum_by-cons}
use Rattle.line_place.specs.declared.line.LineBox.{LineBox}
use Rattle.line_place.specs.declared.line.LineInput.{LineInput}
use Rattle.line_place.specs.declared.line.LineItem.{LineItem}
use Rattle.line_place.specs.Line.{Item, item_of, line_of}
use Rattle.line_place.specs.Reach.{IsBefore, box_reach, extents_reach, item_reach, line_reach, total}

pub all_inside : (count : ℕ) (items : List LineItem) → All (λ item. IsBefore count (item_of item).inside) items
    → All (λ item. IsBefore count item.inside) (map item_of items)
all_inside count items are = All-map (λ (item : Item). IsBefore count item.inside) item_of items are

items_sum : (items : List LineItem) → sum_by (λ item. item_reach (item_of item)) items ≡ total item_reach (map item_of items)
items_sum [] = refl
items_sum (item ∷ items) =
    sum_by-cons (λ item. item_reach (item_of item)) item items ∙ ap (λ n. item_reach (item_of item) + n) (items_sum items)

boxes_sum : (boxes : List LineBox) → sum_by box_reach boxes ≡ total box_reach boxes
boxes_sum [] = refl
boxes_sum (box ∷ boxes) = sum_by-cons box_reach box boxes ∙ ap (λ n. box_reach box + n) (boxes_sum boxes)

pub line_sum : (line : LineInput) → unsigned_abs line.available + extents_reach line.strut
    + sum_by (λ item. item_reach (item_of item)) line.items.items + sum_by box_reach line.boxes.items ≤ 2 ^ 60 → line_reach (line_of line) ≤ 2 ^ 60
line_sum line near =
    subst (λ n. unsigned_abs line.available + extents_reach line.strut + total item_reach (map item_of line.items.items) + n ≤ 2 ^ 60) (boxes_sum line.boxes.items)
    (subst (λ n. unsigned_abs line.available + extents_reach line.strut + n + sum_by box_reach line.boxes.items ≤ 2 ^ 60) (items_sum line.items.items) near)
