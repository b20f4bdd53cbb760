-- The items of a paragraph as lines are filled with them, item by item.
use Rattle.std.specs.Prelude.{IfSome}
use Rattle.std.proofs.Common.{◌≡◌, ◌∙◌, refl, sym, ap, arith, true, false, ℕ, zero, suc, ◌+◌, ◌*◌, ◌<◌, ◌≤◌, ◌^◌, List, [], ◌∷◌, ◌++◌, length, map, get_or, drop, reverse, Option, Some, append_assoc, append-nil, ℤ, pos, ◌+ℤ◌, unsigned_abs}
use Rattle.std.proofs.lemmas.Int.{ints}
use Rattle.std.proofs.lemmas.List.{drop-map, drop_all, drop_more, reverse-append}
use Rattle.fragment_types.specs.declared.breaking.Breaking.{Breaking}
use Rattle.fragment_types.specs.Item.{Entry}
use Rattle.line_fill.specs.declared.item.FillItem.{FillItem}
use Rattle.para_prepare.specs.declared.item.PreparedItem.{PreparedItem}
use Rattle.para_prepare.specs.Preparation.{Preparation}
use Rattle.para_lines.specs.declared.filling.BoxSide.{BoxSide}
use Rattle.para_lines.specs.declared.filling.BoxSide.TheVariants.{Start, End}
use Rattle.para_lines.specs.Around.{chains, fresh, has}
use Rattle.para_lines.specs.Boxes.{apart, chain_at, chain_behind, innermost}
use Rattle.para_lines.specs.Filling.{advance_of, closing_edges, fill_item, fill_items, fill_items_from, first_chain, item_chains, opening_edges, past}
use Rattle.para_lines.specs.Prepared.{edge_of, edges_of, first_source, source_before, source_behind}
use Rattle.para_lines.proofs.Chaining.{Climbing, at, climbing_first, climbing_on, climbing_stops, climbing_within, left_near, left_of, less_left, linked, none_apart, there}

-- ---- edges of some boxes together

edges_append : (inline : Option ℤ) (entries : List Entry) (side : BoxSide) (xs ys : List ℕ) → edges_of inline entries side (xs ++ ys) ≡ edges_of inline entries side xs +ℤ edges_of inline entries side ys
edges_append inline entries side [] ys = zero_more (edges_of inline entries side ys) where
  zero_more : (z : ℤ) → z ≡ pos 0 +ℤ z
  zero_more z = omega (arith, ints)
edges_append inline entries side (x ∷ xs) ys =
    ap (λ z. edge_of inline entries side x +ℤ z) (edges_append inline entries side xs ys)
    ∙ assoc (edge_of inline entries side x) (edges_of inline entries side xs) (edges_of inline entries side ys) where
      assoc : (a b c : ℤ) → a +ℤ (b +ℤ c) ≡ (a +ℤ b) +ℤ c
      assoc a b c = omega (arith, ints)

edges_reverse : (inline : Option ℤ) (entries : List Entry) (side : BoxSide) (xs : List ℕ) → edges_of inline entries side (reverse xs) ≡ edges_of inline entries side xs
edges_reverse inline entries side [] = refl
edges_reverse inline entries side (x ∷ xs) =
    ap (edges_of inline entries side) (reverse-append (x ∷ []) xs)
    ∙ edges_append inline entries side (reverse xs) (x ∷ [])
    ∙ ap (λ z. z +ℤ (edge_of inline entries side x +ℤ pos 0)) (edges_reverse inline entries side xs)
    ∙ turn (edges_of inline entries side xs) (edge_of inline entries side x) where
      turn : (a b : ℤ) → a +ℤ (b +ℤ pos 0) ≡ b +ℤ a
      turn a b = omega (arith, ints)

opening_is : (inline : Option ℤ) (entries : List Entry) (xs : List ℕ) → opening_edges inline entries xs ≡ edges_of inline entries Start xs
opening_is inline entries [] = refl
opening_is inline entries (x ∷ xs) = ap (λ z. edge_of inline entries Start x +ℤ z) (opening_is inline entries xs)

closing_is : (inline : Option ℤ) (entries : List Entry) (xs : List ℕ) → closing_edges inline entries xs ≡ edges_of inline entries End xs
closing_is inline entries [] = refl
closing_is inline entries (x ∷ xs) = ap (λ z. edge_of inline entries End x +ℤ z) (closing_is inline entries xs)

pub opening_apart : (inline : Option ℤ) (entries : List Entry) (chain other : List ℕ) → edges_of inline entries Start (apart chain other) ≡ opening_edges inline entries (fresh chain other)
opening_apart inline entries chain other = sym (opening_is inline entries (fresh chain other) ∙ edges_reverse inline entries Start (apart chain other))

pub closing_apart : (inline : Option ℤ) (entries : List Entry) (chain other : List ℕ) → edges_of inline entries End (apart chain other) ≡ closing_edges inline entries (fresh chain other)
closing_apart inline entries chain other = sym (closing_is inline entries (fresh chain other) ∙ edges_reverse inline entries End (apart chain other))

-- what comes from the same entry has no edges apart
pub no_edges : (inline : Option ℤ) (entries : List Entry) (side : BoxSide) (place : ℕ) (other : Option ℕ) → other ≡ Some place
    → pos 0 ≡ edges_of inline entries side (apart (chain_at entries place) (chain_behind entries other))
no_edges inline entries side place other at_ =
    sym (ap (edges_of inline entries side) (ap (λ (o : Option ℕ). apart (chain_at entries place) (chain_behind entries o)) at_ ∙ none_apart (chain_at entries place) (chain_at entries place) (λ box in_. in_)))

-- no box stands round the one item of a paragraph
pub chain_alone : (entries : List Entry) (place : ℕ) → length entries ≡ 1 → place < 1 → chain_at entries place ≡ []
unfolding chains
chain_alone [] place one first = absurd (omega arith)
chain_alone (entry ∷ more ∷ entries) place one first = absurd (omega arith)
chain_alone (entry ∷ []) zero one first = refl
chain_alone (entry ∷ []) (suc place) one first = absurd (omega arith)

-- where a loop over a chain stands, which sums the edges of its boxes that aren't in another
pub record Edging (inline : Option ℤ) (entries : List Entry) (side : BoxSide) (chain other : List ℕ) (inside : Option ℕ) (edges : ℤ) : Type 0 where
  pub places : List ℕ
  pub climbing : Climbing entries chain other inside places
  pub sum : edges ≡ edges_of inline entries side places
  pub near : unsigned_abs edges + left_of inside * 2 ^ 34 ≤ length entries * 2 ^ 34

pub edging_first : (inline : Option ℤ) (entries : List Entry) (side : BoxSide) (place : ℕ) (other : List ℕ) (inside : Option ℕ) → place < length entries → inside ≡ innermost (chain_at entries place)
    → Edging inline entries side (chain_at entries place) other inside (pos 0)
edging_first inline entries side place other inside lt is =
    let at_ : inside ≡ innermost (at 0 [] entries place) = is ∙ ap innermost (there entries place [] lt) in
    let left = ap left_of at_ in
    let few = left_near entries place (at 0 [] entries place) (linked entries place (omega arith)) in
    record { places = []; climbing = climbing_first entries place other inside lt at_; sum = refl; near = omega (arith, ints) }

pub edging_on : (inline : Option ℤ) (entries : List Entry) (side : BoxSide) (chain other : List ℕ) (inside next : Option ℕ) (edges own more : ℤ) (box : ℕ) → inside ≡ Some box
    → has other box ≡ false → own ≡ edge_of inline entries side box → unsigned_abs own ≤ 2 ^ 34 → more ≡ edges +ℤ own → next ≡ innermost (chain_at entries box)
    → Edging inline entries side chain other inside edges → Edging inline entries side chain other next more
edging_on inline entries side chain other inside next edges own more box at_ out is near sum inner h =
    let lt = (climbing_within entries chain other inside h.places box at_ h.climbing).0 in
    let next_is : next ≡ innermost (at 0 [] entries box) = inner ∙ ap innermost (there entries box [] lt) in
    let less = less_left entries inside next box at_ lt next_is in
    let n = h.near in
    record {
      places = h.places ++ box ∷ [];
      climbing = climbing_on entries chain other inside next h.places (h.places ++ box ∷ []) box at_ out refl next_is h.climbing;
      sum =
          sum ∙ ap (λ z. z +ℤ own) h.sum ∙ ap (λ z. edges_of inline entries side h.places +ℤ z) (is ∙ and_zero (edge_of inline entries side box)) ∙ sym (edges_append inline entries side h.places (box ∷ []));
      near = rw sum (let a = abs_add edges own in omega arith);
    } where
      and_zero : (z : ℤ) → z ≡ z +ℤ pos 0
      and_zero z = omega (arith, ints)

      abs_add : (a b : ℤ) → unsigned_abs (a +ℤ b) ≤ unsigned_abs a + unsigned_abs b
      abs_add a b = omega (arith, ints)

pub edging_stops : (inline : Option ℤ) (entries : List Entry) (side : BoxSide) (chain : List ℕ) (other : Option ℕ) (inside : Option ℕ) (edges : ℤ) (box : ℕ) → inside ≡ Some box
    → IfSome other (λ o. o < length entries) → has (chain_behind entries other) box ≡ true → Edging inline entries side chain (chain_behind entries other) inside edges
    → edges ≡ edges_of inline entries side (apart chain (chain_behind entries other))
edging_stops inline entries side chain other inside edges box at_ within in_ h =
    h.sum ∙ ap (edges_of inline entries side) (climbing_stops entries chain other inside h.places box at_ within in_ h.climbing)

-- ---- item by item

first_is : (entries : List Entry) (items : List PreparedItem) → first_chain (map (λ item. chain_at entries item.source) items) ≡ chain_behind entries (first_source items)
first_is entries [] = refl
first_is entries (item ∷ items) = refl

pub record Filling (inline : Option ℤ) (entries : List Entry) (items : List PreparedItem) (breaks : List Breaking) (advances rest : List ℤ) (made : List FillItem) (k : ℕ) : Type 0 where
  pub done :
      made ++ fill_items_from inline entries (chain_behind entries (source_before items k)) (drop k items) (drop k breaks) (drop k (item_chains entries items)) rest
      ≡ fill_items_from inline entries [] items breaks (item_chains entries items) advances

before_next : (entries : List Entry) (items : List PreparedItem) (k : ℕ) (item : PreparedItem) → k < length items → item ≡ get_or items k item → chain_at entries item.source ≡ chain_behind entries (source_before items (k + 1))
before_next entries items k item lt read =
    let e : suc k ≡ k + 1 = omega arith in
    ap (λ (i : PreparedItem). chain_behind entries (Some i.source)) read
    ∙ ap (λ (is : List PreparedItem). chain_behind entries (first_source is)) (sym (drop_more items k item lt))
    ∙ ap (λ j. chain_behind entries (source_before items j)) e

pub filling_on : (inline : Option ℤ) (entries : List Entry) (items : List PreparedItem) (breaks : List Breaking) (advances rest : List ℤ) (made more : List FillItem) (k : ℕ)
    (item : PreparedItem) (end_ : Breaking) (own : FillItem) → k < length items → length breaks ≡ length items → item ≡ get_or items k item → end_ ≡ get_or breaks k end_
    → own ≡ fill_item inline entries item end_ (chain_behind entries (source_before items k)) (chain_at entries item.source) (chain_behind entries (source_behind items k)) (advance_of item.what rest)
    → more ≡ made ++ own ∷ [] → Filling inline entries items breaks advances rest made k → Filling inline entries items breaks advances (past item.what rest) more (k + 1)
filling_on inline entries items breaks advances rest made more k item end_ own lt same read read_end is pushed h =
    let f : PreparedItem → List ℕ = λ i. chain_at entries i.source in
    let before : List ℕ = chain_behind entries (source_before items k) in
    let items_there : drop k items ≡ item ∷ drop (k + 1) items = drop_more items k item lt ∙ ap (λ (i : PreparedItem). i ∷ drop (k + 1) items) (sym read) in
    let breaks_there : drop k breaks ≡ end_ ∷ drop (k + 1) breaks = drop_more breaks k end_ (omega arith) ∙ ap (λ (b : Breaking). b ∷ drop (k + 1) breaks) (sym read_end) in
    let chains_there : drop k (map f items) ≡ f item ∷ map f (drop (k + 1) items) = drop-map f k items ∙ ap (map f) items_there in
    let behind : first_chain (map f (drop (k + 1) items)) ≡ chain_behind entries (source_behind items k) = first_is entries (drop (k + 1) items) in
    let here : fill_items_from inline entries before (drop k items) (drop k breaks) (drop k (map f items)) rest
    ≡ fill_item inline entries item end_ before (f item) (first_chain (map f (drop (k + 1) items))) (advance_of item.what rest)
    ∷ fill_items_from inline entries (f item) (drop (k + 1) items) (drop (k + 1) breaks) (map f (drop (k + 1) items)) (past item.what rest) =
    ap (λ (is : List PreparedItem). fill_items_from inline entries before is (drop k breaks) (drop k (map f items)) rest) items_there
    ∙ ap (λ (bs : List Breaking). fill_items_from inline entries before (item ∷ drop (k + 1) items) bs (drop k (map f items)) rest) breaks_there
    ∙ ap (λ (cs : List (List ℕ)). fill_items_from inline entries before (item ∷ drop (k + 1) items) (end_ ∷ drop (k + 1) breaks) cs rest) chains_there in
    let own_is : own ≡ fill_item inline entries item end_ before (f item) (first_chain (map f (drop (k + 1) items))) (advance_of item.what rest) =
    is ∙ ap (λ (after : List ℕ). fill_item inline entries item end_ before (f item) after (advance_of item.what rest)) (sym behind) in
    record {
      done =
          ap (λ (m : List FillItem). m ++ fill_items_from inline entries (chain_behind entries (source_before items (k + 1))) (drop (k + 1) items) (drop (k + 1) breaks) (drop (k + 1) (map f items)) (past item.what rest)) pushed
          ∙ append_assoc made (own ∷ []) _
          ∙ ap (λ (b : List ℕ). made ++ own ∷ fill_items_from inline entries b (drop (k + 1) items) (drop (k + 1) breaks) (drop (k + 1) (map f items)) (past item.what rest)) (sym (before_next entries items k item lt read))
          ∙ ap (λ (cs : List (List ℕ)). made ++ own ∷ fill_items_from inline entries (f item) (drop (k + 1) items) (drop (k + 1) breaks) cs (past item.what rest)) (drop-map f (k + 1) items)
          ∙ ap (λ (o : FillItem). made ++ o ∷ fill_items_from inline entries (f item) (drop (k + 1) items) (drop (k + 1) breaks) (map f (drop (k + 1) items)) (past item.what rest)) own_is
          ∙ ap (λ (m : List FillItem). made ++ m) (sym here)
          ∙ h.done;
    }

pub filling_all : (inline : Option ℤ) (entries : List Entry) (prepared : Preparation) (advances rest : List ℤ) (made : List FillItem) (k : ℕ) → length prepared.items ≤ k
    → Filling inline entries prepared.items prepared.breaks advances rest made k → made ≡ fill_items inline entries prepared advances
unfolding fill_items
filling_all inline entries prepared advances rest made k past_ h =
    let none : drop k prepared.items ≡ [] = drop_all k prepared.items past_ in
    sym (append-nil made)
    ∙ ap (λ (is : List PreparedItem). made ++ fill_items_from inline entries (chain_behind entries (source_before prepared.items k)) is (drop k prepared.breaks) (drop k (item_chains entries prepared.items)) rest) (sym none)
    ∙ h.done
