-- How widths are read off the places.
use Rattle.std.proofs.Common.{◌≡◌, ◌∙◌, refl, sym, ap, arith, Bool, true, false, List, [], ◌∷◌, ◌++◌, ℕ, zero, suc, ◌+◌, ◌-◌, ◌≤◌, ◌<◌, ℤ, ◌+ℤ◌, ◌-ℤ◌, unsigned_abs, length, max, take, drop, get_or}
use Rattle.std.proofs.lemmas.Int.{ints}
use Rattle.std.proofs.lemmas.List.{take-append-drop, take-append-le, length-take-le, drop-take, take_more, take_all}
use Rattle.std.proofs.Math.Seq.{take-append-add}
use Rattle.std.proofs.lemmas.List.Sums.{sum_by-cons, sum_by-take-le, sum_by-take-drop}
use Rattle.std.specs.List.{slice_range}
use Rattle.line_fill.specs.declared.item.FillItem.{FillItem}
use Rattle.line_fill.specs.declared.sums.Place.{Place}
use Rattle.line_fill.specs.Item.{edges, advances, solid, solid_at, width_of, width, lengths_of, spread}
use Rattle.line_fill.specs.Sums.{place_before, place_after, solid_after, width_between}

pub edges_append : (xs ys : List FillItem) → edges (xs ++ ys) ≡ edges xs +ℤ edges ys
edges_append [] ys = omega (arith, ints)
edges_append (x ∷ xs) ys = let h = edges_append xs ys in omega (arith, ints)

pub advances_append : (xs ys : List FillItem) → advances (xs ++ ys) ≡ advances xs +ℤ advances ys
advances_append [] ys = omega (arith, ints)
advances_append (x ∷ xs) ys = let h = advances_append xs ys in omega (arith, ints)

-- where some later item is no space, so is the last such one of all
solid_more : (space : Bool) (n : ℕ) → solid_at space (suc n) ≡ suc (suc n)
solid_more true n = refl
solid_more false n = refl

solid_some : (xs ys : List FillItem) (m : ℕ) → solid ys ≡ suc m → solid (xs ++ ys) ≡ suc (length xs + m)
solid_some [] ys m e = e ∙ omega arith
solid_some (x ∷ xs) ys m e = ap (solid_at x.space) (solid_some xs ys m e) ∙ (solid_more x.space (length xs + m) ∙ omega arith)

-- spaces alone change nothing
solid_none : (xs ys : List FillItem) → solid ys ≡ 0 → solid (xs ++ ys) ≡ solid xs
solid_none [] ys e = e
solid_none (x ∷ xs) ys e = ap (solid_at x.space) (solid_none xs ys e)

solid_at-le : (space : Bool) (n m : ℕ) → n ≤ m → solid_at space n ≤ suc m
solid_at-le true zero m h = omega arith
solid_at-le true (suc n) m h = omega arith
solid_at-le false n m h = omega arith

pub solid-le : (xs : List FillItem) → solid xs ≤ length xs
solid-le [] = omega arith
solid-le (x ∷ xs) = solid_at-le x.space (solid xs) (length xs) (solid-le xs)

max_left : (a b : ℕ) → b ≤ a → max a b ≡ a
max_left a b h = omega arith

max_right : (a b : ℕ) → a ≤ b → max a b ≡ b
max_right a b h = omega arith

-- where the content of a piece ends, told by all items up to its end
pub content_is : (xs ys : List FillItem) → max (length xs) (solid (xs ++ ys)) ≡ length xs + solid ys
content_is xs ys = go (solid ys) refl where
  go : (n : ℕ) → solid ys ≡ n → max (length xs) (solid (xs ++ ys)) ≡ length xs + solid ys
  go zero e = let s = solid_none xs ys e in let l = solid-le xs in rw s (max_left (length xs) (solid xs) l ∙ (rw e (omega arith)))
  go (suc m) e = let s = solid_some xs ys m e in rw s (max_right (length xs) (suc (length xs + m)) (omega arith) ∙ (rw e (omega arith)))

pub content_advances : (ys : List FillItem) → width_of ys ≡ edges ys +ℤ advances (take (solid ys) ys)
content_advances ys =
    let s : advances (take (solid ys) ys ++ drop (solid ys) ys) ≡ advances (take (solid ys) ys) +ℤ advances (drop (solid ys) ys) = advances_append (take (solid ys) ys) (drop (solid ys) ys) in
    let t : advances (take (solid ys) ys ++ drop (solid ys) ys) ≡ advances ys = ap advances (take-append-drop (solid ys) ys) in
    omega (arith, ints)

pub width_parts : (xs ys : List FillItem) → width_of ys ≡ (edges (xs ++ ys) -ℤ edges xs) +ℤ (advances (take (max (length xs) (solid (xs ++ ys))) (xs ++ ys)) -ℤ advances xs)
width_parts xs ys =
    let c : advances (take (max (length xs) (solid (xs ++ ys))) (xs ++ ys)) ≡ advances (xs ++ take (solid ys) ys) =
    ap (λ n. advances (take n (xs ++ ys))) (content_is xs ys) ∙ ap advances (take-append-add xs ys (solid ys)) in
    let a = advances_append xs (take (solid ys) ys) in
    let e = edges_append xs ys in
    let w = content_advances ys in
    omega (arith, ints)

pub take_take : (n m : ℕ) (xs : List FillItem) → n ≤ m → m ≤ length xs → take n (take m xs) ≡ take n xs
take_take n m xs h k =
    let l : length (take m xs) ≡ m = length-take-le m xs k in
    sym (take-append-le n (take m xs) (drop m xs) (omega arith)) ∙ ap (take n) (take-append-drop m xs)

pub piece_is : (items : List FillItem) (from to : ℕ) → from ≤ to → to ≤ length items → take from items ++ slice_range items from to ≡ take to items
piece_is items from to h k =
    let d : drop from (take (from + (to - from)) items) ≡ take (to - from) (drop from items) = drop-take from (to - from) items in
    let e : from + (to - from) ≡ to = omega arith in
    let d' : drop from (take to items) ≡ slice_range items from to = rw e at d in
    ap (λ xs. xs ++ slice_range items from to) (sym (take_take from to items h k)) ∙ (ap (λ ys. take from (take to items) ++ ys) (sym d') ∙ take-append-drop from (take to items))

-- the width of a piece is that between its places
pub width_is : (items : List FillItem) (from to : ℕ) → from ≤ to → to ≤ length items
    → width items from to ≡ width_between (place_before items from) (place_before items to) (place_before items (max from (solid (take to items))))
width_is items from to h k =
    let p = piece_is items from to h k in
    let w = width_parts (take from items) (slice_range items from to) in
    let w' : width items from to ≡ (edges (take to items) -ℤ edges (take from items)) +ℤ (advances (take (max (length (take from items)) (solid (take to items))) (take to items)) -ℤ advances (take from items)) = rw p at w in
    let l : length (take from items) ≡ from = length-take-le from items (omega arith) in
    let m : length (take to items) ≡ to = length-take-le to items k in
    let s = solid-le (take to items) in
    let t : take (max from (solid (take to items))) (take to items) ≡ take (max from (solid (take to items))) items = take_take (max from (solid (take to items))) to items (omega arith) k in
    rw (l, t) at w'

-- no width is longer than all lengths together
lengths_first : (x : FillItem) (e a : ℤ) → unsigned_abs ((x.before +ℤ x.after) +ℤ e) + unsigned_abs (x.advance +ℤ a) ≤ lengths_of x + (unsigned_abs e + unsigned_abs a)
lengths_first x e a = omega (arith, ints)

pub lengths_near : (xs : List FillItem) (n : ℕ) → unsigned_abs (edges xs) + unsigned_abs (advances (take n xs)) ≤ spread xs
lengths_near [] zero = omega (arith, ints)
lengths_near [] (suc n) = omega (arith, ints)
lengths_near (x ∷ xs) zero =
    let h = lengths_near xs 0 in
    let s = sum_by-cons lengths_of x xs in
    omega (arith, ints)
lengths_near (x ∷ xs) (suc n) =
    let h = lengths_near xs n in
    let s = sum_by-cons lengths_of x xs in
    let f = lengths_first x (edges xs) (advances (take n xs)) in
    omega arith

pub place_near : (items : List FillItem) (k : ℕ) → unsigned_abs (edges (take k items)) + unsigned_abs (advances (take k items)) ≤ spread (take k items)
place_near items k = all_near (take k items) where
  all_near : (xs : List FillItem) → unsigned_abs (edges xs) + unsigned_abs (advances xs) ≤ spread xs
  all_near xs =
      let h : unsigned_abs (edges xs) + unsigned_abs (advances (take (length xs) xs)) ≤ spread xs = lengths_near xs (length xs) in
      let t : take (length xs) xs ≡ xs = take_all (length xs) xs (omega arith) in
      rw t at h

pub width_near : (items : List FillItem) (from to : ℕ) → unsigned_abs (width items from to) ≤ spread items
width_near items from to =
    let ys = slice_range items from to in
    let w = content_advances ys in
    let n = lengths_near ys (solid ys) in
    let t = sum_by-take-le lengths_of (drop from items) (to - from) in
    let d = sum_by-take-drop lengths_of items from in
    rw w (omega (arith, ints))

ended : (n : ℕ) → suc (n + 0) ≡ suc n
ended n = omega arith

-- one item more before a place
pub solid_last : (xs : List FillItem) (x : FillItem) → solid (xs ++ x ∷ []) ≡ solid_after x.space (solid xs) (suc (length xs))
solid_last xs x = go x.space refl where
  go : (space : Bool) → x.space ≡ space → solid (xs ++ x ∷ []) ≡ solid_after x.space (solid xs) (suc (length xs))
  go true e = solid_none xs (x ∷ []) (ap (λ b. solid_at b 0) e) ∙ sym (ap (λ b. solid_after b (solid xs) (suc (length xs))) e)
  go false e = solid_some xs (x ∷ []) 0 (ap (λ b. solid_at b 0) e) ∙ (ended (length xs) ∙ sym (ap (λ b. solid_after b (solid xs) (suc (length xs))) e))

abbrev place : ℤ → ℤ → ℕ → Place
place e a s = record { edges = e; advances = a; solid = s }

pub place_is : (e a : ℤ) (s : ℕ) (q : Place) → e ≡ q.edges → a ≡ q.advances → s ≡ q.solid → place e a s ≡ q
place_is e a s q h k l = ap (λ z. place z a s) h ∙ (ap (λ z. place q.edges z s) k ∙ ap (λ n. place q.edges q.advances n) l)

pub place_more : (items : List FillItem) (i : ℕ) (d : FillItem) → i < length items → place_after (place_before items i) (get_or items i d) (suc i) ≡ place_before items (i + 1)
place_more items i d inside =
    let x = get_or items i d in
    let t = take_more items i d inside in
    let l : length (take i items) ≡ i = length-take-le i items (omega arith) in
    let e = edges_append (take i items) (x ∷ []) in
    let a = advances_append (take i items) (x ∷ []) in
    let s = solid_last (take i items) x in
    let s' : solid (take i items ++ x ∷ []) ≡ solid_after x.space (solid (take i items)) (suc i) = rw l at s in
    rw t (place_is _ _ _ (place_told_by (take i items ++ x ∷ [])) (omega (arith, ints)) (omega (arith, ints)) (sym s'))
  where
    place_told_by : List FillItem → Place
    place_told_by xs = record { edges = edges xs; advances = advances xs; solid = solid xs }
