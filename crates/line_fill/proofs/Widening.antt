-- The widest piece, read item by item, is the widest of the list of pieces.
use Rattle.std.proofs.Common.{◌≡◌, ◌∙◌, refl, sym, ap, arith, Bool, true, false, List, [], ◌∷◌, ℕ, zero, suc, ◌+◌, ◌≤◌, ℤ, pos, ◌+ℤ◌, ◌-ℤ◌, ◌≤ℤ◌, length, drop}
use Rattle.std.specs.Int.{int_max}
use Rattle.std.specs.List.{sum_by}
use Rattle.std.proofs.lemmas.Int.{ints, clamps}
use Rattle.std.proofs.lemmas.List.{drop_all}
use Rattle.fragment_types.specs.declared.breaking.Breaking.{Breaking}
use Rattle.line_fill.specs.declared.item.FillItem.{FillItem}
use Rattle.line_fill.specs.declared.item.Intrinsic.{Intrinsic}
use Rattle.line_fill.specs.declared.widest.Widest.{Widest}
use Rattle.line_fill.specs.Item.{edges, advances, solid, solid_at, lengths_of, spread}
use Rattle.line_fill.specs.Sizes.{intrinsic, pieces, cut_behind, in_front, widest}
use Rattle.line_fill.specs.Widest.{begun, joined_at, after, span_of}

abbrev reached : ℤ → ℤ → ℤ → Widest
reached m w h = record { most = m; width = w; hanging = h }

pub widest_is : (m w h : ℤ) (q : Widest) → m ≡ q.most → w ≡ q.width → h ≡ q.hanging → reached m w h ≡ q
widest_is m w h q a b c = ap (λ z. reached z w h) a ∙ (ap (λ z. reached q.most z h) b ∙ ap (λ z. reached q.most q.width z) c)

-- the width of a piece whose beginning has been read, where the rest has so many items up to the last that is no space
abbrev going : Widest → List FillItem → ℕ → ℤ
going w piece zero = w.width +ℤ edges piece
going w piece (suc n) = (w.width +ℤ w.hanging) +ℤ ((edges piece +ℤ advances piece) -ℤ advances (drop (suc n) piece))

-- the greatest width of the pieces to come, of which the first has begun
abbrev to_come : Widest → List (List FillItem) → ℤ
to_come w [] = int_max w.width (pos 0)
to_come w (piece ∷ pieces) = int_max (going w piece (solid piece)) (widest pieces)

-- one item more has been read of the first piece
joined_going : (space : Bool) (w : Widest) (item : FillItem) (piece : List FillItem) (n : ℕ) → going w (item ∷ piece) (solid_at space n) ≡ going (joined_at space w item) piece n
joined_going true w item piece zero = omega (arith, ints)
joined_going true w item piece (suc n) = omega (arith, ints)
joined_going false w item piece zero = omega (arith, ints)
joined_going false w item piece (suc n) = omega (arith, ints)

joined_alone : (space : Bool) (w : Widest) (item : FillItem) → going w (item ∷ []) (solid_at space 0) ≡ (joined_at space w item).width
joined_alone space w item = joined_going space w item [] 0 ∙ more (joined_at space w item).width where
  more : (z : ℤ) → z +ℤ pos 0 ≡ z
  more z = omega (arith, ints)

joined_most : (space : Bool) (w : Widest) (item : FillItem) → (joined_at space w item).most ≡ w.most
joined_most true w item = refl
joined_most false w item = refl

-- no item of the first piece has been read
going_whole : (m : ℤ) (piece : List FillItem) (n : ℕ) → going (reached m (pos 0) (pos 0)) piece n ≡ (edges piece +ℤ advances piece) -ℤ advances (drop n piece)
going_whole m piece zero = omega (arith, ints)
going_whole m piece (suc n) = omega (arith, ints)

to_come_whole : (m : ℤ) (ps : List (List FillItem)) → to_come (reached m (pos 0) (pos 0)) ps ≡ widest ps
to_come_whole m [] = refl
to_come_whole m (piece ∷ ps) = ap (λ z. int_max z (widest ps)) (going_whole m piece (solid piece))

-- the widest of all pieces, read item by item
abbrev pub run : (Breaking → Bool) → Widest → List FillItem → Widest
run cuts w [] = w
run cuts w (item ∷ items) = run cuts (after w item (cuts item.end)) items

max_held : (m w : ℤ) → pos 0 ≤ℤ m → int_max m w ≡ int_max m (int_max w (pos 0))
max_held m w h = omega (arith, ints, clamps)

max_assoc : (a b c : ℤ) → int_max (int_max a b) c ≡ int_max a (int_max b c)
max_assoc a b c = omega (arith, ints, clamps)

max_low : (a b : ℤ) → pos 0 ≤ℤ a → pos 0 ≤ℤ int_max a b
max_low a b h = omega (arith, ints, clamps)

run_widest : (cuts : Breaking → Bool) (items : List FillItem) (w : Widest) → pos 0 ≤ℤ w.most
    → int_max (run cuts w items).most (run cuts w items).width ≡ int_max w.most (to_come w (pieces cuts items))
run_widest cuts [] w low = max_held w.most w.width low
run_widest cuts (item ∷ items) w low = go (cuts item.end) refl (run_widest cuts items) where
  next : Widest
  next = joined_at item.space w item

  same : (joined_at item.space w item).most ≡ w.most
  same = joined_most item.space w item

  front : (ps : List (List FillItem)) → int_max (joined_at item.space w item).most (to_come (joined_at item.space w item) ps) ≡ int_max w.most (to_come w (in_front item ps))
  front [] = ap (λ m. int_max m (int_max (joined_at item.space w item).width (pos 0))) same ∙ ap (λ z. int_max w.most (int_max z (pos 0))) (sym (joined_alone item.space w item))
  front (piece ∷ ps) =
      ap (λ m. int_max m (int_max (going (joined_at item.space w item) piece (solid piece)) (widest ps))) same
      ∙ ap (λ z. int_max w.most (int_max z (widest ps))) (sym (joined_going item.space w item piece (solid piece)))

  go : (b : Bool) → cuts item.end ≡ b
      → ((v : Widest) → pos 0 ≤ℤ v.most → int_max (run cuts v items).most (run cuts v items).width ≡ int_max v.most (to_come v (pieces cuts items)))
      → int_max (run cuts w (item ∷ items)).most (run cuts w (item ∷ items)).width ≡ int_max w.most (to_come w (pieces cuts (item ∷ items)))
  go true e rest =
      let m = int_max (joined_at item.space w item).most (joined_at item.space w item).width in
      let one : int_max (run cuts w (item ∷ items)).most (run cuts w (item ∷ items)).width ≡ int_max (run cuts (reached m (pos 0) (pos 0)) items).most (run cuts (reached m (pos 0) (pos 0)) items).width =
      ap (λ b. int_max (run cuts (after w item b) items).most (run cuts (after w item b) items).width) e in
      let two = rest (reached m (pos 0) (pos 0)) (max_low (joined_at item.space w item).most (joined_at item.space w item).width (rw same low)) in
      one ∙ (two ∙ (ap (int_max m) (to_come_whole m (pieces cuts items))
      ∙ (max_assoc (joined_at item.space w item).most (joined_at item.space w item).width (widest (pieces cuts items))
      ∙ (ap (λ z. int_max z (int_max (joined_at item.space w item).width (widest (pieces cuts items)))) same
      ∙ (ap (λ z. int_max w.most (int_max z (widest (pieces cuts items)))) (sym (joined_alone item.space w item))
      ∙ ap (λ b. int_max w.most (to_come w (cut_behind b item (pieces cuts items)))) (sym e))))))
  go false e rest =
      let one : int_max (run cuts w (item ∷ items)).most (run cuts w (item ∷ items)).width ≡ int_max (run cuts (joined_at item.space w item) items).most (run cuts (joined_at item.space w item) items).width =
      ap (λ b. int_max (run cuts (after w item b) items).most (run cuts (after w item b) items).width) e in
      let two = rest (joined_at item.space w item) (rw same low) in
      one ∙ (two ∙ (front (pieces cuts items) ∙ ap (λ b. int_max w.most (to_come w (cut_behind b item (pieces cuts items)))) (sym e)))

low_widest : (ps : List (List FillItem)) → pos 0 ≤ℤ widest ps
low_widest [] = omega (arith, ints)
low_widest (piece ∷ ps) = let h = low_widest ps in omega (arith, ints, clamps)

max_zero : (z : ℤ) → pos 0 ≤ℤ z → int_max (pos 0) z ≡ z
max_zero z h = omega (arith, ints, clamps)

pub run_whole : (cuts : Breaking → Bool) (items : List FillItem) → int_max (run cuts begun items).most (run cuts begun items).width ≡ widest (pieces cuts items)
run_whole cuts items =
    run_widest cuts items begun (omega (arith, ints))
    ∙ (ap (int_max (pos 0)) (to_come_whole (pos 0) (pieces cuts items)) ∙ max_zero (widest (pieces cuts items)) (low_widest (pieces cuts items)))

-- the loop has read i items
pub record Widens (cuts : Breaking → Bool) (items : List FillItem) (w : Widest) (i : ℕ) : Type 0 where
  pub same : run cuts w (drop i items) ≡ run cuts begun items
  pub near : span_of w + sum_by lengths_of (drop i items) ≤ spread items

pub widens_all : (cuts : Breaking → Bool) (items : List FillItem) (w : Widest) (i : ℕ) (z : ℤ) → length items ≤ i → z ≡ int_max w.most w.width → Widens cuts items w i → z ≡ widest (pieces cuts items)
widens_all cuts items w i z past e widens =
    let none = drop_all i items past in
    let s : w ≡ run cuts begun items = ap (run cuts w) (sym none) ∙ widens.same in
    e ∙ (ap (λ v. int_max v.most v.width) s ∙ run_whole cuts items)

abbrev sizes : ℤ → ℤ → Intrinsic
sizes least greatest = record { min = least; max = greatest }

pub sizes_are : (items : List FillItem) (least greatest : ℤ) → least ≡ (intrinsic items).min → greatest ≡ (intrinsic items).max → sizes least greatest ≡ intrinsic items
sizes_are items least greatest a b = ap (λ z. sizes z greatest) a ∙ ap (sizes (intrinsic items).min) b
