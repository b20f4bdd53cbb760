-- Items that are added part by part.
use Rattle.std.proofs.Common.{◌≡◌, refl, ◌∙◌, ℕ, zero, suc, ◌+◌, ◌≤◌, List, [], ◌∷◌, ◌++◌, length, drop, arith}
use Rattle.std.proofs.lemmas.List.{append-nil, append_assoc, length-append}
use Rattle.para_prepare.specs.declared.item.PreparedItem.{PreparedItem}
use Rattle.para_prepare.specs.declared.standing.Standing.{Standing}
use Rattle.para_prepare.specs.Items.{items_by, item_of}
use Rattle.para_prepare.specs.Parts.{Part, opens, closes, control, item, raws}

-- what is done, and what is left
pub record Items (out : List PreparedItem) (parts : List Part) (standings : List Standing) (all : List PreparedItem) : Type 0 where
  pub done : out ++ items_by (raws parts) (drop (length out) standings) ≡ all
  pub count : length out + length (raws parts) ≡ length standings

same : (out : List PreparedItem) (parts : List Part) (standings : List Standing) (all : List PreparedItem) → Items out parts standings all → Items (out ++ []) parts standings all
same out parts standings all h = rw (append-nil out) h

drop_cons : {X : Type 0} (n : ℕ) (xs : List X) → suc n ≤ length xs → (x : X) × (drop n xs ≡ x ∷ drop (suc n) xs)
drop_cons n [] h = absurd (omega arith)
drop_cons zero (x ∷ xs) h = (x, refl)
drop_cons (suc n) (x ∷ xs) h = drop_cons n xs (omega arith)

one : (out : List PreparedItem) (x : PreparedItem) → length (out ++ (x ∷ [])) ≡ suc (length out)
one out x = length-append out (x ∷ []) ∙ (let z : length out + 1 ≡ suc (length out) = omega arith in z)

pub more_items : (out : List PreparedItem) (part : Part) (parts : List Part) (standings : List Standing) (all : List PreparedItem) → Items out (part ∷ parts) standings all
    → Items (out ++ items_by (raws (part ∷ [])) (drop (length out) standings)) parts standings all
more_items out (opens bidi dir) parts standings all h = same out parts standings all (record { done = h.done; count = h.count })
more_items out closes parts standings all h = same out parts standings all (record { done = h.done; count = h.count })
more_items out (control c class) parts standings all h = same out parts standings all (record { done = h.done; count = h.count })
more_items out (item raw) parts standings all h =
    let many : length out + suc (length (raws parts)) ≡ length standings = h.count in
    let next = drop_cons (length out) standings (omega arith) in
    let done : out ++ items_by (raw ∷ raws parts) (next.0 ∷ drop (suc (length out)) standings) ≡ all = rw next.1 at h.done in
    let long : length (out ++ (item_of raw next.0 ∷ [])) ≡ suc (length out) = one out (item_of raw next.0) in
    let made : Items (out ++ (item_of raw next.0 ∷ [])) parts standings all = record {
      done = rw long (append_assoc out (item_of raw next.0 ∷ []) (items_by (raws parts) (drop (suc (length out)) standings)) ∙ done);
      count = rw long (let z : suc (length out) + length (raws parts) ≡ length standings = omega arith in z);
    } in
    rw next.1 made
