-- How a line is taken from break to break.
use Rattle.std.proofs.Common.{◌≡◌, ◌∙◌, refl, sym, ap, arith, Bool, true, false, ◌||◌, cond, List, [], ◌∷◌, ℕ, ◌+◌, ◌≤◌, ◌<◌, ℤ, length, max, min, drop, get_or}
use Rattle.std.specs.Prelude.{⊤, Some, unwrap_or}
use Rattle.std.specs.List.{list_any, filter}
use Rattle.std.proofs.lemmas.Bool.{false≢true}
use Rattle.std.proofs.lemmas.List.{drop_more, drop_all}
use Rattle.fragment_types.specs.declared.breaking.Breaking.{Breaking}
use Rattle.fragment_types.specs.declared.breaking.Breaking.TheVariants.{No, May, Must}
use Rattle.line_fill.specs.declared.item.FillItem.{FillItem}
use Rattle.line_fill.specs.Filling.{ends, ends_at, ends_from, break_before, fits, greatest, least, best, line_end}
use Rattle.line_fill.specs.Ahead.{break_at}
use Rattle.line_fill.proofs.Reaching.{ends_more}

-- none of these places stands before p
abbrev pub Above : ℕ → List ℕ → Type 0
Above p [] = ⊤
Above p (place ∷ places) = (p ≤ place) × Above p places

pub above_later : (p q : ℕ) (places : List ℕ) → p ≤ q → Above q places → Above p places
above_later p q [] h above = tt
above_later p q (place ∷ places) h above = let a = above.0 in (omega arith, above_later p q places h above.1)

above_at : (p : ℕ) (end : Breaking) (place : ℕ) (places : List ℕ) → p ≤ place → Above p places → Above p (ends_at end place places)
above_at p No place places h above = above
above_at p May place places h above = (h, above)
above_at p Must place places h above = (h, tt)

pub ends_above : (place : ℕ) (items : List FillItem) → Above (place + 1) (ends_from place items)
ends_above place [] = tt
ends_above place (item ∷ items) =
    above_at (place + 1) (break_before items item.end) (place + 1) (ends_from (place + 1) items) (omega arith)
    (above_later (place + 1) (place + 1 + 1) (ends_from (place + 1) items) (omega arith) (ends_above (place + 1) items))

filter_none : (test : ℕ → Bool) (places : List ℕ) → list_any test places ≡ false → filter test places ≡ []
filter_none test [] none = refl
filter_none test (place ∷ places) none = go (test place) refl (filter_none test places) where
  go : (b : Bool) → test place ≡ b → (list_any test places ≡ false → filter test places ≡ []) → filter test (place ∷ places) ≡ []
  go true e rest = absurd (false≢true (sym none ∙ ap (λ b. b || list_any test places) e))
  go false e rest = ap (λ b. cond b (place ∷ filter test places) (filter test places)) e ∙ rest (sym (ap (λ b. b || list_any test places) e) ∙ none)

least_above : (p d : ℕ) (places : List ℕ) → Above p places → p ≤ d → p ≤ unwrap_or (least places) d
least_above p d [] above h = h
least_above p d (place ∷ places) above h = let a = above.0 in let r = least_above p place places above.1 a in omega arith

-- where some place fits, the greatest that does stands behind p
some_greatest : (test : ℕ → Bool) (p : ℕ) (places : List ℕ) → Above p places → list_any test places ≡ true → (m : ℕ) × (greatest (filter test places) ≡ Some m) × (p ≤ m)
some_greatest test p [] above some = absurd (false≢true some)
some_greatest test p (place ∷ places) above some = go (test place) refl (some_greatest test p places above.1) where
  go : (b : Bool) → test place ≡ b → (list_any test places ≡ true → (m : ℕ) × (greatest (filter test places) ≡ Some m) × (p ≤ m)) → (m : ℕ) × (greatest (filter test (place ∷ places)) ≡ Some m) × (p ≤ m)
  go true e later =
      let low = above.0 in
      (max place (unwrap_or (greatest (filter test places)) place), ap (λ b. greatest (cond b (place ∷ filter test places) (filter test places))) e, omega arith)
  go false e later =
      let rest = later (sym (ap (λ b. b || list_any test places) e) ∙ some) in
      (rest.0, ap (λ b. greatest (cond b (place ∷ filter test places) (filter test places))) e ∙ rest.1, rest.2)

-- where a later place fits, the first one doesn't matter
pub best_later : (test : ℕ → Bool) (p : ℕ) (places : List ℕ) → Above p places → list_any test places ≡ true → best test (p ∷ places) ≡ best test places
best_later test p places above some =
    let r = some_greatest test p places above some in
    go r.0 r.1 r.2 (test p) refl
  where
    go : (m : ℕ) → greatest (filter test places) ≡ Some m → p ≤ m → (b : Bool) → test p ≡ b → best test (p ∷ places) ≡ best test places
    go m found later true e =
        let one : greatest (filter test (p ∷ places)) ≡ Some (max p (unwrap_or (greatest (filter test places)) p)) = ap (λ b. greatest (cond b (p ∷ filter test places) (filter test places))) e in
        let two : Some (max p (unwrap_or (greatest (filter test places)) p)) ≡ Some m = ap (λ o. Some (max p (unwrap_or o p))) found ∙ ap Some (omega arith) in
        let left : best test (p ∷ places) ≡ m = ap (λ o. unwrap_or o (unwrap_or (least (p ∷ places)) 0)) (one ∙ two) in
        let right : best test places ≡ m = ap (λ o. unwrap_or o (unwrap_or (least places) 0)) found in
        left ∙ sym right
    go m found later false e =
        let one : greatest (filter test (p ∷ places)) ≡ Some m = ap (λ b. greatest (cond b (p ∷ filter test places) (filter test places))) e ∙ found in
        let left : best test (p ∷ places) ≡ m = ap (λ o. unwrap_or o (unwrap_or (least (p ∷ places)) 0)) one in
        let right : best test places ≡ m = ap (λ o. unwrap_or o (unwrap_or (least places) 0)) found in
        left ∙ sym right

-- where no later place fits, it is the first
pub best_first : (test : ℕ → Bool) (p : ℕ) (places : List ℕ) → Above p places → list_any test places ≡ false → best test (p ∷ places) ≡ p
best_first test p places above none = go (test p) refl where
  empty : filter test places ≡ []
  empty = filter_none test places none

  go : (b : Bool) → test p ≡ b → best test (p ∷ places) ≡ p
  go true e =
      let one : filter test (p ∷ places) ≡ p ∷ [] = ap (λ b. cond b (p ∷ filter test places) (filter test places)) e ∙ ap (λ ps. p ∷ ps) empty in
      ap (λ ps. unwrap_or (greatest ps) (unwrap_or (least (p ∷ places)) 0)) one ∙ omega arith
  go false e =
      let one : filter test (p ∷ places) ≡ [] = ap (λ b. cond b (p ∷ filter test places) (filter test places)) e ∙ empty in
      let l = least_above p p places above (omega arith) in
      ap (λ ps. unwrap_or (greatest ps) (unwrap_or (least (p ∷ places)) 0)) one ∙ (let m : min p (unwrap_or (least places) p) ≡ p = omega arith in m)

-- the line goes on at q, or has come to the end of the text
pub record Seeks (available : ℤ) (items : List FillItem) (from q : ℕ) : Type 0 where
  pub on : q < length items → line_end available items from ≡ best (fits available items from) (ends items q)
  pub out : length items ≤ q → line_end available items from ≡ length items

-- what stands behind an item tells which ends follow
break_with : (items : List FillItem) (q : ℕ) (d : FillItem) → q < length items → break_at items q ≡ break_before (drop (q + 1) items) (get_or items q d).end
break_with items q d inside = let m = drop_more items q d inside in rw m refl

pub break_inside : (items : List FillItem) (q : ℕ) (d : FillItem) → q + 1 < length items → break_at items q ≡ (get_or items q d).end
break_inside items q d inside =
    let m = drop_more items (q + 1) d inside in
    break_with items q d (omega arith) ∙ rw m refl

pub break_out : (items : List FillItem) (q : ℕ) (d : FillItem) → q < length items → length items ≤ q + 1 → break_at items q ≡ Must
break_out items q d inside last =
    let none = drop_all (q + 1) items last in
    break_with items q d inside ∙ rw none refl

best_alone : (test : ℕ → Bool) (p : ℕ) → best test (p ∷ []) ≡ p
best_alone test p = best_first test p [] tt refl

-- a forced break, in the text or at its end
pub seeks_ended : (available : ℤ) (items : List FillItem) (from q : ℕ) (d : FillItem) → q < length items → break_at items q ≡ Must → Seeks available items from q → line_end available items from ≡ q + 1
seeks_ended available items from q d inside must seeks =
    seeks.on inside ∙ (ap (best (fits available items from)) (ends_more items q d inside ∙ ap (λ b. ends_at b (q + 1) (ends items (q + 1))) must) ∙ best_alone (fits available items from) (q + 1))

pub must_ends : (items : List FillItem) (q : ℕ) (d : FillItem) → q < length items → (get_or items q d).end ≡ Must → break_at items q ≡ Must
must_ends items q d inside must = break_with items q d inside ∙ go (drop (q + 1) items) where
  go : (rest : List FillItem) → break_before rest (get_or items q d).end ≡ Must
  go [] = refl
  go (item ∷ rest) = must

-- no break
pub seeks_on : (available : ℤ) (items : List FillItem) (from q : ℕ) (d : FillItem) → q < length items → (get_or items q d).end ≡ No → Seeks available items from q → Seeks available items from (q + 1)
seeks_on available items from q d inside none seeks = record {
  on = λ h. seeks.on inside ∙ ap (best (fits available items from)) (ends_more items q d inside ∙ ap (λ b. ends_at b (q + 1) (ends items (q + 1))) (break_inside items q d h ∙ none));
  out = λ h. seeks_ended available items from q d inside (break_out items q d inside h) seeks ∙ omega arith;
}

-- a break that is passed over, since some later place fits
pub seeks_past : (available : ℤ) (items : List FillItem) (from q : ℕ) (d : FillItem) → q < length items → (get_or items q d).end ≡ May
    → list_any (fits available items from) (ends items (q + 1)) ≡ true → Seeks available items from q → Seeks available items from (q + 1)
seeks_past available items from q d inside may some seeks = record {
  on = λ h. seeks.on inside ∙ (ap (best (fits available items from)) (ends_more items q d inside ∙ ap (λ b. ends_at b (q + 1) (ends items (q + 1))) (break_inside items q d h ∙ may))
      ∙ best_later (fits available items from) (q + 1) (ends items (q + 1)) (above_later (q + 1) (q + 1 + 1) (ends items (q + 1)) (omega arith) (ends_above (q + 1) (drop (q + 1) items))) some);
  out = λ h. seeks_ended available items from q d inside (break_out items q d inside h) seeks ∙ omega arith;
}

-- a break that is taken, since no later place fits
pub seeks_taken : (available : ℤ) (items : List FillItem) (from q : ℕ) (d : FillItem) → q < length items → (get_or items q d).end ≡ May
    → list_any (fits available items from) (ends items (q + 1)) ≡ false → Seeks available items from q → line_end available items from ≡ q + 1
seeks_taken available items from q d inside may none seeks = go (drop (q + 1) items) refl where
  later : Above (q + 1) (ends items (q + 1))
  later = above_later (q + 1) (q + 1 + 1) (ends items (q + 1)) (omega arith) (ends_above (q + 1) (drop (q + 1) items))

  go : (rest : List FillItem) → drop (q + 1) items ≡ rest → line_end available items from ≡ q + 1
  go [] e = seeks_ended available items from q d inside (break_with items q d inside ∙ ap (λ r. break_before r (get_or items q d).end) e) seeks
  go (item ∷ rest) e =
      seeks.on inside ∙ (ap (best (fits available items from)) (ends_more items q d inside ∙ ap (λ b. ends_at b (q + 1) (ends items (q + 1))) (break_with items q d inside ∙ (ap (λ r. break_before r (get_or items q d).end) e ∙ may)))
      ∙ best_first (fits available items from) (q + 1) (ends items (q + 1)) later none)
