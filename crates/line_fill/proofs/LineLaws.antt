-- Where lines end, over all paragraphs.
use Rattle.std.proofs.Common.{◌≡◌, ◌∙◌, refl, sym, ap, arith, Bool, true, false, cond, ◌⊎◌, inl, inr, List, [], ◌∷◌, ℕ, zero, suc, ◌+◌, ◌-◌, ◌≤◌, ◌<◌, ℤ, length, max, min, drop, get_or, subst}
use Rattle.std.specs.Prelude.{unwrap_or, pos}
use Rattle.std.specs.List.{filter}
use Rattle.std.proofs.lemmas.Bool.{false≢true}
use Rattle.std.proofs.lemmas.List.{drop_more, length-drop}
use Rattle.fragment_types.specs.declared.breaking.Breaking.{Breaking}
use Rattle.fragment_types.specs.declared.breaking.Breaking.TheVariants.{No, May, Must}
use Rattle.line_fill.specs.declared.item.FillItem.{FillItem}
use Rattle.line_fill.specs.Filling.{ends, ends_at, ends_from, break_before, fits, greatest, least, best, line_end, lines_by, Divide}
use Rattle.line_fill.specs.Laws.{IsAmong, DivideItems, EndWhereAllowed}

either_order : (a b : ℕ) → (a ≤ b) ⊎ (b ≤ a)
either_order zero b = inl (omega arith)
either_order (suc a) zero = inr (omega arith)
either_order (suc a) (suc b) = more (either_order a b) where
  more : (a ≤ b) ⊎ (b ≤ a) → (suc a ≤ suc b) ⊎ (suc b ≤ suc a)
  more (inl h) = inl (omega arith)
  more (inr h) = inr (omega arith)

-- the greatest of some places is one of them, and none is greater
greatest_among : (p : ℕ) (places : List ℕ) → IsAmong (max p (unwrap_or (greatest places) p)) (p ∷ places)
greatest_among p [] = inl (omega arith)
greatest_among p (q ∷ places) = go (either_order p (max q (unwrap_or (greatest places) q))) (greatest_among q places) where
  go : (p ≤ max q (unwrap_or (greatest places) q)) ⊎ (max q (unwrap_or (greatest places) q) ≤ p) → IsAmong (max q (unwrap_or (greatest places) q)) (q ∷ places)
      → IsAmong (max p (max q (unwrap_or (greatest places) q))) (p ∷ (q ∷ places))
  go (inr h) rest = inl (omega arith)
  go (inl h) rest =
      let e : max q (unwrap_or (greatest places) q) ≡ max p (max q (unwrap_or (greatest places) q)) = omega arith in
      inr (subst (λ n. IsAmong n (q ∷ places)) e rest)

greatest_above : (d : ℕ) (places : List ℕ) (q : ℕ) → IsAmong q places → q ≤ unwrap_or (greatest places) d
greatest_above d [] q among = absurd among
greatest_above d (place ∷ places) q (inl e) = omega arith
greatest_above d (place ∷ places) q (inr among) = let rest = greatest_above place places q among in omega arith

-- the least of some places is one of them, and none is less
least_among : (p : ℕ) (places : List ℕ) → IsAmong (min p (unwrap_or (least places) p)) (p ∷ places)
least_among p [] = inl (omega arith)
least_among p (q ∷ places) = go (either_order p (min q (unwrap_or (least places) q))) (least_among q places) where
  go : (p ≤ min q (unwrap_or (least places) q)) ⊎ (min q (unwrap_or (least places) q) ≤ p) → IsAmong (min q (unwrap_or (least places) q)) (q ∷ places)
      → IsAmong (min p (min q (unwrap_or (least places) q))) (p ∷ (q ∷ places))
  go (inl h) rest = inl (omega arith)
  go (inr h) rest =
      let e : min q (unwrap_or (least places) q) ≡ min p (min q (unwrap_or (least places) q)) = omega arith in
      inr (subst (λ n. IsAmong n (q ∷ places)) e rest)

least_below : (d : ℕ) (places : List ℕ) (q : ℕ) → IsAmong q places → unwrap_or (least places) d ≤ q
least_below d [] q among = absurd among
least_below d (place ∷ places) q (inl e) = omega arith
least_below d (place ∷ places) q (inr among) = let rest = least_below place places q among in omega arith

-- the places that pass a test
filter_among : (test : ℕ → Bool) (places : List ℕ) (q : ℕ) → IsAmong q (filter test places) → IsAmong q places × (test q ≡ true)
filter_among test [] q among = absurd among
filter_among test (place ∷ places) q among = go (test place) refl (filter_among test places q) among where
  go : (t : Bool) → test place ≡ t → (IsAmong q (filter test places) → IsAmong q places × (test q ≡ true))
      → IsAmong q (cond t (place ∷ filter test places) (filter test places)) → IsAmong q (place ∷ places) × (test q ≡ true)
  go true e rest (inl same) = (inl same, ap test same ∙ e)
  go true e rest (inr among) = let r = rest among in (inr r.0, r.1)
  go false e rest among = let r = rest among in (inr r.0, r.1)

among_filter : (test : ℕ → Bool) (places : List ℕ) (q : ℕ) → IsAmong q places → test q ≡ true → IsAmong q (filter test places)
among_filter test [] q among passes = among
among_filter test (place ∷ places) q among passes = go (test place) refl (λ a. among_filter test places q a passes) among where
  go : (t : Bool) → test place ≡ t → (IsAmong q places → IsAmong q (filter test places)) → IsAmong q (place ∷ places) → IsAmong q (cond t (place ∷ filter test places) (filter test places))
  go true e rest (inl same) = inl same
  go true e rest (inr among) = inr (rest among)
  go false e rest (inl same) = absurd (false≢true (sym e ∙ (ap test (sym same) ∙ passes)))
  go false e rest (inr among) = rest among

-- the best of some places
record IsBest (test : ℕ → Bool) (places : List ℕ) (end : ℕ) : Type 0 where
  allowed : IsAmong end places
  last : (place : ℕ) → IsAmong place places → test place ≡ true → place ≤ end
  first : test end ≡ false → (place : ℕ) → IsAmong place places → end ≤ place

best_is : (test : ℕ → Bool) (p : ℕ) (ps : List ℕ) → IsBest test (p ∷ ps) (best test (p ∷ ps))
best_is test p ps = go (filter test (p ∷ ps)) refl where
  go : (fs : List ℕ) → filter test (p ∷ ps) ≡ fs → IsBest test (p ∷ ps) (best test (p ∷ ps))
  go [] e =
      let same : best test (p ∷ ps) ≡ min p (unwrap_or (least ps) p) = ap (λ fs. unwrap_or (greatest fs) (unwrap_or (least (p ∷ ps)) 0)) e in
      subst (λ n. IsBest test (p ∷ ps) n) (sym same) (record {
        allowed = least_among p ps;
        last = λ place among passes. absurd (subst (λ fs. IsAmong place fs) e (among_filter test (p ∷ ps) place among passes));
        first = λ fails place among. least_below 0 (p ∷ ps) place among;
      })
  go (f ∷ fs) e =
      let same : best test (p ∷ ps) ≡ max f (unwrap_or (greatest fs) f) = ap (λ gs. unwrap_or (greatest gs) (unwrap_or (least (p ∷ ps)) 0)) e in
      let found = filter_among test (p ∷ ps) (max f (unwrap_or (greatest fs) f)) (subst (λ gs. IsAmong (max f (unwrap_or (greatest fs) f)) gs) (sym e) (greatest_among f fs)) in
      subst (λ n. IsBest test (p ∷ ps) n) (sym same) (record {
        allowed = found.0;
        last = λ place among passes. greatest_above 0 (f ∷ fs) place (subst (λ gs. IsAmong place gs) e (among_filter test (p ∷ ps) place among passes));
        first = λ fails place among. absurd (false≢true (sym fails ∙ found.1));
      })

-- where there is some item, there is some end
some_end : (place : ℕ) (item : FillItem) (items : List FillItem) → (p : ℕ) × (ps : List ℕ) × (ends_from place (item ∷ items) ≡ p ∷ ps)
some_end place item [] = (place + 1, [], refl)
some_end place item (next ∷ items) = go item.end (some_end (place + 1) next items) where
  go : (end : Breaking) → (p : ℕ) × (ps : List ℕ) × (ends_from (place + 1) (next ∷ items) ≡ p ∷ ps)
      → (p : ℕ) × (ps : List ℕ) × (ends_at end (place + 1) (ends_from (place + 1) (next ∷ items)) ≡ p ∷ ps)
  go No rest = rest
  go May rest = (place + 1, ends_from (place + 1) (next ∷ items), refl)
  go Must rest = (place + 1, [], refl)

plain : FillItem
plain = record { advance = pos 0; before = pos 0; after = pos 0; space = false; end = No }

some_ends : (items : List FillItem) (from : ℕ) → from < length items → (p : ℕ) × (ps : List ℕ) × (ends items from ≡ p ∷ ps)
some_ends items from inside =
    let more = drop_more items from plain inside in
    let e = some_end from (get_or items from plain) (drop (from + 1) items) in
    (e.0, e.1, ap (ends_from from) more ∙ e.2)

line_end_best : (available : ℤ) (items : List FillItem) (from : ℕ) → from < length items → IsBest (fits available items from) (ends items from) (line_end available items from)
line_end_best available items from inside =
    let some = some_ends items from inside in
    subst (λ ps. IsBest (fits available items from) ps (best (fits available items from) ps)) (sym some.2) (best_is (fits available items from) some.0 some.1)

pub end_where_allowed : EndWhereAllowed
end_where_allowed = λ available items from inside.
    let b = line_end_best available items from inside in
    record { allowed = b.allowed; last = b.last; first = b.first }

-- ends stand behind the line's beginning, and within the text
ends_within : (place : ℕ) (items : List FillItem) (q : ℕ) → IsAmong q (ends_from place items) → (place < q) × (q ≤ place + length items)
ends_within place [] q among = absurd among
ends_within place (item ∷ items) q among = go (break_before items item.end) (ends_within (place + 1) items q) among where
  later : (place + 1 < q) × (q ≤ place + 1 + length items) → (place < q) × (q ≤ place + suc (length items))
  later h = let a = h.0 in let b = h.1 in (omega arith, omega arith)

  here : q ≡ place + 1 → (place < q) × (q ≤ place + suc (length items))
  here e = (omega arith, omega arith)

  go : (end : Breaking) → (IsAmong q (ends_from (place + 1) items) → (place + 1 < q) × (q ≤ place + 1 + length items))
      → IsAmong q (ends_at end (place + 1) (ends_from (place + 1) items)) → (place < q) × (q ≤ place + suc (length items))
  go No rest among = later (rest among)
  go May rest (inl e) = here e
  go May rest (inr among) = later (rest among)
  go Must rest (inl e) = here e
  go Must rest (inr among) = absurd among

line_end_within : (available : ℤ) (items : List FillItem) (from : ℕ) → from < length items → (from < line_end available items from) × (line_end available items from ≤ length items)
line_end_within available items from inside =
    let b = line_end_best available items from inside in
    let w = ends_within from (drop from items) (line_end available items from) b.allowed in
    let l = length-drop from items in
    let a = w.0 in
    let z = w.1 in
    (a, omega arith)

-- lines that end within the text divide it
lines_divide : (ending : ℕ → ℕ) (n : ℕ) → ((q : ℕ) → q < n → (q < ending q) × (ending q ≤ n)) → (place covered : ℕ) (items : List FillItem) → place + length items ≡ n → covered ≤ length items
    → Divide (place + covered) n (lines_by ending place covered items)
lines_divide ending n within place covered [] e few = omega arith
lines_divide ending n within place zero (item ∷ items) e few =
    let w = within place (omega arith) in
    let a = w.0 in
    let z = w.1 in
    let same : place + 1 + (ending place - (place + 1)) ≡ ending place = omega arith in
    let none : place + 0 < ending place = omega arith in (
      none,
      subst (λ m. Divide m n (lines_by ending (place + 1) (ending place - (place + 1)) items)) same
          (lines_divide ending n within (place + 1) (ending place - (place + 1)) items (omega arith) (omega arith)),
    )
lines_divide ending n within place (suc covered) (item ∷ items) e few =
    let same : place + 1 + covered ≡ place + suc covered = omega arith in
    subst (λ m. Divide m n (lines_by ending (place + 1) covered items)) same (lines_divide ending n within (place + 1) covered items (omega arith) (omega arith))

pub divide_items : DivideItems
divide_items = λ available items. lines_divide (line_end available items) (length items) (line_end_within available items) 0 0 items (omega arith) (omega arith)
