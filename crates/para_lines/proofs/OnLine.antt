-- Which boxes stand on a line.
use Rattle.std.proofs.Common.{inl, inr, ◌≡◌, ◌∙◌, refl, sym, ap, arith, subst, Bool, true, false, not, ◌||◌, ◌⊎◌, if◌then◌else◌, ℕ, zero, suc, ◌<◌, ◌≤◌, List, [], ◌∷◌, ◌++◌, length, get_or, reverse}
use Rattle.std.specs.Prelude.{All, IfSome, ◌==◌}
use Rattle.std.proofs.lemmas.List.{reverse-append}
use Rattle.std.proofs.lemmas.Bool.{cases_Bool, cases_eq, eq-eqb, ne_eqb}
use Rattle.fragment_types.specs.Item.{Entry}
use Rattle.para_lines.specs.Standing as code
use Rattle.para_lines.specs.Around.{fresh, has, no_entry}
use Rattle.para_lines.specs.Boxes.{Begins, apart, chain_at, innermost}
use Rattle.para_lines.specs.Line.{IsAble, on_line}
use Rattle.para_lines.specs.Seats.{AreOnLine, IsOnLine}
use Rattle.para_lines.proofs.Chaining.{AreLinked, at, linked, outer_too, there}

has_append : (xs ys : List ℕ) (x : ℕ) → has (xs ++ ys) x ≡ (has xs x || has ys x)
has_append [] ys x = refl
has_append (y ∷ xs) ys x = ap (λ b. (y == x) || b) (has_append xs ys x) ∙ assoc (y == x) (has xs x) (has ys x) where
  assoc : (a b c : Bool) → (a || (b || c)) ≡ ((a || b) || c)
  assoc true b c = refl
  assoc false b c = refl

has_reverse : (xs : List ℕ) (x : ℕ) → has (reverse xs) x ≡ has xs x
has_reverse [] x = refl
has_reverse (y ∷ xs) x =
    ap (λ (l : List ℕ). has l x) (reverse-append (y ∷ []) xs) ∙ has_append (reverse xs) (y ∷ []) x ∙ ap (λ b. b || ((y == x) || false)) (has_reverse xs x) ∙ turn (has xs x) (y == x) where
      turn : (a b : Bool) → (a || (b || false)) ≡ (b || a)
      turn true true = refl
      turn true false = refl
      turn false true = refl
      turn false false = refl

pub or_left : (a b : Bool) → a ≡ true → (a || b) ≡ true
or_left true b e = refl
or_left false b e = cc

pub or_right : (a b : Bool) → b ≡ true → (a || b) ≡ true
or_right true b e = refl
or_right false b e = e

pub or_false : (a b : Bool) → a ≡ false → (a || b) ≡ true → b ≡ true
or_false false b e f = f
or_false true b e f = cc

pub or_cases : (a b : Bool) → (a || b) ≡ true → (a ≡ true) ⊎ (b ≡ true)
or_cases true b e = inl refl
or_cases false b e = inr e

apart_in : (chain other : List ℕ) (x : ℕ) → has (apart chain other) x ≡ true → has chain x ≡ true
apart_in [] other x h = h
apart_in (y ∷ chain) other x h = go (has other y) (apart_in chain other x) h where
  go : (b : Bool) → (has (apart chain other) x ≡ true → has chain x ≡ true) → has (if not b then y ∷ apart chain other else apart chain other) x ≡ true → ((y == x) || has chain x) ≡ true
  go true rest e = or_right (y == x) (has chain x) (rest e)
  go false rest e =
      elim (or_cases (y == x) (has (apart chain other) x) e) [
        | inl f ↦ or_left (y == x) (has chain x) f
        | inr f ↦ or_right (y == x) (has chain x) (rest f)
      ]

apart_has : (chain other : List ℕ) (x : ℕ) → has chain x ≡ true → has other x ≡ false → has (apart chain other) x ≡ true
apart_has [] other x h out = h
apart_has (y ∷ chain) other x h out =
    elim (cases_eq y x) [
      | inl e ↦ rw (ap (has other) e ∙ out) (or_left (y == x) (has (apart chain other) x) (eq-eqb y x e))
      | inr n ↦ go (has other y) (apart_has chain other x (or_false (y == x) (has chain x) (ne_eqb y x n) h) out)
    ] where
      go : (b : Bool) → has (apart chain other) x ≡ true → has (if not b then y ∷ apart chain other else apart chain other) x ≡ true
      go true e = e
      go false e = or_right (y == x) (has (apart chain other) x) e

-- a box of a chain is in the other one or among those that are fresh
pub fresh_in : (chain other : List ℕ) (x : ℕ) → has chain x ≡ true → (has other x ≡ true) ⊎ (has (fresh chain other) x ≡ true)
fresh_in chain other x h =
    elim (cases_Bool (has other x)) [
      | inl e ↦ inl e
      | inr e ↦ inr (has_reverse (apart chain other) x ∙ apart_has chain other x h e)
    ]

fresh_or : (chain other rest : List ℕ) (x : ℕ) → has chain x ≡ true → (has other x ≡ true) ⊎ (has (fresh chain other ++ rest) x ≡ true)
fresh_or chain other rest x h =
    elim (fresh_in chain other x h) [
      | inl e ↦ inl e
      | inr e ↦ inr (has_append (fresh chain other) rest x ∙ or_left (has (fresh chain other) x) (has rest x) e)
    ]

later : (chain other rest : List ℕ) (x : ℕ) → (has chain x ≡ true) ⊎ (has rest x ≡ true) → (has other x ≡ true) ⊎ (has (fresh chain other ++ rest) x ≡ true)
later chain other rest x (inl e) = fresh_or chain other rest x e
later chain other rest x (inr e) = inr (has_append (fresh chain other) rest x ∙ or_right (has (fresh chain other) x) (has rest x) e)

-- each box on a line stands round an item of it, and so do all round that one
abbrev Origin : List Entry → (before : List ℕ) → List code.Standing → (box : ℕ) → Type 0
Origin entries before standings box =
    (s : ℕ) × (s < length entries) × (has (chain_at entries s) box ≡ true)
    × ((x : ℕ) → has (chain_at entries s) x ≡ true → (has before x ≡ true) ⊎ (has (on_line entries before standings) x ≡ true))

origin : (entries : List Entry) (before : List ℕ) (standings : List code.Standing) (box : ℕ) → All (IsAble (length entries)) standings → has (on_line entries before standings) box ≡ true → Origin entries before standings box
origin entries before [] box within h = cc
origin entries before (s ∷ standings) box within h =
    let chain : List ℕ = chain_at entries s.item.source in
    let rest : List ℕ = on_line entries chain standings in
    elim (or_cases (has (fresh chain before) box) (has rest box) (sym (has_append (fresh chain before) rest box) ∙ h)) [
      | inl e ↦ (s.item.source, (within 0 s (omega arith)).source, apart_in chain before box (sym (has_reverse (apart chain before) box) ∙ e), λ x i. fresh_or chain before rest x i)
      | inr e ↦
          let o = origin entries chain standings box (λ k d lt. within (suc k) d (omega arith)) e in
          (o.0, o.1, o.2, λ x i. later chain before rest x (o.3 x i))
    ]

linked_box : (entries : List Entry) (limit box : ℕ) (chain : List ℕ) → AreLinked entries limit chain → has chain box ≡ true → (box < length entries) × Begins (get_or entries box no_entry)
linked_box entries limit box [] h i = cc
linked_box entries limit box (other ∷ chain) h i =
    let P : ℕ → Type 0 = λ b. (b < length entries) × Begins (get_or entries b no_entry) in
    elim (cases_eq other box) [
      | inl e ↦ subst P e (h.1, h.2)
      | inr n ↦ linked_box entries other box chain h.4 (or_false (other == box) (has chain box) (ne_eqb other box n) i)
    ]

pub first_of : (chain : List ℕ) (P : ℕ → Type 0) → ((x : ℕ) → has chain x ≡ true → P x) → IfSome (innermost chain) P
first_of [] P h = tt
first_of (x ∷ chain) P h = h x (or_left (x == x) (has chain x) (eq-eqb x x refl))

no_before : (x : ℕ) (b : Bool) → (has [] x ≡ true) ⊎ (b ≡ true) → b ≡ true
no_before x b (inl e) = cc
no_before x b (inr e) = e

pub all_on_line : (entries : List Entry) (standings : List code.Standing) → All (IsAble (length entries)) standings → AreOnLine entries (on_line entries [] standings)
all_on_line entries standings within = λ box i.
    let o = origin entries [] standings box within i in
    let s : ℕ = o.0 in
    let lt : s < length entries = o.1 in
    let here : chain_at entries s ≡ at 0 [] entries s = there entries s [] lt in
    let l : AreLinked entries s (at 0 [] entries s) = linked entries s (let w : s ≤ length entries = omega arith in w) in
    let in_ : has (at 0 [] entries s) box ≡ true = ap (λ (c : List ℕ). has c box) (sym here) ∙ o.2 in
    let b = linked_box entries s box (at 0 [] entries s) l in_ in
    record {
      within = b.0;
      begins = b.1;
      outer =
          first_of (chain_at entries box) (λ x. has (on_line entries [] standings) x ≡ true) (λ x h.
          no_before x (has (on_line entries [] standings) x) (o.3 x (
          ap (λ (c : List ℕ). has c x) here ∙ outer_too entries s box (at 0 [] entries s) l in_ x (ap (λ (c : List ℕ). has c x) (sym (there entries box [] b.0)) ∙ h))));
    }

-- the boxes round each item of a line are on it
covers : (entries : List Entry) (before : List ℕ) (standings : List code.Standing) (k : ℕ) (d : code.Standing) (x : ℕ) → k < length standings → has (chain_at entries (get_or standings k d).item.source) x ≡ true
    → (has before x ≡ true) ⊎ (has (on_line entries before standings) x ≡ true)
covers entries before [] k d x lt h = absurd (omega arith)
covers entries before (s ∷ standings) zero d x lt h = fresh_or (chain_at entries s.item.source) before (on_line entries (chain_at entries s.item.source) standings) x h
covers entries before (s ∷ standings) (suc k) d x lt h =
    later (chain_at entries s.item.source) before (on_line entries (chain_at entries s.item.source) standings) x (covers entries (chain_at entries s.item.source) standings k d x (omega arith) h)

pub item_on_line : (entries : List Entry) (standings : List code.Standing) (k : ℕ) (d : code.Standing) → k < length standings
    → IfSome (innermost (chain_at entries (get_or standings k d).item.source)) (λ box. has (on_line entries [] standings) box ≡ true)
item_on_line entries standings k d lt =
    first_of (chain_at entries (get_or standings k d).item.source) (λ x. has (on_line entries [] standings) x ≡ true) (λ x h.
    no_before x (has (on_line entries [] standings) x) (covers entries [] standings k d x lt h))

-- a place in a list is a box of it
pub has_there : (places : List ℕ) (k d : ℕ) → k < length places → has places (get_or places k d) ≡ true
has_there [] k d lt = absurd (omega arith)
has_there (place ∷ places) zero d lt = or_left (place == place) (has places place) (eq-eqb place place refl)
has_there (place ∷ places) (suc k) d lt = or_right (place == get_or places k d) (has places (get_or places k d)) (has_there places k d (omega arith))

pub on_line_within : (entries : List Entry) (standings : List code.Standing) (places : List ℕ) (n : ℕ) → places ≡ on_line entries [] standings → length entries ≡ n → All (IsAble (length entries)) standings
    → All (λ place. place < n) places
on_line_within entries standings places n are same able = λ k d lt.
    let m = ap length are in
    let own = (all_on_line entries standings able (get_or (on_line entries [] standings) k d) (has_there (on_line entries [] standings) k d (omega arith))).within in
    let read = ap (λ (ps : List ℕ). get_or ps k d) are in
    omega arith

pub on_line_there : (entries : List Entry) (places : List ℕ) (k d : ℕ) → AreOnLine entries places → k < length places → IsOnLine entries places (get_or places k d)
on_line_there entries places k d on lt = on (get_or places k d) (has_there places k d lt)
