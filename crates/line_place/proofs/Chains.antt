-- The boxes round a place, where each box stands behind the one round it.
use Rattle.std.proofs.Common.{◌≡◌, ◌∙◌, ap, sym, refl, arith, Bool, true, false, not, ◌||◌, ◌==◌, cond, ℕ, zero, suc, ◌+◌, ◌-◌, ◌<◌, ◌≤◌, List, [], ◌∷◌, ◌++◌, length, map, Option, Some, None, ◌⊎◌, inl, inr, take, drop, subst, append_assoc}
use Rattle.std.specs.List.{filter}
use Rattle.std.proofs.lemmas.Bool.Decides.{eqb_tells}
use Rattle.line_place.specs.declared.line.LineBox.{LineBox}
use Rattle.line_place.specs.Runs.{is_place}
use Rattle.line_place.specs.Marks.{Mark, ends, box_at, chain_below, chain, has, left_behind}
use Rattle.line_place.specs.Marks.{inside_of}
use Rattle.line_place.specs.Leaves.{Leaf}
use Rattle.line_place.specs.Reach.{IsBefore, AreNested, AreWithin}

-- a test of two numbers
pub same_place : (p : ℕ) → (p == p) ≡ true
same_place p = elim (eqb_tells p p) [ inl (is, e) ↦ is | inr (is, ne) ↦ absurd (ne refl) ]

pub other_place : (p q : ℕ) → (p ≡ q → ⊥) → (p == q) ≡ false
other_place p q ne = elim (eqb_tells p q) [ inl (is, e) ↦ absurd (ne e) | inr (is, other) ↦ is ]

-- boxes from a place on that lies behind the innermost box are passed over
is_behind : (inside : Option ℕ) (n : ℕ) → IsBefore n inside → is_place inside (Some n) ≡ false
is_behind None n below = refl
is_behind (Some q) n below = other_place q n (λ e. omega (arith, below, e))

one_over : (boxes : List LineBox) (n : ℕ) (inside : Option ℕ) → is_place inside (Some n) ≡ false → chain_below boxes (suc n) inside ≡ chain_below boxes n inside
one_over boxes n inside is = rw is refl

pub more_before : (inside : Option ℕ) (m n : ℕ) → IsBefore m inside → m ≤ n → IsBefore n inside
more_before None m n below le = tt
more_before (Some q) m n below le = omega (arith, below)

-- where `more` counts how far n is behind m
passed_over : (boxes : List LineBox) (m more : ℕ) (inside : Option ℕ) → IsBefore m inside → chain_below boxes (more + m) inside ≡ chain_below boxes m inside
passed_over boxes m zero inside below = let e : 0 + m ≡ m = omega arith in ap (λ (k : ℕ). chain_below boxes k inside) e
passed_over boxes m (suc more) inside below =
    let e : suc more + m ≡ suc (more + m) = omega arith in
    ap (λ (k : ℕ). chain_below boxes k inside) e
    ∙ one_over boxes (more + m) inside (is_behind inside (more + m) (more_before inside m (more + m) below (omega arith)))
    ∙ passed_over boxes m more inside below

from_below : (boxes : List LineBox) (m n : ℕ) (inside : Option ℕ) → IsBefore m inside → m ≤ n → chain_below boxes n inside ≡ chain_below boxes m inside
from_below boxes m n inside below le =
    let e : n - m + m ≡ n = omega arith in
    ap (λ (k : ℕ). chain_below boxes k inside) (sym e) ∙ passed_over boxes m (n - m) inside below

-- a box, and those round the one round it
pub chain_of : (boxes : List LineBox) (p : ℕ) → AreNested boxes → p < length boxes → chain boxes (Some p) ≡ p ∷ chain boxes (box_at boxes p).outer
chain_of boxes p nested lt =
    let own : chain_below boxes (suc p) (Some p) ≡ p ∷ chain_below boxes p (box_at boxes p).outer = rw (same_place p) refl in
    from_below boxes (suc p) (length boxes) (Some p) (omega arith) (omega arith)
    ∙ own
    ∙ ap (λ (c : List ℕ). p ∷ c) (sym (from_below boxes p (length boxes) (box_at boxes p).outer (nested p lt) (omega arith)))

or_false : (a b : Bool) → (a || b) ≡ false → (a ≡ false) × (b ≡ false)
or_false true b h = cc
or_false false b h = (refl, h)

pub or_true : (a : Bool) → (a || true) ≡ true
or_true true = refl
or_true false = refl

swapped : (p q : ℕ) → (p == q) ≡ false → (q == p) ≡ false
swapped p q is = other_place q p (λ e. let t : (p == q) ≡ true = ap (λ (x : ℕ). p == x) e ∙ same_place p in cc)

hadless : (here : Bool) (n q : ℕ) (rest : List ℕ) → n < q → has rest q ≡ false → has (cond here (n ∷ []) [] ++ rest) q ≡ false
hadless true n q rest lt is = rw (other_place n q (λ e. omega (arith, e))) is
hadless false n q rest lt is = is

-- no box at that place or behind it
unhad_below : (boxes : List LineBox) (n q : ℕ) (inside : Option ℕ) → n ≤ q → has (chain_below boxes n inside) q ≡ false
unhad_below boxes zero q inside le = refl
unhad_below boxes (suc n) q inside le = hadless (is_place inside (Some n)) n q _ (omega arith) (unhad_below boxes n q _ (omega arith))

pub unhad : (boxes : List LineBox) (q : ℕ) (inside : Option ℕ) → IsBefore q inside → q < length boxes → has (chain boxes inside) q ≡ false
unhad boxes q inside below lt = ap (λ (c : List ℕ). has c q) (from_below boxes q (length boxes) inside below (omega arith)) ∙ unhad_below boxes q q inside (omega arith)

-- ---- boxes round the one and not round the other

kept : (c rest : List ℕ) (p : ℕ) → has c p ≡ false → filter (λ q. not (has c q)) (p ∷ rest) ≡ p ∷ filter (λ q. not (has c q)) rest
kept c rest p is = rw is refl

-- the deeper box is round the one alone
pub one_deeper : (boxes : List LineBox) (p : ℕ) (other : Option ℕ) → AreNested boxes → p < length boxes → IsBefore p other
    → left_behind boxes (Some p) other ≡ p ∷ left_behind boxes (box_at boxes p).outer other
one_deeper boxes p other nested lt below =
    ap (filter (λ q. not (has (chain boxes other) q))) (chain_of boxes p nested lt) ∙ kept (chain boxes other) (chain boxes (box_at boxes p).outer) p (unhad boxes p other below lt)

without : (p : ℕ) (c d : List ℕ) → has d p ≡ false → filter (λ q. not (has (p ∷ c) q)) d ≡ filter (λ q. not (has c q)) d
without p c [] is = refl
without p c (q ∷ d) is =
    let e = or_false (q == p) (has d p) is in
    let f : (p == q) ≡ false = swapped q p e.0 in
    rw f (ap (λ (rest : List ℕ). cond (not (has c q)) (q ∷ rest) rest) (without p c d e.1))

pub other_deeper : (boxes : List LineBox) (p : ℕ) (other : Option ℕ) → AreNested boxes → p < length boxes → IsBefore p other
    → left_behind boxes other (Some p) ≡ left_behind boxes other (box_at boxes p).outer
other_deeper boxes p other nested lt below =
    ap (λ (c : List ℕ). filter (λ q. not (has c q)) (chain boxes other)) (chain_of boxes p nested lt) ∙ without p (chain boxes (box_at boxes p).outer) (chain boxes other) (unhad boxes p other below lt)

had : (c : List ℕ) (before : List ℕ) (p : ℕ) → has (before ++ p ∷ c) p ≡ true
had c [] p = rw (same_place p) refl
had c (q ∷ before) p = rw (had c before p) (or_true (q == p))

none_left : (all before c : List ℕ) → all ≡ before ++ c → filter (λ q. not (has all q)) c ≡ []
none_left all before [] is = refl
none_left all before (p ∷ c) is =
    let e : has all p ≡ true = ap (λ (a : List ℕ). has a p) is ∙ had c before p in
    let f : all ≡ (before ++ p ∷ []) ++ c = is ∙ sym (append_assoc before (p ∷ []) c) in
    rw e (none_left all (before ++ p ∷ []) c f)

pub nothing_left : (boxes : List LineBox) (inside : Option ℕ) → left_behind boxes inside inside ≡ []
nothing_left boxes inside = none_left (chain boxes inside) [] (chain boxes inside) refl

-- ---- on the way from one place to another

-- how deep a box stands at most
abbrev pub depth : Option ℕ → ℕ
depth None = 0
depth (Some p) = suc p

pub is_that : (inside : Option ℕ) (p : ℕ) → is_place inside (Some p) ≡ true → inside ≡ Some p
is_that None p is = cc
is_that (Some q) p is = elim (eqb_tells q p) [ inl (so, e) ↦ ap Some e | inr (so, ne) ↦ cc ]

not_itself : (inside : Option ℕ) (p : ℕ) → inside ≡ Some p → IsBefore p inside → ⊥
not_itself None p is below = cc
not_itself (Some q) p is below = let e : q ≡ p = cc in omega (arith, below, e)

pub the_one : (one other : Option ℕ) (p : ℕ) → ((one ≡ Some p) × IsBefore p other) ⊎ ((other ≡ Some p) × IsBefore p one)
    → is_place one (Some p) ≡ true → (one ≡ Some p) × IsBefore p other
the_one one other p deeper is =
    elim deeper [ inl (e, below) ↦ (e, below) | inr (e, below) ↦ absurd (not_itself one p (is_that one p is) below) ]

itself : (one : Option ℕ) (p : ℕ) → one ≡ Some p → is_place one (Some p) ≡ true
itself None p e = cc
itself (Some q) p e = let f : q ≡ p = cc in ap (λ (x : ℕ). x == p) f ∙ same_place p

pub the_other : (one other : Option ℕ) (p : ℕ) → ((one ≡ Some p) × IsBefore p other) ⊎ ((other ≡ Some p) × IsBefore p one)
    → is_place one (Some p) ≡ false → (other ≡ Some p) × IsBefore p one
the_other one other p deeper is =
    elim deeper [ inl (e, below) ↦ let t = itself one p e in cc | inr (e, below) ↦ (e, below) ]

pub one_ends : (boxes : List LineBox) (one other out : Option ℕ) (p : ℕ) (done total : List Mark) → AreNested boxes → p < length boxes → one ≡ Some p → IsBefore p other
    → out ≡ (box_at boxes p).outer → done ++ map (λ q. ends q false) (left_behind boxes one other) ≡ total
    → (done ++ ends p false ∷ []) ++ map (λ q. ends q false) (left_behind boxes out other) ≡ total
one_ends boxes one other out p done total nested lt is below at all =
    let e : left_behind boxes one other ≡ p ∷ left_behind boxes out other =
    ap (λ (o : Option ℕ). left_behind boxes o other) is ∙ one_deeper boxes p other nested lt below ∙ ap (λ (o : Option ℕ). p ∷ left_behind boxes o other) (sym at) in
    append_assoc done (ends p false ∷ []) (map (λ q. ends q false) (left_behind boxes out other))
    ∙ ap (λ (l : List ℕ). done ++ map (λ q. ends q false) l) (sym e) ∙ all

pub one_stays : (boxes : List LineBox) (one other out : Option ℕ) (p : ℕ) (fresh total : List ℕ) → AreNested boxes → p < length boxes → one ≡ Some p → IsBefore p other
    → out ≡ (box_at boxes p).outer → fresh ++ left_behind boxes other one ≡ total → fresh ++ left_behind boxes other out ≡ total
one_stays boxes one other out p fresh total nested lt is below at all =
    let e : left_behind boxes other one ≡ left_behind boxes other out =
    ap (left_behind boxes other) is ∙ other_deeper boxes p other nested lt below ∙ ap (left_behind boxes other) (sym at) in
    ap (λ (l : List ℕ). fresh ++ l) (sym e) ∙ all

pub other_begins : (boxes : List LineBox) (one other out : Option ℕ) (p : ℕ) (fresh total : List ℕ) → AreNested boxes → p < length boxes → other ≡ Some p → IsBefore p one
    → out ≡ (box_at boxes p).outer → fresh ++ left_behind boxes other one ≡ total → (fresh ++ p ∷ []) ++ left_behind boxes out one ≡ total
other_begins boxes one other out p fresh total nested lt is below at all =
    let e : left_behind boxes other one ≡ p ∷ left_behind boxes out one =
    ap (λ (o : Option ℕ). left_behind boxes o one) is ∙ one_deeper boxes p one nested lt below ∙ ap (λ (o : Option ℕ). p ∷ left_behind boxes o one) (sym at) in
    append_assoc fresh (p ∷ []) (left_behind boxes out one) ∙ ap (λ (l : List ℕ). fresh ++ l) (sym e) ∙ all

pub other_stays : (boxes : List LineBox) (one other out : Option ℕ) (p : ℕ) (done total : List Mark) → AreNested boxes → p < length boxes → other ≡ Some p → IsBefore p one
    → out ≡ (box_at boxes p).outer → done ++ map (λ q. ends q false) (left_behind boxes one other) ≡ total → done ++ map (λ q. ends q false) (left_behind boxes one out) ≡ total
other_stays boxes one other out p done total nested lt is below at all =
    let e : left_behind boxes one other ≡ left_behind boxes one out =
    ap (left_behind boxes one) is ∙ other_deeper boxes p one nested lt below ∙ ap (left_behind boxes one) (sym at) in
    ap (λ (l : List ℕ). done ++ map (λ q. ends q false) l) (sym e) ∙ all

pub within_place : (inside : Option ℕ) (p n : ℕ) → IsBefore n inside → inside ≡ Some p → p < n
within_place None p n below is = cc
within_place (Some q) p n below is = let e : q ≡ p = cc in omega (arith, below, e)

-- ---- leaves

pub within_rest : (n k : ℕ) (leaves : List Leaf) → AreWithin n leaves → AreWithin n (drop k leaves)
within_rest n zero leaves h = h
within_rest n (suc k) [] h = h
within_rest n (suc k) (leaf ∷ leaves) h = within_rest n k leaves h.1

first_within : (n k : ℕ) (leaves : List Leaf) → AreWithin n leaves → 0 < length (take k leaves) → IsBefore n (inside_of (take k leaves))
first_within n zero leaves h some = absurd (omega arith)
first_within n (suc k) [] h some = absurd (omega arith)
first_within n (suc k) (leaf ∷ leaves) h some = h.0

pub run_within : (n start k : ℕ) (leaves run : List Leaf) → AreWithin n leaves → run ≡ take k (drop start leaves) → 0 < length run → IsBefore n (inside_of run)
run_within n start k leaves run h is some =
    let P : List Leaf → Type 0 = λ r. IsBefore n (inside_of r) in
    let Q : List Leaf → Type 0 = λ r. 0 < length r in
    subst P (sym is) (first_within n k (drop start leaves) (within_rest n start leaves h) (subst Q is some))
