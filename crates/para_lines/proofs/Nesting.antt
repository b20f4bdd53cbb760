-- The boxes of a line stand behind those round them, and its items in boxes of its own.
use Rattle.std.proofs.Common.{inl, inr, ◌≡◌, ◌∙◌, refl, sym, ap, arith, subst, if◌then◌else◌, Bool, true, false, cond, not, ◌||◌, ◌⊎◌, ℕ, zero, suc, ◌+◌, ◌<◌, ◌≤◌, List, [], ◌∷◌, ◌++◌, length, map, get_or, reverse, append_assoc, Option, Some, None}
use Rattle.std.specs.Prelude.{⊤, All, IfSome, ◌==◌}
use Rattle.std.proofs.lemmas.List.{get_or-map, length-append, length-map, reverse-append}
use Rattle.std.proofs.lemmas.List.Elements.{All-map}
use Rattle.std.proofs.lemmas.Bool.{cases_eq, eq-eqb, ne_eqb}
use Rattle.face_api.specs.Table.{Table}
use Rattle.fragment_types.specs.Item.{Entry}
use Rattle.line_place.specs.declared.line.LineBox.{LineBox}
use Rattle.line_place.specs.Line.{Item, Line, no_box}
use Rattle.line_place.specs.Reach.{AreNested, IsBefore}
use Rattle.para_lines.specs.declared.paragraph.Container.{Container}
use Rattle.para_lines.specs.Standing as code
use Rattle.para_lines.specs.Around.{fresh, has}
use Rattle.para_lines.specs.Boxes.{apart, chain_at, innermost}
use Rattle.para_lines.specs.Line.{IsAble, on_line, standing_of}
use Rattle.para_lines.specs.Lines as rule
use Rattle.para_lines.specs.Lines.{innermost_in, place_in}
use Rattle.para_lines.proofs.Chaining.{AreLinked, linked, outer_is, there}
use Rattle.para_lines.proofs.OnLine.{first_of, fresh_in, item_on_line, or_cases, or_false, or_left, or_right}

-- each of these boxes stands behind the box round it, where those stand before them all
abbrev AreBehind : List Entry → (seen : List ℕ) → List ℕ → Type 0
AreBehind entries seen [] = ⊤
AreBehind entries seen (box ∷ boxes) = IfSome (innermost (chain_at entries box)) (λ outer. has seen outer ≡ true) × AreBehind entries (box ∷ seen) boxes

abbrev AreIn : List ℕ → List ℕ → Type 0
AreIn boxes others = (x : ℕ) → has boxes x ≡ true → has others x ≡ true

if_some : (o : Option ℕ) (P Q : ℕ → Type 0) → ((x : ℕ) → P x → Q x) → IfSome o P → IfSome o Q
if_some None P Q f h = h
if_some (Some x) P Q f h = f x h

behind_push : (entries : List Entry) (seen boxes : List ℕ) (box : ℕ) → AreBehind entries seen boxes
    → IfSome (innermost (chain_at entries box)) (λ o. (has seen o ≡ true) ⊎ (has boxes o ≡ true)) → AreBehind entries seen (boxes ++ box ∷ [])
behind_push entries seen [] box h own = (
  if_some (innermost (chain_at entries box)) (λ o. (has seen o ≡ true) ⊎ (has [] o ≡ true)) (λ o. has seen o ≡ true) (λ o e. elim e [ inl f ↦ f | inr f ↦ absurd (let no : false ≡ true = f in cc) ]) own,
  tt,
)
behind_push entries seen (x ∷ boxes) box h own = (
  h.0,
  behind_push entries (x ∷ seen) boxes box h.1 (
      if_some (innermost (chain_at entries box)) (λ o. (has seen o ≡ true) ⊎ (has (x ∷ boxes) o ≡ true)) (λ o. (has (x ∷ seen) o ≡ true) ⊎ (has boxes o ≡ true)) (λ o e. moved o e) own),
) where
  moved : (o : ℕ) → (has seen o ≡ true) ⊎ (has (x ∷ boxes) o ≡ true) → (has (x ∷ seen) o ≡ true) ⊎ (has boxes o ≡ true)
  moved o (inl e) = inl (or_right (x == o) (has seen o) e)
  moved o (inr e) =
      elim (or_cases (x == o) (has boxes o) e) [
        | inl f ↦ inl (or_left (x == o) (has seen o) f)
        | inr f ↦ inr f
      ]

behind_join : (entries : List Entry) (seen boxes others : List ℕ) → AreBehind entries seen boxes
    → ((wide : List ℕ) → AreIn seen wide → AreIn boxes wide → AreBehind entries wide others) → AreBehind entries seen (boxes ++ others)
behind_join entries seen [] others h f = f seen (λ x i. i) (λ x i. absurd (let no : false ≡ true = i in cc))
behind_join entries seen (box ∷ boxes) others h f = (
  h.0,
  behind_join entries (box ∷ seen) boxes others h.1 (λ wide a b. f wide
      (λ x i. a x (or_right (box == x) (has seen x) i))
      (λ x i.
      elim (or_cases (box == x) (has boxes x) i) [
        | inl e ↦ a x (or_left (box == x) (has seen x) e)
        | inr e ↦ b x e
      ])),
)

fresh_behind : (entries : List Entry) (limit : ℕ) (chain before seen : List ℕ) → AreLinked entries limit chain → AreIn before seen → AreBehind entries seen (fresh chain before)
fresh_behind entries limit [] before seen h within = tt
fresh_behind entries limit (box ∷ chain) before seen h within = go (has before box) (fresh_behind entries box chain before seen h.4 within) where
  outer : (x : ℕ) → has chain x ≡ true → (has seen x ≡ true) ⊎ (has (fresh chain before) x ≡ true)
  outer x i =
      elim (fresh_in chain before x i) [
        | inl e ↦ inl (within x e)
        | inr e ↦ inr e
      ]

  own : IfSome (innermost (chain_at entries box)) (λ o. (has seen o ≡ true) ⊎ (has (fresh chain before) o ≡ true))
  own =
      let P : List ℕ → Type 0 = λ c. IfSome (innermost c) (λ o. (has seen o ≡ true) ⊎ (has (fresh chain before) o ≡ true)) in
      subst P (h.3 ∙ sym (there entries box [] h.1)) (first_of chain (λ o. (has seen o ≡ true) ⊎ (has (fresh chain before) o ≡ true)) outer)

  go : (b : Bool) → AreBehind entries seen (reverse (apart chain before)) → AreBehind entries seen (reverse (if not b then box ∷ apart chain before else apart chain before))
  go true rest = rest
  go false rest =
      let P : List ℕ → Type 0 = λ boxes. AreBehind entries seen boxes in
      subst P (sym (reverse-append (box ∷ []) (apart chain before))) (behind_push entries seen (fresh chain before) box rest own)

all_behind : (entries : List Entry) (before seen : List ℕ) (standings : List code.Standing) → All (IsAble (length entries)) standings → AreIn before seen
    → AreBehind entries seen (on_line entries before standings)
all_behind entries before seen [] able within = tt
all_behind entries before seen (s ∷ standings) able within =
    let source : ℕ = s.item.source in
    let lt : source < length entries = (able 0 s (omega arith)).source in
    let chain : List ℕ = chain_at entries source in
    let P : List ℕ → Type 0 = λ c. AreLinked entries source c in
    let l : AreLinked entries source chain = subst P (sym (there entries source [] lt)) (linked entries source (omega arith)) in
    behind_join entries seen (fresh chain before) (on_line entries chain standings) (fresh_behind entries source chain before seen l within) (λ wide a b.
    all_behind entries chain wide standings (λ k d k_lt. able (suc k) d (omega arith)) (λ x i.
    elim (fresh_in chain before x i) [
      | inl e ↦ a x (within x e)
      | inr e ↦ b x e
    ]))

-- ---- places in the list of boxes

place_at_most : (boxes others : List ℕ) (x : ℕ) → place_in (boxes ++ x ∷ others) x ≤ length boxes
place_at_most [] others x = rw (eq-eqb x x refl) (omega arith)
place_at_most (box ∷ boxes) others x = go (box == x) (place_at_most boxes others x) where
  go : (b : Bool) → place_in (boxes ++ x ∷ others) x ≤ length boxes → cond b 0 (suc (place_in (boxes ++ x ∷ others) x)) ≤ suc (length boxes)
  go true l = omega arith
  go false l = omega arith

place_within : (boxes : List ℕ) (x : ℕ) → has boxes x ≡ true → place_in boxes x < length boxes
place_within [] x h = absurd (let no : false ≡ true = h in cc)
place_within (box ∷ boxes) x h = go (box == x) h (place_within boxes x) where
  go : (b : Bool) → (b || has boxes x) ≡ true → (has boxes x ≡ true → place_in boxes x < length boxes) → cond b 0 (suc (place_in boxes x)) < suc (length boxes)
  go true e rest = omega arith
  go false e rest = let l = rest e in omega arith

behind_place : (entries : List Entry) (whole seen done rest : List ℕ) (p d : ℕ) → whole ≡ done ++ rest → ((x : ℕ) → has seen x ≡ true → place_in whole x < length done) → AreBehind entries seen rest
    → p < length rest → IfSome (innermost (chain_at entries (get_or rest p d))) (λ x. place_in whole x < length done + p)
behind_place entries whole seen done [] p d is told h lt = absurd (omega arith)
behind_place entries whole seen done (box ∷ rest) zero d is told h lt =
    if_some (innermost (chain_at entries box)) (λ x. has seen x ≡ true) (λ x. place_in whole x < length done + 0) (λ x i. let l = told x i in omega arith) h.0
behind_place entries whole seen done (box ∷ rest) (suc p) d is told h lt =
    let n : length (done ++ box ∷ []) ≡ length done + 1 = length-append done (box ∷ []) in
    let next : (x : ℕ) → has (box ∷ seen) x ≡ true → place_in whole x < length (done ++ box ∷ []) =
    λ x i.
    elim (cases_eq box x) [
      | inl e ↦
          let l : place_in (done ++ x ∷ rest) x ≤ length done = place_at_most done rest x in
          let w : place_in whole x ≡ place_in (done ++ x ∷ rest) x = ap (λ (bs : List ℕ). place_in bs x) is ∙ ap (λ b. place_in (done ++ b ∷ rest) x) e in
          omega arith
      | inr differ ↦ let l = told x (or_false (box == x) (has seen x) (ne_eqb box x differ) i) in omega arith
    ] in
    if_some (innermost (chain_at entries (get_or rest p d))) (λ x. place_in whole x < length (done ++ box ∷ []) + p) (λ x. place_in whole x < length done + suc p) (λ x l. omega arith)
    (behind_place entries whole (box ∷ seen) (done ++ box ∷ []) rest p d (is ∙ sym (append_assoc done (box ∷ []) rest)) next h.1 (omega arith))

before_if : (boxes chain : List ℕ) (n : ℕ) → IfSome (innermost chain) (λ x. place_in boxes x < n) → IsBefore n (innermost_in boxes chain)
before_if boxes [] n h = tt
before_if boxes (box ∷ chain) n h = h

-- ---- a whole line

pub line_nested : (tables : List (Option Table)) (container : Container) (entries : List Entry) (before after : List ℕ) (standings : List code.Standing) (line : Line)
    → line ≡ rule.line tables container entries before after (map (standing_of entries) standings) → All (IsAble (length entries)) standings → AreNested line.boxes
line_nested tables container entries before after standings line is able =
    let N : Line → Type 0 = λ l. AreNested l.boxes in
    let places : List ℕ = on_line entries [] standings in
    let make : ℕ → LineBox = rule.line_box tables container entries places before after in
    subst N (sym is) (λ p lt.
    let n = length-map places make in
    let own : ℕ = get_or places p 0 in
    let inner : p < length places = omega arith in
    let here = behind_place entries places [] [] places p 0 refl (λ x i. absurd (let no : false ≡ true = i in cc)) (all_behind entries [] [] standings able (λ x i. i)) inner in
    let P : LineBox → Type 0 = λ b. IsBefore p b.outer in
    let Q : List ℕ → Type 0 = λ c. IsBefore p (innermost_in places c) in
    subst P (sym (get_or-map make places p 0 no_box inner))
    (subst Q (sym (outer_is entries own))
    (before_if places (chain_at entries own) p (if_some (innermost (chain_at entries own)) (λ x. place_in places x < 0 + p) (λ x. place_in places x < p) (λ x l. omega arith) here))))

pub line_inside : (tables : List (Option Table)) (container : Container) (entries : List Entry) (before after : List ℕ) (standings : List code.Standing) (line : Line)
    → line ≡ rule.line tables container entries before after (map (standing_of entries) standings) → All (λ item. IsBefore (length line.boxes) item.inside) line.items
line_inside tables container entries before after standings line is =
    let L : Line → Type 0 = λ l. All (λ item. IsBefore (length l.boxes) item.inside) l.items in
    let places : List ℕ = on_line entries [] standings in
    let make : ℕ → LineBox = rule.line_box tables container entries places before after in
    let count : ℕ = length (map make places) in
    let n : count ≡ length places = length-map places make in
    let P : Item → Type 0 = λ item. IsBefore count item.inside in
    subst L (sym is) (All-map P (rule.line_item entries places) (map (standing_of entries) standings)
    (All-map (λ s. P (rule.line_item entries places s)) (standing_of entries) standings (λ k d lt.
    let chain : List ℕ = chain_at entries (get_or standings k d).item.source in
    before_if places chain count
    (if_some (innermost chain) (λ x. has places x ≡ true) (λ x. place_in places x < count) (λ x i. let l = place_within places x i in omega arith) (item_on_line entries standings k d lt)))))
