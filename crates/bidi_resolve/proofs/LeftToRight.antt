-- A paragraph of base level 0 in which no class asks for another level: what each rule makes of its classes.
use Rattle.std.proofs.Common.{◌≡◌, ◌∙◌, refl, ap, ℕ, zero, suc, ◌+◌, Bool, true, false, ◌||◌, cond, ltb, List, [], ◌∷◌, ◌++◌, length, get_or, take, drop, set, map, replicate, Some, None}
use Rattle.std.specs.Prelude.{⊤}
use Rattle.std.specs.List.{list_all, list_any, slice_range}
use Rattle.std.proofs.lemmas.Bool.{and_parts}
use Rattle.basic_laws.proofs.Booleans.{cond_same}
use Rattle.wm_chars.specs.declared.classes.BidiClass.{BidiClass}
use Rattle.wm_chars.specs.declared.classes.BidiClass.TheVariants.{L, R, AL, EN, ES, ET, AN, CS, NSM, B, S, WS, ON, LRE, LRO, RLE, RLO, PDF, LRI, RLI, FSI, PDI}
use Rattle.bidi_explicit.specs.Explicit.{begin, entries, levels_by, classes_by, explicit_levels, explicit_classes, removed_marks}
use Rattle.bidi_explicit.specs.Sequences.{Sequence, isolating_runs, is_unmatched, kept_from, last_of, level_at_end, level_before, level_behind, level_in, level_runs, sequences, with_sides}
use Rattle.bidi_explicit.specs.Sequences as sequences
use Rattle.bidi_resolve.specs.Brackets.{BracketPair, become, both_become, bracket_pairs, context, follow, is_against, is_along, is_mark, resolve_pair, resolve_pairs}
use Rattle.bidi_resolve.specs.Laws.{LeftToRightHasLevelZero}
use Rattle.bidi_resolve.specs.Neutral.{i1_i2, n1, n1_after, n1_class, n2, n2_class, raised, side}
use Rattle.bidi_resolve.specs.Paragraph.{is_left_to_right, paragraph_levels, resolved_from}
use Rattle.bidi_resolve.specs.Passes.{each}
use Rattle.bidi_resolve.specs.Places.{gathered, scattered}
use Rattle.bidi_resolve.specs.Sequence.{resolved, sequence_classes, sequence_levels, weak}
use Rattle.bidi_resolve.specs.Weak.{beside, is_european, last_direction, last_strong, next_to, w1, w1_after, w1_before, w1_class, w2, w2_after, w2_class, w3, w3_class, w4, w4_class, w5, w5_class, w6, w6_class, w7, w7_after, w7_class}

-- ---- lists

abbrev pub Each : {X : Type 0} → (X → Type 0) → List X → Type 0
Each P [] = ⊤
Each P (x ∷ xs) = P x × Each P xs

-- where a rule looks on what has P alone, what it gives has Q
each_keeps : {X : Type 0} (P Q : X → Type 0) (rule : List X → X → List X → X) → ((before : List X) (x : X) (after : List X) → Each P before → P x → Each P after → Q (rule before x after))
    → (before xs : List X) → Each P before → Each P xs → Each Q (each rule before xs)
each_keeps P Q rule keeps before [] b a = tt
each_keeps P Q rule keeps before (x ∷ xs) b a = (keeps before x xs b a.0 a.1, each_keeps P Q rule keeps (x ∷ before) xs (a.0, b) a.1)

map_keeps : {X Y : Type 0} (P : X → Type 0) (Q : Y → Type 0) (f : X → Y) → ((x : X) → P x → Q (f x)) → (xs : List X) → Each P xs → Each Q (map f xs)
map_keeps P Q f keeps [] a = tt
map_keeps P Q f keeps (x ∷ xs) a = (keeps x a.0, map_keeps P Q f keeps xs a.1)

each_append : {X : Type 0} (P : X → Type 0) (xs ys : List X) → Each P xs → Each P ys → Each P (xs ++ ys)
each_append P [] ys a b = b
each_append P (x ∷ xs) ys a b = (a.0, each_append P xs ys a.1 b)

each_take : {X : Type 0} (P : X → Type 0) (n : ℕ) (xs : List X) → Each P xs → Each P (take n xs)
each_take P zero xs a = tt
each_take P (suc n) [] a = tt
each_take P (suc n) (x ∷ xs) a = (a.0, each_take P n xs a.1)

each_drop : {X : Type 0} (P : X → Type 0) (n : ℕ) (xs : List X) → Each P xs → Each P (drop n xs)
each_drop P zero xs a = a
each_drop P (suc n) [] a = tt
each_drop P (suc n) (x ∷ xs) a = each_drop P n xs a.1

each_gathered : (P : BidiClass → Type 0) → P L → (classes : List BidiClass) (places : List ℕ) → Each P classes → Each P (gathered L classes places)
each_gathered P l classes [] a = tt
each_gathered P l classes (p ∷ places) a = (at classes p a, each_gathered P l classes places a)
  where
    at : (classes : List BidiClass) (p : ℕ) → Each P classes → P (get_or classes p L)
    at [] p a = l
    at (c ∷ classes) zero a = a.0
    at (c ∷ classes) (suc p) a = at classes p a.1

-- ---- the classes, case by case

abbrev Plain : BidiClass → Type 0
Plain c = is_left_to_right c ≡ true

-- the same without numbers
abbrev is_quiet : BidiClass → Bool
is_quiet EN = false
is_quiet c = is_left_to_right c

abbrev Quiet : BidiClass → Type 0
Quiet c = is_quiet c ≡ true

plain_cases : (P : BidiClass → Type 0) → P L → P EN → P ES → P ET → P CS → P NSM → P B → P S → P WS → P ON → (c : BidiClass) → Plain c → P c
plain_cases P l _ _ _ _ _ _ _ _ _ L is = l
plain_cases P _ _ _ _ _ _ _ _ _ _ R is = absurd (cc)
plain_cases P _ _ _ _ _ _ _ _ _ _ AL is = absurd (cc)
plain_cases P _ en _ _ _ _ _ _ _ _ EN is = en
plain_cases P _ _ es _ _ _ _ _ _ _ ES is = es
plain_cases P _ _ _ et _ _ _ _ _ _ ET is = et
plain_cases P _ _ _ _ _ _ _ _ _ _ AN is = absurd (cc)
plain_cases P _ _ _ _ cs _ _ _ _ _ CS is = cs
plain_cases P _ _ _ _ _ nsm _ _ _ _ NSM is = nsm
plain_cases P _ _ _ _ _ _ b _ _ _ B is = b
plain_cases P _ _ _ _ _ _ _ s _ _ S is = s
plain_cases P _ _ _ _ _ _ _ _ ws _ WS is = ws
plain_cases P _ _ _ _ _ _ _ _ _ on ON is = on
plain_cases P _ _ _ _ _ _ _ _ _ _ LRE is = absurd (cc)
plain_cases P _ _ _ _ _ _ _ _ _ _ LRO is = absurd (cc)
plain_cases P _ _ _ _ _ _ _ _ _ _ RLE is = absurd (cc)
plain_cases P _ _ _ _ _ _ _ _ _ _ RLO is = absurd (cc)
plain_cases P _ _ _ _ _ _ _ _ _ _ PDF is = absurd (cc)
plain_cases P _ _ _ _ _ _ _ _ _ _ LRI is = absurd (cc)
plain_cases P _ _ _ _ _ _ _ _ _ _ RLI is = absurd (cc)
plain_cases P _ _ _ _ _ _ _ _ _ _ FSI is = absurd (cc)
plain_cases P _ _ _ _ _ _ _ _ _ _ PDI is = absurd (cc)

quiet_cases : (P : BidiClass → Type 0) → P L → P ES → P ET → P CS → P NSM → P B → P S → P WS → P ON → (c : BidiClass) → Quiet c → P c
quiet_cases P l _ _ _ _ _ _ _ _ L is = l
quiet_cases P _ _ _ _ _ _ _ _ _ R is = absurd (cc)
quiet_cases P _ _ _ _ _ _ _ _ _ AL is = absurd (cc)
quiet_cases P _ _ _ _ _ _ _ _ _ EN is = absurd (cc)
quiet_cases P _ es _ _ _ _ _ _ _ ES is = es
quiet_cases P _ _ et _ _ _ _ _ _ ET is = et
quiet_cases P _ _ _ _ _ _ _ _ _ AN is = absurd (cc)
quiet_cases P _ _ _ cs _ _ _ _ _ CS is = cs
quiet_cases P _ _ _ _ nsm _ _ _ _ NSM is = nsm
quiet_cases P _ _ _ _ _ b _ _ _ B is = b
quiet_cases P _ _ _ _ _ _ s _ _ S is = s
quiet_cases P _ _ _ _ _ _ _ ws _ WS is = ws
quiet_cases P _ _ _ _ _ _ _ _ on ON is = on
quiet_cases P _ _ _ _ _ _ _ _ _ LRE is = absurd (cc)
quiet_cases P _ _ _ _ _ _ _ _ _ LRO is = absurd (cc)
quiet_cases P _ _ _ _ _ _ _ _ _ RLE is = absurd (cc)
quiet_cases P _ _ _ _ _ _ _ _ _ RLO is = absurd (cc)
quiet_cases P _ _ _ _ _ _ _ _ _ PDF is = absurd (cc)
quiet_cases P _ _ _ _ _ _ _ _ _ LRI is = absurd (cc)
quiet_cases P _ _ _ _ _ _ _ _ _ RLI is = absurd (cc)
quiet_cases P _ _ _ _ _ _ _ _ _ FSI is = absurd (cc)
quiet_cases P _ _ _ _ _ _ _ _ _ PDI is = absurd (cc)

all_plain : (classes : List BidiClass) → list_all is_left_to_right classes ≡ true → Each Plain classes
all_plain [] all = tt
all_plain (c ∷ classes) all = let parts = and_parts (is_left_to_right c) (list_all is_left_to_right classes) all in (parts.0, all_plain classes parts.1)

-- ---- the weak rules: nothing becomes R, AL or AN, and W7 leaves no number

w1_plain : (classes : List BidiClass) → Each Plain classes → Each Plain (w1 L classes)
w1_plain classes a = each_keeps Plain Plain _ (λ before c after b p ab. plain_cases (λ c. Plain (w1_class (w1_before L before) c)) refl refl refl refl refl (handed before b) refl refl refl refl c p) [] classes tt a
  where
    handed : (before : List BidiClass) → Each Plain before → Plain (w1_before L before)
    handed [] b = refl
    handed (c ∷ before) b = plain_cases (λ c. Plain (w1_after (w1_before L before) c)) refl refl refl refl refl (handed before b.1) refl refl refl refl c b.0

w2_plain : (classes : List BidiClass) → Each Plain classes → Each Plain (w2 L classes)
w2_plain classes a = each_keeps Plain Plain _ (λ before c after b p ab. rw (last before b) (plain_cases (λ c. Plain (w2_class L c)) refl refl refl refl refl refl refl refl refl refl c p)) [] classes tt a
  where
    last : (before : List BidiClass) → Each Plain before → last_strong L before ≡ L
    last [] b = refl
    last (c ∷ before) b = rw (last before b.1) (plain_cases (λ c. w2_after L c ≡ L) refl refl refl refl refl refl refl refl refl refl c b.0)

w3_plain : (classes : List BidiClass) → Each Plain classes → Each Plain (w3 classes)
w3_plain classes a = map_keeps Plain Plain w3_class (plain_cases (λ c. Plain (w3_class c)) refl refl refl refl refl refl refl refl refl refl) classes a

next_plain : (classes : List BidiClass) → Each Plain classes → Plain (next_to classes)
next_plain [] a = refl
next_plain (c ∷ classes) a = a.0

separated : (before c after : BidiClass) → Plain before → Plain c → Plain after → Plain (w4_class before c after)
separated before c after b p a = plain_cases (λ before. Plain (w4_class before c after)) p
    (plain_cases (λ c. Plain (w4_class EN c after)) refl refl (plain_cases (λ after. Plain (w4_class EN ES after)) refl refl refl refl refl refl refl refl refl refl after a) refl (plain_cases (λ after. Plain (w4_class EN CS after)) refl refl refl refl refl refl refl refl refl refl after a) refl refl refl refl refl c p)
    p p p p p p p p before b

w4_plain : (classes : List BidiClass) → Each Plain classes → Each Plain (w4 classes)
w4_plain classes a = each_keeps Plain Plain _ (λ before c after b p ab. separated (next_to before) c (next_to after) (next_plain before b) p (next_plain after ab)) [] classes tt a

terminator : (is : Bool) → Plain (cond is EN ET)
terminator true = refl
terminator false = refl

w5_plain : (classes : List BidiClass) → Each Plain classes → Each Plain (w5 classes)
w5_plain classes a = each_keeps Plain Plain _ (λ before c after b p ab. plain_cases (λ c. Plain (w5_class (beside before) c (beside after))) refl refl refl (terminator (is_european (beside before) || is_european (beside after))) refl refl refl refl refl refl c p) [] classes tt a

w6_plain : (classes : List BidiClass) → Each Plain classes → Each Plain (w6 classes)
w6_plain classes a = map_keeps Plain Plain w6_class (plain_cases (λ c. Plain (w6_class c)) refl refl refl refl refl refl refl refl refl refl) classes a

w7_quiet : (classes : List BidiClass) → Each Plain classes → Each Quiet (w7 L classes)
w7_quiet classes a = each_keeps Plain Quiet _ (λ before c after b p ab. rw (last before b) (plain_cases (λ c. Quiet (w7_class L c)) refl refl refl refl refl refl refl refl refl refl c p)) [] classes tt a
  where
    last : (before : List BidiClass) → Each Plain before → last_direction L before ≡ L
    last [] b = refl
    last (c ∷ before) b = rw (last before b.1) (plain_cases (λ c. w7_after L c ≡ L) refl refl refl refl refl refl refl refl refl refl c b.0)

weak_quiet : (classes : List BidiClass) → Each Plain classes → Each Quiet (weak L classes)
unfolding weak
weak_quiet classes a = w7_quiet _ (w6_plain _ (w5_plain _ (w4_plain _ (w3_plain _ (w2_plain _ (w1_plain classes a))))))

-- ---- N0: a pair of brackets stays, or becomes L

context_l : (n : ℕ) (classes : List BidiClass) → Each Quiet classes → context L (take n classes) ≡ L
context_l zero classes a = refl
context_l (suc n) [] a = refl
context_l (suc n) (c ∷ classes) a =
    ap (λ sos. context sos (take n classes)) (quiet_cases (λ c. n1_after L c ≡ L) refl refl refl refl refl refl refl refl refl c a.0) ∙ context_l n classes a.1

follow_quiet : (originals classes : List BidiClass) → Each Quiet classes → Each Quiet (follow L originals classes)
follow_quiet [] classes a = a
follow_quiet (o ∷ originals) [] a = tt
follow_quiet (o ∷ originals) (c ∷ classes) a = go (is_mark o) (follow_quiet originals classes a.1)
  where
    go : (mark : Bool) → Each Quiet (follow L originals classes) → Each Quiet (cond mark (L ∷ follow L originals classes) (c ∷ classes))
    go true rest = (refl, rest)
    go false rest = a

become_quiet : (place : ℕ) (originals classes : List BidiClass) → Each Quiet classes → Each Quiet (become L place originals classes)
become_quiet place originals classes a =
    each_append Quiet (take place classes) _ (each_take Quiet place classes a) (refl, follow_quiet (drop (place + 1) originals) (drop (place + 1) classes) (each_drop Quiet (place + 1) classes a))

both_quiet : (along against : Bool) (opening closing : ℕ) (originals classes : List BidiClass) → Each Quiet classes → Each Quiet (both_become (cond along (Some L) (cond against (Some L) None)) opening closing originals classes)
both_quiet true against opening closing originals classes a = become_quiet closing originals _ (become_quiet opening originals classes a)
both_quiet false true opening closing originals classes a = become_quiet closing originals _ (become_quiet opening originals classes a)
both_quiet false false opening closing originals classes a = a

pair_quiet : (opening closing : ℕ) (originals classes : List BidiClass) → Each Quiet classes → Each Quiet (resolve_pair 0 L opening closing originals classes)
pair_quiet opening closing originals classes a =
    let inside = slice_range classes (opening + 1) closing in
    rw (context_l opening classes a) (both_quiet (list_any (is_along 0) inside) (list_any (is_against 0) inside) opening closing originals classes a)

pairs_quiet : (pairs : List BracketPair) (originals classes : List BidiClass) → Each Quiet classes → Each Quiet (resolve_pairs 0 L pairs originals classes)
pairs_quiet [] originals classes a = a
pairs_quiet (pair ∷ pairs) originals classes a = pairs_quiet pairs originals _ (pair_quiet pair.opening pair.closing originals classes a)

-- ---- N1, N2 and the levels

side_l : (classes : List BidiClass) → Each Quiet classes → side L classes ≡ L
side_l [] a = refl
side_l (c ∷ classes) a = rw (side_l classes a.1) (quiet_cases (λ c. n1_after L c ≡ L) refl refl refl refl refl refl refl refl refl c a.0)

n1_quiet : (classes : List BidiClass) → Each Quiet classes → Each Quiet (n1 L L classes)
n1_quiet classes a = each_keeps Quiet Quiet _ (λ before c after b q ab. rw (side_l before b, side_l after ab) (quiet_cases (λ c. Quiet (n1_class L c L)) refl refl refl refl refl refl refl refl refl c q)) [] classes tt a

n2_quiet : (classes : List BidiClass) → Each Quiet classes → Each Quiet (n2 0 classes)
n2_quiet classes a = map_keeps Quiet Quiet (n2_class 0) (quiet_cases (λ c. Quiet (n2_class 0 c)) refl refl refl refl refl refl refl refl refl) classes a

resolved_quiet : (chars : List ℕ) (originals classes : List BidiClass) → Each Plain classes → Each Quiet (resolved 0 L L chars originals classes)
unfolding resolved
resolved_quiet chars originals classes a = n2_quiet _ (n1_quiet _ (pairs_quiet (bracket_pairs chars (weak L classes)) originals _ (weak_quiet classes a)))

abbrev Zero : ℕ → Type 0
Zero n = n ≡ 0

abbrev zeros : ℕ → List ℕ
zeros n = replicate n 0

raised_zero : (classes : List BidiClass) → Each Quiet classes → Each Zero (i1_i2 0 classes)
raised_zero classes a = map_keeps Quiet Zero (raised 0) (quiet_cases (λ c. Zero (raised 0 c)) refl refl refl refl refl refl refl refl refl) classes a

-- ---- X1 to X9 give 0 and leave the classes

levels_zero : (classes : List BidiClass) → Each Plain classes → levels_by 0 0 classes (entries (begin 0) classes) ≡ zeros (length classes)
levels_zero [] a = refl
levels_zero (c ∷ classes) a =
    let rest = ap (λ l. 0 ∷ l) (levels_zero classes a.1) in
    plain_cases (λ c. levels_by 0 0 (c ∷ classes) (entries (begin 0) (c ∷ classes)) ≡ zeros (length (c ∷ classes))) rest rest rest rest rest rest rest rest rest rest c a.0

classes_stay : (classes : List BidiClass) → Each Plain classes → classes_by classes (entries (begin 0) classes) ≡ classes
classes_stay [] a = refl
classes_stay (c ∷ classes) a =
    plain_cases (λ c. classes_by (c ∷ classes) (entries (begin 0) (c ∷ classes)) ≡ c ∷ classes) (ap (λ l. L ∷ l) (classes_stay classes a.1)) (ap (λ l. EN ∷ l) (classes_stay classes a.1)) (ap (λ l. ES ∷ l) (classes_stay classes a.1)) (ap (λ l. ET ∷ l) (classes_stay classes a.1)) (ap (λ l. CS ∷ l) (classes_stay classes a.1)) (ap (λ l. NSM ∷ l) (classes_stay classes a.1)) (ap (λ l. B ∷ l) (classes_stay classes a.1)) (ap (λ l. S ∷ l) (classes_stay classes a.1)) (ap (λ l. WS ∷ l) (classes_stay classes a.1)) (ap (λ l. ON ∷ l) (classes_stay classes a.1)) c a.0

-- ---- sequences on level 0

zero_at : (n p : ℕ) → get_or (zeros n) p 0 ≡ 0
zero_at zero p = refl
zero_at (suc n) zero = refl
zero_at (suc n) (suc p) = zero_at n p

set_zero : (n p : ℕ) → set (zeros n) p 0 ≡ zeros n
set_zero zero p = refl
set_zero (suc n) zero = refl
set_zero (suc n) (suc p) = ap (λ l. 0 ∷ l) (set_zero n p)

scattered_zero : (n : ℕ) (places new : List ℕ) → Each Zero new → scattered places new (zeros n) ≡ zeros n
scattered_zero n [] new a = refl
scattered_zero n (p ∷ places) [] a = refl
scattered_zero n (p ∷ places) (x ∷ new) a = rw (a.0, set_zero n p) (scattered_zero n places new a.1)

before_zero : (level : ℕ → ℕ) → ((q : ℕ) → level q ≡ 0) → (kept : List ℕ) (p : ℕ) → level_before level 0 kept p ≡ 0
before_zero level zeros [] p = refl
before_zero level zeros (q ∷ kept) p = rw (zeros q, before_zero level zeros kept p) (cond_same (ltb q p) 0)

behind_zero : (level : ℕ → ℕ) → ((q : ℕ) → level q ≡ 0) → (kept : List ℕ) (p : ℕ) → level_behind level 0 kept p ≡ 0
behind_zero level zeros [] p = refl
behind_zero level zeros (q ∷ kept) p = rw (zeros q, behind_zero level zeros kept p) (cond_same (ltb p q) 0)

end_zero : (level : ℕ → ℕ) → ((q : ℕ) → level q ≡ 0) → (classes : List BidiClass) (kept : List ℕ) (p : ℕ) → level_at_end 0 level classes kept p ≡ 0
end_zero level zeros classes kept p = rw (behind_zero level zeros kept p) (cond_same (is_unmatched classes p) 0)

-- a sequence of these classes leaves level 0
abbrev written : (n : ℕ) (chars : List ℕ) (originals classes : List BidiClass) → Sequence → List ℕ
written n chars originals classes sequence = scattered sequence.places (sequence_levels chars originals (zeros n) classes sequence) (zeros n)

sequence_zero : (n : ℕ) (chars : List ℕ) (originals classes : List BidiClass) (kept places : List ℕ) → Each Plain classes
    → written n chars originals classes (with_sides 0 (level_in (zeros n)) classes kept places) ≡ zeros n
unfolding sequence_levels sequence_classes
sequence_zero n chars originals classes kept [] a = refl
sequence_zero n chars originals classes kept (p ∷ places) a =
    let level = level_in (zeros n) in
    rw (zero_at n p, before_zero level (zero_at n) kept p, end_zero level (zero_at n) classes kept (last_of p places))
    (scattered_zero n (p ∷ places) _ (raised_zero _ (resolved_quiet (gathered 0 chars (p ∷ places)) (gathered L originals (p ∷ places)) (gathered L classes (p ∷ places)) (each_gathered Plain refl classes (p ∷ places) a))))

sequences_zero : (n : ℕ) (chars : List ℕ) (originals classes : List BidiClass) (kept : List ℕ) (all : List (List ℕ)) → Each Plain classes
    → resolved_from chars originals (zeros n) classes (map (with_sides 0 (level_in (zeros n)) classes kept) all) (zeros n) ≡ zeros n
sequences_zero n chars originals classes kept [] a = refl
sequences_zero n chars originals classes kept (places ∷ all) a =
    ap (λ out. resolved_from chars originals (zeros n) classes (map (with_sides 0 (level_in (zeros n)) classes kept) all) out) (sequence_zero n chars originals classes kept places a)
    ∙ sequences_zero n chars originals classes kept all a

pub level_zero : LeftToRightHasLevelZero
unfolding paragraph_levels explicit_levels explicit_classes isolating_runs
level_zero chars classes all =
    let plain = all_plain classes all in
    rw (levels_zero classes plain, classes_stay classes plain)
    (sequences_zero (length classes) chars classes classes (kept_from 0 (removed_marks classes)) (sequences.sequences classes (level_runs (level_in (zeros (length classes))) (kept_from 0 (removed_marks classes)))) plain)
