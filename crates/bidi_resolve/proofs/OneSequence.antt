-- A paragraph in which nothing embeds, overrides or isolates is one sequence on its base level.
use Rattle.std.proofs.Common.{◌≡◌, ◌∙◌, refl, sym, ap, ap₂, arith, append-nil, append_assoc, ℕ, zero, suc, ◌+◌, ◌<◌, ◌≤◌, true, false, cond, ltb, List, [], ◌∷◌, ◌++◌, length, get_or, take, drop, set, map, replicate, None}
use Rattle.std.specs.Prelude.{All, max, slice_index_or}
use Rattle.std.specs.List.{list_all, range_with_len}
use Rattle.std.proofs.lemmas.Bool.{and_parts, eq-eqb}
use Rattle.std.proofs.lemmas.List.{drop_all, drop_more, length-map, length-replicate, length-set, take_all, take_more_set}
use Rattle.std.proofs.lemmas.List.Elements.{All-cons, All-nil}
use Rattle.std.proofs.lemmas.List.FromFn.{length-range_with_len, map-range_with_len_more}
use Rattle.basic_laws.proofs.Booleans.{cond_same}
use Rattle.wm_chars.specs.Classes.{is_removed}
use Rattle.wm_chars.specs.declared.classes.BidiClass.{BidiClass}
use Rattle.wm_chars.specs.declared.classes.BidiClass.TheVariants.{L, R, AL, EN, ES, ET, AN, CS, NSM, B, S, WS, ON, LRE, LRO, RLE, RLO, PDF, LRI, RLI, FSI, PDI}
use Rattle.bidi_explicit.specs.Explicit.{begin, entries, levels_by, classes_by, explicit_levels, explicit_classes, removed_marks}
use Rattle.bidi_explicit.specs.Isolates.{kind_of}
use Rattle.bidi_explicit.specs.Sequences as explicit
use Rattle.bidi_explicit.specs.Sequences.{Sequence, distance, isolating_runs, is_unmatched, kept_from, last_of, level_at_end, level_behind, level_in, level_runs, with_sides}
use Rattle.bidi_resolve.specs.Neutral.{direction, i1_i2, raised}
use Rattle.bidi_resolve.specs.Paragraph.{IsResolvedLevel, paragraph_levels, resolved_from}
use Rattle.bidi_resolve.specs.Places.{gathered, scattered}
use Rattle.bidi_resolve.specs.Sequence.{resolved, sequence_classes, sequence_levels, weak}
use Rattle.bidi_resolve.specs.Single.{is_plain, single_levels}
use Rattle.bidi_resolve.proofs.LeftToRight.{Each}
use Rattle.bidi_resolve.proofs.LengthLaws.{length_resolved}

-- ---- the classes, case by case

abbrev pub Plain : BidiClass → Type 0
Plain c = is_plain c ≡ true

plain_cases : (P : BidiClass → Type 0) → P L → P R → P AL → P EN → P ES → P ET → P AN → P CS → P NSM → P B → P S → P WS → P ON → (c : BidiClass) → Plain c → P c
plain_cases P l r al en es et an cs nsm b s ws on L is = l
plain_cases P l r al en es et an cs nsm b s ws on R is = r
plain_cases P l r al en es et an cs nsm b s ws on AL is = al
plain_cases P l r al en es et an cs nsm b s ws on EN is = en
plain_cases P l r al en es et an cs nsm b s ws on ES is = es
plain_cases P l r al en es et an cs nsm b s ws on ET is = et
plain_cases P l r al en es et an cs nsm b s ws on AN is = an
plain_cases P l r al en es et an cs nsm b s ws on CS is = cs
plain_cases P l r al en es et an cs nsm b s ws on NSM is = nsm
plain_cases P l r al en es et an cs nsm b s ws on B is = b
plain_cases P l r al en es et an cs nsm b s ws on S is = s
plain_cases P l r al en es et an cs nsm b s ws on WS is = ws
plain_cases P l r al en es et an cs nsm b s ws on ON is = on
plain_cases P l r al en es et an cs nsm b s ws on LRE is = absurd (cc)
plain_cases P l r al en es et an cs nsm b s ws on LRO is = absurd (cc)
plain_cases P l r al en es et an cs nsm b s ws on RLE is = absurd (cc)
plain_cases P l r al en es et an cs nsm b s ws on RLO is = absurd (cc)
plain_cases P l r al en es et an cs nsm b s ws on PDF is = absurd (cc)
plain_cases P l r al en es et an cs nsm b s ws on LRI is = absurd (cc)
plain_cases P l r al en es et an cs nsm b s ws on RLI is = absurd (cc)
plain_cases P l r al en es et an cs nsm b s ws on FSI is = absurd (cc)
plain_cases P l r al en es et an cs nsm b s ws on PDI is = absurd (cc)

pub all_plain : (classes : List BidiClass) → list_all is_plain classes ≡ true → Each Plain classes
all_plain [] all = tt
all_plain (c ∷ classes) all = let parts = and_parts (is_plain c) (list_all is_plain classes) all in (parts.0, all_plain classes parts.1)

-- ---- X1 to X9 give the base level and leave the classes

levels_plain : (base : ℕ) (classes : List BidiClass) → Each Plain classes → levels_by base base classes (entries (begin base) classes) ≡ replicate (length classes) base
levels_plain base [] a = refl
levels_plain base (c ∷ classes) a =
    let rest = ap (λ l. base ∷ l) (levels_plain base classes a.1) in
    plain_cases (λ c. levels_by base base (c ∷ classes) (entries (begin base) (c ∷ classes)) ≡ replicate (length (c ∷ classes)) base) rest rest rest rest rest rest rest rest rest rest rest rest rest c a.0

classes_plain : (base : ℕ) (classes : List BidiClass) → Each Plain classes → classes_by classes (entries (begin base) classes) ≡ classes
classes_plain base [] a = refl
classes_plain base (c ∷ classes) a =
    let rest = classes_plain base classes a.1 in
    plain_cases (λ c. classes_by (c ∷ classes) (entries (begin base) (c ∷ classes)) ≡ c ∷ classes)
    (ap (λ l. L ∷ l) rest) (ap (λ l. R ∷ l) rest) (ap (λ l. AL ∷ l) rest) (ap (λ l. EN ∷ l) rest) (ap (λ l. ES ∷ l) rest) (ap (λ l. ET ∷ l) rest) (ap (λ l. AN ∷ l) rest)
    (ap (λ l. CS ∷ l) rest) (ap (λ l. NSM ∷ l) rest) (ap (λ l. B ∷ l) rest) (ap (λ l. S ∷ l) rest) (ap (λ l. WS ∷ l) rest) (ap (λ l. ON ∷ l) rest) c a.0

stays : (c : BidiClass) → Plain c → is_removed c ≡ false
stays c is = plain_cases (λ c. is_removed c ≡ false) refl refl refl refl refl refl refl refl refl refl refl refl refl c is

kept_all : (at : ℕ) (classes : List BidiClass) → Each Plain classes → kept_from at (removed_marks classes) ≡ range_with_len at (length classes)
kept_all at [] a = refl
kept_all at (c ∷ classes) a = rw (stays c a.0) (ap (λ l. at ∷ l) (kept_all (at + 1) classes a.1))

-- ---- one level

max_same : (n : ℕ) → max n n ≡ n
max_same n = omega arith

level_same : (n p base : ℕ) → p < n → level_in (replicate n base) p ≡ base
level_same zero p base lt = absurd (omega arith)
level_same (suc n) zero base lt = refl
level_same (suc n) (suc p) base lt = level_same n p base (omega arith)

each_same : (n at m base : ℕ) → at + m ≤ n → Each (λ q. level_in (replicate n base) q ≡ base) (range_with_len at m)
each_same n at zero base within = tt
each_same n at (suc m) base within = (level_same n at base (omega arith), each_same n (at + 1) m base (omega arith))

one_run : (level : ℕ → ℕ) (base p : ℕ) (places : List ℕ) → level p ≡ base → Each (λ q. level q ≡ base) places → level_runs level (p ∷ places) ≡ (p ∷ places) ∷ []
one_run level base p [] h a = refl
one_run level base p (q ∷ places) h a =
    rw (one_run level base q places a.0 a.1, h, a.0, eq-eqb base base refl) refl

behind_same : (level : ℕ → ℕ) (base : ℕ) (kept : List ℕ) (p : ℕ) → Each (λ q. level q ≡ base) kept → level_behind level base kept p ≡ base
behind_same level base [] p a = refl
behind_same level base (q ∷ kept) p a = rw (a.0, behind_same level base kept p a.1) (cond_same (ltb p q) base)

-- ---- no character begins an isolate

no_distance : (c : BidiClass) (after : List BidiClass) → Plain c → distance (kind_of c) after ≡ None
no_distance c after is = plain_cases (λ c. distance (kind_of c) after ≡ None) refl refl refl refl refl refl refl refl refl refl refl refl refl c is

no_match : (classes : List BidiClass) (p : ℕ) (after : List BidiClass) → Each Plain classes → distance (kind_of (slice_index_or classes p L)) after ≡ None
no_match [] p after a = refl
no_match (c ∷ classes) zero after a = no_distance c after a.0
no_match (c ∷ classes) (suc p) after a = no_match classes p after a.1

-- ---- all places

gathered_all : {X : Type 0} (d : X) (xs : List X) (at m : ℕ) → at + m ≡ length xs → gathered d xs (range_with_len at m) ≡ drop at xs
gathered_all d xs at zero long = sym (drop_all at xs (omega arith))
gathered_all d xs at (suc m) long = ap (λ l. get_or xs at d ∷ l) (gathered_all d xs (at + 1) m (omega arith)) ∙ sym (drop_more xs at d (omega arith))

scattered_all : (at m : ℕ) (new xs : List ℕ) → length new ≡ m → at + m ≡ length xs → scattered (range_with_len at m) new xs ≡ take at xs ++ new
scattered_all at zero [] xs many long = sym (append-nil (take at xs) ∙ take_all at xs (omega arith))
scattered_all at zero (x ∷ new) xs many long = absurd (omega arith)
scattered_all at (suc m) [] xs many long = absurd (omega arith)
scattered_all at (suc m) (x ∷ new) xs many long =
    let same = length-set xs at x in
    scattered_all (at + 1) m new (set xs at x) (omega arith) (omega arith)
    ∙ ap (λ front. front ++ new) (take_more_set xs at x (omega arith)) ∙ append_assoc (take at xs) (x ∷ []) new

-- ---- the one sequence

abbrev whole : (base n : ℕ) → Sequence
whole base n = record { places = range_with_len 0 n; sos = direction base; eos = direction base }

sides : (base m : ℕ) (classes : List BidiClass) → Each Plain classes → suc m ≡ length classes
    → with_sides base (level_in (replicate (suc m) base)) classes (range_with_len 0 (suc m)) (range_with_len 0 (suc m)) ≡ whole base (suc m)
sides base m classes a long =
    let level = level_in (replicate (suc m) base) in
    let kept = range_with_len 0 (suc m) in
    let last = last_of 0 (range_with_len 1 m) in
    let behind = behind_same level base kept last (each_same (suc m) 0 (suc m) base (omega arith)) in
    let end_ : level_at_end base level classes kept last ≡ base = ap (λ n. cond (is_unmatched classes last) base n) behind ∙ cond_same (is_unmatched classes last) base in
    rw (end_, max_same base) refl

runs_one : (base m : ℕ) (classes : List BidiClass) → Each Plain classes → suc m ≡ length classes
    → isolating_runs base (replicate (suc m) base) classes (removed_marks classes) ≡ whole base (suc m) ∷ []
unfolding isolating_runs
runs_one base m classes a long =
    let level = level_in (replicate (suc m) base) in
    let all = range_with_len 0 (suc m) in
    let kept : kept_from 0 (removed_marks classes) ≡ all = kept_all 0 classes a ∙ ap (range_with_len 0) (sym long) in
    let rest = each_same (suc m) 1 m base (omega arith) in
    let run = one_run level base 0 (range_with_len 1 m) refl rest in
    let last = last_of 0 (range_with_len 1 m) in
    ap (λ kept. map (with_sides base level classes kept) (explicit.sequences classes (level_runs level kept))) kept
    ∙ ap (λ runs. map (with_sides base level classes all) (explicit.sequences classes runs)) run
    ∙ rw (no_match classes last (drop (last + 1) classes) a) (ap (λ s. s ∷ []) (sides base m classes a long))

resolved_one : (chars : List ℕ) (base m : ℕ) (classes : List BidiClass) → suc m ≡ length classes
    → resolved_from chars classes (replicate (suc m) base) classes (whole base (suc m) ∷ []) (replicate (suc m) base)
    ≡ i1_i2 base (resolved base (direction base) (direction base) (gathered 0 chars (range_with_len 0 (suc m))) (gathered L classes (range_with_len 0 (suc m))) classes)
unfolding sequence_levels sequence_classes
resolved_one chars base m classes long =
    let all = range_with_len 0 (suc m) in
    let rules = λ (own : List BidiClass). i1_i2 base (resolved base (direction base) (direction base) (gathered 0 chars all) (gathered L classes all) own) in
    let zero_more : 0 + suc m ≡ length classes = omega arith in
    let own : gathered L classes all ≡ classes = gathered_all L classes 0 (suc m) zero_more in
    let same = length_resolved base (direction base) (direction base) (gathered 0 chars all) (gathered L classes all) classes in
    let each = length-map (resolved base (direction base) (direction base) (gathered 0 chars all) (gathered L classes all) classes) (raised base) in
    let many : length (replicate (suc m) base) ≡ suc m = length-replicate (suc m) base in
    ap (λ own. scattered all (rules own) (replicate (suc m) base)) own
    ∙ scattered_all 0 (suc m) (rules classes) (replicate (suc m) base) (each ∙ same ∙ sym long) (omega arith)

pub single_is : (chars : List ℕ) (classes : List BidiClass) (base : ℕ) → list_all is_plain classes ≡ true → paragraph_levels chars classes base ≡ single_levels chars classes base
unfolding paragraph_levels single_levels explicit_levels explicit_classes isolating_runs resolved weak
single_is chars [] base all = refl
single_is chars (c ∷ classes) base all =
    let own = c ∷ classes in
    let plain = all_plain own all in
    let m = length classes in
    ap₂ (λ levels kept. resolved_from chars own levels kept (isolating_runs base levels own (removed_marks own)) levels) (levels_plain base own plain) (classes_plain base own plain)
    ∙ ap (λ runs. resolved_from chars own (replicate (suc m) base) own runs (replicate (suc m) base)) (runs_one base m own plain refl)
    ∙ resolved_one chars base m own refl

range_more : (n : ℕ) → range_with_len 0 n ++ n ∷ [] ≡ range_with_len 0 (n + 1)
range_more n = sym (ap (λ l. l) (map_id (range_with_len 0 (n + 1))) ∙ map-range_with_len_more (λ x. x) 0 n n (omega arith) ∙ ap (λ l. l ++ n ∷ []) (sym (map_id (range_with_len 0 n))))
  where
    map_id : (xs : List ℕ) → xs ≡ map (λ x. x) xs
    map_id [] = refl
    map_id (x ∷ xs) = ap (λ l. x ∷ l) (map_id xs)

-- one place more, in its place
pub range_written : (xs : List ℕ) (i : ℕ) → i < length xs → take i xs ≡ range_with_len 0 i → take (i + 1) (set xs i i) ≡ range_with_len 0 (i + 1)
range_written xs i lt so_far = take_more_set xs i i lt ∙ ap (λ l. l ++ i ∷ []) so_far ∙ range_more i

pub range_long : (n : ℕ) → length (range_with_len 0 n) ≡ n
range_long n = length-range_with_len 0 n

-- ---- I1 and I2 on the base level

between : (level : ℕ) (c : BidiClass) → level ≤ 1 → IsResolvedLevel level (raised level c)
between zero c low = record { low = omega arith; high = up c }
  where
    up : (c : BidiClass) → raised 0 c ≤ 126
    up R = omega arith
    up AN = omega arith
    up EN = omega arith
    up c = omega arith
between (suc zero) c low = record { low = down c; high = up c }
  where
    down : (c : BidiClass) → 1 ≤ raised 1 c
    down L = omega arith
    down AN = omega arith
    down EN = omega arith
    down c = omega arith

    up : (c : BidiClass) → raised 1 c ≤ 126
    up L = omega arith
    up AN = omega arith
    up EN = omega arith
    up c = omega arith
between (suc (suc n)) c low = absurd (omega arith)

pub all_between : (level : ℕ) (classes : List BidiClass) → level ≤ 1 → All (IsResolvedLevel level) (i1_i2 level classes)
all_between level [] low = All-nil (IsResolvedLevel level)
all_between level (c ∷ classes) low = All-cons (IsResolvedLevel level) (raised level c) (i1_i2 level classes) (between level c low) (all_between level classes low)
