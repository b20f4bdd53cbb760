-- Sequences in which a group of rules finds nothing to change.
use Rattle.std.proofs.Common.{◌≡◌, ◌∙◌, refl, ap, ℕ, ◌+◌, Bool, true, false, ◌||◌, List, [], ◌∷◌, map, None}
use Rattle.std.specs.List.{list_any}
use Rattle.wm_chars.specs.Classes.{is_neutral}
use Rattle.wm_chars.specs.declared.classes.BidiClass.{BidiClass}
use Rattle.wm_chars.specs.declared.classes.BidiClass.TheVariants.{L, R, AL, EN, ES, ET, AN, CS, NSM, ON}
use Rattle.bidi_resolve.specs.Brackets.{Waiting, bracket_of, is_mark, may_be_bracket, n0, pairs_from}
use Rattle.bidi_resolve.specs.Neutral.{n1, n1_class, n2, n2_class, side}
use Rattle.bidi_resolve.specs.Passes.{each}
use Rattle.bidi_resolve.specs.Sequence.{is_changed_by_weak_rules, weak}
use Rattle.bidi_resolve.specs.Weak.{beside, is_european, is_separator, is_terminator, last_direction, last_strong, next_to, w1, w1_before, w1_class, w2, w2_class, w3, w3_class, w4, w4_class, w5, w5_class, w6, w6_class, w7, w7_class}
use Rattle.bidi_resolve.proofs.LeftToRight.{Each}

-- a rule that leaves each element leaves the list
each_same : {X : Type 0} (P : X → Type 0) (rule : List X → X → List X → X) → ((before : List X) (x : X) (after : List X) → P x → rule before x after ≡ x) → (before xs : List X) → Each P xs → each rule before xs ≡ xs
each_same P rule same before [] a = refl
each_same P rule same before (x ∷ xs) a = rw (same before x xs a.0) (ap (λ l. x ∷ l) (each_same P rule same (x ∷ before) xs a.1))

map_same : {X : Type 0} (P : X → Type 0) (f : X → X) → ((x : X) → P x → f x ≡ x) → (xs : List X) → Each P xs → map f xs ≡ xs
map_same P f same [] a = refl
map_same P f same (x ∷ xs) a = rw (same x a.0) (ap (λ l. x ∷ l) (map_same P f same xs a.1))

pub none_passes : (p : BidiClass → Bool) (classes : List BidiClass) → list_any p classes ≡ false → Each (λ c. p c ≡ false) classes
none_passes p [] none = tt
none_passes p (c ∷ classes) none = go (p c) (list_any p classes) refl none (none_passes p classes)
  where
    go : (here rest : Bool) → p c ≡ here → (here || rest) ≡ false → (rest ≡ false → Each (λ c. p c ≡ false) classes) → Each (λ c. p c ≡ false) (c ∷ classes)
    go true rest is n all = absurd (cc)
    go false rest is n all = (is, all n)

-- ---- each rule by itself

unmarked : (handed c : BidiClass) → is_mark c ≡ false → w1_class handed c ≡ c
unmarked handed NSM is = absurd (cc)
unmarked handed c is = refl

pub w1_same : (sos : BidiClass) (classes : List BidiClass) → list_any is_mark classes ≡ false → w1 sos classes ≡ classes
w1_same sos classes none = each_same (λ c. is_mark c ≡ false) _ (λ before c after is. unmarked (w1_before sos before) c is) [] classes (none_passes is_mark classes none)

no_number : (last c : BidiClass) → is_european c ≡ false → w2_class last c ≡ c
no_number AL EN is = absurd (cc)
no_number AL c is = refl
no_number last c is = refl

pub w2_same : (sos : BidiClass) (classes : List BidiClass) → list_any is_european classes ≡ false → w2 sos classes ≡ classes
w2_same sos classes none = each_same (λ c. is_european c ≡ false) _ (λ before c after is. no_number (last_strong sos before) c is) [] classes (none_passes is_european classes none)

unseparated : (before c after : BidiClass) → is_separator c ≡ false → w4_class before c after ≡ c
unseparated EN ES after is = absurd (cc)
unseparated EN CS after is = absurd (cc)
unseparated EN c after is = refl
unseparated AN CS after is = absurd (cc)
unseparated AN c after is = refl
unseparated before c after is = refl

pub w4_same : (classes : List BidiClass) → list_any is_separator classes ≡ false → w4 classes ≡ classes
w4_same classes none = each_same (λ c. is_separator c ≡ false) _ (λ before c after is. unseparated (next_to before) c (next_to after) is) [] classes (none_passes is_separator classes none)

unterminated : (before c after : BidiClass) → is_terminator c ≡ false → w5_class before c after ≡ c
unterminated before ET after is = absurd (cc)
unterminated before c after is = refl

pub w5_same : (classes : List BidiClass) → list_any is_terminator classes ≡ false → w5 classes ≡ classes
w5_same classes none = each_same (λ c. is_terminator c ≡ false) _ (λ before c after is. unterminated (beside before) c (beside after) is) [] classes (none_passes is_terminator classes none)

not_behind_l : (last c : BidiClass) → is_european c ≡ false → w7_class last c ≡ c
not_behind_l L EN is = absurd (cc)
not_behind_l L c is = refl
not_behind_l last c is = refl

pub w7_same : (sos : BidiClass) (classes : List BidiClass) → list_any is_european classes ≡ false → w7 sos classes ≡ classes
w7_same sos classes none = each_same (λ c. is_european c ≡ false) _ (λ before c after is. not_behind_l (last_direction sos before) c is) [] classes (none_passes is_european classes none)

-- ---- W1 to W7

abbrev Left : BidiClass → Type 0
Left c = is_changed_by_weak_rules c ≡ false

w1_left : (handed c : BidiClass) → Left c → w1_class handed c ≡ c
w1_left handed NSM is = absurd (cc)
w1_left handed c is = refl

w2_left : (last c : BidiClass) → Left c → w2_class last c ≡ c
w2_left AL EN is = absurd (cc)
w2_left AL c is = refl
w2_left last c is = refl

w3_left : (c : BidiClass) → Left c → w3_class c ≡ c
w3_left AL is = absurd (cc)
w3_left c is = refl

w4_left : (before c after : BidiClass) → Left c → w4_class before c after ≡ c
w4_left EN ES after is = absurd (cc)
w4_left EN CS after is = absurd (cc)
w4_left EN c after is = refl
w4_left AN CS after is = absurd (cc)
w4_left AN c after is = refl
w4_left before c after is = refl

w5_left : (before c after : BidiClass) → Left c → w5_class before c after ≡ c
w5_left before ET after is = absurd (cc)
w5_left before c after is = refl

w6_left : (c : BidiClass) → Left c → w6_class c ≡ c
w6_left ES is = absurd (cc)
w6_left ET is = absurd (cc)
w6_left CS is = absurd (cc)
w6_left c is = refl

w7_left : (last c : BidiClass) → Left c → w7_class last c ≡ c
w7_left L EN is = absurd (cc)
w7_left L c is = refl
w7_left last c is = refl

pub weak_same : (sos : BidiClass) (classes : List BidiClass) → list_any is_changed_by_weak_rules classes ≡ false → weak sos classes ≡ classes
unfolding weak
weak_same sos classes none =
    let all = none_passes is_changed_by_weak_rules classes none in
    ap (λ cs. w7 sos (w6 (w5 (w4 (w3 (w2 sos cs)))))) (each_same Left _ (λ before c after is. w1_left (w1_before sos before) c is) [] classes all)
    ∙ ap (λ cs. w7 sos (w6 (w5 (w4 (w3 cs))))) (each_same Left _ (λ before c after is. w2_left (last_strong sos before) c is) [] classes all)
    ∙ ap (λ cs. w7 sos (w6 (w5 (w4 cs)))) (map_same Left w3_class w3_left classes all)
    ∙ ap (λ cs. w7 sos (w6 (w5 cs))) (each_same Left _ (λ before c after is. w4_left (next_to before) c (next_to after) is) [] classes all)
    ∙ ap (λ cs. w7 sos (w6 cs)) (each_same Left _ (λ before c after is. w5_left (beside before) c (beside after) is) [] classes all)
    ∙ ap (w7 sos) (map_same Left w6_class w6_left classes all)
    ∙ each_same Left _ (λ before c after is. w7_left (last_direction sos before) c is) [] classes all

-- ---- N0 to N2

abbrev NoBracket : BidiClass → Type 0
NoBracket c = may_be_bracket c ≡ false

no_bracket : (c : BidiClass) (char : ℕ) → NoBracket c → bracket_of c char ≡ None
no_bracket ON char is = absurd (cc)
no_bracket c char is = refl

no_pairs : (place : ℕ) (chars : List ℕ) (classes : List BidiClass) (stack : List Waiting) → Each NoBracket classes → pairs_from place chars classes stack ≡ []
no_pairs place [] classes stack a = refl
no_pairs place (char ∷ chars) [] stack a = refl
no_pairs place (char ∷ chars) (c ∷ classes) stack a = rw (no_bracket c char a.0) (no_pairs (place + 1) chars classes stack a.1)

pub n0_same : (level : ℕ) (sos : BidiClass) (chars : List ℕ) (originals classes : List BidiClass) → list_any may_be_bracket classes ≡ false → n0 level sos chars originals classes ≡ classes
n0_same level sos chars originals classes none = rw (no_pairs 0 chars classes [] (none_passes may_be_bracket classes none)) refl

abbrev Strong : BidiClass → Type 0
Strong c = is_neutral c ≡ false

strong_none : (classes : List BidiClass) → Each Strong classes → list_any may_be_bracket classes ≡ false
strong_none [] a = refl
strong_none (c ∷ classes) a = rw (strong_bracket c a.0) (strong_none classes a.1)
  where
    strong_bracket : (c : BidiClass) → Strong c → may_be_bracket c ≡ false
    strong_bracket ON is = absurd (cc)
    strong_bracket c is = refl

n1_strong : (before c after : BidiClass) → Strong c → n1_class before c after ≡ c
n1_strong L c L is = rw is refl
n1_strong L c after is = refl
n1_strong R c R is = rw is refl
n1_strong R c after is = refl
n1_strong before c after is = refl

pub neutral_same : (level : ℕ) (sos eos : BidiClass) (chars : List ℕ) (originals classes : List BidiClass) → list_any is_neutral classes ≡ false → n2 level (n1 sos eos (n0 level sos chars originals classes)) ≡ classes
neutral_same level sos eos chars originals classes none =
    let all = none_passes is_neutral classes none in
    ap (λ cs. n2 level (n1 sos eos cs)) (n0_same level sos chars originals classes (strong_none classes all))
    ∙ ap (n2 level) (each_same Strong _ (λ before c after is. n1_strong (side sos before) c (side eos after) is) [] classes all)
    ∙ map_same Strong (n2_class level) (λ c is. rw is refl) classes all
