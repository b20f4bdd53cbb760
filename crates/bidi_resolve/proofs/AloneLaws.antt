-- A sequence of one character.
use Rattle.std.proofs.Common.{◌≡◌, ◌∙◌, refl, ap, arith, ℕ, Bool, true, false, List, [], ◌∷◌, length, get_or, set, Option, Some, None}
use Rattle.wm_chars.specs.declared.classes.BidiClass.{BidiClass}
use Rattle.wm_chars.specs.declared.classes.BidiClass.TheVariants.{L, ET, ON}
use Rattle.wm_chars.specs.declared.classes.Bracket.{Bracket}
use Rattle.bidi_resolve.specs.Weak.{w1_class, w2_class, w3_class, w4_class, w5_class, w6_class, w7_class}
use Rattle.bidi_resolve.specs.Neutral.{i1_i2, n1_class, n2_class, raised}
use Rattle.bidi_resolve.specs.Brackets.{bracket_at, bracket_of, n0, pairs_at}
use Rattle.bidi_resolve.specs.Places.{gathered, scattered}
use Rattle.bidi_resolve.specs.Sequence.{weak, resolved}

-- W4 and W5 leave a character without neighbours
no_w4 : (c : BidiClass) → w4_class ON c ON ≡ c
no_w4 c = refl

no_w5 : (c : BidiClass) → w5_class ON c ON ≡ c
no_w5 ET = refl
no_w5 c = refl

pub weak_alone : (sos c w : BidiClass) → w ≡ w7_class sos (w6_class (w3_class (w2_class sos (w1_class sos c)))) → weak sos (c ∷ []) ≡ w ∷ []
unfolding weak
weak_alone sos c w e =
    let d : BidiClass = w3_class (w2_class sos (w1_class sos c)) in
    rw e (ap (λ (x : BidiClass). w7_class sos (w6_class x) ∷ []) (no_w5 (w4_class ON d ON) ∙ no_w4 d))

-- no bracket has a partner
no_pair : (b : Option Bracket) (char : ℕ) → pairs_at 0 char b [] (λ stack. []) ≡ []
no_pair None char = refl
no_pair (Some b) char = go b.opens
  where
    go : (opens : Bool) → bracket_at opens 0 char b.partner [] (λ stack. []) ≡ []
    go true = refl
    go false = refl

no_n0 : (level : ℕ) (sos : BidiClass) (char : ℕ) (original c : BidiClass) → n0 level sos (char ∷ []) (original ∷ []) (c ∷ []) ≡ c ∷ []
no_n0 level sos char original c = rw (no_pair (bracket_of c char) char) refl

pub resolved_alone : (level : ℕ) (sos eos c w r : BidiClass) → weak sos (c ∷ []) ≡ w ∷ [] → r ≡ n2_class level (n1_class sos w eos)
    → (char : ℕ) (original : BidiClass) → resolved level sos eos (char ∷ []) (original ∷ []) (c ∷ []) ≡ r ∷ []
unfolding resolved
resolved_alone level sos eos c w r e f char original = rw (e, no_n0 level sos char original w, f) refl

-- in the lists of a paragraph
pub alone_written : (chars : List ℕ) (originals classes : List BidiClass) (places : List ℕ) (level : ℕ) (sos eos r : BidiClass) (out : List ℕ) → length places ≡ 1
    → ((char : ℕ) (original : BidiClass) → resolved level sos eos (char ∷ []) (original ∷ []) (get_or classes (get_or places 0 0) L ∷ []) ≡ r ∷ [])
    → scattered places (i1_i2 level (resolved level sos eos (gathered 0 chars places) (gathered L originals places) (gathered L classes places))) out ≡ set out (get_or places 0 0) (raised level r)
alone_written chars originals classes [] level sos eos r out one are = absurd (omega arith)
alone_written chars originals classes (p ∷ []) level sos eos r out one are = rw (are (get_or chars p 0) (get_or originals p L)) refl
alone_written chars originals classes (p ∷ q ∷ places) level sos eos r out one are = absurd (omega arith)
