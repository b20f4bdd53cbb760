-- N1 and N2 as one pass.
use Rattle.std.proofs.Common.{◌≡◌, ◌∙◌, refl, sym, ap, false, List, [], ◌∷◌, ℕ, map}
use Rattle.wm_chars.specs.declared.classes.BidiClass.{BidiClass}
use Rattle.wm_chars.specs.declared.classes.BidiClass.TheVariants.{L, R}
use Rattle.bidi_resolve.proofs.Passes.{pass, each_is_pass}
use Rattle.wm_chars.specs.Classes.{is_neutral}
use Rattle.bidi_resolve.specs.Neutral.{n1, n1_class, n1_after, n2, n2_class, side}

map_pass : {S X : Type 0} (f : X → X) (out : S → X → List X → X) (next : S → X → S) (s : S) (xs : List X) → map f (pass out next s xs) ≡ pass (λ s x a. f (out s x a)) next s xs
map_pass f out next s [] = refl
map_pass f out next s (x ∷ xs) = ap (λ l. f (out s x xs) ∷ l) (map_pass f out next (next s x) xs)

pub n1_n2_starts : (level : ℕ) (sos eos : BidiClass) (cs : List BidiClass)
    → pass (λ before c after. n2_class level (n1_class before c (side eos after))) n1_after sos cs ≡ n2 level (n1 sos eos cs)
n1_n2_starts level sos eos cs =
    sym (ap (map (n2_class level)) (each_is_pass (side sos) (λ before c after. n1_class before c (side eos after)) n1_after (λ x before. refl) [] cs)
    ∙ map_pass (n2_class level) (λ before c after. n1_class before c (side eos after)) n1_after sos cs)

-- what is no neutral stays
n1_stays : (before c after : BidiClass) → is_neutral c ≡ false → n1_class before c after ≡ c
n1_stays L c L other = rw other refl
n1_stays R c R other = rw other refl
n1_stays before c after other = refl

pub other_stays : (level : ℕ) (before c after : BidiClass) → is_neutral c ≡ false → n2_class level (n1_class before c after) ≡ c
other_stays level before c after other = rw (n1_stays before c after other) (rw other refl)
