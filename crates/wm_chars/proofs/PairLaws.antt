-- What holds of each side of each pair of the tables holds of every bracket and of every mirror.
use Rattle.std.proofs.Common.{◌≡◌, ℕ, true, false, not, cond, eqb, inl, inr, List, [], ◌∷◌, ◌++◌, Option, Some, None, refl, subst}
use Rattle.std.specs.Prelude.{option_map}
use Rattle.std.proofs.lemmas.Bool.{cases_Bool, eqb-true, eqb-false}
use Rattle.wm_chars.specs.Laws.{MirrorsArePartners, BracketsArePartners, BreakAsTheyOpen, AreNeutral}
use Rattle.wm_chars.specs.Pairs.{side_of, side_in, bracket, mirror}
use Rattle.wm_chars.specs.Repertoire.{row_of, bidi_class, break_class}
use Rattle.wm_chars.specs.declared.classes.BidiClass.TheVariants.{ON}
use Rattle.wm_chars.specs.declared.classes.BreakClass.TheVariants.{Open, Close}
use Rattle.wm_chars.specs.declared.classes.Bracket.{Bracket}
use Rattle.wm_chars.specs.declared.pairs.Pair.{Pair}
use Rattle.wm_chars.specs.declared.pairs.TheConstants.{BRACKETS, FURTHER_MIRRORS}

abbrev EachSide : (ℕ → Bracket → Type 0) → List Pair → Type 0
EachSide P [] = Unit {0}
EachSide P (pair ∷ pairs) = P pair.opening (record { opens = true; partner = pair.closing }) × P pair.closing (record { opens = false; partner = pair.opening }) × EachSide P pairs

moved : (P : ℕ → Bracket → Type 0) (c d : ℕ) (a side b : Bracket) → d ≡ c → side ≡ a → Some side ≡ Some b → P d a → P c b
moved P c d a side b same_c is found holds =
    let same_b : a ≡ b = cc in
    subst (λ (x : ℕ). P x b) same_c (subst (λ (y : Bracket). P d y) same_b holds)

of_each : (P : ℕ → Bracket → Type 0) (pairs : List Pair) → EachSide P pairs → (c : ℕ) (b : Bracket) → side_in pairs c ≡ Some b → P c b
of_each P [] each c b e = absurd (cc)
of_each P (pair ∷ pairs) each c b e = elim (cases_Bool (eqb pair.opening c)) [
  | inl opening ↦
      let found : Some (side_of c pair) ≡ Some b = rw opening at e in
      moved P c pair.opening (record { opens = true; partner = pair.closing }) (side_of c pair) b (eqb-true _ _ opening) (rw opening refl) found each.0
  | inr other ↦ elim (cases_Bool (eqb pair.closing c)) [
    | inl closing ↦
        let found : Some (side_of c pair) ≡ Some b = rw (other, closing) at e in
        moved P c pair.closing (record { opens = false; partner = pair.opening }) (side_of c pair) b (eqb-true _ _ closing) (rw other refl) found each.1
    | inr neither ↦ of_each P pairs each.2 c b (rw (other, neither) at e)
  ]
]

of_bracket : (P : ℕ → Bracket → Type 0) → EachSide P BRACKETS → (c : ℕ) (b : Bracket) → bracket c ≡ Some b → P c b
unfolding bracket
of_bracket P each c b e = of_each P BRACKETS each c b e

partner_of_each : (P : ℕ → ℕ → Type 0) (pairs : List Pair) → EachSide (λ c b. P c b.partner) pairs → (c d : ℕ) (side : Option Bracket) → side_in pairs c ≡ side → option_map (λ b. b.partner) side ≡ Some d → P c d
partner_of_each P pairs each c d None found e = absurd (cc)
partner_of_each P pairs each c d (Some b) found e =
    let is : b.partner ≡ d = cc in
    subst (λ (x : ℕ). P c x) is (of_each (λ c b. P c b.partner) pairs each c b found)

of_mirror : (P : ℕ → ℕ → Type 0) → EachSide (λ c b. P c b.partner) (BRACKETS ++ FURTHER_MIRRORS) → (c d : ℕ) → mirror c ≡ Some d → P c d
unfolding mirror
of_mirror P each c d e = partner_of_each P (BRACKETS ++ FURTHER_MIRRORS) each c d (side_in (BRACKETS ++ FURTHER_MIRRORS) c) refl e

-- ---- the tables, side by side

mirrors_back : EachSide (λ c b. (mirror b.partner ≡ Some c) × (eqb b.partner c ≡ false)) (BRACKETS ++ FURTHER_MIRRORS)
unfolding mirror
mirrors_back = ((refl, refl), (refl, refl), ((refl, refl), (refl, refl), ((refl, refl), (refl, refl), ((refl, refl), (refl, refl), ((refl, refl), (refl, refl), ((refl, refl), (refl, refl), ((refl, refl), (refl, refl), ((refl, refl), (refl, refl), ((refl, refl), (refl, refl), ((refl, refl), (refl, refl), ((refl, refl), (refl, refl), tt)))))))))))

brackets_back : EachSide (λ c b. (bracket b.partner ≡ Some (record { opens = not b.opens; partner = c })) × (mirror c ≡ Some b.partner)) BRACKETS
unfolding bracket mirror
brackets_back = ((refl, refl), (refl, refl), ((refl, refl), (refl, refl), ((refl, refl), (refl, refl), ((refl, refl), (refl, refl), ((refl, refl), (refl, refl), ((refl, refl), (refl, refl), ((refl, refl), (refl, refl), ((refl, refl), (refl, refl), ((refl, refl), (refl, refl), tt)))))))))

brackets_break : EachSide (λ c b. break_class c ≡ Some (cond b.opens Open Close)) BRACKETS
unfolding row_of break_class
brackets_break = (refl, refl, (refl, refl, (refl, refl, (refl, refl, (refl, refl, (refl, refl, (refl, refl, (refl, refl, (refl, refl, tt)))))))))

neutral_mirrors : EachSide (λ c b. bidi_class c ≡ Some ON) (BRACKETS ++ FURTHER_MIRRORS)
unfolding row_of bidi_class
neutral_mirrors = (refl, refl, (refl, refl, (refl, refl, (refl, refl, (refl, refl, (refl, refl, (refl, refl, (refl, refl, (refl, refl, (refl, refl, (refl, refl, tt)))))))))))

neutral_brackets : EachSide (λ c b. bidi_class c ≡ Some ON) BRACKETS
unfolding row_of bidi_class
neutral_brackets = (refl, refl, (refl, refl, (refl, refl, (refl, refl, (refl, refl, (refl, refl, (refl, refl, (refl, refl, (refl, refl, tt)))))))))

-- ---- the laws

pub mirrors_are_partners : MirrorsArePartners
mirrors_are_partners = record {
  back = λ c d e. (of_mirror (λ c d. (mirror d ≡ Some c) × (eqb d c ≡ false)) mirrors_back c d e).0;
  other = λ c d e. eqb-false d c (of_mirror (λ c d. (mirror d ≡ Some c) × (eqb d c ≡ false)) mirrors_back c d e).1;
}

pub brackets_are_partners : BracketsArePartners
brackets_are_partners = record {
  back = λ c b e. (of_bracket (λ c b. (bracket b.partner ≡ Some (record { opens = not b.opens; partner = c })) × (mirror c ≡ Some b.partner)) brackets_back c b e).0;
  mirror = λ c b e. (of_bracket (λ c b. (bracket b.partner ≡ Some (record { opens = not b.opens; partner = c })) × (mirror c ≡ Some b.partner)) brackets_back c b e).1;
}

pub break_as_they_open : BreakAsTheyOpen
break_as_they_open c b e = of_bracket (λ c b. break_class c ≡ Some (cond b.opens Open Close)) brackets_break c b e

pub are_neutral : AreNeutral
are_neutral = record {
  mirrors = λ c d e. of_mirror (λ c d. bidi_class c ≡ Some ON) neutral_mirrors c d e;
  brackets = λ c b e. of_bracket (λ c b. bidi_class c ≡ Some ON) neutral_brackets c b e;
}
