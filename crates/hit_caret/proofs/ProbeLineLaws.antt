-- A line of a probe: what is spelled so is read, and what is read is spelled so.
use Rattle.std.proofs.Common.{◌≡◌, refl, sym, ap, subst, ◌∙◌, ℕ, true, false, List, [], ◌∷◌, ◌++◌, codes, Ok, ℤ, pos, arith}
use Rattle.std.specs.Char.{IsAsciiDigit}
use Rattle.std.proofs.lemmas.Bool.{ne_eqb}
use Rattle.std.proofs.lemmas.List.{append-nil}
use Rattle.std.proofs.lemmas.List.Elements.{All-head}
use Rattle.reading.specs.Readers.{Read, starts, strip}
use Rattle.reading.specs.Decimals.{IsDecimal, NoDigit}
use Rattle.reading.specs.Grammars.{After, Grammar, Mapped}
use Rattle.reading.specs.Spelling.{Spells}
use Rattle.reading.specs.Words.{all_differ}
use Rattle.reading.proofs.DecimalLaws.{decimal_spells}
use Rattle.reading.proofs.SpellLaws.{after_spells, choice_spells, follow_spells, mapped_spells, spells_before}
use Rattle.reading.proofs.WordLaws.{one_word_spells}
use Rattle.hit_caret.specs.declared.probe_line.Word.{Word}
use Rattle.hit_caret.specs.declared.probe_line.Word.TheVariants as words_
use Rattle.hit_caret.specs.declared.probes.Probe.{Probe}
use Rattle.hit_caret.specs.declared.probes.Probe.TheVariants as probes
use Rattle.hit_caret.specs.Grammar.{AreArguments, IsArgument, IsCoordinate, IsProbeLine, IsSignedNumber}
use Rattle.hit_caret.specs.ProbeLine.{argument, arguments, caret, coordinate, negated, negative, point, probe, signed_number, words}

abbrev read_all : Probe → Read Probe
read_all p = Ok (p, [])

-- nothing stands behind
abbrev AtEnd : List ℕ → Type 0
AtEnd behind = behind ≡ []

end_no_digit : (behind : List ℕ) → AtEnd behind → NoDigit behind
end_no_digit behind none = subst NoDigit (sym none) tt

-- what begins with a space begins with no digit
space_no_digit : {A : Type 0} (R : Grammar A) (text behind : List ℕ) (x : A) → After (codes " ") R text x → NoDigit (text ++ behind)
space_no_digit R text behind x a = subst (λ (t : List ℕ). NoDigit (t ++ behind)) (sym a.2) refl

-- ---- numbers

abbrev IsNegative : Grammar ℤ
IsNegative = After (codes "-") (Mapped negated (IsDecimal 10))

abbrev IsPositive : Grammar ℤ
IsPositive = Mapped pos (IsDecimal 10)

negative_spells : Spells negative IsNegative NoDigit
unfolding negative
negative_spells = after_spells (codes "-") (mapped_spells negated (decimal_spells 10))

sign_starts : (inside behind : List ℕ) → starts (codes "-") ((codes "-" ++ inside) ++ behind) ≡ true
unfolding starts strip
sign_starts inside behind = refl

digit_starts : (byte : ℕ) (bytes behind : List ℕ) → IsAsciiDigit byte → starts (codes "-") ((byte ∷ bytes) ++ behind) ≡ false
unfolding starts strip
digit_starts byte bytes behind digit = rw (ne_eqb byte 45 (λ e. omega (arith, digit.0, e))) refl

decimal_starts : (text behind : List ℕ) (n : ℕ) → IsDecimal 10 text n → starts (codes "-") (text ++ behind) ≡ false
decimal_starts [] behind n d = absurd (omega (arith, d.some))
decimal_starts (byte ∷ bytes) behind n d = digit_starts byte bytes behind (All-head IsAsciiDigit byte bytes d.digits)

coordinate_spells : Spells coordinate IsCoordinate NoDigit
unfolding coordinate signed_number
coordinate_spells =
    after_spells (codes " ")
    (choice_spells (starts (codes "-")) negative_spells (mapped_spells pos (decimal_spells 10))
    (λ text x behind a no_digit. subst (λ (t : List ℕ). starts (codes "-") (t ++ behind) ≡ true) (sym a.2) (sign_starts a.0 behind))
    (λ text x behind m no_digit. decimal_starts text behind m.0 m.1))

argument_spells : Spells argument IsArgument NoDigit
unfolding argument
argument_spells = after_spells (codes " ") (decimal_spells 7)

-- ---- lines

arguments_spell : (word : Word) → Spells (arguments word) (AreArguments word) AtEnd
unfolding arguments point caret
arguments_spell words_.Point =
    follow_spells coordinate_spells (λ x. mapped_spells (λ y. probes.At x y) (spells_before coordinate_spells end_no_digit)) (λ x y back behind r last. space_no_digit IsSignedNumber back behind r.0 r.1)
arguments_spell words_.Caret =
    follow_spells argument_spells (λ node. mapped_spells (λ place. probes.Caret node place) (spells_before argument_spells end_no_digit)) (λ node y back behind r last. space_no_digit (IsDecimal 7) back behind r.0 r.1)

words_differ : all_differ words ≡ true
unfolding words
words_differ = refl

probe_spells : Spells probe IsProbeLine AtEnd
unfolding probe
probe_spells = follow_spells (one_word_spells words words_differ) arguments_spell (λ word y back behind r last. tt)

pub line_is : (line : List ℕ) (p : Probe) → probe line ≡ read_all p → IsProbeLine line p
line_is line p e =
    let t = probe_spells.takes line p [] e in
    subst (λ (l : List ℕ). IsProbeLine l p) (sym (t.2 ∙ append-nil t.0)) t.1

pub line_again : (line : List ℕ) (p : Probe) → IsProbeLine line p → probe line ≡ read_all p
line_again line p is = ap probe (sym (append-nil line)) ∙ probe_spells.again line p [] is refl
