-- Latin characters are units by themselves, and are read from left to right.
use Rattle.std.proofs.Common.{◌≡◌, refl, ap, ap₂, ◌∙◌, ℕ, Bool, true, ◌&&◌, not, List, [], ◌∷◌, arith}
use Rattle.std.specs.Prelude.{◌||◌, ◌==◌, nat_lt, nat_le, if◌then◌else◌}
use Rattle.std.specs.List.{list_all}
use Rattle.std.proofs.lemmas.Bool.{and_parts, lt-ltb, ltb-true}
use Rattle.cluster_units.specs.Plain.{is_letter, is_plain, is_sign, is_wide}
use Rattle.para_prepare.specs.declared.letter.Letter.{Letter}
use Rattle.para_prepare.specs.Flat.{reads_left_to_right}
use Rattle.para_prepare.specs.Latin.{is_latin}

module _ (p q : Letter → Bool) (is : (l : Letter) → p l ≡ true → q l ≡ true) where
  all_as : (letters : List Letter) → list_all p letters ≡ true → list_all q letters ≡ true
  all_as [] e = refl
  all_as (l ∷ letters) e = let both = and_parts (p l) (list_all p letters) e in ap₂ (λ one rest. one && rest) (is l both.0) (all_as letters both.1)

latin_is_plain : (c : ℕ) → is_latin c ≡ true → is_plain c ≡ true
latin_is_plain c latin =
    let both = and_parts (nat_lt c 0x300) (not (c == 0x0D)) latin in
    ap (λ before. if before then not (c == 0x0D) else (if nat_lt c 0x3000 then is_letter c || is_sign c else is_wide c)) both.0 ∙ both.1

latin_is_read : (c : ℕ) → is_latin c ≡ true → reads_left_to_right c ≡ true
latin_is_read c latin =
    let both = and_parts (nat_lt c 0x300) (not (c == 0x0D)) latin in
    let low = ltb-true c 0x300 both.0 in
    let before : nat_lt c 0x590 ≡ true = lt-ltb c 0x590 (omega arith) in
    ap (λ before. if before then true else (if nat_lt c 0x2E80 then nat_le 0x2010 c && nat_le c 0x2027 else (nat_le c 0xD7FF || (nat_le 0xFF00 c && nat_le c 0xFFEF)))) before

-- Latin text is so throughout
pub all_plain : (letters : List Letter) → list_all (λ l. is_latin l.char) letters ≡ true → list_all (λ l. is_plain l.char) letters ≡ true
all_plain = all_as (λ l. is_latin l.char) (λ l. is_plain l.char) (λ l. latin_is_plain l.char)

pub all_read : (letters : List Letter) → list_all (λ l. is_latin l.char) letters ≡ true → list_all (λ l. reads_left_to_right l.char) letters ≡ true
all_read = all_as (λ l. is_latin l.char) (λ l. reads_left_to_right l.char) (λ l. latin_is_read l.char)
