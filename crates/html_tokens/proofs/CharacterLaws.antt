-- Characters by their bytes: what is read is one, and each is read.
use Rattle.std.proofs.Common.{◌≡◌, ℕ, zero, suc, ◌+◌, ◌-◌, ◌*◌, ◌<◌, ◌&&◌, Bool, true, false, cond, List, [], ◌∷◌, ◌++◌, Ok, refl, sym, ap, subst, ◌∙◌, arith}
use Rattle.std.specs.Prelude.{⊤}
use Rattle.std.specs.Char.{IsScalar, encode_utf8}
use Rattle.std.specs.Str.{chars_after, chars, continuation_len, lead_bits}
use Rattle.std.proofs.lemmas.Str.{chars-encodes}
use Rattle.std.proofs.lemmas.List.{append-nil}
use Rattle.std.proofs.Math.Utf8.{scalar}
use Rattle.reading.specs.Readers.{give, refuse, mapped, strip}
use Rattle.reading.specs.Spelling.{Anything, Spells}
use Rattle.reading.proofs.SpellLaws.{ok, bind_ok, same_answer, strip_takes, strip_again}
use Rattle.html_tokens.specs.Characters.{code_from, first_code}
use Rattle.html_tokens.specs.Lexing.{character}
use Rattle.html_tokens.specs.Grammar.{IsCharacter}

-- ---- the code in front

front_code : (more high : ℕ) (bytes rest : List ℕ) (c : ℕ) (others : List ℕ) → chars_after more high bytes ≡ c ∷ others → code_from more high (bytes ++ rest) ≡ c
front_code zero high [] rest c others e = cc
front_code zero high (byte ∷ bytes) rest c others e = cc
front_code (suc more) high [] rest c others e = absurd cc
front_code (suc more) high (byte ∷ bytes) rest c others e = front_code more (high * 64 + (byte - 128)) bytes rest c others e

-- bytes that spell one character
code_of : (bytes rest : List ℕ) (c : ℕ) → chars bytes ≡ c ∷ [] → first_code (bytes ++ rest) ≡ c
unfolding chars
code_of [] rest c e = absurd cc
code_of (byte ∷ bytes) rest c e = front_code (continuation_len byte) (lead_bits byte) bytes rest c [] e

spelled_alone : (c : ℕ) → IsScalar c → chars (encode_utf8 c) ≡ c ∷ []
spelled_alone c is =
    let all : (scalar c && true) ≡ true = rw is refl in
    ap chars (sym (append-nil (encode_utf8 c))) ∙ chars-encodes (c ∷ []) all

pub first_is : (c : ℕ) (rest : List ℕ) → IsScalar c → first_code (encode_utf8 c ++ rest) ≡ c
first_is c rest is = code_of (encode_utf8 c) rest c (spelled_alone c is)

-- ---- the first byte

pub record IsLed (c : ℕ) (text : List ℕ) : Type 0 where
  pub byte : ℕ
  pub more : List ℕ
  pub parts : text ≡ byte ∷ more
  pub small : byte < 128 → byte ≡ c

led_by : (text : List ℕ) (c : ℕ) → chars text ≡ c ∷ [] → IsLed c text
unfolding chars
led_by [] c e = absurd cc
led_by (byte ∷ bytes) c e = record {
  byte = byte;
  more = bytes;
  parts = refl;
  small = λ lt.
      let none : continuation_len byte ≡ 0 = grind (arith, lt) in
      let alone : lead_bits byte ≡ byte = grind (arith, lt) in
      let whole : code_from (continuation_len byte) (lead_bits byte) (bytes ++ []) ≡ c = front_code (continuation_len byte) (lead_bits byte) bytes [] c [] e in
      let here : code_from 0 byte (bytes ++ []) ≡ c = subst (λ (v : ℕ). code_from 0 v (bytes ++ []) ≡ c) alone (subst (λ (n : ℕ). code_from n (lead_bits byte) (bytes ++ []) ≡ c) none whole) in
      here;
}

pub led : (c : ℕ) → IsScalar c → IsLed c (encode_utf8 c)
led c is = led_by (encode_utf8 c) c (spelled_alone c is)

-- ---- what is read

character_by : (bytes rest : List ℕ) (c : ℕ) (t : Bool) → scalar (first_code bytes) ≡ t
    → cond t (mapped (λ u. first_code bytes) (strip (encode_utf8 (first_code bytes))) bytes) (refuse bytes) ≡ ok (c, rest)
    → (text : List ℕ) × IsCharacter text c × (bytes ≡ text ++ rest)
character_by bytes rest c true is e =
    let code = first_code bytes in
    let a = bind_ok (strip (encode_utf8 code) bytes) (λ (x : ⊤ × List ℕ). give code x.1) (c, rest) e in
    let same = same_answer {E = List ℕ} code c a.0.1 rest a.2 in
    let whole : bytes ≡ encode_utf8 code ++ rest = strip_takes (encode_utf8 code) bytes a.0.1 a.0.0 a.1 ∙ ap (λ (r : List ℕ). encode_utf8 code ++ r) same.1 in
    (encode_utf8 code, (ap encode_utf8 same.0, subst (λ (v : ℕ). IsScalar v) same.0 is), whole)
character_by bytes rest c false is e = absurd cc

character_read : (bytes rest : List ℕ) (c : ℕ) → first_code bytes ≡ c → IsScalar c → bytes ≡ encode_utf8 c ++ rest → character bytes ≡ Ok (c, rest)
unfolding character
character_read bytes rest c code is whole =
    let front : strip (encode_utf8 c) bytes ≡ Ok (tt, rest) = ap (strip (encode_utf8 c)) whole ∙ strip_again (encode_utf8 c) rest in
    rw (code, is, front) refl

pub character_spells : Spells character IsCharacter Anything
unfolding character
character_spells = record {
  takes = λ bytes c rest e. character_by bytes rest c (scalar (first_code bytes)) refl e;
  again = λ text c rest is ends.
      let whole : text ++ rest ≡ encode_utf8 c ++ rest = ap (λ (t : List ℕ). t ++ rest) is.0 in
      character_read (text ++ rest) rest c (ap first_code whole ∙ first_is c rest is.1) is.1 whole;
}
