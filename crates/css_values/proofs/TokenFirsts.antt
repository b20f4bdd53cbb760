-- What tokens begin with, and that none is empty.
use Rattle.std.proofs.Common.{◌≡◌, ℕ, ◌<◌, Bool, true, false, not, eqb, List, [], ◌∷◌, ◌++◌, length, codes, refl, sym, ap, subst, ◌∙◌, arith, length-append, ℤ}
use Rattle.std.proofs.lemmas.Bool.{eqb-true}
use Rattle.reading.specs.Readers.{strip, starts, one_of, next_is}
use Rattle.reading.proofs.SpellLaws.{ok, stop, same_answer}
use Rattle.css_tokens.specs.Characters.{is_name_start}
use Rattle.css_tokens.specs.Grammar.{AreDecimals, IsNumber, IsToken}
use Rattle.css_tokens.specs.Lexing.{token, name_ahead, hash_ahead, sign_token}
use Rattle.css_tokens.specs.Numbers.{sign, point, number_ahead}
use Rattle.css_tokens.specs.Tokens as tokens
use Rattle.css_tokens.specs.Tokens.{Lexeme}
use Rattle.css_values.specs.Grammar.{may_stand}
use Rattle.css_values.specs.Value.{closers_of, closes, value_ends}
use Rattle.css_values.specs.declared.within.Within.{Within}
use Rattle.css_values.specs.declared.within.Within.TheVariants as within_

-- ---- none is empty

fraction_some : (text behind decimals : List ℕ) → AreDecimals text behind decimals → 0 < length decimals → 0 < length text
fraction_some text behind [] r some = absurd (omega (arith, some))
fraction_some text behind (digit ∷ digits) r some = omega (arith, ap length r.0)

number_by : (text behind : List ℕ) (n : ℤ) (r : IsNumber text behind n) (decimals : List ℕ) → r.decimals ≡ decimals → 0 < length text
number_by text behind n r [] e =
    omega (arith, r.some, ap length e, ap length r.whole, length-append r.sign (r.digits ++ r.fraction), length-append r.digits r.fraction)
number_by text behind n r (digit ∷ digits) e =
    omega (
      arith,
      fraction_some r.fraction behind r.decimals r.are_decimals (subst (λ (d : List ℕ). 0 < length d) (sym e) (omega arith)),
      ap length r.whole,
      length-append r.sign (r.digits ++ r.fraction),
      length-append r.digits r.fraction,
    )

number_some : (text behind : List ℕ) (n : ℤ) → IsNumber text behind n → 0 < length text
number_some text behind n r = number_by text behind n r r.decimals refl

starts_some : (text : List ℕ) → next_is is_name_start text ≡ true → 0 < length text
starts_some [] e = absurd cc
starts_some (byte ∷ text) e = omega arith

pub token_some : (text behind : List ℕ) (lexeme : Lexeme) → IsToken text behind lexeme → 0 < length text
token_some text behind (tokens.number n) r = number_some text behind n r.0
token_some text behind (tokens.percentage n) r = omega (arith, ap length r.2, length-append r.0 (codes "%"))
token_some text behind (tokens.dimension n unit) r = omega (arith, number_some r.0 (unit ++ behind) n r.1, ap length r.3, length-append r.0 unit)
token_some text behind (tokens.name n) r = starts_some text r.0.1
token_some text behind (tokens.function n) r = omega (arith, ap length r.1, length-append n (codes "("))
token_some text behind (tokens.quoted inside) r = omega (arith, ap length r.5, ap length r.3.0, length-append r.1 r.2)
token_some text behind (tokens.hash word) r = omega (arith, ap length r.0)
token_some text behind tokens.round r = omega (arith, ap length r)
token_some text behind tokens.square r = omega (arith, ap length r)
token_some text behind (tokens.sign byte) r = omega (arith, ap length r.0.0)

pub sign_is : (text behind : List ℕ) (byte : ℕ) → IsToken text behind (tokens.sign byte) → text ≡ byte ∷ []
sign_is text behind byte r = r.0.0

-- ---- what they don't begin with

no_token : token [] ≡ stop []
unfolding token number_ahead sign point name_ahead hash_ahead starts strip sign_token one_of
no_token = refl

no_round : (more : List ℕ) → token (41 ∷ more) ≡ stop (41 ∷ more)
unfolding token number_ahead sign point name_ahead hash_ahead starts strip sign_token one_of
no_round more = refl

no_square : (more : List ℕ) → token (93 ∷ more) ≡ stop (93 ∷ more)
unfolding token number_ahead sign point name_ahead hash_ahead starts strip sign_token one_of
no_square more = refl

no_brace : (more : List ℕ) → token (125 ∷ more) ≡ stop (125 ∷ more)
unfolding token number_ahead sign point name_ahead hash_ahead starts strip sign_token one_of
no_brace more = refl

semicolon : (more : List ℕ) → token (59 ∷ more) ≡ ok (tokens.sign 59, more)
unfolding token number_ahead sign point name_ahead hash_ahead starts strip sign_token one_of
semicolon more = refl

is_one : (byte other : ℕ) (t : Bool) → eqb byte other ≡ t → (byte ≡ other → ⊥) → eqb byte other ≡ false
is_one byte other true e differs = absurd (differs (eqb-true byte other e))
is_one byte other false e differs = e

-- what is read as a token begins with no such byte
begins_not : (byte : ℕ) (more rest : List ℕ) (lexeme : Lexeme) (other : ℕ) (left : List ℕ) → token (other ∷ more) ≡ stop left → token (byte ∷ more) ≡ ok (lexeme, rest) → byte ≡ other → ⊥
begins_not byte more rest lexeme other left none e same =
    let clash : ok (lexeme, rest) ≡ stop left = sym e ∙ ap (λ (b : ℕ). token (b ∷ more)) same ∙ none in
    absurd cc

-- what closes the brackets comes where no token does
abbrev pub Shut : List ℕ → Type 0
Shut closers = (bytes : List ℕ) (lexeme : Lexeme) (rest : List ℕ) → token bytes ≡ ok (lexeme, rest) → closes closers bytes ≡ false

pub none_shut : Shut []
none_shut bytes lexeme rest e = refl

round_shut : (closers : List ℕ) → Shut (41 ∷ closers)
round_shut closers [] lexeme rest e = refl
round_shut closers (byte ∷ more) lexeme rest e = is_one byte 41 (eqb byte 41) refl (begins_not byte more rest lexeme 41 (41 ∷ more) (no_round more) e)

square_shut : (closers : List ℕ) → Shut (93 ∷ closers)
square_shut closers [] lexeme rest e = refl
square_shut closers (byte ∷ more) lexeme rest e = is_one byte 93 (eqb byte 93) refl (begins_not byte more rest lexeme 93 (93 ∷ more) (no_square more) e)

-- a token opens nothing, or a bracket with its closing
pub data Opens (lexeme : Lexeme) : Type 0 where
  nothing : closers_of lexeme ≡ [] → Opens lexeme
  bracket : (closer : ℕ) → closers_of lexeme ≡ closer ∷ [] → ((closers : List ℕ) → Shut (closer ∷ closers)) → Opens lexeme

pub opens : (lexeme : Lexeme) → Opens lexeme
opens (tokens.number n) = nothing refl
opens (tokens.percentage n) = nothing refl
opens (tokens.dimension n unit) = nothing refl
opens (tokens.name n) = nothing refl
opens (tokens.function n) = bracket 41 refl round_shut
opens (tokens.quoted inside) = nothing refl
opens (tokens.hash word) = nothing refl
opens tokens.round = bracket 41 refl round_shut
opens tokens.square = bracket 93 refl square_shut
opens (tokens.sign byte) = nothing refl

shut_by : (lexeme : Lexeme) (closer : ℕ) (closers : List ℕ) → Opens lexeme → closers_of lexeme ≡ closer ∷ [] → Shut (closer ∷ closers)
shut_by lexeme closer closers (nothing none) e =
    let clash : closer ∷ [] ≡ [] = sym e ∙ none in
    absurd cc
shut_by lexeme closer closers (bracket other same shut) e =
    let both : closer ∷ [] ≡ other ∷ [] = sym e ∙ same in
    let is : other ≡ closer = cc both in
    subst (λ (c : ℕ). Shut (c ∷ closers)) is (shut closers)

pub opened_shut : (lexeme : Lexeme) (closer : ℕ) (closers : List ℕ) → closers_of lexeme ≡ closer ∷ [] → Shut (closer ∷ closers)
opened_shut lexeme closer closers e = shut_by lexeme closer closers (opens lexeme) e

-- ---- where a value ends no token comes that may stand there

no_semicolon_by : (byte : ℕ) (more rest : List ℕ) (lexeme : Lexeme) → token (byte ∷ more) ≡ ok (lexeme, rest) → may_stand false lexeme ≡ true → byte ≡ 59 → ⊥
no_semicolon_by byte more rest lexeme e stands same =
    let both = same_answer {E = List ℕ} lexeme (tokens.sign 59) rest more (sym e ∙ ap (λ (b : ℕ). token (b ∷ more)) same ∙ semicolon more) in
    let clash : false ≡ true = sym (ap (may_stand false) both.0) ∙ stands in
    absurd cc

no_semicolon : (byte : ℕ) (more rest : List ℕ) (lexeme : Lexeme) → token (byte ∷ more) ≡ ok (lexeme, rest) → may_stand false lexeme ≡ true → eqb byte 59 ≡ false
no_semicolon byte more rest lexeme e stands = is_one byte 59 (eqb byte 59) refl (no_semicolon_by byte more rest lexeme e stands)

pub token_goes_on : (within : Within) (bytes rest : List ℕ) (lexeme : Lexeme) → token bytes ≡ ok (lexeme, rest) → may_stand false lexeme ≡ true → value_ends within bytes ≡ false
token_goes_on within [] rest lexeme e stands =
    let clash : stop [] ≡ ok (lexeme, rest) = sym no_token ∙ e in
    absurd cc
token_goes_on within_.Attribute (byte ∷ more) rest lexeme e stands = no_semicolon byte more rest lexeme e stands
token_goes_on (within_.Rule selectors before) (byte ∷ more) rest lexeme e stands =
    rw (no_semicolon byte more rest lexeme e stands)
    (is_one byte 125 (eqb byte 125) refl (begins_not byte more rest lexeme 125 (125 ∷ more) (no_brace more) e))

ends_here : (within : Within) (rest : List ℕ) → value_ends within (59 ∷ rest) ≡ true
ends_here within_.Attribute rest = refl
ends_here (within_.Rule selectors before) rest = refl

not_both : (byte : ℕ) (t : Bool) → eqb byte 59 ≡ t → (byte ≡ 59 → ⊥) → not t ≡ true
not_both byte true e differs = absurd (differs (eqb-true byte 59 e))
not_both byte false e differs = refl

pub may_stand_here : (within : Within) (text rest : List ℕ) (lexeme : Lexeme) → IsToken text rest lexeme → value_ends within (text ++ rest) ≡ false → may_stand false lexeme ≡ true
may_stand_here within text rest (tokens.sign byte) r ends = not_both byte (eqb byte 59) refl (λ same.
    let here : text ++ rest ≡ 59 ∷ rest = rw (sign_is text rest byte r, same) refl in
    let clash : false ≡ true = sym ends ∙ ap (value_ends within) here ∙ ends_here within rest in
    absurd cc)
may_stand_here within text rest (tokens.number n) r ends = refl
may_stand_here within text rest (tokens.percentage n) r ends = refl
may_stand_here within text rest (tokens.dimension n unit) r ends = refl
may_stand_here within text rest (tokens.name n) r ends = refl
may_stand_here within text rest (tokens.function n) r ends = refl
may_stand_here within text rest (tokens.quoted inside) r ends = refl
may_stand_here within text rest (tokens.hash word) r ends = refl
may_stand_here within text rest tokens.round r ends = refl
may_stand_here within text rest tokens.square r ends = refl
