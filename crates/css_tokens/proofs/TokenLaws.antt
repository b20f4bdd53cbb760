-- Tokens: what is read is spelled so, and what is spelled so is read.
use Rattle.std.proofs.Common.{◌≡◌, ℕ, Bool, true, false, not, cond, eqb, ℤ, List, [], ◌∷◌, ◌++◌, codes, refl, sym, ap, subst, ◌∙◌, append_assoc, arith}
use Rattle.std.specs.Prelude.{⊤}
use Rattle.std.specs.Char.{is_ascii_digit}
use Rattle.std.proofs.lemmas.Bool.{and_parts, not-true}
use Rattle.reading.specs.Readers.{give, mapped, choice, strip, starts, one_of, next_is}
use Rattle.reading.specs.Placed.{SpellsPlaced}
use Rattle.reading.specs.Spelling.{Anything}
use Rattle.reading.proofs.SpellLaws.{ok, bind_ok, same_answer, strip_takes, strip_again, starts_so, one_of_spells, one_again, starts_not}
use Rattle.css_tokens.specs.Characters.{is_name_start, is_plus_or_minus, is_quote, is_reserved}
use Rattle.css_tokens.specs.Lexing.{name_ahead, name, hash_ahead, hash, string, numeric, named, sign_token, opening_or_sign, token}
use Rattle.css_tokens.specs.Numbers.{sign, point, number_ahead, number}
use Rattle.css_tokens.specs.Tokens as tokens
use Rattle.css_tokens.specs.Tokens.{Lexeme}
use Rattle.css_tokens.specs.Grammar.{IsName, IsHash, IsNumber, IsString, IsToken, is_sign}
use Rattle.css_tokens.proofs.NameLaws.{name_takes, name_is_ahead, name_again, hash_takes, hash_is_ahead, hash_again}
use Rattle.css_tokens.proofs.StringLaws.{string_spells}
use Rattle.css_tokens.proofs.NumberLaws.{number_takes, number_is_ahead, number_again}

-- ---- what is read is a token

abbrev IsRead : (bytes : List ℕ) → Lexeme → (rest : List ℕ) → Type 0
IsRead bytes x rest = (text : List ℕ) × IsToken text rest x × (bytes ≡ text ++ rest)

answered_so : (bytes there rest : List ℕ) (y x : Lexeme) → (y ≡ x) × (there ≡ rest) → IsRead bytes y there → IsRead bytes x rest
answered_so bytes there rest y x same t = rw (← same.0, ← same.1) t

-- a text, and another behind it
behind : (bytes front r1 back rest : List ℕ) → bytes ≡ front ++ r1 → r1 ≡ back ++ rest → bytes ≡ (front ++ back) ++ rest
behind bytes front r1 back rest e f = e ∙ ap (λ (r : List ℕ). front ++ r) f ∙ sym (append_assoc front back rest)

-- ---- numbers, percentages and dimensions

percentage_takes : (bytes front r1 rest : List ℕ) (n : ℤ) (x : Lexeme) → IsNumber front r1 n → bytes ≡ front ++ r1 → mapped (λ (u : ⊤). tokens.percentage n) (strip (codes "%")) r1 ≡ ok (x, rest) → IsRead bytes x rest
percentage_takes bytes front r1 rest n x is parts e =
    let a = bind_ok (strip (codes "%") r1) (λ (u : ⊤ × List ℕ). give (tokens.percentage n) u.1) (x, rest) e in
    let same = same_answer {E = List ℕ} (tokens.percentage n) x a.0.1 rest a.2 in
    let mark : r1 ≡ codes "%" ++ a.0.1 = strip_takes (codes "%") r1 a.0.1 a.0.0 a.1 in
    answered_so bytes a.0.1 rest (tokens.percentage n) x same
    (front ++ codes "%", (front, subst (λ (b : List ℕ). IsNumber front b n) mark is, refl), behind bytes front r1 (codes "%") a.0.1 parts mark)

dimension_takes : (bytes front r1 rest : List ℕ) (n : ℤ) (x : Lexeme) → IsNumber front r1 n → bytes ≡ front ++ r1 → name_ahead r1 ≡ true → mapped (λ unit. tokens.dimension n unit) name r1 ≡ ok (x, rest) → IsRead bytes x rest
dimension_takes bytes front r1 rest n x is parts ahead e =
    let a = bind_ok (name r1) (λ (u : List ℕ × List ℕ). give (tokens.dimension n u.0) u.1) (x, rest) e in
    let same = same_answer {E = List ℕ} (tokens.dimension n a.0.0) x a.0.1 rest a.2 in
    let unit = name_takes r1 a.0.0 a.0.1 ahead a.1 in
    answered_so bytes a.0.1 rest (tokens.dimension n a.0.0) x same
    (front ++ a.0.0, (front, subst (λ (b : List ℕ). IsNumber front b n) unit.1 is, unit.0, refl), behind bytes front r1 a.0.0 a.0.1 parts unit.1)

unit_by : (bytes front r1 rest : List ℕ) (n : ℤ) (x : Lexeme) (t : Bool) → name_ahead r1 ≡ t → starts (codes "%") r1 ≡ false → IsNumber front r1 n → bytes ≡ front ++ r1
    → cond t (mapped (λ unit. tokens.dimension n unit) name r1) (ok (tokens.number n, r1)) ≡ ok (x, rest) → IsRead bytes x rest
unit_by bytes front r1 rest n x true ahead none is parts e = dimension_takes bytes front r1 rest n x is parts ahead e
unit_by bytes front r1 rest n x false ahead none is parts e =
    answered_so bytes r1 rest (tokens.number n) x (same_answer {E = List ℕ} (tokens.number n) x r1 rest e) (front, (is, none, ahead), parts)

numeric_by : (bytes front r1 rest : List ℕ) (n : ℤ) (x : Lexeme) (t : Bool) → starts (codes "%") r1 ≡ t → IsNumber front r1 n → bytes ≡ front ++ r1
    → cond t (mapped (λ (u : ⊤). tokens.percentage n) (strip (codes "%")) r1) (cond (name_ahead r1) (mapped (λ unit. tokens.dimension n unit) name r1) (ok (tokens.number n, r1))) ≡ ok (x, rest) → IsRead bytes x rest
numeric_by bytes front r1 rest n x true percent is parts e = percentage_takes bytes front r1 rest n x is parts e
numeric_by bytes front r1 rest n x false percent is parts e = unit_by bytes front r1 rest n x (name_ahead r1) refl percent is parts e

numeric_takes : (bytes rest : List ℕ) (x : Lexeme) → number_ahead bytes ≡ true → numeric bytes ≡ ok (x, rest) → IsRead bytes x rest
unfolding numeric
numeric_takes bytes rest x ahead e =
    let a = bind_ok (number bytes) (λ (v : ℤ × List ℕ).
    choice (starts (codes "%")) (mapped (λ (u : ⊤). tokens.percentage v.0) (strip (codes "%")))
    (choice name_ahead (mapped (λ unit. tokens.dimension v.0 unit) name) (give (tokens.number v.0))) v.1) (x, rest) e in
    let t = number_takes bytes a.0.0 a.0.1 ahead a.1 in
    numeric_by bytes t.0 a.0.1 rest a.0.0 x (starts (codes "%") a.0.1) refl t.1 t.2 a.2

-- ---- names and functions

named_by : (bytes n r1 rest : List ℕ) (x : Lexeme) (t : Bool) → starts (codes "(") r1 ≡ t → IsName n r1 n → bytes ≡ n ++ r1
    → cond t (mapped (λ (u : ⊤). tokens.function n) (strip (codes "(")) r1) (ok (tokens.name n, r1)) ≡ ok (x, rest) → IsRead bytes x rest
named_by bytes n r1 rest x true opens is parts e =
    let a = bind_ok (strip (codes "(") r1) (λ (u : ⊤ × List ℕ). give (tokens.function n) u.1) (x, rest) e in
    let same = same_answer {E = List ℕ} (tokens.function n) x a.0.1 rest a.2 in
    let mark : r1 ≡ codes "(" ++ a.0.1 = strip_takes (codes "(") r1 a.0.1 a.0.0 a.1 in
    answered_so bytes a.0.1 rest (tokens.function n) x same
    (n ++ codes "(", (subst (λ (b : List ℕ). IsName n b n) mark is, refl), behind bytes n r1 (codes "(") a.0.1 parts mark)
named_by bytes n r1 rest x false opens is parts e =
    answered_so bytes r1 rest (tokens.name n) x (same_answer {E = List ℕ} (tokens.name n) x r1 rest e) (n, (is, opens), parts)

named_takes : (bytes rest : List ℕ) (x : Lexeme) → name_ahead bytes ≡ true → named bytes ≡ ok (x, rest) → IsRead bytes x rest
unfolding named
named_takes bytes rest x ahead e =
    let a = bind_ok (name bytes) (λ (v : List ℕ × List ℕ). choice (starts (codes "(")) (mapped (λ (u : ⊤). tokens.function v.0) (strip (codes "("))) (give (tokens.name v.0)) v.1) (x, rest) e in
    let t = name_takes bytes a.0.0 a.0.1 ahead a.1 in
    named_by bytes a.0.0 a.0.1 rest x (starts (codes "(") a.0.1) refl t.0 t.1 a.2

-- ---- strings and hashes

quoted_takes : (bytes rest : List ℕ) (x : Lexeme) → mapped (λ inside. tokens.quoted inside) string bytes ≡ ok (x, rest) → IsRead bytes x rest
quoted_takes bytes rest x e =
    let a = bind_ok (string bytes) (λ (v : List ℕ × List ℕ). give (tokens.quoted v.0) v.1) (x, rest) e in
    answered_so bytes a.0.1 rest (tokens.quoted a.0.0) x (same_answer {E = List ℕ} (tokens.quoted a.0.0) x a.0.1 rest a.2) (string_spells.takes bytes a.0.0 a.0.1 a.1)

hashed_takes : (bytes rest : List ℕ) (x : Lexeme) → hash_ahead bytes ≡ true → mapped (λ word. tokens.hash word) hash bytes ≡ ok (x, rest) → IsRead bytes x rest
hashed_takes bytes rest x ahead e =
    let a = bind_ok (hash bytes) (λ (v : List ℕ × List ℕ). give (tokens.hash v.0) v.1) (x, rest) e in
    let t = hash_takes bytes a.0.0 a.0.1 ahead a.1 in
    answered_so bytes a.0.1 rest (tokens.hash a.0.0) x (same_answer {E = List ℕ} (tokens.hash a.0.0) x a.0.1 rest a.2) (35 ∷ a.0.0, t.0, t.1)

-- ---- brackets and signs

-- where no longer token can be read
pub record IsOther (bytes : List ℕ) : Type 0 where
  pub no_number : number_ahead bytes ≡ false
  pub no_name : name_ahead bytes ≡ false
  pub no_quote : next_is is_quote bytes ≡ false
  pub no_hash : hash_ahead bytes ≡ false

sign_takes : (bytes rest : List ℕ) (x : Lexeme) → IsOther bytes → sign_token bytes ≡ ok (x, rest) → IsRead bytes x rest
unfolding sign_token
sign_takes bytes rest x is e =
    let a = bind_ok (one_of (λ byte. not (is_reserved byte)) bytes) (λ (v : ℕ × List ℕ). give (tokens.sign v.0) v.1) (x, rest) e in
    let t = (one_of_spells (λ byte. not (is_reserved byte))).takes bytes a.0.0 a.0.1 a.1 in
    let first : bytes ≡ a.0.0 ∷ a.0.1 = t.2 ∙ ap (λ (s : List ℕ). s ++ a.0.1) t.1.0 in
    let no_quote : is_quote a.0.0 ≡ false = ap (next_is is_quote) (sym first) ∙ is.no_quote in
    let own : is_sign a.0.0 ≡ true = rw (not-true (is_reserved a.0.0) t.1.1, no_quote) refl in
    answered_so bytes a.0.1 rest (tokens.sign a.0.0) x (same_answer {E = List ℕ} (tokens.sign a.0.0) x a.0.1 rest a.2) (
      t.0,
      ((t.1.0, own), ap number_ahead (sym t.2) ∙ is.no_number, ap name_ahead (sym t.2) ∙ is.no_name, ap hash_ahead (sym t.2) ∙ is.no_hash),
      t.2,
    )

bracket_takes : (word bytes rest : List ℕ) (y x : Lexeme) → ((behind : List ℕ) → IsToken word behind y) → mapped (λ (u : ⊤). y) (strip word) bytes ≡ ok (x, rest) → IsRead bytes x rest
bracket_takes word bytes rest y x is e =
    let a = bind_ok (strip word bytes) (λ (u : ⊤ × List ℕ). give y u.1) (x, rest) e in
    answered_so bytes a.0.1 rest y x (same_answer {E = List ℕ} y x a.0.1 rest a.2) (word, is a.0.1, strip_takes word bytes a.0.1 a.0.0 a.1)

square_by : (bytes rest : List ℕ) (x : Lexeme) (t : Bool) → IsOther bytes → cond t (mapped (λ (u : ⊤). tokens.square) (strip (codes "[")) bytes) (sign_token bytes) ≡ ok (x, rest) → IsRead bytes x rest
square_by bytes rest x true is e = bracket_takes (codes "[") bytes rest tokens.square x (λ behind. refl) e
square_by bytes rest x false is e = sign_takes bytes rest x is e

round_by : (bytes rest : List ℕ) (x : Lexeme) (t : Bool) → IsOther bytes
    → cond t (mapped (λ (u : ⊤). tokens.round) (strip (codes "(")) bytes) (cond (starts (codes "[") bytes) (mapped (λ (u : ⊤). tokens.square) (strip (codes "[")) bytes) (sign_token bytes)) ≡ ok (x, rest) → IsRead bytes x rest
round_by bytes rest x true is e = bracket_takes (codes "(") bytes rest tokens.round x (λ behind. refl) e
round_by bytes rest x false is e = square_by bytes rest x (starts (codes "[") bytes) is e

-- ---- any token

token_by : (bytes rest : List ℕ) (x : Lexeme) (a b c d : Bool) → number_ahead bytes ≡ a → name_ahead bytes ≡ b → next_is is_quote bytes ≡ c → hash_ahead bytes ≡ d
    → cond a (numeric bytes) (cond b (named bytes) (cond c (mapped (λ inside. tokens.quoted inside) string bytes) (cond d (mapped (λ word. tokens.hash word) hash bytes) (opening_or_sign bytes)))) ≡ ok (x, rest)
    → IsRead bytes x rest
token_by bytes rest x true b c d ea eb ec ed e = numeric_takes bytes rest x ea e
token_by bytes rest x false true c d ea eb ec ed e = named_takes bytes rest x eb e
token_by bytes rest x false false true d ea eb ec ed e = quoted_takes bytes rest x e
token_by bytes rest x false false false true ea eb ec ed e = hashed_takes bytes rest x ed e
token_by bytes rest x false false false false ea eb ec ed e =
    round_by bytes rest x (starts (codes "(") bytes) (record { no_number = ea; no_name = eb; no_quote = ec; no_hash = ed }) e

token_takes : (bytes rest : List ℕ) (x : Lexeme) → token bytes ≡ ok (x, rest) → IsRead bytes x rest
unfolding token
token_takes bytes rest x e = token_by bytes rest x (number_ahead bytes) (name_ahead bytes) (next_is is_quote bytes) (hash_ahead bytes) refl refl refl refl e

-- ---- what is a token is read

numeric_at : (text rest : List ℕ) (n : ℤ) (y : Lexeme) (left : List ℕ) → IsNumber text rest n
    → choice (starts (codes "%")) (mapped (λ (u : ⊤). tokens.percentage n) (strip (codes "%"))) (choice name_ahead (mapped (λ unit. tokens.dimension n unit) name) (give (tokens.number n))) rest ≡ ok (y, left)
    → token (text ++ rest) ≡ ok (y, left)
unfolding token numeric
numeric_at text rest n y left is e = rw (number_is_ahead text rest n is, number_again text rest n is) e

number_token : (text rest : List ℕ) (n : ℤ) → IsToken text rest (tokens.number n) → token (text ++ rest) ≡ ok (tokens.number n, rest)
number_token text rest n r = numeric_at text rest n (tokens.number n) rest r.0 (rw (r.1, r.2) refl)

percentage_token : (text rest : List ℕ) (n : ℤ) → IsToken text rest (tokens.percentage n) → token (text ++ rest) ≡ ok (tokens.percentage n, rest)
percentage_token text rest n r =
    let whole : text ++ rest ≡ r.0 ++ (codes "%" ++ rest) = ap (λ (t : List ℕ). t ++ rest) r.2 ∙ append_assoc r.0 (codes "%") rest in
    ap token whole ∙ numeric_at r.0 (codes "%" ++ rest) n (tokens.percentage n) rest r.1 (rw (starts_so (codes "%") rest, strip_again (codes "%") rest) refl)

start_no_percent : (byte : ℕ) → is_name_start byte ≡ true → eqb byte 37 ≡ false
start_no_percent byte e = grind arith

unit_no_percent : (unit rest : List ℕ) → next_is is_name_start unit ≡ true → starts (codes "%") (unit ++ rest) ≡ false
unit_no_percent [] rest e = absurd cc
unit_no_percent (byte ∷ unit) rest e = starts_not 37 byte (unit ++ rest) (start_no_percent byte e)

dimension_token : (text rest : List ℕ) (n : ℤ) (unit : List ℕ) → IsToken text rest (tokens.dimension n unit) → token (text ++ rest) ≡ ok (tokens.dimension n unit, rest)
dimension_token text rest n unit r =
    let whole : text ++ rest ≡ r.0 ++ (unit ++ rest) = ap (λ (t : List ℕ). t ++ rest) r.3 ∙ append_assoc r.0 unit rest in
    ap token whole ∙ numeric_at r.0 (unit ++ rest) n (tokens.dimension n unit) rest r.1
    (rw (unit_no_percent unit rest r.2.1, name_is_ahead unit rest unit r.2, name_again unit rest unit r.2) refl)

named_at : (n rest : List ℕ) (y : Lexeme) (left : List ℕ) → IsName n rest n
    → choice (starts (codes "(")) (mapped (λ (u : ⊤). tokens.function n) (strip (codes "("))) (give (tokens.name n)) rest ≡ ok (y, left) → token (n ++ rest) ≡ ok (y, left)
unfolding token named
named_at n rest y left is e = rw (is.4, name_is_ahead n rest n is, name_again n rest n is) e

name_token : (text rest n : List ℕ) → IsToken text rest (tokens.name n) → token (text ++ rest) ≡ ok (tokens.name n, rest)
name_token text rest n r =
    let is : IsName n rest n = subst (λ (t : List ℕ). IsName t rest n) (sym r.0.0) r.0 in
    ap (λ (t : List ℕ). token (t ++ rest)) (sym r.0.0) ∙ named_at n rest (tokens.name n) rest is (rw r.1 refl)

function_token : (text rest n : List ℕ) → IsToken text rest (tokens.function n) → token (text ++ rest) ≡ ok (tokens.function n, rest)
function_token text rest n r =
    let whole : text ++ rest ≡ n ++ (codes "(" ++ rest) = ap (λ (t : List ℕ). t ++ rest) r.1 ∙ append_assoc n (codes "(") rest in
    ap token whole ∙ named_at n (codes "(" ++ rest) (tokens.function n) rest r.0 (rw (starts_so (codes "(") rest, strip_again (codes "(") rest) refl)

-- a byte that begins no number and no name
begins_no_number : (byte : ℕ) (rest : List ℕ) → is_plus_or_minus byte ≡ false → is_ascii_digit byte ≡ false → eqb byte 46 ≡ false → number_ahead (byte ∷ rest) ≡ false
unfolding number_ahead sign point strip
begins_no_number byte rest no_sign no_digit no_point = rw (no_sign, no_digit, no_point) refl

begins_no_name : (byte : ℕ) (rest : List ℕ) → is_name_start byte ≡ false → name_ahead (byte ∷ rest) ≡ false
unfolding name_ahead
begins_no_name byte rest e = rw e refl

no_sign_quote : (quote : ℕ) → is_quote quote ≡ true → is_plus_or_minus quote ≡ false
no_sign_quote quote e = grind arith

no_digit_quote : (quote : ℕ) → is_quote quote ≡ true → is_ascii_digit quote ≡ false
no_digit_quote quote e = grind arith

no_point_quote : (quote : ℕ) → is_quote quote ≡ true → eqb quote 46 ≡ false
no_point_quote quote e = grind arith

no_name_quote : (quote : ℕ) → is_quote quote ≡ true → is_name_start quote ≡ false
no_name_quote quote e = grind arith

quoted_at : (quote : ℕ) (bytes inside rest : List ℕ) → is_quote quote ≡ true → string (quote ∷ bytes) ≡ ok (inside, rest) → token (quote ∷ bytes) ≡ ok (tokens.quoted inside, rest)
unfolding token
quoted_at quote bytes inside rest is e =
    rw (begins_no_number quote bytes (no_sign_quote quote is) (no_digit_quote quote is) (no_point_quote quote is), begins_no_name quote bytes (no_name_quote quote is), is, e) refl

quoted_token : (text rest inside : List ℕ) → IsString text inside → token (text ++ rest) ≡ ok (tokens.quoted inside, rest)
quoted_token text rest inside r =
    let first : text ++ rest ≡ r.0 ∷ (r.2 ++ rest) = rw (r.5, r.3.0) refl in
    ap token first ∙ quoted_at r.0 (r.2 ++ rest) inside rest r.3.1 (ap string (sym first) ∙ string_spells.again text inside rest r tt)

hashed_at : (bytes word rest : List ℕ) → hash_ahead (35 ∷ bytes) ≡ true → hash (35 ∷ bytes) ≡ ok (word, rest) → token (35 ∷ bytes) ≡ ok (tokens.hash word, rest)
unfolding token
hashed_at bytes word rest ahead e = rw (begins_no_number 35 bytes refl refl refl, begins_no_name 35 bytes refl, ahead, e) refl

hash_token : (text rest word : List ℕ) → IsHash text rest word → token (text ++ rest) ≡ ok (tokens.hash word, rest)
hash_token text rest word r =
    let first : text ++ rest ≡ 35 ∷ (word ++ rest) = ap (λ (t : List ℕ). t ++ rest) r.0 in
    ap token first ∙ hashed_at (word ++ rest) word rest (ap hash_ahead (sym first) ∙ hash_is_ahead text rest word r) (ap hash (sym first) ∙ hash_again text rest word r)

round_at : (rest : List ℕ) → token (40 ∷ rest) ≡ ok (tokens.round, rest)
unfolding token number_ahead sign point name_ahead hash_ahead starts strip
round_at rest = refl

square_at : (rest : List ℕ) → token (91 ∷ rest) ≡ ok (tokens.square, rest)
unfolding token number_ahead sign point name_ahead hash_ahead starts strip
square_at rest = refl

not_round : (byte : ℕ) → is_reserved byte ≡ false → eqb byte 40 ≡ false
not_round byte e = grind arith

not_square : (byte : ℕ) → is_reserved byte ≡ false → eqb byte 91 ≡ false
not_square byte e = grind arith

sign_at : (byte : ℕ) (rest : List ℕ) → is_reserved byte ≡ false → IsOther (byte ∷ rest) → token (byte ∷ rest) ≡ ok (tokens.sign byte, rest)
unfolding token sign_token
sign_at byte rest free is =
    rw (is.no_number, is.no_name, is.no_quote, is.no_hash, starts_not 40 byte rest (not_round byte free), starts_not 91 byte rest (not_square byte free), one_again (λ b. not (is_reserved b)) byte rest (ap not free)) refl

sign_token_again : (text rest : List ℕ) (byte : ℕ) → IsToken text rest (tokens.sign byte) → token (text ++ rest) ≡ ok (tokens.sign byte, rest)
sign_token_again text rest byte r =
    let own = and_parts (not (is_reserved byte)) (not (is_quote byte)) r.0.1 in
    let first : text ++ rest ≡ byte ∷ rest = ap (λ (t : List ℕ). t ++ rest) r.0.0 in
    ap token first ∙ sign_at byte rest (not-true (is_reserved byte) own.0) (record {
      no_number = ap number_ahead (sym first) ∙ r.1;
      no_name = ap name_ahead (sym first) ∙ r.2;
      no_quote = not-true (is_quote byte) own.1;
      no_hash = ap hash_ahead (sym first) ∙ r.3;
    })

token_again : (text rest : List ℕ) (x : Lexeme) → IsToken text rest x → token (text ++ rest) ≡ ok (x, rest)
token_again text rest (tokens.number n) r = number_token text rest n r
token_again text rest (tokens.percentage n) r = percentage_token text rest n r
token_again text rest (tokens.dimension n unit) r = dimension_token text rest n unit r
token_again text rest (tokens.name n) r = name_token text rest n r
token_again text rest (tokens.function n) r = function_token text rest n r
token_again text rest (tokens.quoted inside) r = quoted_token text rest inside r
token_again text rest (tokens.hash word) r = hash_token text rest word r
token_again text rest tokens.round r = ap (λ (t : List ℕ). token (t ++ rest)) r ∙ round_at rest
token_again text rest tokens.square r = ap (λ (t : List ℕ). token (t ++ rest)) r ∙ square_at rest
token_again text rest (tokens.sign byte) r = sign_token_again text rest byte r

pub token_spells : SpellsPlaced token IsToken Anything
token_spells = record {
  takes = λ bytes x rest e. token_takes bytes rest x e;
  again = λ text x rest r any. token_again text rest x r;
}
