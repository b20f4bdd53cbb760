-- Numbers: what is read is spelled so, and what is spelled so is read.
use Rattle.std.proofs.Common.{◌≡◌, ℕ, ◌+◌, ◌<◌, Bool, true, false, cond, eqb, ℤ, List, [], ◌∷◌, ◌++◌, length, codes, Ok, refl, sym, ap, ◌∙◌, append_assoc, arith}
use Rattle.std.specs.Prelude.{⊤}
use Rattle.std.specs.Char.{is_ascii_digit}
use Rattle.reading.specs.Readers.{Reader, give, mapped, follow, refuse, choice, strip, next_is, run_of, can_read}
use Rattle.reading.specs.Grammars.{AllPass}
use Rattle.reading.specs.Placed.{SpellsPlaced}
use Rattle.reading.specs.Spelling.{Anything, Spells}
use Rattle.reading.proofs.SpellLaws.{ok, bind_ok, same_answer, strip_takes, give_spells, one_of_spells, mapped_spells, choice_spells, spells_before}
use Rattle.reading.proofs.RunLaws.{IsRun, run_is, run_again}
use Rattle.css_tokens.specs.Characters.{is_plus_or_minus}
use Rattle.css_tokens.specs.Numbers.{sign, point, number_ahead, decimals, number, hundredths_of, signed}
use Rattle.css_tokens.specs.Grammar.{IsSign, AreDecimals, IsNumber}
use Rattle.css_tokens.proofs.Counting.{ahead_by_digit, ahead_by_point}
use Rattle.css_tokens.proofs.NameLaws.{guarded, one_ahead, run_first, some_length}

-- ---- signs

abbrev NoSign : List ℕ → Type 0
NoSign rest = next_is is_plus_or_minus rest ≡ false

sign_spells : Spells sign IsSign NoSign
unfolding sign
sign_spells =
    choice_spells (next_is is_plus_or_minus) (spells_before (mapped_spells (λ (byte : ℕ). eqb byte 45) (one_of_spells is_plus_or_minus)) (λ rest none. tt)) (spells_before (give_spells false) (λ rest none. tt))
    (λ text x rest r none. ap (λ (t : List ℕ). next_is is_plus_or_minus (t ++ rest)) r.1.0 ∙ r.1.1)
    (λ text x rest r none. rw r.0 none)

-- ---- decimals

abbrev NoDigit : List ℕ → Type 0
NoDigit rest = next_is is_ascii_digit rest ≡ false

point_ahead : (rest : List ℕ) → can_read point (46 ∷ rest) ≡ next_is is_ascii_digit rest
unfolding point strip
point_ahead rest = one_ahead is_ascii_digit rest

-- digits behind a point
abbrev behind_point : Reader (List ℕ)
behind_point = follow (strip (codes ".")) (λ u. run_of is_ascii_digit)

pub record ArePointed (bytes run rest : List ℕ) : Type 0 where
  pub some : 0 < length run
  pub pass : AllPass is_ascii_digit run
  pub ends : next_is is_ascii_digit rest ≡ false
  pub parts : bytes ≡ 46 ∷ (run ++ rest)

same_digits : (byte : ℕ) → is_ascii_digit byte ≡ true → is_ascii_digit byte ≡ true
same_digits byte e = e

pointed : (bytes run rest : List ℕ) → can_read point bytes ≡ true → behind_point bytes ≡ ok (run, rest) → ArePointed bytes run rest
pointed bytes run rest ahead e =
    let a = bind_ok (strip (codes ".") bytes) (λ (x : ⊤ × List ℕ). run_of is_ascii_digit x.1) (run, rest) e in
    let first : bytes ≡ 46 ∷ a.0.1 = strip_takes (codes ".") bytes a.0.1 a.0.0 a.1 in
    let r = run_is is_ascii_digit a.0.1 run rest a.2 in
    let digit : next_is is_ascii_digit (run ++ rest) ≡ true = ap (next_is is_ascii_digit) (sym r.parts) ∙ sym (point_ahead a.0.1) ∙ ap (can_read point) (sym first) ∙ ahead in
    let begun = run_first is_ascii_digit is_ascii_digit run rest same_digits digit r.ends in
    record { some = some_length is_ascii_digit run begun; pass = r.pass; ends = r.ends; parts = first ∙ ap (λ (b : List ℕ). 46 ∷ b) r.parts }

are_decimals : (run rest : List ℕ) → 0 < length run → AllPass is_ascii_digit run → AreDecimals (46 ∷ run) rest run
are_decimals [] rest some pass = absurd (omega (arith, some))
are_decimals (digit ∷ run) rest some pass = (refl, pass)

-- the text of decimals, and what stands behind it
pub record AreRead (bytes part rest : List ℕ) : Type 0 where
  pub fraction : List ℕ
  pub are : AreDecimals fraction rest part
  pub parts : bytes ≡ fraction ++ rest
  pub ends : next_is is_ascii_digit bytes ≡ false → next_is is_ascii_digit rest ≡ false

decimals_by : (bytes part rest : List ℕ) (t : Bool) → can_read point bytes ≡ t → cond t (behind_point bytes) (ok ([], bytes)) ≡ ok (part, rest) → AreRead bytes part rest
decimals_by bytes part rest true ahead e =
    let p = pointed bytes part rest ahead e in
    record { fraction = 46 ∷ part; are = are_decimals part rest p.some p.pass; parts = p.parts; ends = λ none. p.ends }
decimals_by bytes part rest false ahead e =
    let same = same_answer {E = List ℕ} [] part bytes rest e in
    let here : can_read point rest ≡ false = ap (can_read point) (sym same.1) ∙ ahead in
    rw (← same.0) (record { fraction = []; are = (refl, here); parts = same.1; ends = λ none. ap (next_is is_ascii_digit) (sym same.1) ∙ none })

decimals_take : (bytes part rest : List ℕ) → decimals bytes ≡ ok (part, rest) → AreRead bytes part rest
unfolding decimals
decimals_take bytes part rest e = decimals_by bytes part rest (can_read point bytes) refl e

decimals_again : (fraction part rest : List ℕ) → AreDecimals fraction rest part → next_is is_ascii_digit rest ≡ false → decimals (fraction ++ rest) ≡ ok (part, rest)
unfolding decimals strip
decimals_again fraction [] rest are ends = rw (are.0, are.1) refl
decimals_again fraction (digit ∷ part) rest are ends =
    let ahead : can_read point (46 ∷ ((digit ∷ part) ++ rest)) ≡ true = point_ahead ((digit ∷ part) ++ rest) ∙ are.1.0 in
    rw (are.0, ahead) (run_again is_ascii_digit (digit ∷ part) rest are.1 ends)

-- no digit comes where decimals begin
no_digit_there : (fraction part rest : List ℕ) → AreDecimals fraction rest part → next_is is_ascii_digit rest ≡ false → next_is is_ascii_digit (fraction ++ rest) ≡ false
no_digit_there fraction [] rest are ends = rw are.0 ends
no_digit_there fraction (digit ∷ part) rest are ends = rw are.0 refl

point_there : (fraction part rest : List ℕ) → AreDecimals fraction rest part → 0 < length part → can_read point (fraction ++ rest) ≡ true
point_there fraction [] rest are some = absurd (omega (arith, some))
point_there fraction (digit ∷ part) rest are some = rw are.0 (point_ahead ((digit ∷ part) ++ rest) ∙ are.1.0)

-- ---- numbers

digit_no_sign : (byte : ℕ) → is_ascii_digit byte ≡ true → is_plus_or_minus byte ≡ false
digit_no_sign byte e = grind arith

fraction_no_sign : (fraction part rest : List ℕ) → AreDecimals fraction rest part → 0 < length part → next_is is_plus_or_minus (fraction ++ rest) ≡ false
fraction_no_sign fraction [] rest are some = absurd (omega (arith, some))
fraction_no_sign fraction (digit ∷ part) rest are some = rw are.0 refl

no_sign : (digits fraction part rest : List ℕ) → AllPass is_ascii_digit digits → AreDecimals fraction rest part → 0 < length digits + length part → next_is is_plus_or_minus (digits ++ (fraction ++ rest)) ≡ false
no_sign [] fraction part rest pass are some = fraction_no_sign fraction part rest are (omega (arith, some))
no_sign (digit ∷ digits) fraction part rest pass are some = digit_no_sign digit pass.0

-- a part at least is there
some_by : (bytes r1 r2 rest digits part : List ℕ) (negative : Bool) → number_ahead bytes ≡ true → sign bytes ≡ ok (negative, r1) → IsRun is_ascii_digit r1 digits r2 → AreRead r2 part rest → 0 < length digits + length part
some_by bytes r1 r2 rest (digit ∷ digits) part negative ahead e run read = omega arith
some_by bytes r1 r2 rest [] (digit ∷ part) negative ahead e run read = omega arith
some_by bytes r1 r2 rest [] [] negative ahead e run read =
    let same : r1 ≡ rest = run.parts ∙ read.parts ∙ ap (λ (f : List ℕ). f ++ rest) read.are.0 in
    let none : next_is is_ascii_digit r1 ≡ false = ap (next_is is_ascii_digit) run.parts ∙ run.ends in
    let clash : can_read point rest ≡ true = ap (can_read point) (sym same) ∙ sym (ahead_by_point bytes r1 negative e none) ∙ ahead in
    absurd (cc (sym read.are.1 ∙ clash))

joined_parts : (bytes front r1 digits r2 fraction rest : List ℕ) → bytes ≡ front ++ r1 → r1 ≡ digits ++ r2 → r2 ≡ fraction ++ rest → bytes ≡ (front ++ (digits ++ fraction)) ++ rest
joined_parts bytes front r1 digits r2 fraction rest e f g = rw (e, f, g, append_assoc front (digits ++ fraction) rest, append_assoc digits fraction rest) refl

-- a sign, digits and decimals are a number
from_parts : (bytes r1 digits r2 part rest : List ℕ) (negative : Bool) → number_ahead bytes ≡ true → sign bytes ≡ ok (negative, r1) → run_of is_ascii_digit r1 ≡ ok (digits, r2) → decimals r2 ≡ ok (part, rest)
    → (text : List ℕ) × IsNumber text rest (signed negative (hundredths_of digits part)) × (bytes ≡ text ++ rest)
from_parts bytes r1 digits r2 part rest negative ahead e f g =
    let s = sign_spells.takes bytes negative r1 e in
    let run = run_is is_ascii_digit r1 digits r2 f in
    let read = decimals_take r2 part rest g in (
      s.0 ++ (digits ++ read.fraction),
      record {
        sign = s.0;
        negative = negative;
        digits = digits;
        fraction = read.fraction;
        decimals = part;
        is_sign = s.1;
        are_digits = run.pass;
        are_decimals = read.are;
        some = some_by bytes r1 r2 rest digits part negative ahead e run read;
        ends = read.ends run.ends;
        value = refl;
        whole = refl;
      },
      joined_parts bytes s.0 r1 digits r2 read.fraction rest s.2 run.parts read.parts,
    )

answered_so : (bytes : List ℕ) (m n : ℤ) (there rest : List ℕ) → (m ≡ n) × (there ≡ rest) → (text : List ℕ) × IsNumber text there m × (bytes ≡ text ++ there) → (text : List ℕ) × IsNumber text rest n × (bytes ≡ text ++ rest)
answered_so bytes m n there rest same t = rw (← same.0, ← same.1) t

pub number_takes : (bytes : List ℕ) (n : ℤ) (rest : List ℕ) → number_ahead bytes ≡ true → number bytes ≡ ok (n, rest) → (text : List ℕ) × IsNumber text rest n × (bytes ≡ text ++ rest)
unfolding number
number_takes bytes n rest ahead e =
    let a = bind_ok (sign bytes) (λ (x : Bool × List ℕ). follow (run_of is_ascii_digit) (λ whole. mapped (λ part. signed x.0 (hundredths_of whole part)) decimals) x.1) (n, rest) e in
    let b = bind_ok (run_of is_ascii_digit a.0.1) (λ (x : List ℕ × List ℕ). mapped (λ part. signed a.0.0 (hundredths_of x.0 part)) decimals x.1) (n, rest) a.2 in
    let c = bind_ok (decimals b.0.1) (λ (x : List ℕ × List ℕ). give (signed a.0.0 (hundredths_of b.0.0 x.0)) x.1) (n, rest) b.2 in
    let same = same_answer {E = List ℕ} (signed a.0.0 (hundredths_of b.0.0 c.0.0)) n c.0.1 rest c.2 in
    answered_so bytes (signed a.0.0 (hundredths_of b.0.0 c.0.0)) n c.0.1 rest same (from_parts bytes a.0.1 b.0.0 b.0.1 c.0.0 c.0.1 a.0.0 ahead a.1 b.1 c.1)

-- behind the sign
pub record IsBehindSign (text behind : List ℕ) (n : ℤ) (is : IsNumber text behind n) : Type 0 where
  pub parts : text ++ behind ≡ is.sign ++ (is.digits ++ (is.fraction ++ behind))
  pub read : sign (text ++ behind) ≡ Ok (is.negative, is.digits ++ (is.fraction ++ behind))

behind_sign : (text behind : List ℕ) (n : ℤ) (r : IsNumber text behind n) → IsBehindSign text behind n r
behind_sign text behind n r =
    let parts : text ++ behind ≡ r.sign ++ (r.digits ++ (r.fraction ++ behind)) =
    ap (λ (t : List ℕ). t ++ behind) r.whole ∙ append_assoc r.sign (r.digits ++ r.fraction) behind ∙ ap (λ (t : List ℕ). r.sign ++ t) (append_assoc r.digits r.fraction behind) in
    record {
      parts = parts;
      read = ap sign parts ∙ sign_spells.again r.sign r.negative (r.digits ++ (r.fraction ++ behind)) r.is_sign (no_sign r.digits r.fraction r.decimals behind r.are_digits r.are_decimals r.some);
    }

ahead_from : (bytes digits fraction part rest : List ℕ) (negative : Bool) → sign bytes ≡ Ok (negative, digits ++ (fraction ++ rest)) → AllPass is_ascii_digit digits → AreDecimals fraction rest part
    → next_is is_ascii_digit rest ≡ false → 0 < length digits + length part → number_ahead bytes ≡ true
ahead_from bytes [] fraction part rest negative e pass are ends some =
    ahead_by_point bytes (fraction ++ rest) negative e (no_digit_there fraction part rest are ends) ∙ point_there fraction part rest are (omega (arith, some))
ahead_from bytes (digit ∷ digits) fraction part rest negative e pass are ends some = ahead_by_digit bytes ((digit ∷ digits) ++ (fraction ++ rest)) negative e pass.0

pub number_is_ahead : (text behind : List ℕ) (n : ℤ) → IsNumber text behind n → number_ahead (text ++ behind) ≡ true
number_is_ahead text behind n r =
    ahead_from (text ++ behind) r.digits r.fraction r.decimals behind r.negative (behind_sign text behind n r).read r.are_digits r.are_decimals r.ends r.some

pub number_again : (text behind : List ℕ) (n : ℤ) → IsNumber text behind n → number (text ++ behind) ≡ ok (n, behind)
unfolding number
number_again text behind n r =
    let run : run_of is_ascii_digit (r.digits ++ (r.fraction ++ behind)) ≡ Ok (r.digits, r.fraction ++ behind) =
    run_again is_ascii_digit r.digits (r.fraction ++ behind) r.are_digits (no_digit_there r.fraction r.decimals behind r.are_decimals r.ends) in
    let last : decimals (r.fraction ++ behind) ≡ Ok (r.decimals, behind) = decimals_again r.fraction r.decimals behind r.are_decimals r.ends in
    rw ((behind_sign text behind n r).read, run, last, r.value) refl

pub number_spells : SpellsPlaced (choice number_ahead number refuse) IsNumber Anything
number_spells = record {
  takes = λ bytes n rest e.
      let g = guarded number_ahead number bytes (n, rest) e in
      number_takes bytes n rest g.0 g.1;
  again = λ text n rest r any. rw (number_is_ahead text rest n r) (number_again text rest n r);
}
