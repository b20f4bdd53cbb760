-- Runs of bytes up to their end, and where texts are cut behind them.
use Rattle.std.proofs.Common.{◌≡◌, ℕ, ◌<◌, ◌≤◌, Bool, true, false, List, [], ◌∷◌, ◌++◌, length, Ok, refl, sym, ap, ◌∙◌, arith, length-append}
use Rattle.std.proofs.lemmas.List.{append_cancel_right}
use Rattle.std.specs.Prelude.{◌&&◌, not}
use Rattle.std.proofs.lemmas.Bool.{and_parts}
use Rattle.reading.specs.Readers.{run_of, next_is}
use Rattle.reading.specs.Cuts.{ReadsFront}
use Rattle.reading.proofs.RunLaws.{run_is}
use Rattle.css_tokens.specs.Characters.{is_name_byte, is_name_start}
use Rattle.css_tokens.specs.Lexing.{name, name_ahead}
use Rattle.css_tokens.specs.Numbers.{number_ahead}

-- ---- names

-- what was read is what stands before the rest
pub name_cut : (text bytes front rest end_ : List ℕ) → bytes ≡ text → ReadsFront (run_of is_name_byte bytes) bytes end_ → text ≡ front ++ rest → rest ≡ end_ → name text ≡ Ok (front, rest)
unfolding name
name_cut text bytes front rest end_ same read parts is =
    let parts_too : front ++ rest ≡ read.0 ++ rest = sym parts ∙ sym same ∙ read.2 ∙ ap (λ (r : List ℕ). read.0 ++ r) (sym is) in
    rw (← same, append_cancel_right front read.0 rest parts_too, is) read.1

pub run_shorter : (test : ℕ → Bool) (text run rest : List ℕ) → run_of test text ≡ Ok (run, rest) → length rest ≤ length text
run_shorter test text run rest e =
    let r = run_is test text run rest e in
    omega (arith, ap length r.parts, length-append run rest)

strict_by : (test : ℕ → Bool) (text run rest : List ℕ) → next_is test text ≡ true → text ≡ run ++ rest → next_is test rest ≡ false → length rest < length text
strict_by test text [] rest some parts ends =
    let clash : next_is test rest ≡ true = rw (← parts) some in
    absurd (cc (sym ends ∙ clash))
strict_by test text (byte ∷ run) rest some parts ends = omega (arith, ap length parts, length-append (byte ∷ run) rest)

pub run_strict : (test : ℕ → Bool) (text run rest : List ℕ) → next_is test text ≡ true → run_of test text ≡ Ok (run, rest) → length rest < length text
run_strict test text run rest some e =
    let r = run_is test text run rest e in
    strict_by test text run rest some r.parts r.ends

pub starts_name : (text : List ℕ) → next_is is_name_start text ≡ true → next_is is_name_byte text ≡ true
starts_name [] e = absurd cc
starts_name (byte ∷ after) e = rw e refl

pub name_strict : (text run rest : List ℕ) → name_ahead text ≡ true → name text ≡ Ok (run, rest) → length rest < length text
unfolding name name_ahead
name_strict text run rest ahead e =
    let start : next_is is_name_start text ≡ true = (and_parts (next_is is_name_start text) (not (number_ahead text)) ahead).0 in
    run_strict is_name_byte text run rest (starts_name text start) e

first_is_not : (a b : Bool) → b ≡ false → (a && not b) ≡ false → a ≡ false
first_is_not true b e f = absurd (cc (sym f ∙ ap not e))
first_is_not false b e f = refl

-- where no number and no name can be read, no name begins
pub no_name_start : (text : List ℕ) → number_ahead text ≡ false → name_ahead text ≡ false → next_is is_name_start text ≡ false
unfolding name_ahead
no_name_start text number name_ = first_is_not (next_is is_name_start text) (number_ahead text) number name_
