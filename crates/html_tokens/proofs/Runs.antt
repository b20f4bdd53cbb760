-- Names, and what is left behind comments and references.
use Rattle.std.proofs.Common.{◌≡◌, ℕ, ◌<◌, ◌≤◌, ◌+◌, None, false, true, List, [], ◌∷◌, ◌++◌, length, codes, Ok, Err, refl, sym, ap, ◌∙◌, arith}
use Rattle.std.proofs.lemmas.List.{append_cancel_right}
use Rattle.reading.specs.Readers.{run_of, one_of, strip, IsAsciiFirst}
use Rattle.reading.specs.Names.{lowered}
use Rattle.reading.specs.Cuts.{ReadsFront}
use Rattle.reading.proofs.Running.{IsOfAscii}
use Rattle.reading.proofs.Shorter.{strip_shortens}
use Rattle.html_tokens.specs.Characters.{is_name_byte, is_letter}
use Rattle.html_tokens.specs.Lexing.{name}

-- ---- names

pub name_bytes_are_ascii : IsOfAscii is_name_byte
name_bytes_are_ascii byte le = grind arith

name_by : (byte : ℕ) (after run rest : List ℕ) → is_letter byte ≡ true → run_of is_name_byte after ≡ Ok (run, rest) → name (byte ∷ after) ≡ Ok (lowered (byte ∷ run), rest)
unfolding name one_of
name_by byte after run rest e read = rw (e, read) refl

pub name_read : (text after front rest : List ℕ) (byte : ℕ) → text ≡ byte ∷ after → is_letter byte ≡ true → ReadsFront (run_of is_name_byte after) after rest → text ≡ front ++ rest
    → name text ≡ Ok (lowered front, rest)
name_read text after front rest byte first e read parts =
    let same : front ≡ byte ∷ read.0 = append_cancel_right front (byte ∷ read.0) rest (sym parts ∙ first ∙ ap (λ (b : List ℕ). byte ∷ b) read.2) in
    rw (first, same) (name_by byte after read.0 rest e read.1)

name_none_by : (byte : ℕ) (after : List ℕ) → is_letter byte ≡ false → name (byte ∷ after) ≡ Err (byte ∷ after)
unfolding name one_of
name_none_by byte after e = rw e refl

wide_letter : (byte : ℕ) → 128 ≤ byte → is_letter byte ≡ false
wide_letter byte le = grind arith

name_nil : name [] ≡ Err []
unfolding name one_of
name_nil = refl

pub no_name : (text : List ℕ) → IsAsciiFirst None text → name text ≡ Err text
no_name [] none = name_nil
no_name (byte ∷ after) none = name_none_by byte after (wide_letter byte none)

-- ---- comments and references

pub comment_shorter : (text inside rest : List ℕ) → strip (codes "<!--") text ≡ Ok (tt, inside) → length rest ≤ length inside → length rest < length text
comment_shorter text inside rest e le =
    let long : length text ≡ 4 + length inside = strip_shortens (codes "<!--") text inside e in
    omega arith

pub amp_shorter : (text inside rest : List ℕ) → strip (codes "&") text ≡ Ok (tt, inside) → length rest ≤ length inside → length rest < length text
amp_shorter text inside rest e le =
    let long : length text ≡ 1 + length inside = strip_shortens (codes "&") text inside e in
    omega arith
