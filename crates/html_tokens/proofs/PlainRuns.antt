-- Runs of bytes that are characters of a text by themselves.
use Rattle.std.proofs.Common.{◌≡◌, ◌∙◌, inl, inr, ℕ, zero, suc, ◌+◌, ◌<◌, ◌≤◌, true, false, List, [], ◌∷◌, ◌++◌, length, drop, take, Ok, refl, sym, ap, subst, arith, append_assoc}
use Rattle.std.specs.Prelude.{Bool, not, ◌&&◌, ◌||◌, ◌==◌, get_or}
use Rattle.std.specs.Char.{encode_utf8}
use Rattle.std.specs.List.{list_all}
use Rattle.std.specs.Str.{IsCharBoundary, IsUtf8}
use Rattle.std.proofs.Math.Nat.{eq-or-lt_of_le}
use Rattle.std.proofs.Math.Utf8.{scalar}
use Rattle.std.proofs.lemmas.Bool.{and_parts}
use Rattle.std.proofs.Math.Seq.{take-add}
use Rattle.std.proofs.lemmas.List.Folds.{list_all-append}
use Rattle.std.proofs.lemmas.Str.{IsCharBoundary-after_ascii, IsCharBoundary-start, encode_ascii}
use Rattle.wm_chars.specs.Repertoire.{row_of}
use Rattle.html_tokens.specs.Characters.{in_repertoire}
use Rattle.html_tokens.specs.Pieces.{IsJoining, JoinsRun, is_letter_next, is_plain_letter}
use Rattle.html_tokens.specs.Text.{in_text, text_piece}
use Rattle.html_tokens.proofs.Letters.{letter_ok, letters_go_on, letters_start}

-- ---- one byte

abbrev all_below : (ℕ → Bool) → ℕ → Bool
all_below test zero = true
all_below test (suc n) = test n && all_below test n

below_all : (test : ℕ → Bool) (n : ℕ) → all_below test n ≡ true → (k : ℕ) → k < n → test k ≡ true
below_all test zero all k lt = absurd (omega (arith, lt))
below_all test (suc n) all k lt = let le : k ≤ n = omega (arith, lt) in elim (eq-or-lt_of_le le) [
  | inl same ↦ subst (λ (m : ℕ). test m ≡ true) (sym same) (and_parts (test n) (all_below test n) all).0
  | inr below ↦ below_all test n (and_parts (test n) (all_below test n) all).1 k below
]

-- what the plain bytes are
abbrev is_fine : ℕ → Bool
is_fine byte = in_repertoire byte && (scalar byte && (not (byte == 60) && not (byte == 38)))

abbrev is_fine_if_plain : ℕ → Bool
is_fine_if_plain byte = not (is_plain_letter byte) || is_fine byte

all_fine : all_below is_fine_if_plain 127 ≡ true
unfolding in_repertoire row_of
all_fine = refl

plain_below : (byte : ℕ) → is_plain_letter byte ≡ true → byte < 127
plain_below byte plain = grind (arith, plain)

or_then : (a b : Bool) → (not a || b) ≡ true → a ≡ true → b ≡ true
or_then true b e is = e
or_then false b e is = absurd cc

plain_fine : (byte : ℕ) → is_plain_letter byte ≡ true → is_fine byte ≡ true
plain_fine byte plain = or_then (is_plain_letter byte) (is_fine byte) (below_all is_fine_if_plain 127 all_fine byte (plain_below byte plain)) plain

-- it stands for itself
letter_stands : (byte : ℕ) (after : List ℕ) → is_plain_letter byte ≡ true
    → (is_letter_next (byte ∷ after) ≡ true) × ((piece : List ℕ) × (text_piece (byte ∷ after) ≡ Ok (piece, after)) × (byte ∷ after ≡ piece ++ after) × (0 < length piece))
letter_stands byte after plain =
    let (there, others) = and_parts (in_repertoire byte) (scalar byte && (not (byte == 60) && not (byte == 38))) (plain_fine byte plain) in
    let (is, next) = and_parts (scalar byte) (not (byte == 60) && not (byte == 38)) others in
    let parts : byte ∷ after ≡ encode_utf8 byte ++ after = ap (λ (l : List ℕ). l ++ after) (sym (encode_ascii byte (omega (arith, plain_below byte plain)))) in
    (next, letter_ok (byte ∷ after) after byte next parts is there)

-- ---- runs

runs_from : (text rest : List ℕ) (count : ℕ) → JoinsRun in_text text_piece text rest → count ≤ length rest → list_all is_plain_letter (take count rest) ≡ true → JoinsRun in_text text_piece text (drop count rest)
runs_from text rest zero run le all = run
runs_from text [] (suc count) run le all = absurd (omega (arith, le))
runs_from text (byte ∷ rest) (suc count) run le all =
    let (plain, others) = and_parts (is_plain_letter byte) (list_all is_plain_letter (take count rest)) all in
    let (next, piece) = letter_stands byte rest plain in
    runs_from text rest count (letters_go_on text (byte ∷ rest) rest run next piece) (omega (arith, le)) others

plain_runs : (text : List ℕ) (count : ℕ) → count ≤ length text → list_all is_plain_letter (take count text) ≡ true → JoinsRun in_text text_piece text (drop count text)
plain_runs text count le all = runs_from text text count (letters_start text) le all

pub runs_on : (text rest after : List ℕ) → JoinsRun in_text text_piece text rest → JoinsRun in_text text_piece rest after → JoinsRun in_text text_piece text after
runs_on text rest after one two = (
  one.0 ++ two.0,
  one.1 ∙ ap (λ (r : List ℕ). one.0 ++ r) two.1 ∙ sym (append_assoc one.0 two.0 after),
  λ total so_far now. subst (λ (s : List ℕ). IsJoining in_text text_piece total s after) (append_assoc so_far one.0 two.0) (two.2 total (so_far ++ one.0) (one.2 total so_far now)),
)

-- ---- a text can be cut behind them

last_plain : (count : ℕ) (text : List ℕ) → suc count ≤ length text → list_all is_plain_letter (take (suc count) text) ≡ true → get_or text count 0 < 128
last_plain count [] le all = absurd (omega (arith, le))
last_plain zero (byte ∷ text) le all = omega (arith, plain_below byte (and_parts (is_plain_letter byte) true all).0)
last_plain (suc count) (byte ∷ text) le all = last_plain count text (omega (arith, le)) (and_parts (is_plain_letter byte) (list_all is_plain_letter (take (suc count) text)) all).1

cut_behind : (text : List ℕ) (count : ℕ) → IsUtf8 text → count ≤ length text → list_all is_plain_letter (take count text) ≡ true → IsCharBoundary text count
cut_behind text zero utf8 le all = IsCharBoundary-start text utf8
cut_behind text (suc count) utf8 le all = let next : count + 1 ≡ suc count = omega arith in subst (IsCharBoundary text) next (IsCharBoundary-after_ascii text count utf8 (omega (arith, le)) (last_plain count text le all))

pub plain_end : (text bytes rest : List ℕ) (count : ℕ) → bytes ≡ text → count ≤ length bytes → list_all is_plain_letter (take count bytes) ≡ true → rest ≡ drop count text → JoinsRun in_text text_piece text rest
plain_end text bytes rest count same le all is =
    let run = plain_runs text count (subst (λ (l : List ℕ). count ≤ length l) same le) (ap (λ (l : List ℕ). list_all is_plain_letter (take count l)) (sym same) ∙ all) in
    subst (λ (l : List ℕ). JoinsRun in_text text_piece text l) (sym is) run

pub plain_cut : (text bytes : List ℕ) (count : ℕ) → IsUtf8 text → bytes ≡ text → count ≤ length bytes → list_all is_plain_letter (take count bytes) ≡ true → IsCharBoundary text count
plain_cut text bytes count utf8 same le all = cut_behind text count utf8 (subst (λ (l : List ℕ). count ≤ length l) same le) (ap (λ (l : List ℕ). list_all is_plain_letter (take count l)) (sym same) ∙ all)

-- ---- two runs of plain bytes

pub plain_both : (one two : ℕ) (bytes : List ℕ) → list_all is_plain_letter (take one bytes) ≡ true → list_all is_plain_letter (take two (drop one bytes)) ≡ true → list_all is_plain_letter (take (one + two) bytes) ≡ true
plain_both one two bytes first second =
    ap (list_all is_plain_letter) (take-add one two bytes) ∙ list_all-append is_plain_letter (take one bytes) (take two (drop one bytes)) ∙ rw (first, second) refl
