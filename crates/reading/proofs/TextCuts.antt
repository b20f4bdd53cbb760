-- Where a text may be cut: behind a text that it begins with, in either case.
use Rattle.std.proofs.Common.{◌≡◌, inl, inr, ℕ, suc, ◌<◌, ◌≤◌, Bool, true, false, ◌&&◌, List, [], ◌∷◌, ◌++◌, map, length, get_or, take, drop, IsUtf8, IsCharBoundary, refl, sym, ap, subst, ◌∙◌, arith, length-append}
use Rattle.std.specs.Char.{is_ascii, is_ascii_digit, to_ascii_lowercase}
use Rattle.std.proofs.lemmas.Bool.{cases_lt, and_parts}
use Rattle.std.proofs.lemmas.Bool.Decides.{nat_tests}
use Rattle.std.proofs.lemmas.List.{append-nil, length-map, map-append, get_or-map}
use Rattle.std.proofs.lemmas.Str.{encode_ascii, inside_one, IsCharBoundary-from_take, IsCharBoundary-after_ascii, IsUtf8-drop}
use Rattle.std.proofs.lemmas.Str.Ascii.{lowercase_ascii}
use Rattle.std.proofs.Math.Seq.{take-append_seam, drop-append_seam}
use Rattle.std.proofs.Math.Utf8.{scalar, scalars, encode, encodes, low_scalar}
use Rattle.reading.specs.Readers.{strip, strip_either_case, one_of}
use Rattle.reading.proofs.SpellLaws.{ok, strip_spells, one_of_spells}
use Rattle.reading.proofs.RunLaws.{cased}

-- ---- small letters keep a text a text

stays : (byte : ℕ) → 128 ≤ byte → to_ascii_lowercase byte ≡ byte
stays byte high = grind (arith, nat_tests)

all_stay : (bytes : List ℕ) → ((k : ℕ) → k < length bytes → 128 ≤ get_or bytes k 0) → map to_ascii_lowercase bytes ≡ bytes
all_stay [] high = refl
all_stay (byte ∷ bytes) high = rw (stays byte (high 0 (omega arith)), all_stay bytes (λ k lt. high (suc k) (omega (arith, lt)))) refl

-- a character beyond ASCII has no byte of ASCII
high_byte : (c k : ℕ) → 128 ≤ c → k < length (encode c) → 128 ≤ get_or (encode c) k 0
high_byte c k high lt = elim (cases_lt (get_or (encode c) k 0) 128) [
  | inl low ↦
      let same : c ≡ get_or (encode c) k 0 = inside_one c [] (encode c) k (sym (append-nil (encode c))) lt low in
      absurd (omega (arith, same, low, high))
  | inr is ↦ is
]

lower_code : (c : ℕ) → encode (to_ascii_lowercase c) ≡ map to_ascii_lowercase (encode c)
lower_code c = elim (cases_lt c 128) [
  | inl low ↦ rw (encode_ascii c low, encode_ascii (to_ascii_lowercase c) (lowercase_ascii c low)) refl
  | inr high ↦ ap encode (stays c high) ∙ sym (all_stay (encode c) (λ k lt. high_byte c k high lt))
]

lower_scalar : (c : ℕ) → scalar c ≡ true → scalar (to_ascii_lowercase c) ≡ true
lower_scalar c is = elim (cases_lt c 128) [
  | inl low ↦ low_scalar (to_ascii_lowercase c) (omega (arith, lowercase_ascii c low))
  | inr high ↦ ap scalar (stays c high) ∙ is
]

lower_codes : (cs : List ℕ) → encodes (map to_ascii_lowercase cs) ≡ map to_ascii_lowercase (encodes cs)
lower_codes [] = refl
lower_codes (c ∷ cs) = rw (lower_code c, lower_codes cs) (sym (map-append to_ascii_lowercase (encode c) (encodes cs)))

lower_scalars : (cs : List ℕ) → scalars cs ≡ true → scalars (map to_ascii_lowercase cs) ≡ true
lower_scalars [] is = refl
lower_scalars (c ∷ cs) is =
    let each = and_parts (scalar c) (scalars cs) is in
    rw (lower_scalar c each.0) (lower_scalars cs each.1)

lower_utf8 : (bytes : List ℕ) → IsUtf8 bytes → IsUtf8 (map to_ascii_lowercase bytes)
lower_utf8 bytes text = (map to_ascii_lowercase text.0, (lower_scalars text.0 text.1.0, lower_codes text.0 ∙ ap (map to_ascii_lowercase) text.1.1))

-- ---- cuts

pub cut_behind : (word bytes rest : List ℕ) → IsUtf8 word → IsUtf8 bytes → bytes ≡ word ++ rest → IsCharBoundary bytes (length word)
cut_behind word bytes rest text whole parts =
    let taken : take (length word) bytes ≡ word = ap (take (length word)) parts ∙ take-append_seam word rest in
    let size : length bytes ≡ length (word ++ rest) = ap (λ (b : List ℕ). length b) parts in
    IsCharBoundary-from_take bytes (length word) whole (omega (arith, size, length-append word rest)) (subst IsUtf8 (sym taken) text)

-- a cut of the small letters is a cut of the text
cut_as_lower : (bytes : List ℕ) (i : ℕ) → IsCharBoundary (map to_ascii_lowercase bytes) i → IsCharBoundary bytes i
cut_as_lower bytes i cut =
    let size : length (map to_ascii_lowercase bytes) ≡ length bytes = length-map bytes to_ascii_lowercase in (
      omega (arith, size, cut.0),
      λ lt high.
          let same : get_or (map to_ascii_lowercase bytes) i 0 ≡ get_or bytes i 0 = get_or-map to_ascii_lowercase bytes i 0 0 lt ∙ stays (get_or bytes i 0) high in
          let first : 192 ≤ get_or (map to_ascii_lowercase bytes) i 0 = cut.1 (omega (arith, size, lt)) (omega (arith, same, high)) in
          omega (arith, same, first),
    )

pub cut_behind_cased : (word text bytes rest : List ℕ) → IsUtf8 word → IsUtf8 bytes → map to_ascii_lowercase text ≡ word → bytes ≡ text ++ rest → IsCharBoundary bytes (length word)
cut_behind_cased word text bytes rest is whole small parts =
    let lower : map to_ascii_lowercase bytes ≡ word ++ map to_ascii_lowercase rest =
    ap (map to_ascii_lowercase) parts ∙ map-append to_ascii_lowercase text rest ∙ ap (λ (w : List ℕ). w ++ map to_ascii_lowercase rest) small in
    cut_as_lower bytes (length word) (cut_behind word (map to_ascii_lowercase bytes) (map to_ascii_lowercase rest) is (lower_utf8 bytes whole) lower)

-- ---- what the code slices

-- a text behind a byte of ASCII
pub text_behind : (bytes rest : List ℕ) (byte : ℕ) → IsUtf8 bytes → bytes ≡ byte ∷ rest → byte < 128 → IsUtf8 rest
text_behind bytes rest byte text parts low =
    let first : get_or bytes 0 0 ≡ byte = ap (λ (b : List ℕ). get_or b 0 0) parts in
    let size : length bytes ≡ suc (length rest) = ap (λ (b : List ℕ). length b) parts in
    let behind : drop 1 bytes ≡ rest = ap (drop 1) parts in
    subst IsUtf8 behind (IsUtf8-drop bytes 1 text (IsCharBoundary-after_ascii bytes 0 text (omega (arith, size)) (omega (arith, first, low))))

pub text_behind_digit : (bytes rest : List ℕ) (byte : ℕ) → IsUtf8 bytes → one_of is_ascii_digit bytes ≡ ok (byte, rest) → byte ≤ 57 → IsUtf8 rest
text_behind_digit bytes rest byte text e low =
    let t = (one_of_spells is_ascii_digit).takes bytes byte rest e in
    text_behind bytes rest byte text (t.2 ∙ ap (λ (w : List ℕ). w ++ rest) t.1.0) (omega (arith, low))

-- the same call on the bytes of two texts
pub on_texts : {A : Type 0} (f : List ℕ → List ℕ → A) (one other word bytes : List ℕ) (x : A) → one ≡ word → other ≡ bytes → f one other ≡ x → f word bytes ≡ x
on_texts f one other word bytes x first second e = rw (← first, ← second) e

ascii_low : (byte : ℕ) → is_ascii byte ≡ true → byte < 128
ascii_low byte is = grind (arith, nat_tests)

pub first_low : (bytes text : List ℕ) → bytes ≡ text → is_ascii (get_or bytes 0 0) ≡ true → get_or text 0 0 < 128
first_low bytes text same is = ascii_low (get_or text 0 0) (rw (← same) is)

pub strip_cut : (word bytes rest : List ℕ) → IsUtf8 word → IsUtf8 bytes → strip word bytes ≡ ok (tt, rest) → IsCharBoundary bytes (length word)
strip_cut word bytes rest text whole e =
    let t = (strip_spells word).takes bytes tt rest e in
    cut_behind word bytes rest text whole (t.2 ∙ ap (λ (w : List ℕ). w ++ rest) t.1)

strip_rest : (word bytes rest : List ℕ) → strip word bytes ≡ ok (tt, rest) → drop (length word) bytes ≡ rest
strip_rest word bytes rest e =
    let t = (strip_spells word).takes bytes tt rest e in
    ap (drop (length word)) (t.2 ∙ ap (λ (w : List ℕ). w ++ rest) t.1) ∙ drop-append_seam word rest

pub cased_cut : (word bytes rest : List ℕ) → IsUtf8 word → IsUtf8 bytes → strip_either_case word bytes ≡ ok (tt, rest) → IsCharBoundary bytes (length word)
cased_cut word bytes rest text whole e =
    let c = cased word bytes rest tt e in
    cut_behind_cased word c.text bytes rest text whole c.is c.parts

cased_rest : (word bytes rest : List ℕ) → strip_either_case word bytes ≡ ok (tt, rest) → drop (length word) bytes ≡ rest
cased_rest word bytes rest e =
    let c = cased word bytes rest tt e in
    let size : length c.text ≡ length word = sym (length-map c.text to_ascii_lowercase) ∙ ap (λ (w : List ℕ). length w) c.is in
    ap (λ (n : ℕ). drop n bytes) (sym size) ∙ ap (drop (length c.text)) c.parts ∙ drop-append_seam c.text rest

pub strip_sliced : (word bytes rest sliced : List ℕ) → strip word bytes ≡ ok (tt, rest) → sliced ≡ drop (length word) bytes → strip word bytes ≡ ok (tt, sliced)
strip_sliced word bytes rest sliced e is = rw (is, strip_rest word bytes rest e) e

pub cased_sliced : (word bytes rest sliced : List ℕ) → strip_either_case word bytes ≡ ok (tt, rest) → sliced ≡ drop (length word) bytes → strip_either_case word bytes ≡ ok (tt, sliced)
cased_sliced word bytes rest sliced e is = rw (is, cased_rest word bytes rest e) e
