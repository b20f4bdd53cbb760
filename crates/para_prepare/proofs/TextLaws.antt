-- The text of kept characters: one character more, and how long it is.
use Rattle.std.proofs.Common.{◌≡◌, ℕ, ◌+◌, ◌<◌, true, List, [], ◌∷◌, ◌++◌, length, slice_index_or, take, ap, ap₂, sym, ◌∙◌, refl}
use Rattle.std.specs.Prelude.{encode_utf8_all}
use Rattle.std.proofs.Math.Utf8.{encode, scalar, scalars}
use Rattle.std.proofs.lemmas.Bool.{and_parts}
use Rattle.std.proofs.lemmas.List.{append-nil, map-append, take_more}
use Rattle.std.proofs.lemmas.Str.{encodes-append}
use Rattle.para_prepare.specs.declared.letter.Letter.{Letter}
use Rattle.para_prepare.specs.Kept.{chars_of}

scalars_behind : (cs : List ℕ) (c : ℕ) → scalars cs ≡ true → scalars (c ∷ []) ≡ true → scalars (cs ++ c ∷ []) ≡ true
scalars_behind [] c are is = is
scalars_behind (first ∷ cs) c are is =
    let parts = and_parts (scalar first) (scalars cs) are in
    rw (parts.0, scalars_behind cs c parts.1 is) refl

chars_step : (letters : List Letter) (i : ℕ) (none : Letter) → i < length letters
    → chars_of (take (i + 1) letters) ≡ chars_of (take i letters) ++ (slice_index_or letters i none).char ∷ []
chars_step letters i none lt =
    ap chars_of (take_more letters i none lt) ∙ map-append (λ l. l.char) (take i letters) (slice_index_or letters i none ∷ [])

pub text_more : (letters : List Letter) (i : ℕ) (none : Letter) (text more : List ℕ) → i < length letters
    → text ≡ encode_utf8_all (chars_of (take i letters)) → more ≡ text ++ encode (slice_index_or letters i none).char
    → more ≡ encode_utf8_all (chars_of (take (i + 1) letters))
text_more letters i none text more lt before is =
    let c = (slice_index_or letters i none).char in
    is ∙ ap₂ (λ text last. text ++ last) before (sym (append-nil (encode c)))
    ∙ sym (ap encode_utf8_all (chars_step letters i none lt) ∙ encodes-append (chars_of (take i letters)) (c ∷ []))

pub scalars_more : (letters : List Letter) (i : ℕ) (none : Letter) → i < length letters
    → scalars (chars_of (take i letters)) ≡ true → scalars ((slice_index_or letters i none).char ∷ []) ≡ true → scalars (chars_of (take (i + 1) letters)) ≡ true
scalars_more letters i none lt before is =
    let all = scalars_behind (chars_of (take i letters)) (slice_index_or letters i none).char before is in
    ap scalars (chars_step letters i none lt) ∙ all
