-- The words of a text, one by one.
use Rattle.std.proofs.Common.{◌≡◌, ℕ, ◌<◌, suc, Bool, true, false, List, [], ◌∷◌, ◌++◌, length, get_or, map, refl, sym, ap, ◌∙◌, append_assoc, arith}
use Rattle.std.specs.List.{AllPass}
use Rattle.std.specs.Str.{NoCharPasses}
use Rattle.std.specs.Str.Iter.{CutsAsciiWord, IsAsciiSeparator}
use Rattle.std.proofs.lemmas.List.{append-nil, map-append}
use Rattle.std.specs.String.{string_bytes}
use Rattle.std.specs.declared.string.String.{String}
use Rattle.std.proofs.lemmas.Str.{NoCharPasses-byte}
use Rattle.std.specs.Prelude.{Option, Some, None}
use denote.Bor.{Bor}
use Rattle.reading.specs.White.{is_white}
use Rattle.html_read.specs.Judging.{word_before, words, words_behind}

no_words : words [] ≡ []
unfolding words
no_words = refl

white_goes : (byte : ℕ) (bytes : List ℕ) → is_white byte ≡ true → words (byte ∷ bytes) ≡ words bytes
unfolding words
white_goes byte bytes e = rw e refl

gap_goes : (gap bytes : List ℕ) → AllPass is_white gap → words (gap ++ bytes) ≡ words bytes
gap_goes [] bytes white = refl
gap_goes (byte ∷ gap) bytes white = white_goes byte (gap ++ bytes) (white 0 0 (omega arith)) ∙ gap_goes gap bytes (λ k d l. white (suc k) d (omega arith))

-- none of these bytes is white space
abbrev NoneWhite : List ℕ → Type 0
NoneWhite word = (k : ℕ) → k < length word → is_white (get_or word k 0) ≡ false

in_word : (word : List ℕ) (byte : ℕ) (bytes : List ℕ) → is_white byte ≡ false → words_behind word (byte ∷ bytes) ≡ words_behind (word ++ byte ∷ []) bytes
in_word word byte bytes e = rw e refl

word_goes : (word more bytes : List ℕ) → NoneWhite more → words_behind word (more ++ bytes) ≡ words_behind (word ++ more) bytes
word_goes word [] bytes none = ap (λ (w : List ℕ). words_behind w bytes) (sym (append-nil word))
word_goes word (byte ∷ more) bytes none =
    in_word word byte (more ++ bytes) (none 0 (omega arith)) ∙ word_goes (word ++ byte ∷ []) more bytes (λ k l. none (suc k) (omega arith))
    ∙ ap (λ (w : List ℕ). words_behind w bytes) (append_assoc word (byte ∷ []) more)

word_ends : (word bytes : List ℕ) (byte : ℕ) → is_white byte ≡ true → words_behind word (byte ∷ bytes) ≡ word_before word (words bytes)
unfolding words
word_ends word bytes byte e = rw e refl

some_word : (word : List ℕ) (others : List (List ℕ)) → 0 < length word → word_before word others ≡ word ∷ others
some_word [] others lt = absurd (omega arith)
some_word (byte ∷ word) others lt = refl

nothing_left : (rest : List ℕ) → length rest ≡ 0 → rest ≡ []
nothing_left [] e = refl
nothing_left (byte ∷ rest) e = absurd (omega arith)

at_end : (word rest : List ℕ) → length rest ≡ 0 → words_behind word rest ≡ word_before word (words rest)
unfolding words
at_end word [] e = refl
at_end word (byte ∷ rest) e = absurd (omega arith)

behind_word : (word sep rest : List ℕ) → IsAsciiSeparator sep rest → words_behind word (sep ++ rest) ≡ word_before word (words rest)
behind_word word [] rest is = at_end word rest (is.2 refl)
behind_word word (byte ∷ []) rest is = word_ends word rest byte (is.0 0 0 (omega arith))
behind_word word (byte ∷ next ∷ sep) rest is = absurd (omega (arith, is.1))

white_is_ascii : (byte : ℕ) → is_white byte ≡ true → byte < 128
white_is_ascii byte e = grind arith

not_white_by : (byte : ℕ) (t : Bool) → is_white byte ≡ t → (byte < 128 → is_white byte ≡ false) → is_white byte ≡ false
not_white_by byte true e low = low (white_is_ascii byte e)
not_white_by byte false e low = e

none_white : (word : List ℕ) → NoCharPasses is_white word → NoneWhite word
none_white word none k l = not_white_by (get_or word k 0) (is_white (get_or word k 0)) refl (λ low. NoCharPasses-byte is_white word k none l low)

starts_word : (word : List ℕ) (bytes : List ℕ) → NoneWhite word → words (word ++ bytes) ≡ words_behind word bytes
unfolding words
starts_word word bytes none = word_goes [] word bytes none

-- what a step of the iterator over words means for the words
abbrev pub IsNextWord : (bytes rest : List ℕ) → Option (Bor (List ℕ)) → Type 0
IsNextWord bytes rest None = words bytes ≡ []
IsNextWord bytes rest (Some word) = words bytes ≡ word.now ∷ words rest

pub next_word : (bytes rest : List ℕ) (next : Option (Bor (List ℕ))) → CutsAsciiWord bytes next rest (λ gap x sep. gap ++ (x ++ (sep ++ rest))) → IsNextWord bytes rest next
next_word bytes rest None cut = ap words (sym (append-nil bytes)) ∙ gap_goes bytes [] cut.0 ∙ no_words
next_word bytes rest (Some word) cut =
    let p = cut.3 in
    ap words p.2 ∙ gap_goes p.0 (word.now ++ (p.1 ++ rest)) p.3 ∙ starts_word word.now (p.1 ++ rest) (none_white word.now cut.1) ∙ behind_word word.now p.1 rest p.4
    ∙ some_word word.now (words rest) cut.0

-- ---- the words so far

pub word_put : {Y : Type 0} (old new : List (String Y)) (text : String Y) (word : List ℕ) → new ≡ old ++ text ∷ [] → string_bytes text ≡ word
    → map (λ s. string_bytes s) new ≡ map (λ s. string_bytes s) old ++ word ∷ []
word_put old new text word put e = ap (map (λ s. string_bytes s)) put ∙ map-append (λ s. string_bytes s) old (text ∷ []) ∙ ap (λ (w : List ℕ). map (λ s. string_bytes s) old ++ w ∷ []) e

pub words_go_on : (old new : List (List ℕ)) (word bytes rest text : List ℕ) → new ≡ old ++ word ∷ [] → words bytes ≡ word ∷ words rest → old ++ words bytes ≡ words text → new ++ words rest ≡ words text
words_go_on old new word bytes rest text put next now =
    ap (λ (l : List (List ℕ)). l ++ words rest) put ∙ append_assoc old (word ∷ []) (words rest) ∙ ap (λ (l : List (List ℕ)). old ++ l) (sym next) ∙ now

pub words_end : (old : List (List ℕ)) (bytes text : List ℕ) → words bytes ≡ [] → old ++ words bytes ≡ words text → old ≡ words text
words_end old bytes text none now = sym (append-nil old) ∙ ap (λ (l : List (List ℕ)). old ++ l) (sym none) ∙ now
