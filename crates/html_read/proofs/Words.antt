-- The words of a text, byte by byte.
use Rattle.std.proofs.Common.{◌≡◌, ℕ, ◌<◌, ◌≤◌, ◌+◌, true, false, List, [], ◌∷◌, ◌++◌, length, drop, take, get_or, Ok, refl, sym, ap, ◌∙◌, length-append, length-drop, arith}
use Rattle.std.specs.Prelude.{zero, suc, Bool, cond, ◌==◌, ⊤}
use Rattle.std.proofs.lemmas.Str.{IsCharBoundary-before_ascii}
use Rattle.std.specs.Str.{IsCharBoundary}
use Rattle.std.proofs.lemmas.List.{drop_all, append_cancel_right, take-append-drop, drop_more, take_more}
use Rattle.std.proofs.lemmas.Bool.{eqb-true}
use Rattle.reading.specs.Readers.{next_is, skip}
use Rattle.reading.proofs.SpellLaws.{ok}
use Rattle.reading.specs.White.{is_white, spaces}
use Rattle.html_read.specs.Views.{EndsWord, IsWordNext}
use Rattle.html_read.specs.Judging.{word_before, words_behind, words}

-- ---- white space before a word

pub white_goes : (byte : ℕ) (bytes : List ℕ) → is_white byte ≡ true → words (byte ∷ bytes) ≡ words bytes
unfolding words
white_goes byte bytes e = rw e refl

-- what stands behind white space
abbrev after_white : List ℕ → List ℕ
after_white [] = []
after_white (byte ∷ bytes) = cond (is_white byte) (after_white bytes) (byte ∷ bytes)

skipped_by : (byte : ℕ) (bytes : List ℕ) (t : Bool) → skip is_white bytes ≡ Ok (tt, after_white bytes)
    → cond t (skip is_white bytes) (Ok (tt, byte ∷ bytes)) ≡ Ok (tt, cond t (after_white bytes) (byte ∷ bytes))
skipped_by byte bytes true e = e
skipped_by byte bytes false e = refl

skipped : (text : List ℕ) → skip is_white text ≡ Ok (tt, after_white text)
unfolding skip
skipped [] = refl
skipped (byte ∷ bytes) = skipped_by byte bytes (is_white byte) (skipped bytes)

ok_is : (x y : ⊤ × List ℕ) → ok {E = List ℕ} {A = ⊤} x ≡ ok y → x ≡ y
ok_is x y e = cc

behind_is : (text here : List ℕ) → spaces text ≡ Ok (tt, here) → here ≡ after_white text
unfolding spaces
behind_is text here e = ap (λ (p : ⊤ × List ℕ). p.1) (ok_is (tt, here) (tt, after_white text) (sym e ∙ skipped text))

same_by : (byte : ℕ) (bytes : List ℕ) (t : Bool) → is_white byte ≡ t → words bytes ≡ words (after_white bytes) → words (byte ∷ bytes) ≡ words (cond t (after_white bytes) (byte ∷ bytes))
same_by byte bytes true e same = white_goes byte bytes e ∙ same
same_by byte bytes false e same = refl

same_words : (text : List ℕ) → words text ≡ words (after_white text)
same_words [] = refl
same_words (byte ∷ bytes) = same_by byte bytes (is_white byte) refl (same_words bytes)

stops_by : (byte : ℕ) (bytes : List ℕ) (t : Bool) → is_white byte ≡ t → next_is is_white (after_white bytes) ≡ false → next_is is_white (cond t (after_white bytes) (byte ∷ bytes)) ≡ false
stops_by byte bytes true e stops = stops
stops_by byte bytes false e stops = e

no_white_next : (text : List ℕ) → next_is is_white (after_white text) ≡ false
no_white_next [] = refl
no_white_next (byte ∷ bytes) = stops_by byte bytes (is_white byte) refl (no_white_next bytes)

words_skipped : (text here : List ℕ) → spaces text ≡ Ok (tt, here) → words text ≡ words here
words_skipped text here e = same_words text ∙ ap words (sym (behind_is text here e))

no_words : words [] ≡ []
unfolding words
no_words = refl

none_left : (here : List ℕ) → (length here == 0) ≡ true → here ≡ []
none_left [] e = refl
none_left (byte ∷ bytes) e = absurd (omega (arith, eqb-true (length (byte ∷ bytes)) 0 e))

pub no_word : (text here : List ℕ) → spaces text ≡ Ok (tt, here) → (length here == 0) ≡ true → words text ≡ []
no_word text here e none = words_skipped text here e ∙ ap words (none_left here none) ∙ no_words

begins : (here : List ℕ) → next_is is_white here ≡ false → (length here == 0) ≡ false → IsWordNext here
begins [] stops some = absurd cc
begins (byte ∷ bytes) stops some = stops

pub word_starts : (text here : List ℕ) → spaces text ≡ Ok (tt, here) → (length here == 0) ≡ false → IsWordNext here
word_starts text here e some = begins here (ap (next_is is_white) (behind_is text here e) ∙ no_white_next text) some

-- ---- a word, up to the white space behind it

-- at a place, all before it in the word
pub record IsWordTo (text : List ℕ) (at : ℕ) : Type 0 where
  pub within : at ≤ length text
  pub same : words text ≡ words_behind (take at text) (drop at text)

pub word_begins : (text : List ℕ) → IsWordTo text 0
unfolding words
word_begins text = record { within = omega arith; same = refl }

pub in_word : (word : List ℕ) (byte : ℕ) (bytes : List ℕ) → is_white byte ≡ false → words_behind word (byte ∷ bytes) ≡ words_behind (word ++ byte ∷ []) bytes
in_word word byte bytes e = rw e refl

behind_word : (word : List ℕ) (byte : ℕ) (bytes : List ℕ) → is_white byte ≡ true → words_behind word (byte ∷ bytes) ≡ word_before word (words (byte ∷ bytes))
unfolding words
behind_word word byte bytes e = rw e refl

pub word_goes_on : (text bytes : List ℕ) (at : ℕ) → bytes ≡ text → IsWordTo text at → at < length text → is_white (get_or bytes at 0) ≡ false → IsWordTo text (at + 1)
word_goes_on text bytes at same now lt e =
    let none : is_white (get_or text at 0) ≡ false = ap (λ (b : List ℕ). is_white (get_or b at 0)) (sym same) ∙ e in
    record {
      within = omega arith;
      same = now.same ∙ ap (words_behind (take at text)) (drop_more text at 0 lt) ∙ in_word (take at text) (get_or text at 0) (drop (at + 1) text) none
          ∙ ap (λ (t : List ℕ). words_behind t (drop (at + 1) text)) (sym (take_more text at 0 lt));
    }

pub word_stops : (text bytes : List ℕ) (at : ℕ) → bytes ≡ text → IsWordTo text at → at < length text → is_white (get_or bytes at 0) ≡ true → EndsWord text (drop at text)
word_stops text bytes at same now lt e =
    let white : is_white (get_or text at 0) ≡ true = ap (λ (b : List ℕ). is_white (get_or b at 0)) (sym same) ∙ e in (
      take at text,
      sym (take-append-drop at text),
      now.same ∙ ap (words_behind (take at text)) (drop_more text at 0 lt) ∙ behind_word (take at text) (get_or text at 0) (drop (at + 1) text) white
          ∙ ap (λ (t : List ℕ). word_before (take at text) (words t)) (sym (drop_more text at 0 lt)),
    )

at_end : (word : List ℕ) → words_behind word [] ≡ word_before word (words [])
unfolding words
at_end word = refl

pub word_ends : (text : List ℕ) (at : ℕ) → IsWordTo text at → length text ≤ at → EndsWord text (drop at text)
word_ends text at now le =
    let none : drop at text ≡ [] = drop_all at text le in (
      take at text,
      sym (take-append-drop at text),
      now.same ∙ ap (words_behind (take at text)) none ∙ at_end (take at text) ∙ ap (λ (t : List ℕ). word_before (take at text) (words t)) (sym none),
    )

pub white_low : (byte : ℕ) → is_white byte ≡ true → byte < 128
white_low byte e = grind arith

pub word_cut : (text bytes : List ℕ) (at : ℕ) → bytes ≡ text → at < length text → is_white (get_or bytes at 0) ≡ true → IsCharBoundary text at
word_cut text bytes at same lt e =
    let white : is_white (get_or text at 0) ≡ true = ap (λ (b : List ℕ). is_white (get_or b at 0)) (sym same) ∙ e in
    IsCharBoundary-before_ascii text at lt (white_low (get_or text at 0) white)

pub word_shorter : (text bytes : List ℕ) (at : ℕ) → IsWordNext text → bytes ≡ text → at < length text → is_white (get_or bytes at 0) ≡ true → length (drop at text) < length text
word_shorter [] bytes at next same lt e = absurd next
word_shorter (byte ∷ after) bytes zero next same lt e =
    let white : is_white byte ≡ true = ap (λ (b : List ℕ). is_white (get_or b 0 0)) (sym same) ∙ e in
    absurd (cc (sym next ∙ white))
word_shorter (byte ∷ after) bytes (suc at) next same lt e = omega (arith, length-drop (suc at) (byte ∷ after))

pub word_to_end : (text : List ℕ) (at : ℕ) → IsWordNext text → length text ≤ at → length (drop at text) < length text
word_to_end [] at next le = absurd next
word_to_end (byte ∷ after) at next le = rw (drop_all at (byte ∷ after) le) (omega arith)

pub some_word : (front : List ℕ) (words_ : List (List ℕ)) → 0 < length front → word_before front words_ ≡ front ∷ words_
some_word [] words_ lt = absurd (omega arith)
some_word (byte ∷ front) words_ lt = refl

pub next_word : (text here front rest : List ℕ) → spaces text ≡ Ok (tt, here) → EndsWord here rest → here ≡ front ++ rest → length rest < length here → words text ≡ front ∷ words rest
next_word text here front rest e ends parts lt =
    let same : ends.0 ≡ front = append_cancel_right ends.0 front rest (sym ends.1 ∙ parts) in
    words_skipped text here e ∙ ends.2 ∙ ap (λ (f : List ℕ). word_before f (words rest)) same ∙ some_word front (words rest) (omega (arith, ap length parts, length-append front rest))

-- ---- the words so far
