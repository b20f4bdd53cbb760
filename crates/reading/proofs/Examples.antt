-- Examples of the laws with concrete tables and texts.
use Rattle.std.specs.Prelude.{◌≡◌, ℕ, Bool, ◌||◌, ◌==◌, false, List, [], ◌∷◌, codes, ⊤, Ok, Err}
use Rattle.std.proofs.Common.{refl}
use Rattle.std.specs.Char.{is_ascii_digit, is_ascii_whitespace, is_ascii_alphabetic}
use Rattle.reading.specs.Readers.{mapped, strip, strip_either_case, starts, one_of, next_is, run_of, until, up_to, word_from, one_word, turns, repeat, many, joined}
use Rattle.reading.specs.Grammars.{OneWord, UpTo, Fixed}
use Rattle.reading.specs.Closings.{closing, Closing}
use Rattle.reading.specs.Spelling.{Anything, Spells}
use Rattle.reading.specs.Words.{all_differ, longest_first}
use Rattle.reading.proofs.SpellLaws.{ok, stop, strip_spells}
use Rattle.reading.proofs.WordLaws.{one_word_spells, longest_word_spells}
use Rattle.reading.proofs.UpToLaws.{up_to_spells, strip_sees, closing_spells, closing_sees}

abbrev tags : List (List ℕ × ℕ)
tags = (codes "<div", 1) ∷ (codes "<span", 2) ∷ (codes "<svg", 3) ∷ []

tags_spell : Spells (one_word tags) (OneWord tags) Anything
tags_spell = one_word_spells tags refl

abbrev words : List (List ℕ × ℕ)
words = (codes "avoid-page", 1) ∷ (codes "avoid", 2) ∷ (codes "auto", 3) ∷ []

words_do_not_all_differ : all_differ words ≡ false
words_do_not_all_differ = refl

shortest_first : longest_first {A = ℕ} ((codes "avoid", 2) ∷ (codes "avoid-page", 1) ∷ []) ≡ false
unfolding starts strip
shortest_first = refl

comment_spells : Spells (up_to (strip (codes "-->"))) (UpTo (strip (codes "-->")) (Fixed (codes "-->"))) Anything
comment_spells = up_to_spells (strip_spells (codes "-->")) (strip_sees (codes "-->"))

script_spells : Spells (up_to (closing (codes "</") (codes "script") is_ascii_whitespace (codes ">"))) (UpTo (closing (codes "</") (codes "script") is_ascii_whitespace (codes ">"))
    (Closing (codes "</") (codes "script") is_ascii_whitespace (codes ">"))) Anything
script_spells = up_to_spells (closing_spells (codes "</") (codes "script") is_ascii_whitespace 62 [] refl) (closing_sees (codes "</") (codes "script") is_ascii_whitespace 62 [] refl)

abbrev letters_or_hyphens : ℕ → Bool
letters_or_hyphens byte = is_ascii_alphabetic byte || byte == 45

words_spell : Spells (one_word words) (OneWord words) (λ rest. next_is letters_or_hyphens rest ≡ false)
unfolding starts strip
words_spell = longest_word_spells letters_or_hyphens words refl refl

-- ---- what is read, and what is left

word_read : one_word tags (codes "<svg>") ≡ Ok (3, codes ">")
unfolding one_word word_from strip
word_read = refl

longest_front_left : one_word tags (codes "<spam>") ≡ Err (codes "m>")
unfolding one_word word_from strip
longest_front_left = refl

longest_word_first : one_word words (codes "avoid-page;") ≡ Ok (1, codes ";")
unfolding one_word word_from strip
longest_word_first = refl

comment_read : up_to (strip (codes "-->")) (codes "a--->b") ≡ Ok (codes "a-", codes "b")
unfolding up_to until strip
comment_read = refl

comment_open : up_to (strip (codes "-->")) (codes "a-- >") ≡ Err []
unfolding up_to until strip
comment_open = refl

script_read : up_to (closing (codes "</") (codes "script") is_ascii_whitespace (codes ">")) (codes "x</sCript </SCRIPT >y") ≡ Ok (codes "x</sCript ", codes "y")
unfolding up_to until strip strip_either_case run_of
script_read = refl

digits_joined : joined (next_is is_ascii_digit) (mapped (λ byte. byte ∷ byte ∷ []) (one_of is_ascii_digit)) (codes "12a") ≡ ok {E = List ℕ} (codes "1122", codes "a")
unfolding joined repeat turns one_of
digits_joined = refl

item_stops : many (starts (codes "a")) (strip (codes "ab")) (codes "ababac") ≡ stop {A = List ⊤} (codes "c")
unfolding many repeat turns strip starts
item_stops = refl
