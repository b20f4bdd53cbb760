-- Tables of words, row by row.
use Rattle.std.proofs.Common.{◌≡◌, ℕ, ◌<◌, ◌≤◌, ◌+◌, List, [], ◌∷◌, length, drop, get_or, Ok, Err, refl, sym, ◌∙◌}
use denote.Bor.{Bor}
use Rattle.std.proofs.lemmas.List.{drop_all, drop_more}
use Rattle.reading.specs.Readers.{Read, strip, word_from, one_word, shorter_of}
use Rattle.reading.specs.Names.{words_of}

-- ---- one of the words, by the furthest front so far

word_step : {A : Type 0} (word : List ℕ) (x : A) (others : List (List ℕ × A)) (best text left : List ℕ) → strip word text ≡ Err left → word_from ((word, x) ∷ others) best text ≡ word_from others (shorter_of best left) text
unfolding word_from
word_step word x others best text left e = rw e refl

word_here : {A : Type 0} (word : List ℕ) (x : A) (others : List (List ℕ × A)) (best text rest : List ℕ) → strip word text ≡ Ok (tt, rest) → word_from ((word, x) ∷ others) best text ≡ Ok (x, rest)
unfolding word_from
word_here word x others best text rest e = rw e refl

pub words_start : {A : Type 0} (table : List (Bor (List ℕ) × A)) (text : List ℕ) → word_from (words_of (drop 0 table)) text text ≡ one_word (words_of table) text
unfolding one_word
words_start table text = refl

pub words_go_on : {A : Type 0} (table : List (Bor (List ℕ) × A)) (i : ℕ) (d : Bor (List ℕ) × A) (best text left new : List ℕ) (total : Read A) → i < length table
    → strip (get_or table i d).0.now text ≡ Err left → new ≡ shorter_of best left → word_from (words_of (drop i table)) best text ≡ total → word_from (words_of (drop (i + 1) table)) new text ≡ total
words_go_on table i d best text left new total lt e made so_far =
    let here : word_from (words_of (drop i table)) best text ≡ word_from (words_of (drop (i + 1) table)) (shorter_of best left) text =
    rw (drop_more table i d lt) (word_step (get_or table i d).0.now (get_or table i d).1 (words_of (drop (i + 1) table)) best text left e) in
    rw made (sym here ∙ so_far)

pub words_here : {A : Type 0} (table : List (Bor (List ℕ) × A)) (i : ℕ) (row : Bor (List ℕ) × A) (best text rest : List ℕ) (total : Read A) → i < length table
    → row ≡ get_or table i row → strip row.0.now text ≡ Ok (tt, rest) → word_from (words_of (drop i table)) best text ≡ total → total ≡ Ok (row.1, rest)
words_here table i row best text rest total lt at e so_far =
    let here : word_from (words_of (drop i table)) best text ≡ Ok (row.1, rest) =
    rw (drop_more table i row lt, ← at) (word_here row.0.now row.1 (words_of (drop (i + 1) table)) best text rest e) in
    sym so_far ∙ here

no_words : {A : Type 0} (best text : List ℕ) → word_from {A = A} [] best text ≡ Err best
unfolding word_from
no_words best text = refl

pub words_end : {A : Type 0} (table : List (Bor (List ℕ) × A)) (i : ℕ) (best text : List ℕ) (total : Read A) → length table ≤ i → word_from (words_of (drop i table)) best text ≡ total → total ≡ Err best
words_end table i best text total le so_far =
    let none : drop i table ≡ [] = drop_all i table le in
    sym so_far ∙ rw none (no_words best text)
