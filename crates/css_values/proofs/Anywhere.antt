-- What is asked of any word of a list, word by word.
use Rattle.std.proofs.Common.{◌≡◌, ℕ, ◌<◌, ◌≤◌, ◌+◌, true, false, List, [], length, drop, get_or, refl, sym, ap, ◌∙◌}
use Rattle.std.specs.Prelude.{Bool, ◌||◌, ◌&&◌}
use Rattle.std.specs.List.{list_any}
use Rattle.std.proofs.lemmas.List.{drop_all, drop_more}
use denote.Bor.{Bor}
use Rattle.reading.specs.Readers.{can_read, strip_either_case}
use Rattle.css_tokens.specs.Tokens.{Lexeme}
use Rattle.css_types.specs.declared.refusal.Refused.{Refused}
use Rattle.css_values.specs.Judging.{are_refused, begins_so, refuses}
use Rattle.css_values.specs.Longhand.{is_one_of, is_word}
use Rattle.css_values.specs.Views.{texts_of, refusings_of}

goes_on : (test : List ℕ → Bool) (words : List (Bor (List ℕ))) (i : ℕ) (d : Bor (List ℕ)) (total : Bool) → i < length words
    → test (get_or words i d).now ≡ false → list_any test (texts_of (drop i words)) ≡ total → list_any test (texts_of (drop (i + 1) words)) ≡ total
goes_on test words i d total lt e so_far =
    let here : list_any test (texts_of (drop i words)) ≡ list_any test (texts_of (drop (i + 1) words)) = rw (drop_more words i d lt) (rw e refl) in
    sym here ∙ so_far

here : (test : List ℕ → Bool) (words : List (Bor (List ℕ))) (i : ℕ) (d : Bor (List ℕ)) (total : Bool) → i < length words
    → test (get_or words i d).now ≡ true → list_any test (texts_of (drop i words)) ≡ total → true ≡ total
here test words i d total lt e so_far =
    let now : list_any test (texts_of (drop i words)) ≡ true = rw (drop_more words i d lt) (rw e refl) in
    sym now ∙ so_far

nowhere : (test : List ℕ → Bool) (words : List (Bor (List ℕ))) (i : ℕ) (total : Bool) → length words ≤ i → list_any test (texts_of (drop i words)) ≡ total → false ≡ total
nowhere test words i total le so_far =
    let none : drop i words ≡ [] = drop_all i words le in
    rw none at so_far

-- ---- is the name one of these words?

pub one_goes_on : (words : List (Bor (List ℕ))) (i : ℕ) (d : Bor (List ℕ)) (name : List ℕ) (total : Bool) → i < length words
    → is_word (get_or words i d).now name ≡ false → is_one_of (texts_of (drop i words)) name ≡ total → is_one_of (texts_of (drop (i + 1) words)) name ≡ total
one_goes_on words i d name total = goes_on (λ word. is_word word name) words i d total

pub one_here : (words : List (Bor (List ℕ))) (i : ℕ) (d : Bor (List ℕ)) (name : List ℕ) (total : Bool) → i < length words
    → is_word (get_or words i d).now name ≡ true → is_one_of (texts_of (drop i words)) name ≡ total → true ≡ total
one_here words i d name total = here (λ word. is_word word name) words i d total

pub one_nowhere : (words : List (Bor (List ℕ))) (i : ℕ) (name : List ℕ) (total : Bool) → length words ≤ i → is_one_of (texts_of (drop i words)) name ≡ total → false ≡ total
one_nowhere words i name total = nowhere (λ word. is_word word name) words i total

-- ---- does the name begin with one of these?

pub begins_goes_on : (fronts : List (Bor (List ℕ))) (i : ℕ) (d : Bor (List ℕ)) (name : List ℕ) (total : Bool) → i < length fronts
    → can_read (strip_either_case (get_or fronts i d).now) name ≡ false → begins_so (texts_of (drop i fronts)) name ≡ total → begins_so (texts_of (drop (i + 1) fronts)) name ≡ total
begins_goes_on fronts i d name total = goes_on (λ front. can_read (strip_either_case front) name) fronts i d total

pub begins_here : (fronts : List (Bor (List ℕ))) (i : ℕ) (d : Bor (List ℕ)) (name : List ℕ) (total : Bool) → i < length fronts
    → can_read (strip_either_case (get_or fronts i d).now) name ≡ true → begins_so (texts_of (drop i fronts)) name ≡ total → true ≡ total
begins_here fronts i d name total = here (λ front. can_read (strip_either_case front) name) fronts i d total

pub begins_nowhere : (fronts : List (Bor (List ℕ))) (i : ℕ) (name : List ℕ) (total : Bool) → length fronts ≤ i → begins_so (texts_of (drop i fronts)) name ≡ total → false ≡ total
begins_nowhere fronts i name total = nowhere (λ front. can_read (strip_either_case front) name) fronts i total

-- ---- does the table refuse it?

abbrev Row : Type 0
Row = Bor (List ℕ) × Refused × Bor (List (Bor (List ℕ)))

refusing_front : (rows : List Row) (i : ℕ) (d : Row) (name : List ℕ) (lexemes : List Lexeme) → i < length rows
    → are_refused (refusings_of (drop i rows)) name lexemes ≡ (is_word (get_or rows i d).0.now name && refuses (get_or rows i d).1 (texts_of (get_or rows i d).2.now) lexemes || are_refused (refusings_of (drop (i + 1) rows)) name lexemes)
refusing_front rows i d name lexemes lt = rw (drop_more rows i d lt) refl

abbrev rest : (rows : List Row) (i : ℕ) (name : List ℕ) (lexemes : List Lexeme) → Bool
rest rows i name lexemes = are_refused (refusings_of (drop (i + 1) rows)) name lexemes

abbrev refused_by : Row → List Lexeme → Bool
refused_by row lexemes = refuses row.1 (texts_of row.2.now) lexemes

both : (named_ refused other w r : Bool) → named_ ≡ w → refused ≡ r → (named_ && refused || other) ≡ (w && r || other)
both named_ refused other w r e f = ap (λ x. x && refused || other) e ∙ ap (λ x. w && x || other) f

pub refusal_named_not : (rows : List Row) (i : ℕ) (d : Row) (name : List ℕ) (lexemes : List Lexeme) (total : Bool) → i < length rows
    → is_word (get_or rows i d).0.now name ≡ false → are_refused (refusings_of (drop i rows)) name lexemes ≡ total → are_refused (refusings_of (drop (i + 1) rows)) name lexemes ≡ total
refusal_named_not rows i d name lexemes total lt e so_far =
    sym (refusing_front rows i d name lexemes lt
    ∙ both (is_word (get_or rows i d).0.now name) (refused_by (get_or rows i d) lexemes) (rest rows i name lexemes) false (refused_by (get_or rows i d) lexemes) e refl) ∙ so_far

pub refusal_passed : (rows : List Row) (i : ℕ) (d : Row) (name : List ℕ) (lexemes : List Lexeme) (total : Bool) → i < length rows
    → is_word (get_or rows i d).0.now name ≡ true → refuses (get_or rows i d).1 (texts_of (get_or rows i d).2.now) lexemes ≡ false → are_refused (refusings_of (drop i rows)) name lexemes ≡ total
    → are_refused (refusings_of (drop (i + 1) rows)) name lexemes ≡ total
refusal_passed rows i d name lexemes total lt e f so_far =
    sym (refusing_front rows i d name lexemes lt
    ∙ both (is_word (get_or rows i d).0.now name) (refused_by (get_or rows i d) lexemes) (rest rows i name lexemes) true false e f) ∙ so_far

pub refusal_here : (rows : List Row) (i : ℕ) (d : Row) (name : List ℕ) (lexemes : List Lexeme) (total : Bool) → i < length rows
    → is_word (get_or rows i d).0.now name ≡ true → refuses (get_or rows i d).1 (texts_of (get_or rows i d).2.now) lexemes ≡ true → are_refused (refusings_of (drop i rows)) name lexemes ≡ total → true ≡ total
refusal_here rows i d name lexemes total lt e f so_far =
    sym (refusing_front rows i d name lexemes lt
    ∙ both (is_word (get_or rows i d).0.now name) (refused_by (get_or rows i d) lexemes) (rest rows i name lexemes) true true e f) ∙ so_far

pub refusal_nowhere : (rows : List Row) (i : ℕ) (name : List ℕ) (lexemes : List Lexeme) (total : Bool) → length rows ≤ i → are_refused (refusings_of (drop i rows)) name lexemes ≡ total → false ≡ total
refusal_nowhere rows i name lexemes total le so_far =
    let none : drop i rows ≡ [] = drop_all i rows le in
    rw none at so_far
