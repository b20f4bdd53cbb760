-- The entries of `font-family`, token by token.
use Rattle.std.proofs.Common.{◌≡◌, ℕ, ◌<◌, ◌≤◌, ◌+◌, true, false, List, [], ◌∷◌, length, drop, get_or, Some, None, refl, sym, ap, ◌∙◌}
use Rattle.std.specs.Prelude.{Bool, not, Option, option_map, cond, ◌==◌}
use Rattle.std.proofs.lemmas.List.{drop_all, drop_more}
use Rattle.css_tokens.specs.declared.token.Token.{Token}
use Rattle.css_tokens.specs.Tokens as tokens
use Rattle.css_tokens.specs.Tokens.{Lexeme, lexeme_of}
use Rattle.css_values.specs.Longhand.{before_others, entry, entries, face_number, family, first_face, number_or}
use Rattle.css_values.specs.Family.{first_of, found_behind, is_comma, meant_behind, meant_before_comma, meant_from}
use Rattle.css_values.specs.Views.{lexemes_of}
use Rattle.css_types.specs.declared.value.Value.TheVariants as values

first_or : (face other : Option ℕ) (last : ℕ) → number_or face (number_or other last) ≡ number_or (first_of face other) last
first_or (Some number) other last = refl
first_or None other last = refl

abbrev meant : Option ℕ → Option (List (List ℕ)) → Option ℕ
meant face texts = option_map (λ texts. number_or face (first_face texts)) texts

more : (face : Option ℕ) (text : List ℕ) (texts : Option (List (List ℕ))) → meant face (before_others (Some text) texts) ≡ meant (first_of face (face_number text)) texts
unfolding first_face
more face text (Some texts) = ap Some (first_or face (face_number text) (first_face texts))
more face text None = refl

last : (face : Option ℕ) (text : List ℕ) → meant face (before_others (Some text) (Some [])) ≡ Some (number_or (first_of face (face_number text)) 0)
unfolding first_face
last face text = ap Some (first_or face (face_number text) 0)

by_comma : (t : Bool) (face : Option ℕ) (text : List ℕ) (texts : Option (List (List ℕ)))
    → meant face (cond t (before_others (Some text) texts) None) ≡ cond t (meant (first_of face (face_number text)) texts) None
by_comma true face text texts = more face text texts
by_comma false face text texts = refl

-- behind an entry
with_entry : (face : Option ℕ) (lexeme : Lexeme) (text : List ℕ) (rest : List Lexeme) → entry lexeme ≡ Some text → meant_behind face (lexeme ∷ rest) ≡ meant_before_comma (first_of face (face_number text)) rest
unfolding entries
with_entry face lexeme text [] e = rw e (last face text)
with_entry face lexeme text (tokens.sign byte ∷ others) e = rw e (by_comma (byte == 44) face text (entries others))
with_entry face lexeme text (tokens.name n ∷ others) e = refl
with_entry face lexeme text (tokens.function n ∷ others) e = refl
with_entry face lexeme text (tokens.number n ∷ others) e = refl
with_entry face lexeme text (tokens.percentage n ∷ others) e = refl
with_entry face lexeme text (tokens.dimension n unit ∷ others) e = refl
with_entry face lexeme text (tokens.quoted inside ∷ others) e = refl
with_entry face lexeme text (tokens.hash word ∷ others) e = refl
with_entry face lexeme text (tokens.round ∷ others) e = refl
with_entry face lexeme text (tokens.square ∷ others) e = refl

none_of : (t : Bool) (texts : Option (List (List ℕ))) (face : Option ℕ) → meant face (cond t (before_others None texts) None) ≡ None
none_of true texts face = refl
none_of false texts face = refl

without_entry : (face : Option ℕ) (lexeme : Lexeme) (rest : List Lexeme) → entry lexeme ≡ None → meant_behind face (lexeme ∷ rest) ≡ None
unfolding entries
without_entry face lexeme [] e = rw e refl
without_entry face lexeme (tokens.sign byte ∷ others) e = rw e (none_of (byte == 44) (entries others) face)
without_entry face lexeme (tokens.name n ∷ others) e = refl
without_entry face lexeme (tokens.function n ∷ others) e = refl
without_entry face lexeme (tokens.number n ∷ others) e = refl
without_entry face lexeme (tokens.percentage n ∷ others) e = refl
without_entry face lexeme (tokens.dimension n unit ∷ others) e = refl
without_entry face lexeme (tokens.quoted inside ∷ others) e = refl
without_entry face lexeme (tokens.hash word ∷ others) e = refl
without_entry face lexeme (tokens.round ∷ others) e = refl
without_entry face lexeme (tokens.square ∷ others) e = refl

no_entries : (face : Option ℕ) → meant_behind face [] ≡ None
unfolding entries
no_entries face = refl

-- ---- a turn of the loop

abbrev meant_if : (found : Option (Option ℕ)) → Bool → List Lexeme → Option ℕ
meant_if (Some face) next others = meant_from next face others
meant_if None next others = None

by_entry : (face : Option ℕ) (lexeme : Lexeme) (others : List Lexeme) (text : Option (List ℕ)) → entry lexeme ≡ text
    → meant_behind face (lexeme ∷ others) ≡ meant_if (option_map (λ t. first_of face (face_number t)) text) false others
by_entry face lexeme others (Some text) e = with_entry face lexeme text others e
by_entry face lexeme others None e = without_entry face lexeme others e

by_sign : (t : Bool) (face : Option ℕ) (others : List Lexeme) → cond t (meant_behind face others) None ≡ meant_if (cond t (Some face) None) true others
by_sign true face others = refl
by_sign false face others = refl

step : (next : Bool) (face : Option ℕ) (lexeme : Lexeme) (others : List Lexeme) → meant_from next face (lexeme ∷ others) ≡ meant_if (found_behind next face lexeme) (not next) others
step true face lexeme others = by_entry face lexeme others (entry lexeme) refl
step false face lexeme others = by_sign (is_comma lexeme) face others

by_face : (texts : Option (List (List ℕ))) → option_map (λ t. values.Face (first_face t)) texts ≡ option_map (λ n. values.Face n) (option_map first_face texts)
by_face (Some texts) = refl
by_face None = refl

by_number : (lexemes : List Lexeme) (total : Option ℕ) → option_map first_face (entries lexemes) ≡ total → option_map (λ n. values.Face n) total ≡ family lexemes
unfolding family
by_number lexemes total e = sym (by_face (entries lexemes) ∙ ap (option_map (λ n. values.Face n)) e)

-- the whole is what is meant from here
abbrev pub IsMeantFrom : (next : Bool) (face : Option ℕ) (here all : List Lexeme) → Type 0
IsMeantFrom next face here all = meant_from next face here ≡ option_map first_face (entries all)

at_start : (texts : Option (List (List ℕ))) → meant None texts ≡ option_map first_face texts
at_start (Some texts) = refl
at_start None = refl

pub starts : (lexemes : List Lexeme) → IsMeantFrom true None lexemes lexemes
starts lexemes = at_start (entries lexemes)

pub goes_on : (all : List Token) (i : ℕ) (d : Token) (next : Bool) (face new : Option ℕ) → i < length all
    → Some new ≡ found_behind next face (lexeme_of (get_or all i d)) → IsMeantFrom next face (lexemes_of (drop i all)) (lexemes_of all) → IsMeantFrom (not next) new (lexemes_of (drop (i + 1) all)) (lexemes_of all)
goes_on all i d next face new lt e so_far =
    let here : meant_from next face (lexemes_of (drop i all)) ≡ meant_from (not next) new (lexemes_of (drop (i + 1) all)) =
    rw (drop_more all i d lt) (step next face (lexeme_of (get_or all i d)) (lexemes_of (drop (i + 1) all))
    ∙ ap (λ found. meant_if found (not next) (lexemes_of (drop (i + 1) all))) (sym e)) in
    sym here ∙ so_far

pub stops : (all : List Token) (i : ℕ) (d : Token) (next : Bool) (face : Option ℕ) → i < length all
    → None ≡ found_behind next face (lexeme_of (get_or all i d)) → IsMeantFrom next face (lexemes_of (drop i all)) (lexemes_of all) → None ≡ family (lexemes_of all)
stops all i d next face lt e so_far =
    let here : meant_from next face (lexemes_of (drop i all)) ≡ None =
    rw (drop_more all i d lt) (step next face (lexeme_of (get_or all i d)) (lexemes_of (drop (i + 1) all))
    ∙ ap (λ found. meant_if found (not next) (lexemes_of (drop (i + 1) all))) (sym e)) in
    by_number (lexemes_of all) None (sym so_far ∙ here)

pub ends_behind : (all : List Token) (i : ℕ) (next : Bool) (face : Option ℕ) (n : ℕ) → length all ≤ i → next ≡ false → n ≡ number_or face 0 → IsMeantFrom next face (lexemes_of (drop i all)) (lexemes_of all)
    → Some (values.Face n) ≡ family (lexemes_of all)
ends_behind all i next face n le off is so_far =
    let none : drop i all ≡ [] = drop_all i all le in
    let here : meant_from next face (lexemes_of (drop i all)) ≡ Some (number_or face 0) = rw (none, off) refl in
    rw is (by_number (lexemes_of all) (Some (number_or face 0)) (sym so_far ∙ here))

pub ends_before : (all : List Token) (i : ℕ) (next : Bool) (face : Option ℕ) → length all ≤ i → next ≡ true → IsMeantFrom next face (lexemes_of (drop i all)) (lexemes_of all) → None ≡ family (lexemes_of all)
ends_before all i next face le on so_far =
    let none : drop i all ≡ [] = drop_all i all le in
    let here : meant_from next face (lexemes_of (drop i all)) ≡ None = rw (none, on) (no_entries face) in
    by_number (lexemes_of all) None (sym so_far ∙ here)
