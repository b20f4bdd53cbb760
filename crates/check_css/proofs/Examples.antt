-- What the readers read from some texts, by computation. The functions of the code give what these readers give.
use Rattle.std.specs.Prelude.{◌≡◌, ℕ, true, false, List, [], ◌∷◌, codes, bytes_eq, pos, neg_ℤ, Some, None, Ok, Err, refl}
use Rattle.reading.specs.Readers.{strip, strip_either_case, starts, one_of, run_of, skip, until, up_to, after, turns, repeat}
use Rattle.reading.specs.White.{white}
use Rattle.reading.specs.Decimals.{number, more_digits}
use Rattle.reading.specs.Names.{lowered}
use Rattle.reading.specs.Names as names
use Rattle.css_tokens.specs.Tokens as lexemes
use Rattle.css_tokens.specs.Numbers as numbers
use Rattle.css_tokens.specs.Lexing.{token, numeric, named, name_ahead, name, string, sign_token, hash_ahead, hash, gap, comment}

-- ---- texts, numbers and names

nothing_is_no_text : strip [] (codes "ab") ≡ Ok (tt, codes "ab")
unfolding strip
nothing_is_no_text = refl

text_is_read : strip (codes "<div") (codes "<div>") ≡ Ok (tt, codes ">")
unfolding strip
text_is_read = refl

letter_of_two_bytes_is_read : strip (195 ∷ 169 ∷ []) (195 ∷ 169 ∷ 195 ∷ 168 ∷ []) ≡ Ok (tt, 195 ∷ 168 ∷ [])
unfolding strip
letter_of_two_bytes_is_read = refl

first_other_byte_is_left : strip (codes "<div") (codes "<dog>") ≡ Err (codes "og>")
unfolding strip
first_other_byte_is_left = refl

nothing_is_left : strip (codes "<div") (codes "<d") ≡ Err []
unfolding strip
nothing_is_left = refl

second_byte_of_a_letter_is_left : strip (195 ∷ 169 ∷ []) (195 ∷ 168 ∷ []) ≡ Err (168 ∷ [])
unfolding strip
second_byte_of_a_letter_is_left = refl

it_starts : starts (codes "<d") (codes "<div") ≡ true
unfolding starts strip
it_starts = refl

it_starts_otherwise : starts (codes "<d") (codes "</div") ≡ false
unfolding starts strip
it_starts_otherwise = refl

it_is_too_short : starts (codes "<d") (codes "<") ≡ false
unfolding starts strip
it_is_too_short = refl

either_case_is_read : strip_either_case (codes "<!doctype") (codes "<!DocType html") ≡ Ok (tt, codes " html")
unfolding strip_either_case
either_case_is_read = refl

other_letter_in_either_case_is_left : strip_either_case (codes "div") (codes "DOG") ≡ Err (codes "OG")
unfolding strip_either_case
other_letter_in_either_case_is_left = refl

capital_letters_of_the_word_are_never_read : strip_either_case (codes "Div") (codes "Div") ≡ Err (codes "Div")
unfolding strip_either_case
capital_letters_of_the_word_are_never_read = refl

letters_beyond_ascii_have_one_case : strip_either_case (195 ∷ 169 ∷ []) (195 ∷ 137 ∷ []) ≡ Err (137 ∷ [])
unfolding strip_either_case
letters_beyond_ascii_have_one_case = refl

zero_is_read : number 5 (codes "0") ≡ Ok (0, [])
unfolding number more_digits one_of
zero_is_read = refl

zeros_in_front_count_as_digits : number 5 (codes "00420px") ≡ Ok (420, codes "px")
unfolding number more_digits one_of
zeros_in_front_count_as_digits = refl

sixth_digit_is_left : number 5 (codes "123456") ≡ Ok (12345, codes "6")
unfolding number more_digits one_of
sixth_digit_is_left = refl

second_digit_is_left : number 1 (codes "98") ≡ Ok (9, codes "8")
unfolding number more_digits one_of
second_digit_is_left = refl

nine_digits_are_read : number 9 (codes "999999999") ≡ Ok (999999999, [])
unfolding number more_digits one_of
nine_digits_are_read = refl

no_digit_is_left : number 5 (codes "px") ≡ Err (codes "px")
unfolding number more_digits one_of
no_digit_is_left = refl

abbrev lengths : List (List ℕ × ℕ)
lengths = (codes "px", 1) ∷ (codes "Em", 2) ∷ (codes "PX", 3) ∷ []

first_row_counts : names.named lengths (lowered (codes "Px")) ≡ Some 1
first_row_counts = refl

either_case_is_found : names.named lengths (lowered (codes "eM")) ≡ Some 2
either_case_is_found = refl

front_of_a_name_is_none : names.named lengths (lowered (codes "e")) ≡ None
front_of_a_name_is_none = refl

no_rows_no_name : names.named {T = ℕ} [] (lowered (codes "px")) ≡ None
no_rows_no_name = refl

names_in_either_case_are_one : bytes_eq (lowered (codes "Title")) (lowered (codes "tITLE")) ≡ true
names_in_either_case_are_one = refl

a_longer_name_is_another : bytes_eq (lowered (codes "title")) (lowered (codes "titles")) ≡ false
a_longer_name_is_another = refl

names_beyond_ascii_have_one_case : bytes_eq (lowered (195 ∷ 169 ∷ [])) (lowered (195 ∷ 137 ∷ [])) ≡ false
names_beyond_ascii_have_one_case = refl

-- ---- tokens and gaps

negative_number_is_a_token : token (codes "-1.5 a") ≡ Ok (lexemes.number (neg_ℤ (pos 150)), codes " a")
unfolding token numeric name_ahead named string hash_ahead hash sign_token name numbers.sign numbers.point numbers.decimals numbers.number numbers.number_ahead strip starts one_of run_of
negative_number_is_a_token = refl

nothing_is_no_token : token [] ≡ Err []
unfolding token numeric name_ahead named string hash_ahead hash sign_token name numbers.sign numbers.point numbers.decimals numbers.number numbers.number_ahead strip starts one_of run_of
nothing_is_no_token = refl

comment_in_a_gap : gap (codes " /**/a") ≡ Ok (true, codes "a")
unfolding gap white comment after up_to until strip starts repeat turns one_of skip
comment_in_a_gap = refl

comment_without_end : gap (codes "/*/") ≡ Err []
unfolding gap white comment after up_to until strip starts repeat turns one_of skip
comment_without_end = refl

name_ahead_after_a_hyphen : name_ahead (codes "-a") ≡ true
unfolding name_ahead numbers.number_ahead numbers.sign numbers.point strip one_of
name_ahead_after_a_hyphen = refl

name_ahead_not_a_digit : name_ahead (codes "-1") ≡ false
unfolding name_ahead numbers.number_ahead numbers.sign numbers.point strip one_of
name_ahead_not_a_digit = refl

name_ahead_not_a_point : name_ahead (codes "-.5") ≡ false
unfolding name_ahead numbers.number_ahead numbers.sign numbers.point strip one_of
name_ahead_not_a_point = refl

name_ahead_a_hyphen_alone : name_ahead (codes "-.") ≡ true
unfolding name_ahead numbers.number_ahead numbers.sign numbers.point strip one_of
name_ahead_a_hyphen_alone = refl

name_ahead_not_a_digit_first : name_ahead (codes "1a") ≡ false
unfolding name_ahead numbers.number_ahead numbers.sign numbers.point strip one_of
name_ahead_not_a_digit_first = refl

name_is_read : name (codes "a1 b") ≡ Ok (codes "a1", codes " b")
unfolding name run_of
name_is_read = refl

no_name_is_read : name (codes ".a") ≡ Ok ([], codes ".a")
unfolding name run_of
no_name_is_read = refl

hash_is_ahead : hash_ahead (codes "#1") ≡ true
unfolding hash_ahead hash name run_of strip one_of
hash_is_ahead = refl

hash_alone_is_none : hash_ahead (codes "# 1") ≡ false
unfolding hash_ahead hash name run_of strip one_of
hash_alone_is_none = refl

hash_is_read : hash (codes "#1a.") ≡ Ok (codes "1a", codes ".")
unfolding hash_ahead hash name run_of strip one_of
hash_is_read = refl

no_hash_is_read : hash (codes "a") ≡ Err (codes "a")
unfolding hash_ahead hash name run_of strip one_of
no_hash_is_read = refl

point_and_digit_are_a_number : numbers.number_ahead (codes "+.5") ≡ true
unfolding name_ahead numbers.number_ahead numbers.sign numbers.point strip one_of
point_and_digit_are_a_number = refl

point_alone_is_no_number : numbers.number_ahead (codes "+.") ≡ false
unfolding name_ahead numbers.number_ahead numbers.sign numbers.point strip one_of
point_alone_is_no_number = refl

two_signs_are_no_number : numbers.number_ahead (codes "--1") ≡ false
unfolding name_ahead numbers.number_ahead numbers.sign numbers.point strip one_of
two_signs_are_no_number = refl

third_decimal_is_cut : numbers.number (codes "-12.345px") ≡ Ok (neg_ℤ (pos 1234), codes "px")
unfolding numbers.number numbers.sign numbers.decimals numbers.point strip one_of run_of
third_decimal_is_cut = refl

no_number_is_zero : numbers.number (codes "+a") ≡ Ok (pos 0, codes "a")
unfolding numbers.number numbers.sign numbers.decimals numbers.point strip one_of run_of
no_number_is_zero = refl
