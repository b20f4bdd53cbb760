-- Some texts of style attributes, read by computation. The first number is the place of their end.
use Rattle.std.specs.Prelude.{◌≡◌, true, false, negsuc, pos, [], ◌∷◌, codes, Ok, Err, refl}
use Rattle.reading.specs.Readers.{strip, starts, one_of, run_of, skip, until, up_to, after, joined, turns, repeat, many, strip_either_case}
use Rattle.reading.specs.White.{white, spaces}
use Rattle.css_tokens.specs.Lexing.{comment, gap, name_ahead, name, hash_ahead, hash, string_piece, string, numeric, named, sign_token, token}
use Rattle.css_tokens.specs.Numbers.{sign, point, number_ahead, decimals, number}
use Rattle.css_values.specs.Judging.{is_refused, is_unsupported, meaning, expanded}
use Rattle.css_values.specs.Tables.{properties, shorthands, keywords, widths, refusals, colours, resets}
use Rattle.css_values.specs.Longhand.{single, face_number, entries, first_face, family, longhand}
use Rattle.css_values.specs.Border.{pieces}
use Rattle.css_values.specs.Shorthand.{each, shorthand}
use Rattle.css_values.specs.Value.{value, ends_important}
use Rattle.css_values.specs.Declarations.{property_name, stated, declaration, declarations}
use Rattle.css_values.specs.declared.within.Within.TheVariants as within_
use Rattle.css_values.specs.declared.error.Refusal.TheVariants as kinds
use Rattle.css_types.specs.declared.property.Property.TheVariants as longhands
use Rattle.css_types.specs.declared.keyword.Keyword.TheVariants as words
use Rattle.css_types.specs.declared.value.Value.TheVariants as values

a_dropped_one_is_passed_over : declarations within_.Attribute 20 (codes "width:-1px;width:1px") ≡ Ok (record { property = longhands.Width; value = values.Px (pos 100); important = false; place = 11 } ∷ [], [])
unfolding strip starts one_of run_of skip until up_to after joined turns repeat many comment gap name_ahead name hash_ahead hash string_piece string numeric named sign_token token sign point number_ahead decimals number is_refused is_unsupported meaning expanded properties shorthands keywords widths refusals colours resets single face_number entries first_face family longhand pieces each shorthand value ends_important property_name stated declaration declarations white spaces strip_either_case
a_dropped_one_is_passed_over = refl

sides : declarations within_.Attribute 19 (codes "margin: 1px auto 3%") ≡ Ok (record { property = longhands.MarginTop; value = values.Px (pos 100); important = false; place = 0 } ∷ record { property = longhands.MarginRight; value = values.Keyword words.Auto; important = false; place = 0 } ∷ record { property = longhands.MarginBottom; value = values.Percent (pos 300); important = false; place = 0 } ∷ record { property = longhands.MarginLeft; value = values.Keyword words.Auto; important = false; place = 0 } ∷ [], [])
unfolding strip starts one_of run_of skip until up_to after joined turns repeat many comment gap name_ahead name hash_ahead hash string_piece string numeric named sign_token token sign point number_ahead decimals number is_refused is_unsupported meaning expanded properties shorthands keywords widths refusals colours resets single face_number entries first_face family longhand pieces each shorthand value ends_important property_name stated declaration declarations white spaces strip_either_case
sides = refl

ends_that_are_important : declarations within_.Attribute 32 (codes "margin-inline:1px 2px !important") ≡ Ok (record { property = longhands.MarginInlineStart; value = values.Px (pos 100); important = true; place = 0 } ∷ record { property = longhands.MarginInlineEnd; value = values.Px (pos 200); important = true; place = 0 } ∷ [], [])
unfolding strip starts one_of run_of skip until up_to after joined turns repeat many comment gap name_ahead name hash_ahead hash string_piece string numeric named sign_token token sign point number_ahead decimals number is_refused is_unsupported meaning expanded properties shorthands keywords widths refusals colours resets single face_number entries first_face family longhand pieces each shorthand value ends_important property_name stated declaration declarations white spaces strip_either_case
ends_that_are_important = refl

a_border_in_any_order : declarations within_.Attribute 25 (codes "border-top:red DOTTED 2em") ≡ Ok (record { property = longhands.BorderTopWidth; value = values.Em (pos 200); important = false; place = 0 } ∷ record { property = longhands.BorderTopStyle; value = values.Keyword words.Dotted; important = false; place = 0 } ∷ [], [])
unfolding strip starts one_of run_of skip until up_to after joined turns repeat many comment gap name_ahead name hash_ahead hash string_piece string numeric named sign_token token sign point number_ahead decimals number is_refused is_unsupported meaning expanded properties shorthands keywords widths refusals colours resets single face_number entries first_face family longhand pieces each shorthand value ends_important property_name stated declaration declarations white spaces strip_either_case
a_border_in_any_order = refl

a_face_in_a_list : declarations within_.Attribute 29 (codes "font-family:a, \"face2\", face3") ≡ Ok (record { property = longhands.FontFamily; value = values.Face 2; important = false; place = 0 } ∷ [], [])
unfolding strip starts one_of run_of skip until up_to after joined turns repeat many comment gap name_ahead name hash_ahead hash string_piece string numeric named sign_token token sign point number_ahead decimals number is_refused is_unsupported meaning expanded properties shorthands keywords widths refusals colours resets single face_number entries first_face family longhand pieces each shorthand value ends_important property_name stated declaration declarations white spaces strip_either_case
a_face_in_a_list = refl

numbers : declarations within_.Attribute 32 (codes "height:-0.001px;width:12345678px") ≡ Ok (record { property = longhands.Height; value = values.Px (pos 0); important = false; place = 0 } ∷ record { property = longhands.Width; value = values.Px (pos 999999999); important = false; place = 16 } ∷ [], [])
unfolding strip starts one_of run_of skip until up_to after joined turns repeat many comment gap name_ahead name hash_ahead hash string_piece string numeric named sign_token token sign point number_ahead decimals number is_refused is_unsupported meaning expanded properties shorthands keywords widths refusals colours resets single face_number entries first_face family longhand pieces each shorthand value ends_important property_name stated declaration declarations white spaces strip_either_case
numbers = refl

a_semicolon_in_brackets : declarations within_.Attribute 23 (codes "a:url(data:b;c);width:0") ≡ Ok (record { property = longhands.Width; value = values.Px (pos 0); important = false; place = 16 } ∷ [], [])
unfolding strip starts one_of run_of skip until up_to after joined turns repeat many comment gap name_ahead name hash_ahead hash string_piece string numeric named sign_token token sign point number_ahead decimals number is_refused is_unsupported meaning expanded properties shorthands keywords widths refusals colours resets single face_number entries first_face family longhand pieces each shorthand value ends_important property_name stated declaration declarations white spaces strip_either_case
a_semicolon_in_brackets = refl

inherited : declarations within_.Attribute 33 (codes "direction:inherit;line-height:1.5") ≡ Ok (record { property = longhands.Direction; value = values.Inherit; important = false; place = 0 } ∷ record { property = longhands.LineHeight; value = values.Number (pos 150); important = false; place = 18 } ∷ [], [])
unfolding strip starts one_of run_of skip until up_to after joined turns repeat many comment gap name_ahead name hash_ahead hash string_piece string numeric named sign_token token sign point number_ahead decimals number is_refused is_unsupported meaning expanded properties shorthands keywords widths refusals colours resets single face_number entries first_face family longhand pieces each shorthand value ends_important property_name stated declaration declarations white spaces strip_either_case
inherited = refl

no_colon : declarations within_.Attribute 6 (codes "colour") ≡ Err (kinds.CssSyntax, [])
unfolding strip starts one_of run_of skip until up_to after joined turns repeat many comment gap name_ahead name hash_ahead hash string_piece string numeric named sign_token token sign point number_ahead decimals number is_refused is_unsupported meaning expanded properties shorthands keywords widths refusals colours resets single face_number entries first_face family longhand pieces each shorthand value ends_important property_name stated declaration declarations white spaces strip_either_case
no_colon = refl

an_empty_value : declarations within_.Attribute 20 (codes "width:!important;a:b") ≡ Err (kinds.CssSyntax, codes ";a:b")
unfolding strip starts one_of run_of skip until up_to after joined turns repeat many comment gap name_ahead name hash_ahead hash string_piece string numeric named sign_token token sign point number_ahead decimals number is_refused is_unsupported meaning expanded properties shorthands keywords widths refusals colours resets single face_number entries first_face family longhand pieces each shorthand value ends_important property_name stated declaration declarations white spaces strip_either_case
an_empty_value = refl

syntax_comes_first : declarations within_.Attribute 12 (codes "float:left )") ≡ Err (kinds.CssSyntax, codes ")")
unfolding strip starts one_of run_of skip until up_to after joined turns repeat many comment gap name_ahead name hash_ahead hash string_piece string numeric named sign_token token sign point number_ahead decimals number is_refused is_unsupported meaning expanded properties shorthands keywords widths refusals colours resets single face_number entries first_face family longhand pieces each shorthand value ends_important property_name stated declaration declarations white spaces strip_either_case
syntax_comes_first = refl

a_string_is_open : declarations within_.Attribute 6 (codes "a:\"x\\\"") ≡ Err (kinds.CssSyntax, [])
unfolding strip starts one_of run_of skip until up_to after joined turns repeat many comment gap name_ahead name hash_ahead hash string_piece string numeric named sign_token token sign point number_ahead decimals number is_refused is_unsupported meaning expanded properties shorthands keywords widths refusals colours resets single face_number entries first_face family longhand pieces each shorthand value ends_important property_name stated declaration declarations white spaces strip_either_case
a_string_is_open = refl

a_float : declarations within_.Attribute 26 (codes "margin: 1px 2px;float:left") ≡ Err (kinds.Unsupported, codes "float:left")
unfolding strip starts one_of run_of skip until up_to after joined turns repeat many comment gap name_ahead name hash_ahead hash string_piece string numeric named sign_token token sign point number_ahead decimals number is_refused is_unsupported meaning expanded properties shorthands keywords widths refusals colours resets single face_number entries first_face family longhand pieces each shorthand value ends_important property_name stated declaration declarations white spaces strip_either_case
a_float = refl

a_variable_in_brackets : declarations within_.Attribute 20 (codes "width:[VAR(--x)];a:b") ≡ Err (kinds.Unsupported, codes "width:[VAR(--x)];a:b")
unfolding strip starts one_of run_of skip until up_to after joined turns repeat many comment gap name_ahead name hash_ahead hash string_piece string numeric named sign_token token sign point number_ahead decimals number is_refused is_unsupported meaning expanded properties shorthands keywords widths refusals colours resets single face_number entries first_face family longhand pieces each shorthand value ends_important property_name stated declaration declarations white spaces strip_either_case
a_variable_in_brackets = refl

all_tables : declarations within_.Attribute 17 (codes "display:table-x y") ≡ Err (kinds.Unsupported, codes "display:table-x y")
unfolding strip starts one_of run_of skip until up_to after joined turns repeat many comment gap name_ahead name hash_ahead hash string_piece string numeric named sign_token token sign point number_ahead decimals number is_refused is_unsupported meaning expanded properties shorthands keywords widths refusals colours resets single face_number entries first_face family longhand pieces each shorthand value ends_important property_name stated declaration declarations white spaces strip_either_case
all_tables = refl

not_inherited : declarations within_.Attribute 13 (codes "width:inherit") ≡ Err (kinds.Unsupported, codes "width:inherit")
unfolding strip starts one_of run_of skip until up_to after joined turns repeat many comment gap name_ahead name hash_ahead hash string_piece string numeric named sign_token token sign point number_ahead decimals number is_refused is_unsupported meaning expanded properties shorthands keywords widths refusals colours resets single face_number entries first_face family longhand pieces each shorthand value ends_important property_name stated declaration declarations white spaces strip_either_case
not_inherited = refl

insets : declarations within_.Attribute 17 (codes "inset:1px 2px 3px") ≡ Ok (record { property = longhands.InsetTop; value = values.Px (pos 100); important = false; place = 0 } ∷ record { property = longhands.InsetRight; value = values.Px (pos 200); important = false; place = 0 } ∷ record { property = longhands.InsetBottom; value = values.Px (pos 300); important = false; place = 0 } ∷ record { property = longhands.InsetLeft; value = values.Px (pos 200); important = false; place = 0 } ∷ [], [])
unfolding strip starts one_of run_of skip until up_to after joined turns repeat many comment gap name_ahead name hash_ahead hash string_piece string numeric named sign_token token sign point number_ahead decimals number is_refused is_unsupported meaning expanded properties shorthands keywords widths refusals colours resets single face_number entries first_face family longhand pieces each shorthand value ends_important property_name stated declaration declarations white spaces strip_either_case
insets = refl

insets_of_the_flow : declarations within_.Attribute 21 (codes "inset-inline:auto -5%") ≡ Ok (record { property = longhands.InsetInlineStart; value = values.Keyword words.Auto; important = false; place = 0 } ∷ record { property = longhands.InsetInlineEnd; value = values.Percent (negsuc 499); important = false; place = 0 } ∷ [], [])
unfolding strip starts one_of run_of skip until up_to after joined turns repeat many comment gap name_ahead name hash_ahead hash string_piece string numeric named sign_token token sign point number_ahead decimals number is_refused is_unsupported meaning expanded properties shorthands keywords widths refusals colours resets single face_number entries first_face family longhand pieces each shorthand value ends_important property_name stated declaration declarations white spaces strip_either_case
insets_of_the_flow = refl

an_inset_is_not_inherited : declarations within_.Attribute 11 (codes "top:inherit") ≡ Err (kinds.Unsupported, codes "top:inherit")
unfolding strip starts one_of run_of skip until up_to after joined turns repeat many comment gap name_ahead name hash_ahead hash string_piece string numeric named sign_token token sign point number_ahead decimals number is_refused is_unsupported meaning expanded properties shorthands keywords widths refusals colours resets single face_number entries first_face family longhand pieces each shorthand value ends_important property_name stated declaration declarations white spaces strip_either_case
an_inset_is_not_inherited = refl

positions : declarations within_.Attribute 33 (codes "position:relative;position:center") ≡ Ok (record { property = longhands.Position; value = values.Keyword words.Relative; important = false; place = 0 } ∷ [], [])
unfolding strip starts one_of run_of skip until up_to after joined turns repeat many comment gap name_ahead name hash_ahead hash string_piece string numeric named sign_token token sign point number_ahead decimals number is_refused is_unsupported meaning expanded properties shorthands keywords widths refusals colours resets single face_number entries first_face family longhand pieces each shorthand value ends_important property_name stated declaration declarations white spaces strip_either_case
positions = refl

a_position_that_is_refused : declarations within_.Attribute 17 (codes "position:absolute") ≡ Err (kinds.Unsupported, codes "position:absolute")
unfolding strip starts one_of run_of skip until up_to after joined turns repeat many comment gap name_ahead name hash_ahead hash string_piece string numeric named sign_token token sign point number_ahead decimals number is_refused is_unsupported meaning expanded properties shorthands keywords widths refusals colours resets single face_number entries first_face family longhand pieces each shorthand value ends_important property_name stated declaration declarations white spaces strip_either_case
a_position_that_is_refused = refl

digits : declarations within_.Attribute 58 (codes "text-combine-upright:digits;text-combine-upright:DIGITS +4") ≡ Ok (record { property = longhands.TextCombineUpright; value = values.Digits 2; important = false; place = 0 } ∷ record { property = longhands.TextCombineUpright; value = values.Digits 4; important = false; place = 28 } ∷ [], [])
unfolding strip starts one_of run_of skip until up_to after joined turns repeat many comment gap name_ahead name hash_ahead hash string_piece string numeric named sign_token token sign point number_ahead decimals number is_refused is_unsupported meaning expanded properties shorthands keywords widths refusals colours resets single face_number entries first_face family longhand pieces each shorthand value ends_important property_name stated declaration declarations white spaces strip_either_case
digits = refl

too_many_digits : declarations within_.Attribute 29 (codes "text-combine-upright:digits 5") ≡ Ok ([], [])
unfolding strip starts one_of run_of skip until up_to after joined turns repeat many comment gap name_ahead name hash_ahead hash string_piece string numeric named sign_token token sign point number_ahead decimals number is_refused is_unsupported meaning expanded properties shorthands keywords widths refusals colours resets single face_number entries first_face family longhand pieces each shorthand value ends_important property_name stated declaration declarations white spaces strip_either_case
too_many_digits = refl

too_few_digits : declarations within_.Attribute 29 (codes "text-combine-upright:digits 0") ≡ Ok ([], [])
unfolding strip starts one_of run_of skip until up_to after joined turns repeat many comment gap name_ahead name hash_ahead hash string_piece string numeric named sign_token token sign point number_ahead decimals number is_refused is_unsupported meaning expanded properties shorthands keywords widths refusals colours resets single face_number entries first_face family longhand pieces each shorthand value ends_important property_name stated declaration declarations white spaces strip_either_case
too_few_digits = refl

a_half_digit : declarations within_.Attribute 31 (codes "text-combine-upright:digits 2.5") ≡ Ok ([], [])
unfolding strip starts one_of run_of skip until up_to after joined turns repeat many comment gap name_ahead name hash_ahead hash string_piece string numeric named sign_token token sign point number_ahead decimals number is_refused is_unsupported meaning expanded properties shorthands keywords widths refusals colours resets single face_number entries first_face family longhand pieces each shorthand value ends_important property_name stated declaration declarations white spaces strip_either_case
a_half_digit = refl

digits_below_zero : declarations within_.Attribute 30 (codes "text-combine-upright:digits -2") ≡ Ok ([], [])
unfolding strip starts one_of run_of skip until up_to after joined turns repeat many comment gap name_ahead name hash_ahead hash string_piece string numeric named sign_token token sign point number_ahead decimals number is_refused is_unsupported meaning expanded properties shorthands keywords widths refusals colours resets single face_number entries first_face family longhand pieces each shorthand value ends_important property_name stated declaration declarations white spaces strip_either_case
digits_below_zero = refl

digits_twice : declarations within_.Attribute 31 (codes "text-combine-upright:digits 2 3") ≡ Ok ([], [])
unfolding strip starts one_of run_of skip until up_to after joined turns repeat many comment gap name_ahead name hash_ahead hash string_piece string numeric named sign_token token sign point number_ahead decimals number is_refused is_unsupported meaning expanded properties shorthands keywords widths refusals colours resets single face_number entries first_face family longhand pieces each shorthand value ends_important property_name stated declaration declarations white spaces strip_either_case
digits_twice = refl
