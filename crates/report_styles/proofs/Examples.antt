-- Some texts and documents, told by computation. Where a theorem has the lines, they are what the program writes.
use Rattle.std.specs.Prelude.{◌≡◌, true, false, [], ◌∷◌, codes, Some, None, Err, flat_map, refl}
use Rattle.std.specs.Fmt.{digits}
use Rattle.reading.specs.Readers.{strip, starts, one_of, run_of, skip, until, up_to, after, joined, turns, repeat, many, strip_either_case}
use Rattle.reading.specs.White.{white, spaces}
use Rattle.css_tokens.specs.Lexing.{comment, gap, name_ahead, name, hash_ahead, hash, string_piece, string, numeric, named, sign_token, token}
use Rattle.css_tokens.specs.Numbers.{sign, point, number_ahead, decimals, number}
use Rattle.css_values.specs.Judging.{is_refused, is_unsupported, meaning, expanded}
use Rattle.css_values.specs.Tables.{properties, shorthands, keywords, widths, refusals, colours, resets}
use Rattle.css_values.specs.Longhand.{single, face_number, entries, first_face, family, longhand}
use Rattle.css_values.specs.Border.{pieces}
use Rattle.css_values.specs.Shorthand.{each, shorthand}
use Rattle.css_values.specs.Error.{kind_word}
use Rattle.css_values.specs.Value.{value, ends_important}
use Rattle.css_values.specs.declared.error.Refusal.TheVariants as refusal
use Rattle.css_values.specs.Declarations as css
use Rattle.css_values.specs.Declarations.{property_name, stated, declaration}
use Rattle.css_values.specs.Reports.{next}
use Rattle.css_sheet.specs.Selector.{selector_name, type_name, compound, selector}
use Rattle.css_sheet.specs.Sheet.{heads, sheet}
use Rattle.css_sheet.specs.Styled.{styling, sheets, attributes}
use Rattle.html_tokens.specs.declared.tag.Tag.TheVariants as tags
use Rattle.html_read.specs.Values as kinds
use Rattle.report_styles.specs.GoingOn.{piece, seek, behind_declaration, behind_rule}
use Rattle.report_styles.specs.Lines.{line}
use Rattle.report_styles.specs.Told.{refused, declarations, rules, with_sheet, with_attribute, with_limits, told_of_document}

a_semicolon_in_brackets : behind_declaration true (codes "a f(;) [;] {;};b:c") ≡ Some (codes "b:c")
unfolding strip starts one_of run_of skip until up_to after joined turns repeat many strip_either_case white spaces comment gap name_ahead name hash_ahead hash string_piece string numeric named sign_token token sign point number_ahead decimals number is_refused is_unsupported meaning expanded properties shorthands keywords widths refusals colours resets single face_number entries first_face family longhand pieces each shorthand value ends_important property_name stated declaration next selector_name type_name compound selector heads piece seek behind_declaration behind_rule declarations rules told_of_document digits
a_semicolon_in_brackets = refl

before_the_end_of_its_rule : behind_declaration true (codes "a:b)}c") ≡ Some (codes "}c")
unfolding strip starts one_of run_of skip until up_to after joined turns repeat many strip_either_case white spaces comment gap name_ahead name hash_ahead hash string_piece string numeric named sign_token token sign point number_ahead decimals number is_refused is_unsupported meaning expanded properties shorthands keywords widths refusals colours resets single face_number entries first_face family longhand pieces each shorthand value ends_important property_name stated declaration next selector_name type_name compound selector heads piece seek behind_declaration behind_rule declarations rules told_of_document digits
before_the_end_of_its_rule = refl

an_at_rule_ends_at_its_block : behind_declaration true (codes "@a (;) {;} b:c;d") ≡ Some (codes " b:c;d")
unfolding strip starts one_of run_of skip until up_to after joined turns repeat many strip_either_case white spaces comment gap name_ahead name hash_ahead hash string_piece string numeric named sign_token token sign point number_ahead decimals number is_refused is_unsupported meaning expanded properties shorthands keywords widths refusals colours resets single face_number entries first_face family longhand pieces each shorthand value ends_important property_name stated declaration next selector_name type_name compound selector heads piece seek behind_declaration behind_rule declarations rules told_of_document digits
an_at_rule_ends_at_its_block = refl

an_at_rule_before_the_end_of_its_rule : behind_declaration true (codes "@a}c") ≡ Some (codes "}c")
unfolding strip starts one_of run_of skip until up_to after joined turns repeat many strip_either_case white spaces comment gap name_ahead name hash_ahead hash string_piece string numeric named sign_token token sign point number_ahead decimals number is_refused is_unsupported meaning expanded properties shorthands keywords widths refusals colours resets single face_number entries first_face family longhand pieces each shorthand value ends_important property_name stated declaration next selector_name type_name compound selector heads piece seek behind_declaration behind_rule declarations rules told_of_document digits
an_at_rule_before_the_end_of_its_rule = refl

past_a_block_end_in_an_attribute : behind_declaration false (codes "a}b;c") ≡ Some (codes "c")
unfolding strip starts one_of run_of skip until up_to after joined turns repeat many strip_either_case white spaces comment gap name_ahead name hash_ahead hash string_piece string numeric named sign_token token sign point number_ahead decimals number is_refused is_unsupported meaning expanded properties shorthands keywords widths refusals colours resets single face_number entries first_face family longhand pieces each shorthand value ends_important property_name stated declaration next selector_name type_name compound selector heads piece seek behind_declaration behind_rule declarations rules told_of_document digits
past_a_block_end_in_an_attribute = refl

a_semicolon_in_a_string_or_a_comment : behind_declaration true (codes "\";\" /*;*/ x;y") ≡ Some (codes "y")
unfolding strip starts one_of run_of skip until up_to after joined turns repeat many strip_either_case white spaces comment gap name_ahead name hash_ahead hash string_piece string numeric named sign_token token sign point number_ahead decimals number is_refused is_unsupported meaning expanded properties shorthands keywords widths refusals colours resets single face_number entries first_face family longhand pieces each shorthand value ends_important property_name stated declaration next selector_name type_name compound selector heads piece seek behind_declaration behind_rule declarations rules told_of_document digits
a_semicolon_in_a_string_or_a_comment = refl

an_open_string_goes_to_the_end_of_its_line : behind_declaration true (codes "a:\"x;\\\";y\n;b:c") ≡ Some (codes "b:c")
unfolding strip starts one_of run_of skip until up_to after joined turns repeat many strip_either_case white spaces comment gap name_ahead name hash_ahead hash string_piece string numeric named sign_token token sign point number_ahead decimals number is_refused is_unsupported meaning expanded properties shorthands keywords widths refusals colours resets single face_number entries first_face family longhand pieces each shorthand value ends_important property_name stated declaration next selector_name type_name compound selector heads piece seek behind_declaration behind_rule declarations rules told_of_document digits
an_open_string_goes_to_the_end_of_its_line = refl

an_open_string_goes_to_the_end : behind_declaration true (codes "a:\"x;}") ≡ None
unfolding strip starts one_of run_of skip until up_to after joined turns repeat many strip_either_case white spaces comment gap name_ahead name hash_ahead hash string_piece string numeric named sign_token token sign point number_ahead decimals number is_refused is_unsupported meaning expanded properties shorthands keywords widths refusals colours resets single face_number entries first_face family longhand pieces each shorthand value ends_important property_name stated declaration next selector_name type_name compound selector heads piece seek behind_declaration behind_rule declarations rules told_of_document digits
an_open_string_goes_to_the_end = refl

a_comment_is_open_in_a_declaration : behind_declaration true (codes "a /* ;b") ≡ None
unfolding strip starts one_of run_of skip until up_to after joined turns repeat many strip_either_case white spaces comment gap name_ahead name hash_ahead hash string_piece string numeric named sign_token token sign point number_ahead decimals number is_refused is_unsupported meaning expanded properties shorthands keywords widths refusals colours resets single face_number entries first_face family longhand pieces each shorthand value ends_important property_name stated declaration next selector_name type_name compound selector heads piece seek behind_declaration behind_rule declarations rules told_of_document digits
a_comment_is_open_in_a_declaration = refl

a_rule_in_a_rule : behind_rule (codes "@media print { p { x:y } } q {}") ≡ Some (codes " q {}")
unfolding strip starts one_of run_of skip until up_to after joined turns repeat many strip_either_case white spaces comment gap name_ahead name hash_ahead hash string_piece string numeric named sign_token token sign point number_ahead decimals number is_refused is_unsupported meaning expanded properties shorthands keywords widths refusals colours resets single face_number entries first_face family longhand pieces each shorthand value ends_important property_name stated declaration next selector_name type_name compound selector heads piece seek behind_declaration behind_rule declarations rules told_of_document digits
a_rule_in_a_rule = refl

an_at_rule_without_a_block : behind_rule (codes "@import \"a;b\"; p {}") ≡ Some (codes " p {}")
unfolding strip starts one_of run_of skip until up_to after joined turns repeat many strip_either_case white spaces comment gap name_ahead name hash_ahead hash string_piece string numeric named sign_token token sign point number_ahead decimals number is_refused is_unsupported meaning expanded properties shorthands keywords widths refusals colours resets single face_number entries first_face family longhand pieces each shorthand value ends_important property_name stated declaration next selector_name type_name compound selector heads piece seek behind_declaration behind_rule declarations rules told_of_document digits
an_at_rule_without_a_block = refl

a_semicolon_before_a_block : behind_rule (codes "p:hover; q { } r") ≡ Some (codes " r")
unfolding strip starts one_of run_of skip until up_to after joined turns repeat many strip_either_case white spaces comment gap name_ahead name hash_ahead hash string_piece string numeric named sign_token token sign point number_ahead decimals number is_refused is_unsupported meaning expanded properties shorthands keywords widths refusals colours resets single face_number entries first_face family longhand pieces each shorthand value ends_important property_name stated declaration next selector_name type_name compound selector heads piece seek behind_declaration behind_rule declarations rules told_of_document digits
a_semicolon_before_a_block = refl

kept_and_dropped : flat_map line (with_sheet [] (record { text = codes "p { color: red; width: 10px; margin: 1 2 }"; place = 19 })) ≡ codes "UnknownName 23 color\nKept 35 width\nInvalidValue 48 margin\n"
unfolding strip starts one_of run_of skip until up_to after joined turns repeat many strip_either_case white spaces comment gap name_ahead name hash_ahead hash string_piece string numeric named sign_token token sign point number_ahead decimals number is_refused is_unsupported meaning expanded properties shorthands keywords widths refusals colours resets single face_number entries first_face family longhand pieces each shorthand value ends_important property_name stated declaration next selector_name type_name compound selector heads piece seek behind_declaration behind_rule declarations rules told_of_document digits
kept_and_dropped = refl

behind_a_selector : flat_map line (with_sheet [] (record { text = codes "p:hover { height: 3px } b { float: left; ; height: 5em }"; place = 19 })) ≡ codes "refused Unsupported 20\nUnsupported 47 float\nKept 62 height\n"
unfolding strip starts one_of run_of skip until up_to after joined turns repeat many strip_either_case white spaces comment gap name_ahead name hash_ahead hash string_piece string numeric named sign_token token sign point number_ahead decimals number is_refused is_unsupported meaning expanded properties shorthands keywords widths refusals colours resets single face_number entries first_face family longhand pieces each shorthand value ends_important property_name stated declaration next selector_name type_name compound selector heads piece seek behind_declaration behind_rule declarations rules told_of_document digits kind_word
behind_a_selector = refl

an_at_rule_in_a_rule : flat_map line (with_sheet [] (record { text = codes "p { @x y;width: 0 } q"; place = 19 })) ≡ codes "refused Unsupported 23\nKept 28 width\nrefused CssSyntax 40\n"
unfolding strip starts one_of run_of skip until up_to after joined turns repeat many strip_either_case white spaces comment gap name_ahead name hash_ahead hash string_piece string numeric named sign_token token sign point number_ahead decimals number is_refused is_unsupported meaning expanded properties shorthands keywords widths refusals colours resets single face_number entries first_face family longhand pieces each shorthand value ends_important property_name stated declaration next selector_name type_name compound selector heads piece seek behind_declaration behind_rule declarations rules told_of_document digits kind_word
an_at_rule_in_a_rule = refl

behind_the_block_of_an_at_rule : flat_map line (with_sheet [] (record { text = codes "a{@x{} height:1px; width:2px}"; place = 19 })) ≡ codes "refused Unsupported 21\nKept 26 height\nKept 38 width\n"
unfolding strip starts one_of run_of skip until up_to after joined turns repeat many strip_either_case white spaces comment gap name_ahead name hash_ahead hash string_piece string numeric named sign_token token sign point number_ahead decimals number is_refused is_unsupported meaning expanded properties shorthands keywords widths refusals colours resets single face_number entries first_face family longhand pieces each shorthand value ends_important property_name stated declaration next selector_name type_name compound selector heads piece seek behind_declaration behind_rule declarations rules told_of_document digits kind_word
behind_the_block_of_an_at_rule = refl

a_comment_is_open : flat_map line (with_sheet [] (record { text = codes "p { width: 0 } /* x"; place = 19 })) ≡ codes "Kept 23 width\nrefused CssSyntax 38\n"
unfolding strip starts one_of run_of skip until up_to after joined turns repeat many strip_either_case white spaces comment gap name_ahead name hash_ahead hash string_piece string numeric named sign_token token sign point number_ahead decimals number is_refused is_unsupported meaning expanded properties shorthands keywords widths refusals colours resets single face_number entries first_face family longhand pieces each shorthand value ends_important property_name stated declaration next selector_name type_name compound selector heads piece seek behind_declaration behind_rule declarations rules told_of_document digits kind_word
a_comment_is_open = refl

a_block_is_open : flat_map line (with_sheet [] (record { text = codes "p { height: auto"; place = 19 })) ≡ codes "refused CssSyntax 35\n"
unfolding strip starts one_of run_of skip until up_to after joined turns repeat many strip_either_case white spaces comment gap name_ahead name hash_ahead hash string_piece string numeric named sign_token token sign point number_ahead decimals number is_refused is_unsupported meaning expanded properties shorthands keywords widths refusals colours resets single face_number entries first_face family longhand pieces each shorthand value ends_important property_name stated declaration next selector_name type_name compound selector heads piece seek behind_declaration behind_rule declarations rules told_of_document digits kind_word
a_block_is_open = refl

a_declaration_stops : flat_map line (with_sheet [] (record { text = codes "p { width ) 1px; a:b} i {}"; place = 19 })) ≡ codes "refused CssSyntax 29\nUnknownName 36 a\n"
unfolding strip starts one_of run_of skip until up_to after joined turns repeat many strip_either_case white spaces comment gap name_ahead name hash_ahead hash string_piece string numeric named sign_token token sign point number_ahead decimals number is_refused is_unsupported meaning expanded properties shorthands keywords widths refusals colours resets single face_number entries first_face family longhand pieces each shorthand value ends_important property_name stated declaration next selector_name type_name compound selector heads piece seek behind_declaration behind_rule declarations rules told_of_document digits kind_word
a_declaration_stops = refl

told_at_its_place : flat_map line (with_attribute [] (record { text = codes "width: 3px; widht: 4px"; place = 15 })) ≡ codes "Kept 15 width\nUnknownName 15 widht\n"
unfolding strip starts one_of run_of skip until up_to after joined turns repeat many strip_either_case white spaces comment gap name_ahead name hash_ahead hash string_piece string numeric named sign_token token sign point number_ahead decimals number is_refused is_unsupported meaning expanded properties shorthands keywords widths refusals colours resets single face_number entries first_face family longhand pieces each shorthand value ends_important property_name stated declaration next selector_name type_name compound selector heads piece seek behind_declaration behind_rule declarations rules told_of_document digits
told_at_its_place = refl

a_refusal_in_an_attribute : flat_map line (with_attribute [] (record { text = codes "height } 2px;height: 2px"; place = 15 })) ≡ codes "refused CssSyntax 15\nKept 15 height\n"
unfolding strip starts one_of run_of skip until up_to after joined turns repeat many strip_either_case white spaces comment gap name_ahead name hash_ahead hash string_piece string numeric named sign_token token sign point number_ahead decimals number is_refused is_unsupported meaning expanded properties shorthands keywords widths refusals colours resets single face_number entries first_face family longhand pieces each shorthand value ends_important property_name stated declaration next selector_name type_name compound selector heads piece seek behind_declaration behind_rule declarations rules told_of_document digits kind_word
a_refusal_in_an_attribute = refl

the_sheets_come_first : flat_map line (told_of_document (record { nodes = record { parent = None; kind = kinds.element tags.P (record { id = None; classes = []; dir = None; style = Some (record { text = codes "a:b"; place = 9 }) }) } ∷ []; sheets = record { text = codes "p{c:d}"; place = 3 } ∷ []; length = 99 })) ≡ codes "UnknownName 5 c\nUnknownName 9 a\n"
unfolding strip starts one_of run_of skip until up_to after joined turns repeat many strip_either_case white spaces comment gap name_ahead name hash_ahead hash string_piece string numeric named sign_token token sign point number_ahead decimals number is_refused is_unsupported meaning expanded properties shorthands keywords widths refusals colours resets single face_number entries first_face family longhand pieces each shorthand value ends_important property_name stated declaration next selector_name type_name compound selector heads piece seek behind_declaration behind_rule declarations rules styling sheets attributes sheet css.declarations told_of_document digits
the_sheets_come_first = refl

too_many_rules_are_told : with_limits (Err (refusal.TooManyRules, 7)) [] ≡ refused refusal.TooManyRules 7 ∷ []
too_many_rules_are_told = refl

too_many_rules_are_told_once : with_limits (Err (refusal.TooManyRules, 7)) (refused refusal.TooManyRules 5 ∷ []) ≡ refused refusal.TooManyRules 5 ∷ []
too_many_rules_are_told_once = refl

another_refusal_of_reading_was_told : with_limits (Err (refusal.CssSyntax, 7)) [] ≡ []
another_refusal_of_reading_was_told = refl
