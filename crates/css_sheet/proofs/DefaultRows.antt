-- The text of the default sheet, read by computation.
use Rattle.std.proofs.Common.{refl}
use Rattle.reading.specs.Readers.{strip, starts, one_of, run_of, skip, until, up_to, after, joined, turns, repeat, many, strip_either_case}
use Rattle.reading.specs.White.{white, spaces}
use Rattle.css_tokens.specs.Lexing.{comment, gap, name_ahead, name, hash_ahead, hash, string_piece, string, numeric, named, sign_token, token}
use Rattle.css_tokens.specs.Numbers.{sign, point, number_ahead, decimals, number}
use Rattle.css_values.specs.Judging.{is_refused, is_unsupported, meaning, expanded}
use Rattle.css_values.specs.Tables.{properties, shorthands, keywords, widths, refusals, colours, resets}
use Rattle.css_values.specs.Longhand.{single, face_number, entries, first_face, family, longhand}
use Rattle.css_values.specs.Border.{pieces}
use Rattle.css_values.specs.Shorthand.{each, shorthand}
use Rattle.css_values.specs.Value.{value, ends_important}
use Rattle.css_values.specs.Declarations.{property_name, stated, declaration, declarations}
use Rattle.css_sheet.specs.Selector.{selector_name, type_name, compound, selector}
use Rattle.css_sheet.specs.Sheet.{heads, sheet}
use Rattle.css_sheet.specs.Default.{IsDefault, default_rules}

pub default_is : IsDefault
unfolding strip starts one_of run_of skip until up_to after joined turns repeat many comment gap name_ahead name hash_ahead hash string_piece string numeric named sign_token token sign point number_ahead decimals number is_refused is_unsupported meaning expanded properties shorthands keywords widths refusals colours resets single face_number entries first_face family longhand pieces each shorthand value ends_important property_name stated declaration declarations white spaces strip_either_case selector_name type_name compound selector heads sheet default_rules
default_is = refl
