-- Some scripts, read by computation.
use Rattle.std.specs.Prelude.{◌≡◌, true, false, [], ◌∷◌, codes, Some, Ok, Err, refl}
use Rattle.reading.specs.Readers.{strip, strip_either_case, starts, one_of, run_of, skip, until, up_to, after, joined, turns, repeat, many, one_word, word_from}
use Rattle.reading.specs.Decimals.{number, more_digits}
use Rattle.reading.specs.White.{white, spaces}
use Rattle.wm_chars.specs.Repertoire.{row_of}
use Rattle.html_tokens.specs.Characters.{in_repertoire}
use Rattle.html_read.specs.Judging as judging
use Rattle.css_types.specs.declared.rule.Joint.TheVariants.{Descendant}
use Rattle.css_tokens.specs.Lexing.{comment, gap, name_ahead}
use Rattle.css_tokens.specs.Lexing as lexing
use Rattle.css_tokens.specs.Numbers.{number_ahead, point, sign}
use Rattle.css_values.specs.Declarations.{property_name, stated, declaration, declarations}
use Rattle.css_values.specs.declared.error.Refusal.TheVariants.{CssSyntax}
use Rattle.css_sheet.specs.Selector.{selector_name, type_name, compound, selector}
use Rattle.css_sheet.specs.Sheet.{heads, sheet}
use Rattle.edit_script.specs.declared.error.Refusal.TheVariants.{Css, ScriptSyntax, TooManyEdits, TooManyShows}
use Rattle.edit_script.specs.Command.{argument, argument_within, arguments, character, command, four_digits, hexadecimal, hexadecimal_digit, insert_arguments, metric_arguments, move_arguments, node_and_rest, orientations, rest, words}
use Rattle.dom_store.specs.Edits.{set_class, move_to, remove}
use Rattle.edits.specs.Change.{metric, of_tree, rule}
use Rattle.edit_script.specs.Meaning.{edit, meaning, sheet_rules, show}
use Rattle.edit_script.specs.Script.{lines_from, script, with_line}

blank_lines_count : script (codes "\n# show\r\nshow") ≡ Ok (record { line = 3; what = show } ∷ [])
unfolding script lines_from with_line command arguments node_and_rest insert_arguments move_arguments argument rest words one_word word_from strip starts after number more_digits one_of meaning
blank_lines_count = refl

one_cr_is_cut : script (codes "show\r\nshow\r") ≡ Ok (record { line = 1; what = show } ∷ record { line = 2; what = show } ∷ [])
unfolding script lines_from with_line command arguments node_and_rest insert_arguments move_arguments argument rest words one_word word_from strip starts after number more_digits one_of meaning
one_cr_is_cut = refl

two_are_not : script (codes "show\nshow\r\r\n") ≡ Err (ScriptSyntax, 5)
unfolding script lines_from with_line command arguments node_and_rest insert_arguments move_arguments argument rest words one_word word_from strip starts after number more_digits one_of meaning
two_are_not = refl

places_count_bytes : script (codes "#\r\n\nfloat 1") ≡ Err (ScriptSyntax, 4)
unfolding script lines_from with_line command arguments node_and_rest insert_arguments move_arguments argument rest words one_word word_from strip starts after number more_digits one_of meaning
places_count_bytes = refl

nodes_move : script (codes "move 0001 02 3\nremove 9999999") ≡ Ok (record { line = 1; what = edit (of_tree (move_to 1 2 3)) } ∷ record { line = 2; what = edit (of_tree (remove 9999999)) } ∷ [])
unfolding script lines_from with_line command arguments node_and_rest insert_arguments move_arguments argument rest words one_word word_from strip starts after number more_digits one_of meaning
nodes_move = refl

eight_digits : script (codes "remove 12345678") ≡ Err (ScriptSyntax, 0)
unfolding script lines_from with_line command arguments node_and_rest insert_arguments move_arguments argument rest words one_word word_from strip starts after number more_digits one_of meaning
eight_digits = refl

two_spaces : script (codes "remove  1") ≡ Err (ScriptSyntax, 0)
unfolding script lines_from with_line command arguments node_and_rest insert_arguments move_arguments argument rest words one_word word_from strip starts after number more_digits one_of meaning
two_spaces = refl

a_space_too_many : script (codes "show ") ≡ Err (ScriptSyntax, 0)
unfolding script lines_from with_line command arguments node_and_rest insert_arguments move_arguments argument rest words one_word word_from strip starts after number more_digits one_of meaning
a_space_too_many = refl

capital_letters : script (codes "Show") ≡ Err (ScriptSyntax, 0)
unfolding script lines_from with_line command arguments node_and_rest insert_arguments move_arguments argument rest words one_word word_from strip starts after number more_digits one_of meaning
capital_letters = refl

the_space_may_be_missing : script (codes "class 3\nclass 4 ") ≡ Ok (record { line = 1; what = edit (of_tree (set_class 3 [])) } ∷ record { line = 2; what = edit (of_tree (set_class 4 [])) } ∷ [])
unfolding script lines_from with_line command arguments node_and_rest insert_arguments move_arguments argument rest words one_word word_from strip starts after number more_digits one_of meaning judging.words
the_space_may_be_missing = refl

words_of_a_class : script (codes "class 3  a\tbc ") ≡ Ok (record { line = 1; what = edit (of_tree (set_class 3 (codes "a" ∷ codes "bc" ∷ []))) } ∷ [])
unfolding script lines_from with_line command arguments node_and_rest insert_arguments move_arguments argument rest words one_word word_from strip starts after number more_digits one_of meaning judging.words
words_of_a_class = refl

edits_end : with_line (record { said = []; lines = 7; edits = 10000; shows = 0 }) (codes "remove 1") ≡ Err TooManyEdits
unfolding script lines_from with_line command arguments node_and_rest insert_arguments move_arguments argument rest words one_word word_from strip starts after number more_digits one_of meaning
edits_end = refl

one_more_edit : with_line (record { said = []; lines = 7; edits = 9999; shows = 0 }) (codes "remove 1") ≡ Ok (record { said = record { line = 8; what = edit (of_tree (remove 1)) } ∷ []; lines = 8; edits = 10000; shows = 0 })
unfolding script lines_from with_line command arguments node_and_rest insert_arguments move_arguments argument rest words one_word word_from strip starts after number more_digits one_of meaning
one_more_edit = refl

shows_are_no_edits : with_line (record { said = []; lines = 7; edits = 10000; shows = 63 }) (codes "show") ≡ Ok (record { said = record { line = 8; what = show } ∷ []; lines = 8; edits = 10000; shows = 64 })
unfolding script lines_from with_line command arguments node_and_rest insert_arguments move_arguments argument rest words one_word word_from strip starts after number more_digits one_of meaning
shows_are_no_edits = refl

shows_end : with_line (record { said = []; lines = 7; edits = 0; shows = 64 }) (codes "show") ≡ Err TooManyShows
unfolding script lines_from with_line command arguments node_and_rest insert_arguments move_arguments argument rest words one_word word_from strip starts after number more_digits one_of meaning
shows_end = refl

words_come_first : with_line (record { said = []; lines = 7; edits = 10000; shows = 64 }) (codes "text 1x") ≡ Err ScriptSyntax
unfolding script lines_from with_line command arguments node_and_rest insert_arguments move_arguments argument rest words one_word word_from strip starts after number more_digits one_of meaning
words_come_first = refl

counts_come_before_the_rest : with_line (record { said = []; lines = 7; edits = 10000; shows = 0 }) (codes "text 1 <") ≡ Err TooManyEdits
unfolding script lines_from with_line command arguments node_and_rest insert_arguments move_arguments argument rest words one_word word_from strip starts after number more_digits one_of meaning
counts_come_before_the_rest = refl

digits_in_either_case : script (codes "metric 7 U+05d0 u 10000\nmetric 0 U+05D0 h 0") ≡ Ok (record { line = 1; what = edit (metric 7 1488 true 10000) } ∷ record { line = 2; what = edit (metric 0 1488 false 0) } ∷ [])
unfolding script lines_from with_line command arguments metric_arguments argument_within argument character hexadecimal four_digits hexadecimal_digit in_repertoire row_of orientations words one_word word_from strip starts after number more_digits one_of meaning
digits_in_either_case = refl

five_digits : script (codes "metric 1 U+00061 h 500") ≡ Ok (record { line = 1; what = edit (metric 1 97 false 500) } ∷ [])
unfolding script lines_from with_line command arguments metric_arguments argument_within argument character hexadecimal four_digits hexadecimal_digit in_repertoire row_of orientations words one_word word_from strip starts after number more_digits one_of meaning
five_digits = refl

six_digits : script (codes "metric 1 U+000061 h 500") ≡ Err (ScriptSyntax, 0)
unfolding script lines_from with_line command arguments metric_arguments argument_within argument character hexadecimal four_digits hexadecimal_digit in_repertoire row_of orientations words one_word word_from strip starts after number more_digits one_of meaning
six_digits = refl

outside_the_repertoire : script (codes "metric 1 U+FFFF h 500") ≡ Err (ScriptSyntax, 0)
unfolding script lines_from with_line command arguments metric_arguments argument_within argument character hexadecimal four_digits hexadecimal_digit in_repertoire row_of orientations words one_word word_from strip starts after number more_digits one_of meaning
outside_the_repertoire = refl

half_of_a_pair : script (codes "metric 1 U+D800 h 500") ≡ Err (ScriptSyntax, 0)
unfolding script lines_from with_line command arguments metric_arguments argument_within argument character hexadecimal four_digits hexadecimal_digit in_repertoire row_of orientations words one_word word_from strip starts after number more_digits one_of meaning
half_of_a_pair = refl

an_advance_past_10000 : script (codes "metric 1 U+0061 h 10001") ≡ Err (ScriptSyntax, 0)
unfolding script lines_from with_line command arguments metric_arguments argument_within argument character hexadecimal four_digits hexadecimal_digit in_repertoire row_of orientations words one_word word_from strip starts after number more_digits one_of meaning
an_advance_past_10000 = refl

face_8 : script (codes "metric 8 U+0061 h 500") ≡ Err (ScriptSyntax, 0)
unfolding script lines_from with_line command arguments metric_arguments argument_within argument character hexadecimal four_digits hexadecimal_digit in_repertoire row_of orientations words one_word word_from strip starts after number more_digits one_of meaning
face_8 = refl

face_0_stays : script (codes "retire 7\nretire 0") ≡ Err (ScriptSyntax, 9)
unfolding script lines_from with_line command arguments metric_arguments argument_within argument character hexadecimal four_digits hexadecimal_digit in_repertoire row_of orientations words one_word word_from strip starts after number more_digits one_of meaning
face_0_stays = refl

unrule_without_a_number : script (codes "unrule") ≡ Err (ScriptSyntax, 0)
unfolding script lines_from with_line command arguments node_and_rest insert_arguments move_arguments argument rest words one_word word_from strip starts after number more_digits one_of meaning
unrule_without_a_number = refl

a_rule_for_each_selector : script (codes "rule p,q{}") ≡ Ok (record { line = 1; what = edit (rule (record { selector = record { joint = Descendant; tag = Some (codes "p"); classes = []; ids = [] } ∷ []; declarations = [] } ∷ record { selector = record { joint = Descendant; tag = Some (codes "q"); classes = []; ids = [] } ∷ []; declarations = [] } ∷ [])) } ∷ [])
unfolding script lines_from with_line command arguments rest words one_word word_from strip strip_either_case starts after one_of run_of skip until up_to joined turns repeat many meaning sheet_rules white spaces comment gap name_ahead number_ahead sign point lexing.name type_name selector_name compound selector heads sheet property_name stated declaration declarations
a_rule_for_each_selector = refl

no_rules : script (codes "rule") ≡ Ok (record { line = 1; what = edit (rule []) } ∷ [])
unfolding script lines_from with_line command arguments rest words one_word word_from strip strip_either_case starts after one_of run_of skip until up_to joined turns repeat many meaning sheet_rules white spaces comment gap name_ahead number_ahead sign point lexing.name type_name selector_name compound selector heads sheet property_name stated declaration declarations
no_rules = refl

a_sheet_without_its_block : script (codes "show\nrule p") ≡ Err (Css CssSyntax, 5)
unfolding script lines_from with_line command arguments rest words one_word word_from strip strip_either_case starts after one_of run_of skip until up_to joined turns repeat many meaning sheet_rules white spaces comment gap name_ahead number_ahead sign point lexing.name type_name selector_name compound selector heads sheet property_name stated declaration declarations
a_sheet_without_its_block = refl

rules_are_counted_before_they_are_read : with_line (record { said = []; lines = 7; edits = 10000; shows = 0 }) (codes "rule p") ≡ Err TooManyEdits
unfolding script lines_from with_line command arguments rest words one_word word_from strip strip_either_case starts after one_of run_of skip until up_to joined turns repeat many meaning sheet_rules white spaces comment gap name_ahead number_ahead sign point lexing.name type_name selector_name compound selector heads sheet property_name stated declaration declarations
rules_are_counted_before_they_are_read = refl
