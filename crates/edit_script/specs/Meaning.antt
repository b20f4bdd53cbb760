-- What a line brings behind its words, and what it is refused for.
use Rattle.std.specs.Prelude.{ℕ, ◌==◌, Bool, true, false, List, Result, Ok, Err}
use Rattle.std.specs.List.{before_first, list_any}
use Rattle.reading.specs.Readers.{ReadOr, follow, mapped}
use Rattle.reading.specs.Stop.{end_of}
use Rattle.css_types.specs.declared.value.Declaration.{Declaration}
use Rattle.css_types.specs.Rule.{Ruling}
use Rattle.html_tokens.specs.declared.error.Refusal.TheVariants.{Syntax}
use Rattle.html_tokens.specs.Error as html_error
use Rattle.html_tokens.specs.Text.{gap}
use Rattle.html_read.specs.Judging as judging
use Rattle.html_read.specs.Reading.{fragment}
use Rattle.html_read.specs.Values.{Node}
use Rattle.css_values.specs.declared.within.Within.TheVariants.{Attribute}
use Rattle.css_values.specs.Declarations.{declarations}
use Rattle.css_values.specs.Error as css_error
use Rattle.css_sheet.specs.Sheet.{empty, sheet}
use Rattle.css_sheet.specs.Styled.{Placed, attributes}
use Rattle.dom_store.specs.Edits.{set_text, set_style, set_class, insert, remove, move_to}
use Rattle.edits.specs.Change.{Change, of_tree, metric, retire, rule, unrule}
use Rattle.edit_script.specs.declared.error.Refusal.{Refusal}
use Rattle.edit_script.specs.declared.error.Refusal.TheVariants as kinds
use Rattle.edit_script.specs.Command.{Command, nothing}
use Rattle.edit_script.specs.Command as commands

-- what a line says
pub data Step : Type 0 where
  show : Step
  edit : (change : Change) → Step
  undo : Step
  redo : Step

-- a value, or what is wrong
abbrev pub Said : Type 0 → Type 0
Said A = Result A Refusal

abbrev pub and_then : {A B : Type 0} → Said A → (A → Said B) → Said B
and_then (Ok x) others = others x
and_then (Err kind) others = Err kind

-- what a reader of documents or of declarations says; its places are left out
abbrev pub by_html : {A : Type 0} → ReadOr html_error.Fault A → Said A
by_html (Ok read) = Ok read.0
by_html (Err fault) = Err (kinds.Html fault.0)

abbrev pub by_css : {A : Type 0} → ReadOr css_error.Fault A → Said A
by_css (Ok read) = Ok read.0
by_css (Err fault) = Err (kinds.Css fault.0)

abbrev pub by_styles : {A : Type 0} → Placed A → Said A
by_styles (Ok x) = Ok x
by_styles (Err refused) = Err (kinds.Css refused.0)

-- ---- the text of a node

abbrev pub is_less : ℕ → Bool
is_less byte = byte == 60

-- letters to the end of a text
unfoldable pub whole_gap : List ℕ → Said (List ℕ)
whole_gap bytes = by_html (follow gap (λ letters. mapped (λ u. letters) (html_error.spelled nothing)) bytes)

abbrev pub unless : {A : Type 0} → Bool → A → Said A
unless true x = Err (kinds.Html Syntax)
unless false x = Ok x

-- the letters of a text in which no `<` stands; what stands before the first one is judged before it
unfoldable pub letters : List ℕ → Said (List ℕ)
letters bytes = and_then (whole_gap (before_first is_less bytes)) (unless (list_any is_less bytes))

-- ---- styles and nodes

-- own declarations; their places are counted from the first byte of this text
unfoldable pub own : List ℕ → Said (List Declaration)
own bytes = by_css (declarations Attribute (end_of 0 bytes) bytes)

-- the nodes of a fragment, and each one's own declarations
unfoldable pub new_nodes : List ℕ → Said (List Node × List (List Declaration))
new_nodes bytes = and_then (by_html (fragment bytes)) (λ nodes. and_then (by_styles (attributes nodes)) (λ styles. Ok (nodes, styles)))

-- the rules of a sheet of its own, counted and placed from its first byte
unfoldable pub sheet_rules : List ℕ → Said (List Ruling)
sheet_rules bytes = by_css (mapped (λ s. s.rules) (sheet (end_of 0 bytes) empty) bytes)

-- ---- lines

unfoldable pub meaning : Command → Said Step
meaning (commands.text node rest) = and_then (letters rest) (λ text_. Ok (edit (of_tree (set_text node text_))))
meaning (commands.style node rest) = and_then (own rest) (λ declared. Ok (edit (of_tree (set_style node declared))))
meaning (commands.class node rest) = Ok (edit (of_tree (set_class node (judging.words rest))))
meaning (commands.insert parent index rest) = and_then (new_nodes rest) (λ new. Ok (edit (of_tree (insert parent index new.0 new.1))))
meaning (commands.remove node) = Ok (edit (of_tree (remove node)))
meaning (commands.move node parent index) = Ok (edit (of_tree (move_to node parent index)))
meaning (commands.metric face c upright value) = Ok (edit (metric face c upright value))
meaning (commands.retire face) = Ok (edit (retire face))
meaning (commands.rule rest) = and_then (sheet_rules rest) (λ rules. Ok (edit (rule rules)))
meaning (commands.unrule index) = Ok (edit (unrule index))
meaning commands.undo = Ok undo
meaning commands.redo = Ok redo
meaning commands.show = Ok show
