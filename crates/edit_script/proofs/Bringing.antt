-- What the code reads behind the words of a line.
use Rattle.std.proofs.Common.{◌≡◌, ℕ, ◌+◌, ◌<◌, Bool, true, false, cond, ◌||◌, List, [], ◌∷◌, length, Ok, Err, refl, sym, ap, subst, ◌∙◌, arith}
use Rattle.std.specs.Prelude.{Result, not}
use Rattle.std.specs.List.{before_first, list_any, position_or_len}
use Rattle.std.proofs.lemmas.List.{take_all}
use Rattle.css_types.specs.declared.value.Declaration.{Declaration}
use Rattle.css_types.specs.Rule.{Styling}
use Rattle.html_tokens.specs.declared.error.Refusal.TheVariants.{Syntax}
use Rattle.html_tokens.specs.Error as html_error
use Rattle.html_read.specs.Reading.{fragment}
use Rattle.html_read.specs.Values.{Node, TextAt, Whole}
use Rattle.reading.specs.Readers.{ReadOr}
use Rattle.css_values.specs.declared.error.CssError.{CssError}
use Rattle.css_values.specs.declared.error.CssError.TheVariants as errors
use Rattle.css_values.specs.declared.error.Refusal as css_refusal
use Rattle.css_sheet.specs.Styled.{Fails, Placed, attributes, sheets, styling}
use Rattle.css_sheet.specs.Styled as styled
use Rattle.edit_script.specs.declared.error.Refusal.TheVariants as kinds
use Rattle.edit_script.specs.declared.error.Halt.{Halt}
use Rattle.edit_script.specs.declared.error.Halt.TheVariants as halts
use Rattle.edit_script.specs.Error.{Halts, Reads, of_css_error}
use Rattle.edit_script.specs.Meaning.{Said, and_then, by_html, by_styles, is_less, letters, new_nodes, unless, whole_gap}

abbrev there : {A : Type 0} → A → Said A
there x = Ok x

-- ---- text

any_by : (byte : ℕ) (bytes : List ℕ) (t : Bool) → is_less byte ≡ t → (position_or_len is_less bytes < length bytes → list_any is_less bytes ≡ true)
    → cond (not t) (1 + position_or_len is_less bytes) 0 < length (byte ∷ bytes) → (t || list_any is_less bytes) ≡ true
any_by byte bytes true e later lt = refl
any_by byte bytes false e later lt = later (omega (arith, lt))

any_there : (bytes : List ℕ) → position_or_len is_less bytes < length bytes → list_any is_less bytes ≡ true
any_there [] lt = absurd (omega arith)
any_there (byte ∷ bytes) lt = any_by byte bytes (is_less byte) refl (any_there bytes) lt

none_by : (byte : ℕ) (bytes : List ℕ) (t : Bool) → (position_or_len is_less bytes ≡ length bytes → list_any is_less bytes ≡ false)
    → cond (not t) (1 + position_or_len is_less bytes) 0 ≡ length (byte ∷ bytes) → (t || list_any is_less bytes) ≡ false
none_by byte bytes true later e = absurd (omega (arith, e))
none_by byte bytes false later e = later (omega (arith, e))

none_there : (bytes : List ℕ) → position_or_len is_less bytes ≡ length bytes → list_any is_less bytes ≡ false
none_there [] e = refl
none_there (byte ∷ bytes) e = none_by byte bytes (is_less byte) (none_there bytes) e

unless_none : {A : Type 0} (r : Said A) → and_then r (unless false) ≡ r
unless_none (Ok x) = refl
unless_none (Err kind) = refl

letters_whole : (bytes : List ℕ) → position_or_len is_less bytes ≡ length bytes → letters bytes ≡ whole_gap bytes
unfolding letters
letters_whole bytes e =
    ap (λ (t : Bool). and_then (whole_gap (before_first is_less bytes)) (unless t)) (none_there bytes e) ∙ unless_none (whole_gap (before_first is_less bytes))
    ∙ ap whole_gap (take_all (position_or_len is_less bytes) bytes (omega (arith, e)))

pub letters_read : {X : Type 0} (view : X → List ℕ) (r : Result X Halt) (bytes : List ℕ) → position_or_len is_less bytes ≡ length bytes → Reads view r (whole_gap bytes) → Reads view r (letters bytes)
letters_read view r bytes e is = subst (λ (s : Said (List ℕ)). Reads view r s) (sym (letters_whole bytes e)) is

pub letters_refused : (halt : Halt) (bytes before : List ℕ) → before ≡ before_first is_less bytes → Halts halt (whole_gap before) → Halts halt (letters bytes)
unfolding letters
letters_refused (halts.Refused kind) bytes before same is = ap (λ (r : Said (List ℕ)). and_then r (unless (list_any is_less bytes))) (ap whole_gap (sym same) ∙ is)
letters_refused halts.Memory bytes before same is = tt

pub tag_refused : (bytes before l : List ℕ) → position_or_len is_less bytes < length bytes → before ≡ before_first is_less bytes → whole_gap before ≡ there l → letters bytes ≡ Err (kinds.Html Syntax)
unfolding letters
tag_refused bytes before l lt same is =
    ap (λ (r : Said (List ℕ)). and_then r (unless (list_any is_less bytes))) (ap whole_gap (sym same) ∙ is) ∙ ap (λ (t : Bool). unless t l) (any_there bytes lt)

-- ---- nodes with their styles

abbrev alone : List Node → List TextAt → Whole
alone nodes texts = record { nodes = nodes; sheets = texts; length = 0 }

styling_alone : (nodes : List Node) → styling (alone nodes []) ≡ styled.and_then (attributes nodes) (λ own. Ok (record { rules = []; own = own }))
unfolding styling sheets
styling_alone nodes = refl

abbrev styled_there : List (List Declaration) → Placed Styling
styled_there own = Ok (record { rules = []; own = own })

abbrev own_there : List (List Declaration) → Placed (List (List Declaration))
own_there own = Ok own

refused_by : (r : Placed (List (List Declaration))) (refused : css_refusal.Refusal × ℕ) → styled.and_then r (λ own. styled_there own) ≡ Err refused → r ≡ Err refused
refused_by (Ok own) refused e = absurd cc
refused_by (Err other) refused e = cc

read_by : (r : Placed (List (List Declaration))) (s : Styling) → styled.and_then r (λ own. styled_there own) ≡ Ok s → r ≡ Ok s.own
read_by (Ok own) s e =
    let same : record { rules = []; own = own } ≡ s = cc in
    ap (λ (z : Styling). own_there z.own) same
read_by (Err other) s e = absurd cc

styles_by : (bytes rest : List ℕ) (nodes : List Node) (r : Placed (List (List Declaration))) → fragment bytes ≡ Ok (nodes, rest) → attributes nodes ≡ r
    → new_nodes bytes ≡ and_then (by_styles r) (λ styles. Ok (nodes, styles))
unfolding new_nodes
styles_by bytes rest nodes r read e =
    ap (λ (x : ReadOr html_error.Fault (List Node)). and_then (by_html x) (λ n. and_then (by_styles (attributes n)) (λ styles. there (n, styles)))) read
    ∙ ap (λ (x : Placed (List (List Declaration))). and_then (by_styles x) (λ styles. there (nodes, styles))) e

pub styles_refused : (error : CssError) (bytes rest : List ℕ) (nodes : List Node) (texts : List TextAt) → texts ≡ [] → fragment bytes ≡ Ok (nodes, rest) → Fails error (styling (alone nodes texts))
    → Halts (of_css_error error) (new_nodes bytes)
styles_refused (errors.Refused kind place) bytes rest nodes texts none read is =
    styles_by bytes rest nodes (Err (kind, place)) read
    (refused_by (attributes nodes) (kind, place) (sym (styling_alone nodes) ∙ ap (λ (t : List TextAt). styling (alone nodes t)) (sym none) ∙ is))
styles_refused errors.Memory bytes rest nodes texts none read is = tt

pub styles_read : (s : Styling) (bytes rest : List ℕ) (nodes : List Node) (texts : List TextAt) → texts ≡ [] → fragment bytes ≡ Ok (nodes, rest) → styling (alone nodes texts) ≡ Ok s
    → new_nodes bytes ≡ Ok (nodes, s.own)
styles_read s bytes rest nodes texts none read is =
    styles_by bytes rest nodes (Ok s.own) read
    (read_by (attributes nodes) s (sym (styling_alone nodes) ∙ ap (λ (t : List TextAt). styling (alone nodes t)) (sym none) ∙ is))
