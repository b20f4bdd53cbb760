-- What stands behind the words of a line, by the grammar.
use Rattle.std.proofs.Common.{◌≡◌, ℕ, ◌+◌, Bool, true, false, cond, ◌||◌, List, [], ◌∷◌, ◌++◌, length, Option, Some, None, ◌↔◌, Ok, Err, refl, sym, ap, subst, ◌∙◌, arith}
use Rattle.std.specs.Prelude.{⊤, not}
use Rattle.std.specs.List.{before_first, list_any, position_or_len}
use Rattle.std.proofs.lemmas.List.{append-nil, take_all}
use Rattle.reading.specs.Readers.{◌>>=◌, ReadOr, follow, give, mapped}
use Rattle.reading.specs.Stop.{end_of}
use Rattle.reading.proofs.SpellLaws.{bind_ok, same_answer, told_ok}
use Rattle.css_types.specs.declared.value.Declaration.{Declaration}
use Rattle.css_types.specs.Rule.{Ruling}
use Rattle.html_tokens.specs.Error as html_error
use Rattle.html_tokens.specs.Grammar.{IsGap}
use Rattle.html_tokens.specs.Text.{gap}
use Rattle.html_tokens.proofs.TextLaws.{gap_spells}
use Rattle.html_read.specs.Grammar.{IsFragment}
use Rattle.html_read.specs.Reading.{fragment}
use Rattle.html_read.specs.Values.{Kind, Node, TextAt}
use Rattle.html_read.specs.Values as html
use Rattle.css_values.specs.Declarations.{declarations}
use Rattle.css_values.specs.Error as css_error
use Rattle.css_values.specs.Grammar.{AreDeclarations}
use Rattle.css_values.specs.declared.within.Within.TheVariants.{Attribute}
use Rattle.css_values.proofs.AnsweredLaws.{attribute_found}
use Rattle.css_values.proofs.DeclarationLaws.{declarations_spells}
use Rattle.css_sheet.specs.Answered.{AreEach, AreOwn, AreOwnOf, IsWholeSheet}
use Rattle.css_sheet.specs.Grammar.{IsSheet}
use Rattle.css_sheet.specs.Sheet.{Sheet, empty, sheet}
use Rattle.reading.specs.Placed.{SpellsPlaced}
use Rattle.reading.specs.Spelling.{Anything}
use Rattle.css_sheet.specs.Styled.{Placed, at_name, attributes, before_others, moved_to, own_of, own_of_kind}
use Rattle.css_sheet.specs.Styled as styled
use Rattle.edit_script.specs.Command.{Command, nothing}
use Rattle.edit_script.specs.Command as commands
use Rattle.edit_script.specs.Grammar.{IsText, Means}
use Rattle.edit_script.specs.Meaning.{Said, Step, and_then, by_css, by_html, by_styles, is_less, letters, meaning, new_nodes, own, sheet_rules, unless, whole_gap}
use Rattle.dom_store.specs.Edits as edits
use Rattle.edits.specs.Change as changes
use Rattle.edit_script.specs.Meaning as meanings
use Rattle.edit_script.proofs.CommandLaws.{nothing_takes}

abbrev pub there : {A : Type 0} → A → Said A
there x = Ok x

pub then_ok : {A B : Type 0} (r : Said A) (f : A → Said B) (y : B) → and_then r f ≡ there y → (x : A) × (r ≡ there x) × (f x ≡ there y)
then_ok (Ok x) f y e = (x, refl, e)
then_ok (Err kind) f y e = absurd cc

pub same_there : {A : Type 0} (x y : A) → there x ≡ there y → x ≡ y
same_there x y e = cc

abbrev html_ok : {A : Type 0} → A × List ℕ → ReadOr html_error.Fault A
html_ok x = Ok x

abbrev css_ok : {A : Type 0} → A × List ℕ → ReadOr css_error.Fault A
css_ok x = Ok x

by_html_ok : {A : Type 0} (r : ReadOr html_error.Fault A) (x : A) → by_html r ≡ there x → (rest : List ℕ) × (r ≡ html_ok (x, rest))
by_html_ok {A = A} (Ok read) x e = (read.1, ap (λ (z : A). html_ok (z, read.1)) (same_there read.0 x e))
by_html_ok (Err fault) x e = absurd cc

by_css_ok : {A : Type 0} (r : ReadOr css_error.Fault A) (x : A) → by_css r ≡ there x → (rest : List ℕ) × (r ≡ css_ok (x, rest))
by_css_ok {A = A} (Ok read) x e = (read.1, ap (λ (z : A). css_ok (z, read.1)) (same_there read.0 x e))
by_css_ok (Err fault) x e = absurd cc

by_styles_ok : {A : Type 0} (r : Placed A) (x : A) → by_styles r ≡ there x → r ≡ Ok x
by_styles_ok {A = A} (Ok y) x e = ap (λ (z : A). Ok z) (same_there y x e)
by_styles_ok (Err refused) x e = absurd cc

-- ---- text

gap_is : (bytes l : List ℕ) → whole_gap bytes ≡ there l → IsGap bytes l
unfolding whole_gap
gap_is bytes l e =
    let r = by_html_ok (follow gap (λ g. mapped (λ u. g) (html_error.spelled nothing)) bytes) l e in
    let a = bind_ok (gap bytes) (λ (p : List ℕ × List ℕ). mapped (λ u. p.0) (html_error.spelled nothing) p.1) (l, r.0) r.1 in
    let b = bind_ok (html_error.spelled nothing a.0.1) (λ (p : ⊤ × List ℕ). give a.0.0 p.1) (l, r.0) a.2 in
    let n = nothing_takes a.0.1 b.0.1 b.0.0 (told_ok html_error.syntax (nothing a.0.1) b.0 b.1) in
    let same = same_answer {E = html_error.Fault} a.0.0 l b.0.1 r.0 b.2 in
    let t = gap_spells.takes bytes a.0.0 a.0.1 a.1 in
    let whole : bytes ≡ t.0 = t.2 ∙ ap (λ (z : List ℕ). t.0 ++ z) n.0 ∙ append-nil t.0 in
    subst (λ (z : List ℕ). IsGap z l) (sym whole) (subst (λ (z : List ℕ). IsGap t.0 z) same.0 t.1)

gap_again : (bytes l : List ℕ) → IsGap bytes l → whole_gap bytes ≡ there l
unfolding whole_gap
gap_again bytes l is =
    let read : gap bytes ≡ html_ok (l, []) = ap gap (sym (append-nil bytes)) ∙ gap_spells.again bytes l [] is refl in
    ap (λ (r : ReadOr html_error.Fault (List ℕ)). by_html (r >>= λ (p : List ℕ × List ℕ). mapped (λ u. p.0) (html_error.spelled nothing) p.1)) read

none_before_by : (byte : ℕ) (bytes : List ℕ) (t : Bool) → (t || list_any is_less bytes) ≡ false → (list_any is_less bytes ≡ false → position_or_len is_less bytes ≡ length bytes)
    → cond (not t) (1 + position_or_len is_less bytes) 0 ≡ length (byte ∷ bytes)
none_before_by byte bytes true e later = absurd cc
none_before_by byte bytes false e later = omega (arith, later e)

pub none_position : (bytes : List ℕ) → list_any is_less bytes ≡ false → position_or_len is_less bytes ≡ length bytes
none_position [] e = refl
none_position (byte ∷ bytes) e = none_before_by byte bytes (is_less byte) e (none_position bytes)

none_before : (bytes : List ℕ) → list_any is_less bytes ≡ false → before_first is_less bytes ≡ bytes
none_before bytes e = take_all (position_or_len is_less bytes) bytes (omega (arith, none_position bytes e))

unless_ok : {A : Type 0} (t : Bool) (x y : A) → unless t x ≡ there y → (t ≡ false) × (x ≡ y)
unless_ok true x y e = absurd cc
unless_ok false x y e = (refl, same_there x y e)

text_is : (bytes l : List ℕ) → letters bytes ≡ there l → IsText bytes l
unfolding letters
text_is bytes l e =
    let a = then_ok (whole_gap (before_first is_less bytes)) (unless (list_any is_less bytes)) l e in
    let u = unless_ok (list_any is_less bytes) a.0 l a.2 in
    (subst (λ (z : List ℕ). IsGap z l) (none_before bytes u.0) (gap_is (before_first is_less bytes) l (a.1 ∙ ap (λ (z : List ℕ). there z) u.1)), u.0)

text_again : (bytes l : List ℕ) → IsText bytes l → letters bytes ≡ there l
unfolding letters
text_again bytes l is =
    let read : whole_gap (before_first is_less bytes) ≡ there l = ap whole_gap (none_before bytes is.1) ∙ gap_again bytes l is.0 in
    ap (λ (r : Said (List ℕ)). and_then r (unless (list_any is_less bytes))) read ∙ ap (λ (t : Bool). unless t l) is.1

-- ---- declarations

own_is : (bytes : List ℕ) (all : List Declaration) → own bytes ≡ there all → AreDeclarations Attribute (end_of 0 bytes) bytes [] all
unfolding own
own_is bytes all e =
    let r = by_css_ok (declarations Attribute (end_of 0 bytes) bytes) all e in
    attribute_found (end_of 0 bytes) bytes r.0 all r.1

own_again : (bytes : List ℕ) (all : List Declaration) → AreDeclarations Attribute (end_of 0 bytes) bytes [] all → own bytes ≡ there all
unfolding own
own_again bytes all are =
    let read : declarations Attribute (end_of 0 bytes) bytes ≡ css_ok (all, []) =
    ap (declarations Attribute (end_of 0 bytes)) (sym (append-nil bytes)) ∙ (declarations_spells Attribute (end_of 0 bytes)).again bytes all [] are tt in
    ap by_css read

-- ---- rules

-- sheets are read as they are spelled
abbrev pub SheetsAre : Type 0
SheetsAre = (end_ : ℕ) (s : Sheet) → SpellsPlaced (sheet end_ s) (IsSheet end_ s) Anything

whole_is : SheetsAre → (bytes rest : List ℕ) (all : Sheet) → sheet (end_of 0 bytes) empty bytes ≡ css_ok (all, rest) → IsWholeSheet 0 bytes all
whole_is sheets_are bytes rest all e =
    let t = (sheets_are (end_of 0 bytes) empty).takes bytes all rest e in
    let none : rest ≡ [] = t.1.ends in
    let whole : bytes ≡ t.0 = t.2 ∙ ap (λ (l : List ℕ). t.0 ++ l) none ∙ append-nil t.0 in
    let end_ = end_of 0 bytes in
    subst (λ (text : List ℕ). IsSheet end_ empty text [] all) (sym whole) (subst (λ (behind : List ℕ). IsSheet end_ empty t.0 behind all) none t.1)

whole_again : SheetsAre → (bytes : List ℕ) (all : Sheet) → IsWholeSheet 0 bytes all → sheet (end_of 0 bytes) empty bytes ≡ css_ok (all, [])
whole_again sheets_are bytes all is = ap (sheet (end_of 0 bytes) empty) (sym (append-nil bytes)) ∙ (sheets_are (end_of 0 bytes) empty).again bytes all [] is tt

-- the rules of a whole sheet
abbrev AreRulesOf : List ℕ → List Ruling → Type 0
AreRulesOf bytes rules = (all : Sheet) × IsWholeSheet 0 bytes all × (rules ≡ all.rules)

sheet_is : SheetsAre → (bytes : List ℕ) (rules : List Ruling) → sheet_rules bytes ≡ there rules → AreRulesOf bytes rules
unfolding sheet_rules
sheet_is sheets_are bytes rules e =
    let r = by_css_ok (mapped (λ s. s.rules) (sheet (end_of 0 bytes) empty) bytes) rules e in
    let a = bind_ok (sheet (end_of 0 bytes) empty bytes) (λ (p : Sheet × List ℕ). give p.0.rules p.1) (rules, r.0) r.1 in
    let same = same_answer {E = css_error.Fault} a.0.0.rules rules a.0.1 r.0 a.2 in
    (a.0.0, whole_is sheets_are bytes a.0.1 a.0.0 a.1, sym same.0)

sheet_again : SheetsAre → (bytes : List ℕ) (all : Sheet) → IsWholeSheet 0 bytes all → sheet_rules bytes ≡ there all.rules
unfolding sheet_rules
sheet_again sheets_are bytes all is =
    ap (λ (r : ReadOr css_error.Fault Sheet). by_css (r >>= λ (p : Sheet × List ℕ). give p.0.rules p.1)) (whole_again sheets_are bytes all is)

-- ---- nodes with their styles

abbrev placed : {A : Type 0} → A → Placed A
placed x = Ok x

-- the value of a step that isn't refused
styled_ok : {A B : Type 0} (r : Placed A) (f : A → Placed B) (y : B) → styled.and_then r f ≡ placed y → (x : A) × (r ≡ placed x) × (f x ≡ placed y)
styled_ok (Ok x) f y e = (x, refl, e)
styled_ok (Err refused) f y e = absurd cc

at_name_ok : (place : ℕ) (r : ReadOr css_error.Fault (List Declaration)) (mine : List Declaration) → at_name place r ≡ placed mine
    → (read : List Declaration × List ℕ) × (r ≡ Ok read) × (mine ≡ moved_to place read.0)
at_name_ok place (Ok read) mine e =
    let same : moved_to place read.0 ≡ mine = cc in
    (read, refl, sym same)
at_name_ok place (Err fault) mine e = absurd cc

own_style : (style : Option TextAt) (mine : List Declaration) → own_of style ≡ placed mine → AreOwn style mine
own_style None mine e = cc
own_style (Some t) mine e =
    let a = at_name_ok t.place (declarations Attribute (end_of t.place t.text) t.text) mine e in
    (a.0.0, attribute_found (end_of t.place t.text) t.text a.0.1 a.0.0 a.1, a.2)

kind_is : (kind : Kind) (mine : List Declaration) → own_of_kind kind ≡ placed mine → AreOwnOf kind mine
kind_is (html.element tag acting) mine e = own_style acting.style mine e
kind_is (html.text letters_) mine e = cc

each_by : (node : Node) (others : List Node) (first : List Declaration) (rest all : List (List Declaration)) → AreOwnOf node.kind first → AreEach others rest
    → placed (first ∷ rest) ≡ placed all → AreEach (node ∷ others) all
each_by node others first rest all is are e =
    let same : first ∷ rest ≡ all = cc in
    subst (λ (l : List (List Declaration)). AreEach (node ∷ others) l) same (is, are)

each_is : (nodes : List Node) (all : List (List Declaration)) → attributes nodes ≡ placed all → AreEach nodes all
unfolding attributes
each_is [] all e = cc
each_is (node ∷ others) all e =
    let a = styled_ok (own_of_kind node.kind) (λ (first : List Declaration). before_others first (attributes others)) all e in
    let b = styled_ok (attributes others) (λ (rest : List (List Declaration)). placed (a.0 ∷ rest)) all a.2 in
    each_by node others a.0 b.0 all (kind_is node.kind a.0 a.1) (each_is others b.0 b.1) b.2

style_again : (style : Option TextAt) (mine : List Declaration) → AreOwn style mine → own_of style ≡ placed mine
style_again None mine none = ap placed (sym none)
style_again (Some t) mine (all, is, moved) =
    let read : declarations Attribute (end_of t.place t.text) t.text ≡ css_ok (all, []) =
    ap (declarations Attribute (end_of t.place t.text)) (sym (append-nil t.text)) ∙ (declarations_spells Attribute (end_of t.place t.text)).again t.text all [] is tt in
    ap (at_name t.place) read ∙ ap placed (sym moved)

kind_again : (kind : Kind) (mine : List Declaration) → AreOwnOf kind mine → own_of_kind kind ≡ placed mine
kind_again (html.element tag acting) mine is = style_again acting.style mine is
kind_again (html.text letters_) mine none = ap placed (sym none)

each_again : (nodes : List Node) (all : List (List Declaration)) → AreEach nodes all → attributes nodes ≡ placed all
unfolding attributes
each_again [] all none = ap placed (sym none)
each_again (node ∷ others) [] is = absurd is
each_again (node ∷ others) (first ∷ all) (is, are) =
    ap (λ (r : Placed (List Declaration)). styled.and_then r (λ mine. before_others mine (attributes others))) (kind_again node.kind first is) ∙ ap (before_others first) (each_again others all are)

-- a text is read as a fragment exactly where it is one
abbrev pub FragmentsAre : Type 0
FragmentsAre = (text : List ℕ) (nodes : List Node) → ((rest : List ℕ) × (fragment text ≡ Ok (nodes, rest))) ↔ IsFragment text nodes

record AreNew (bytes : List ℕ) (new : List Node × List (List Declaration)) : Type 0 where
  fragment : IsFragment bytes new.0
  styles : AreEach new.0 new.1

new_is : FragmentsAre → (bytes : List ℕ) (new : List Node × List (List Declaration)) → new_nodes bytes ≡ there new → AreNew bytes new
unfolding new_nodes
new_is fragments_are bytes new e =
    let a = then_ok (by_html (fragment bytes)) (λ (nodes : List Node). and_then (by_styles (attributes nodes)) (λ styles. there (nodes, styles))) new e in
    let b = then_ok (by_styles (attributes a.0)) (λ (styles : List (List Declaration)). there (a.0, styles)) new a.2 in
    let r = by_html_ok (fragment bytes) a.0 a.1 in
    let same = same_there (a.0, b.0) new b.2 in
    subst (λ (n : List Node × List (List Declaration)). AreNew bytes n) same
    (record { fragment = (fragments_are bytes a.0).0 (r.0, r.1); styles = each_is a.0 b.0 (by_styles_ok (attributes a.0) b.0 b.1) })

new_again : FragmentsAre → (bytes : List ℕ) (nodes : List Node) (own_ : List (List Declaration)) → IsFragment bytes nodes → AreEach nodes own_ → new_nodes bytes ≡ there (nodes, own_)
unfolding new_nodes
new_again fragments_are bytes nodes own_ is are =
    ap (λ (r : ReadOr html_error.Fault (List Node)). and_then (by_html r) (λ n. and_then (by_styles (attributes n)) (λ styles. there (n, styles)))) ((fragments_are bytes nodes).1 is).1
    ∙ ap (λ (r : Placed (List (List Declaration))). and_then (by_styles r) (λ styles. there (nodes, styles))) (each_again nodes own_ are)

-- ---- lines

-- fragments and sheets are read as they are spelled
pub record AreSpelled : Type 0 where
  pub fragments : FragmentsAre
  pub sheets : SheetsAre

pub means : AreSpelled → (c : Command) (what : Step) → meaning c ≡ there what → Means c what
unfolding meaning
means spelled (commands.text node rest) what e =
    let a = then_ok (letters rest) (λ (l : List ℕ). there (meanings.edit (changes.of_tree (edits.set_text node l)))) what e in
    (a.0, text_is rest a.0 a.1, sym (same_there (meanings.edit (changes.of_tree (edits.set_text node a.0))) what a.2))
means spelled (commands.style node rest) what e =
    let a = then_ok (own rest) (λ (d : List Declaration). there (meanings.edit (changes.of_tree (edits.set_style node d)))) what e in
    (a.0, own_is rest a.0 a.1, sym (same_there (meanings.edit (changes.of_tree (edits.set_style node a.0))) what a.2))
means spelled (commands.class node rest) what e = cc
means spelled (commands.insert parent index rest) what e =
    let a = then_ok (new_nodes rest) (λ (new : List Node × List (List Declaration)). there (meanings.edit (changes.of_tree (edits.insert parent index new.0 new.1)))) what e in
    let is = new_is spelled.fragments rest a.0 a.1 in
    (a.0.0, a.0.1, is.fragment, is.styles, sym (same_there (meanings.edit (changes.of_tree (edits.insert parent index a.0.0 a.0.1))) what a.2))
means spelled (commands.remove node) what e = cc
means spelled (commands.move node parent index) what e = cc
means spelled (commands.metric face c upright value) what e = cc
means spelled (commands.retire face) what e = cc
means spelled (commands.rule rest) what e =
    let a = then_ok (sheet_rules rest) (λ (rules : List Ruling). there (meanings.edit (changes.rule rules))) what e in
    let is = sheet_is spelled.sheets rest a.0 a.1 in
    (is.0, is.1, sym (same_there (meanings.edit (changes.rule a.0)) what a.2) ∙ ap (λ (rules : List Ruling). meanings.edit (changes.rule rules)) is.2)
means spelled (commands.unrule index) what e = cc
means spelled commands.undo what e = cc
means spelled commands.redo what e = cc
means spelled commands.show what e = cc

pub means_again : AreSpelled → (c : Command) (what : Step) → Means c what → meaning c ≡ there what
unfolding meaning
means_again spelled (commands.text node rest) what m =
    ap (λ (r : Said (List ℕ)). and_then r (λ l. there (meanings.edit (changes.of_tree (edits.set_text node l))))) (text_again rest m.0 m.1) ∙ ap (λ (s : Step). there s) (sym m.2)
means_again spelled (commands.style node rest) what m =
    ap (λ (r : Said (List Declaration)). and_then r (λ d. there (meanings.edit (changes.of_tree (edits.set_style node d))))) (own_again rest m.0 m.1) ∙ ap (λ (s : Step). there s) (sym m.2)
means_again spelled (commands.class node rest) what m = ap (λ (s : Step). there s) (sym m)
means_again spelled (commands.insert parent index rest) what m =
    ap (λ (r : Said (List Node × List (List Declaration))). and_then r (λ new. there (meanings.edit (changes.of_tree (edits.insert parent index new.0 new.1))))) (new_again spelled.fragments rest m.0 m.1 m.2 m.3)
    ∙ ap (λ (s : Step). there s) (sym m.4)
means_again spelled (commands.remove node) what m = ap (λ (s : Step). there s) (sym m)
means_again spelled (commands.move node parent index) what m = ap (λ (s : Step). there s) (sym m)
means_again spelled (commands.metric face c upright value) what m = ap (λ (s : Step). there s) (sym m)
means_again spelled (commands.retire face) what m = ap (λ (s : Step). there s) (sym m)
means_again spelled (commands.rule rest) what m =
    ap (λ (r : Said (List Ruling)). and_then r (λ rules. there (meanings.edit (changes.rule rules)))) (sheet_again spelled.sheets rest m.0 m.1) ∙ ap (λ (s : Step). there s) (sym m.2)
means_again spelled (commands.unrule index) what m = ap (λ (s : Step). there s) (sym m)
means_again spelled commands.undo what m = ap (λ (s : Step). there s) (sym m)
means_again spelled commands.redo what m = ap (λ (s : Step). there s) (sym m)
means_again spelled commands.show what m = ap (λ (s : Step). there s) (sym m)
