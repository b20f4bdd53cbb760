-- All the styles of a document, by the grammar.
use Rattle.std.proofs.Common.{◌≡◌, ℕ, suc, List, [], ◌∷◌, length, Ok, Err, refl, sym, ap, subst, ◌∙◌}
use Rattle.std.specs.Prelude.{IfErr, IfOk, Option, Some, None, Result}
use Rattle.std.specs.List.{All}
use Rattle.std.proofs.lemmas.List.{append-nil, length-map}
use Rattle.std.proofs.lemmas.List.Elements.{All-cons, All-map, All-nil}
use Rattle.reading.specs.Readers.{ReadOr}
use Rattle.reading.specs.Stop.{end_of}
use Rattle.css_types.specs.Rule.{Styling, styled_of}
use Rattle.css_types.specs.declared.rule.Styled.{Styled}
use Rattle.css_types.specs.declared.value.Declaration.{Declaration}
use Rattle.html_read.specs.declared.node.ReadDocument.{ReadDocument}
use Rattle.html_read.specs.Values.{Kind, Node, TextAt, Whole, node_of, nodes_of, whole_of}
use Rattle.html_read.specs.Values as html
use Rattle.css_values.specs.Answered.{IsKept}
use Rattle.css_values.specs.Declarations.{declarations}
use Rattle.css_values.specs.Error.{Fault}
use Rattle.css_values.specs.declared.error.CssError.{CssError}
use Rattle.css_values.specs.declared.error.CssError.TheVariants as errors
use Rattle.css_values.specs.declared.error.Refusal.{Refusal}
use Rattle.css_values.specs.declared.within.Within.TheVariants.{Attribute}
use Rattle.css_values.proofs.AnsweredLaws.{attribute_found}
use Rattle.css_values.proofs.DeclarationLaws.{declarations_spells}
use Rattle.css_sheet.specs.Answered.{AreEach, AreOwn, AreOwnOf, AreSheets, AreStyles, AreTheStyles, IsRuled, RefusesStyles}
use Rattle.css_sheet.specs.Sheet.{Sheet, empty, sheet}
use Rattle.css_sheet.specs.Styled.{Placed, Placing, and_then, at_name, attributes, before_others, in_sheet, moved_to, own_of, own_of_kind, sheet_at, sheets, styling}
use Rattle.css_sheet.proofs.HeadLaws.{good}
use Rattle.css_sheet.proofs.Rulings.{AreRuled, sheet_keeps, spelled_are_kept}
use Rattle.css_sheet.proofs.SheetLaws.{whole_is, whole_is_read}

abbrev there : {A : Type 0} → A → Placed A
there x = Ok x

-- the value of a step that isn't refused
then_ok : {A B : Type 0} (r : Placed A) (f : A → Placed B) (y : B) → and_then r f ≡ there y → (x : A) × (r ≡ there x) × (f x ≡ there y)
then_ok (Ok x) f y e = (x, refl, e)
then_ok (Err refused) f y e = absurd cc

-- ---- sheets

in_sheet_ok : (end_ : ℕ) (r : ReadOr Fault Sheet) (all : Sheet) → in_sheet end_ r ≡ there all → (rest : List ℕ) × (r ≡ good (all, rest))
in_sheet_ok end_ (Ok read) all e =
    let same : read.0 ≡ all = cc in
    (read.1, ap (λ (z : Sheet). good (z, read.1)) same)
in_sheet_ok end_ (Err fault) all e = absurd cc

sheets_are : (texts : List TextAt) (s all : Sheet) → sheets texts s ≡ there all → AreSheets texts s all
unfolding sheets
sheets_are [] s all e = cc
sheets_are (t ∷ others) s all e =
    let a = then_ok (sheet_at t s) (sheets others) all e in
    let r = in_sheet_ok (end_of t.place t.text) (sheet (end_of t.place t.text) s t.text) a.0 a.1 in
    (a.0, whole_is (end_of t.place t.text) s a.0 t.text r.0 r.1, sheets_are others a.0 all a.2)

-- ---- own declarations

at_name_ok : (place : ℕ) (r : ReadOr Fault (List Declaration)) (own : List Declaration) → at_name place r ≡ there own → (read : List Declaration × List ℕ) × (r ≡ Ok read) × (own ≡ moved_to place read.0)
at_name_ok place (Ok read) own e =
    let same : moved_to place read.0 ≡ own = cc in
    (read, refl, sym same)
at_name_ok place (Err fault) own e = absurd cc

own_is : (style : Option TextAt) (own : List Declaration) → own_of style ≡ there own → AreOwn style own
own_is None own e = cc
own_is (Some t) own e =
    let a = at_name_ok t.place (declarations Attribute (end_of t.place t.text) t.text) own e in
    (a.0.0, attribute_found (end_of t.place t.text) t.text a.0.1 a.0.0 a.1, a.2)

kind_is : (kind : Kind) (own : List Declaration) → own_of_kind kind ≡ there own → AreOwnOf kind own
kind_is (html.element tag acting) own e = own_is acting.style own e
kind_is (html.text letters) own e = cc

each_by : (node : Node) (others : List Node) (first : List Declaration) (rest own : List (List Declaration)) → AreOwnOf node.kind first → AreEach others rest → there (first ∷ rest) ≡ there own → AreEach (node ∷ others) own
each_by node others first rest own is are e =
    let same : first ∷ rest ≡ own = cc in
    subst (λ (l : List (List Declaration)). AreEach (node ∷ others) l) same (is, are)

each_is : (nodes : List Node) (own : List (List Declaration)) → attributes nodes ≡ there own → AreEach nodes own
unfolding attributes
each_is [] own e = cc
each_is (node ∷ others) own e =
    let a = then_ok (own_of_kind node.kind) (λ (first : List Declaration). before_others first (attributes others)) own e in
    let b = then_ok (attributes others) (λ (rest : List (List Declaration)). there (a.0 ∷ rest)) own a.2 in
    each_by node others a.0 b.0 own (kind_is node.kind a.0 a.1) (each_is others b.0 b.1) b.2

-- ---- a whole document

abbrev styling_of : Sheet → List (List Declaration) → Styling
styling_of s own = record { rules = s.rules; own = own }

styles_by : (read : Whole) (s : Sheet) (own : List (List Declaration)) (out : Styling) → AreSheets read.sheets empty s → AreEach read.nodes own → there (styling_of s own) ≡ there out → AreStyles read out
styles_by read s own out are each e =
    let same : styling_of s own ≡ out = cc in
    subst (λ (z : Styling). AreStyles read z) same (record { declared = s.declared; are_sheets = are; are_own = each })

styles_are : (read : Whole) (out : Styling) → styling read ≡ there out → AreStyles read out
unfolding styling
styles_are read out e =
    let a = then_ok (sheets read.sheets empty) (λ (s : Sheet). and_then (attributes read.nodes) (λ own. there (styling_of s own))) out e in
    let b = then_ok (attributes read.nodes) (λ (own : List (List Declaration)). there (styling_of a.0 own)) out a.2 in
    styles_by read a.0 b.0 out (sheets_are read.sheets empty a.0 a.1) (each_is read.nodes b.0 b.1) b.2

-- ---- the other way round: what stands in the grammar is read

sheets_again : (texts : List TextAt) (s all : Sheet) → AreSheets texts s all → sheets texts s ≡ there all
unfolding sheets
sheets_again [] s all same = ap there (sym same)
sheets_again (t ∷ others) s all (next, is, are) =
    ap (λ (r : ReadOr Fault Sheet). and_then (in_sheet (end_of t.place t.text) r) (sheets others)) (whole_is_read (end_of t.place t.text) s next t.text is) ∙ sheets_again others next all are

own_again : (style : Option TextAt) (own : List Declaration) → AreOwn style own → own_of style ≡ there own
own_again None own none = ap there (sym none)
own_again (Some t) own (all, is, moved) =
    let read : declarations Attribute (end_of t.place t.text) t.text ≡ good (all, []) =
    ap (declarations Attribute (end_of t.place t.text)) (sym (append-nil t.text)) ∙ (declarations_spells Attribute (end_of t.place t.text)).again t.text all [] is tt in
    ap (at_name t.place) read ∙ ap there (sym moved)

kind_again : (kind : Kind) (own : List Declaration) → AreOwnOf kind own → own_of_kind kind ≡ there own
kind_again (html.element tag acting) own is = own_again acting.style own is
kind_again (html.text letters) own none = ap there (sym none)

each_again : (nodes : List Node) (own : List (List Declaration)) → AreEach nodes own → attributes nodes ≡ there own
unfolding attributes
each_again [] own none = ap there (sym none)
each_again (node ∷ others) [] is = absurd is
each_again (node ∷ others) (first ∷ own) (is, are) =
    ap (λ (r : Placed (List Declaration)). and_then r (λ mine. before_others mine (attributes others))) (kind_again node.kind first is) ∙ ap (before_others first) (each_again others own are)

styles_again : (read : Whole) (out : Styling) → AreStyles read out → styling read ≡ there out
unfolding styling
styles_again read out is =
    ap (λ (r : Placed Sheet). and_then r (λ s. and_then (attributes read.nodes) (λ own. there (styling_of s own)))) (sheets_again read.sheets empty (record { rules = out.rules; declared = is.declared }) is.are_sheets)
    ∙ ap (λ (r : Placed (List (List Declaration))). and_then r (λ own. there (styling_of (record { rules = out.rules; declared = is.declared }) own))) (each_again read.nodes out.own is.are_own)

same_styling : (one other : Styling) → there one ≡ there other → one ≡ other
same_styling one other e = cc

-- ---- what a call gave

pub placing_styles : {X : Type 0} (view : X → Styling) (read : Whole) (r : Result X CssError) → Placing view r (styling read) → IfOk r (λ x. AreTheStyles read (view x))
placing_styles view read (Ok x) e = record {
  are = styles_are read (view x) e;
  only = λ other is. same_styling other (view x) (sym (styles_again read other is) ∙ e);
}
placing_styles view read (Err error) e = tt

never_styles : (out : Styling) (refused : Refusal × ℕ) → there out ≡ Err refused → ⊥
never_styles out refused e = absurd cc

pub placing_none : {X : Type 0} (view : X → Styling) (read : Whole) (r : Result X CssError) → Placing view r (styling read) → IfErr r (λ error. RefusesStyles read error)
placing_none view read (Ok x) e = tt
placing_none view read (Err (errors.Refused kind place)) e = λ s is. never_styles s (kind, place) (sym (styles_again read s is) ∙ e)
placing_none view read (Err errors.Memory) e = tt

-- ---- what it means for the rules and the lists

sheets_keep : (texts : List TextAt) (s all : Sheet) → AreSheets texts s all → AreRuled s.rules → AreRuled all.rules
sheets_keep [] s all same ruled = subst (λ (z : Sheet). AreRuled z.rules) (sym same) ruled
sheets_keep (t ∷ others) s all (next, is, are) ruled = sheets_keep others next all are (sheet_keeps (end_of t.place t.text) s t.text [] next is ruled)

abbrev AreKept : List Declaration → Type 0
AreKept own = All IsKept own

own_kept : (style : Option TextAt) (own : List Declaration) → AreOwn style own → AreKept own
own_kept None own none = subst AreKept (sym none) (All-nil IsKept)
own_kept (Some t) own (all, is, moved) =
    subst AreKept (sym moved)
    (All-map IsKept (λ (d : Declaration). record { property = d.property; value = d.value; important = d.important; place = t.place }) all (spelled_are_kept Attribute (end_of t.place t.text) t.text [] all is))

kind_kept : (kind : Kind) (own : List Declaration) → AreOwnOf kind own → AreKept own
kind_kept (html.element tag acting) own is = own_kept acting.style own is
kind_kept (html.text letters) own none = subst AreKept (sym none) (All-nil IsKept)

each_kept : (nodes : List Node) (own : List (List Declaration)) → AreEach nodes own → All AreKept own
each_kept [] own none = subst (λ (l : List (List Declaration)). All AreKept l) (sym none) (All-nil AreKept)
each_kept (node ∷ others) [] is = absurd is
each_kept (node ∷ others) (first ∷ own) is = All-cons AreKept first own (kind_kept node.kind first is.0) (each_kept others own is.1)

each_counted : (nodes : List Node) (own : List (List Declaration)) → AreEach nodes own → length own ≡ length nodes
each_counted [] own none = ap (λ (l : List (List Declaration)). length l) none
each_counted (node ∷ others) [] is = absurd is
each_counted (node ∷ others) (first ∷ own) is = ap suc (each_counted others own is.1)

pub placing_ruled : {X : Type 0} (view : X → Styling) (read : Whole) (r : Result X CssError) → Placing view r (styling read) → IfOk r (λ x. AreRuled (view x).rules)
placing_ruled view read (Ok x) e =
    let are = styles_are read (view x) e in
    sheets_keep read.sheets empty _ are.are_sheets (All-nil IsRuled)
placing_ruled view read (Err error) e = tt

pub placing_kept : {X : Type 0} (view : X → Styling) (read : Whole) (r : Result X CssError) → Placing view r (styling read) → IfOk r (λ x. All (λ own. All IsKept own) (view x).own)
placing_kept view read (Ok x) e = each_kept read.nodes (view x).own (styles_are read (view x) e).are_own
placing_kept view read (Err error) e = tt

-- ---- with the code's lists

pub placing_counted : (d : ReadDocument) (r : Result Styled CssError) → Placing styled_of r (styling (whole_of d)) → IfOk r (λ s. length s.styles.items ≡ length d.nodes.items)
placing_counted d (Ok s) e =
    sym (length-map s.styles.items (λ own. own.items)) ∙ each_counted (nodes_of d.nodes.items) (styled_of s).own (styles_are (whole_of d) (styled_of s) e).are_own ∙ length-map d.nodes.items node_of
placing_counted d (Err error) e = tt
