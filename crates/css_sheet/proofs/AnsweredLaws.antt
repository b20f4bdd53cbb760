-- What `read_sheet` says, of what the reader gives.
use Rattle.std.proofs.Common.{◌≡◌, ℕ, List, [], Result, Ok, Err, sym, ap, subst, ◌∙◌}
use Rattle.std.specs.Prelude.{IfOk, IfErr}
use Rattle.reading.specs.Readers.{ReadOr, give, mapped}
use Rattle.reading.proofs.SpellLaws.{Stopped, at_first, at_second, bind_ok, bind_err, same_answer}
use Rattle.css_values.specs.declared.error.CssError.{CssError}
use Rattle.css_values.specs.declared.error.CssError.TheVariants as errors
use Rattle.reading.specs.Stop.{end_of}
use Rattle.css_values.specs.Error.{Fault, Told}
use Rattle.css_sheet.specs.Answered.{IsTheSheet, IsWholeSheet, RefusesSheet}
use Rattle.css_types.specs.Rule.{Ruling}
use Rattle.css_sheet.specs.Sheet.{Sheet, empty, sheet}
use Rattle.css_sheet.proofs.HeadLaws.{good}
use Rattle.css_sheet.proofs.SheetLaws.{whole_is, whole_is_read}

-- what is read of a text whose first byte is at this place
abbrev read_at : (start : ℕ) → (text : List ℕ) → ReadOr Fault Sheet
read_at start text = sheet (end_of start text) empty text

sheet_found : (start : ℕ) (text rest : List ℕ) (all : Sheet) → read_at start text ≡ good (all, rest) → IsTheSheet start text all.rules
sheet_found start text rest all e = record {
  declared = all.declared;
  is = whole_is (end_of start text) empty all text rest e;
  only = λ other is. ap (λ (z : Sheet). z.rules) (same_answer {E = Fault} other all [] rest (sym (whole_is_read (end_of start text) empty other text is) ∙ e)).0;
}

sheet_refused : (start : ℕ) (text : List ℕ) (fault : Fault) → read_at start text ≡ Err fault → (all : Sheet) → IsWholeSheet start text all → ⊥
sheet_refused start text fault e all is =
    let clash : good (all, []) ≡ Err fault = sym (whole_is_read (end_of start text) empty all text is) ∙ e in
    absurd cc

-- ---- the same by what the call answered

never_there : (x : Sheet × List ℕ) (fault : Fault) → good (x.0.rules, x.1) ≡ Err fault → ⊥
never_there x fault e = absurd cc

refused_by : (start : ℕ) (text : List ℕ) (fault : Fault) → Stopped (read_at start text) (λ (v : Sheet × List ℕ). give v.0.rules v.1) fault → (all : Sheet) → IsWholeSheet start text all → ⊥
refused_by start text fault (at_first e) all is = sheet_refused start text fault e all is
refused_by start text fault (at_second x e h) all is = never_there x fault h

pub told_sheet : {X : Type 0} (view : X → List Ruling) (start : ℕ) (text : List ℕ) (r : Result X CssError) → Told (end_of start text) view r (mapped (λ s. s.rules) (sheet (end_of start text) empty) text)
    → IfOk r (λ x. IsTheSheet start text (view x))
told_sheet view start text (Ok x) t =
    let a = bind_ok (read_at start text) (λ (v : Sheet × List ℕ). give v.0.rules v.1) (view x, t.0) t.1 in
    let same = same_answer {E = Fault} a.0.0.rules (view x) a.0.1 t.0 a.2 in
    subst (λ (l : List Ruling). IsTheSheet start text l) same.0 (sheet_found start text a.0.1 a.0.0 a.1)
told_sheet view start text (Err error) t = tt

pub told_no_sheet : {X : Type 0} (view : X → List Ruling) (start : ℕ) (text : List ℕ) (r : Result X CssError) → Told (end_of start text) view r (mapped (λ s. s.rules) (sheet (end_of start text) empty) text)
    → IfErr r (λ error. RefusesSheet start text error)
told_no_sheet view start text (Ok x) t = tt
told_no_sheet view start text (Err (errors.Refused kind place)) t = refused_by start text (kind, t.0) (bind_err (read_at start text) (λ (v : Sheet × List ℕ). give v.0.rules v.1) (kind, t.0) t.1)
told_no_sheet view start text (Err errors.Memory) t = tt
