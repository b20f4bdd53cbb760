-- What the public calls say, of what the readers give. `input` and `fragment` are the readers; each lemma speaks of
-- their answer, or of the call's by `Told`.
use Rattle.std.proofs.Common.{◌≡◌, ℕ, List, [], ◌++◌, length, Result, Ok, Err, sym, ap, ◌∙◌}
use Rattle.std.specs.Prelude.{IfOk, IfErr}
use Rattle.std.proofs.lemmas.List.{append_cancel_right}
use Rattle.reading.proofs.SpellLaws.{same_answer}
use Rattle.html_read.specs.declared.error.HtmlError.{HtmlError}
use Rattle.html_read.specs.declared.error.HtmlError.TheVariants as errors
use Rattle.html_tokens.specs.Error.{Fault}
use Rattle.html_read.specs.Error.{Told}
use Rattle.html_read.specs.Reading.{input, fragment}
use Rattle.html_read.specs.Values.{Node, Whole}
use Rattle.html_read.specs.Grammar.{IsDocument, IsFragment}
use Rattle.html_read.specs.Shape.{IsShaped, IsFragmentShaped}
use Rattle.html_read.specs.Answered.{IsTheDocument, HaveNoDocument, RefusesDocument, IsTheFragment, RefusesFragment}
use Rattle.html_tokens.proofs.TextLaws.{good}
use Rattle.html_read.proofs.DocumentLaws.{input_takes, input_again, fragment_takes, fragment_again}
use Rattle.html_read.proofs.ShapeLaws.{document_shaped, fragment_shaped}

-- ---- documents, by `input`

same_document : (bytes text rest other behind : List ℕ) (whole value : Whole) → input bytes ≡ good (whole, rest) → bytes ≡ text ++ rest → IsDocument other behind value → bytes ≡ other ++ behind → (value ≡ whole) × (other ≡ text)
same_document bytes text rest other behind whole value e first is second =
    let read : input bytes ≡ good (value, behind) = ap input second ∙ input_again other behind value is in
    let same = same_answer {E = Fault} value whole behind rest (sym read ∙ e) in
    let parts : other ++ rest ≡ text ++ rest = ap (λ (b : List ℕ). other ++ b) (sym same.1) ∙ sym second ∙ first in
    (same.0, append_cancel_right other text rest parts)

pub document_found : (bytes rest : List ℕ) (whole : Whole) → input bytes ≡ Ok (whole, rest) → IsTheDocument bytes whole
document_found bytes rest whole e =
    let d = input_takes bytes rest whole e in
    record {
      text = d.0;
      rest = rest;
      is = d.1;
      parts = d.2;
      only = λ other behind value is parts. same_document bytes d.0 rest other behind whole value e d.2 is parts;
    }

pub nodes_shaped : (bytes rest : List ℕ) (whole : Whole) → input bytes ≡ Ok (whole, rest) → IsShaped whole.nodes
nodes_shaped bytes rest whole e =
    let d = input_takes bytes rest whole e in
    document_shaped d.0 rest whole d.1

pub document_refused : (bytes : List ℕ) (fault : Fault) → input bytes ≡ Err fault → HaveNoDocument bytes
document_refused bytes fault e text rest whole is parts =
    let read : input bytes ≡ good (whole, rest) = ap input parts ∙ input_again text rest whole is in
    let clash : good (whole, rest) ≡ Err fault = sym read ∙ e in
    absurd cc

-- ---- fragments, by `fragment`

pub fragment_found : (text rest : List ℕ) (nodes : List Node) → fragment text ≡ Ok (nodes, rest) → IsTheFragment text nodes
fragment_found text rest nodes e = record {
  is = fragment_takes text rest nodes e;
  only = λ others is. (same_answer {E = Fault} others nodes [] rest (sym (fragment_again text others is) ∙ e)).0;
}

pub fragment_nodes_shaped : (text rest : List ℕ) (nodes : List Node) → fragment text ≡ Ok (nodes, rest) → IsFragmentShaped nodes
fragment_nodes_shaped text rest nodes e = fragment_shaped text nodes (fragment_takes text rest nodes e)

pub fragment_refused : (text : List ℕ) (fault : Fault) → fragment text ≡ Err fault → (nodes : List Node) → IsFragment text nodes → ⊥
fragment_refused text fault e nodes is =
    let clash : good (nodes, []) ≡ Err fault = sym (fragment_again text nodes is) ∙ e in
    absurd cc

-- ---- the same by what a call answered

pub told_document : {X : Type 0} (view : X → Whole) (bytes : List ℕ) (r : Result X HtmlError) → Told (length bytes) view r (input bytes) → IfOk r (λ x. IsTheDocument bytes (view x))
told_document view bytes (Ok x) t = document_found bytes t.0 (view x) t.1
told_document view bytes (Err error) t = tt

pub told_shape : {X : Type 0} (view : X → Whole) (bytes : List ℕ) (r : Result X HtmlError) → Told (length bytes) view r (input bytes) → IfOk r (λ x. IsShaped (view x).nodes)
told_shape view bytes (Ok x) t = nodes_shaped bytes t.0 (view x) t.1
told_shape view bytes (Err error) t = tt

pub told_no_document : {X : Type 0} (view : X → Whole) (bytes : List ℕ) (r : Result X HtmlError) → Told (length bytes) view r (input bytes) → IfErr r (λ error. RefusesDocument bytes error)
told_no_document view bytes (Ok x) t = tt
told_no_document view bytes (Err (errors.Refused kind place)) t = document_refused bytes (kind, t.0) t.1
told_no_document view bytes (Err errors.Memory) t = tt

pub told_fragment : {X : Type 0} (view : X → List Node) (text : List ℕ) (r : Result X HtmlError) → Told (length text) view r (fragment text) → IfOk r (λ x. IsTheFragment text (view x))
told_fragment view text (Ok x) t = fragment_found text t.0 (view x) t.1
told_fragment view text (Err error) t = tt

pub told_fragment_shape : {X : Type 0} (view : X → List Node) (text : List ℕ) (r : Result X HtmlError) → Told (length text) view r (fragment text) → IfOk r (λ x. IsFragmentShaped (view x))
told_fragment_shape view text (Ok x) t = fragment_nodes_shaped text t.0 (view x) t.1
told_fragment_shape view text (Err error) t = tt

pub told_no_fragment : {X : Type 0} (view : X → List Node) (text : List ℕ) (r : Result X HtmlError) → Told (length text) view r (fragment text) → IfErr r (λ error. RefusesFragment text error)
told_no_fragment view text (Ok x) t = tt
told_no_fragment view text (Err (errors.Refused kind place)) t = fragment_refused text (kind, t.0) t.1
told_no_fragment view text (Err errors.Memory) t = tt

-- ---- both together

pub both_told : {X : Type 0} (view : X → Whole) (bytes : List ℕ) (r : Result X HtmlError) → Told (length bytes) view r (input bytes)
    → IfOk r (λ x. IsTheDocument bytes (view x) × IsShaped (view x).nodes) × IfErr r (λ error. RefusesDocument bytes error)
both_told view bytes (Ok x) t = ((document_found bytes t.0 (view x) t.1, nodes_shaped bytes t.0 (view x) t.1), tt)
both_told view bytes (Err error) t = (tt, told_no_document view bytes (Err error) t)

pub both_fragment : {X : Type 0} (view : X → List Node) (text : List ℕ) (r : Result X HtmlError) → Told (length text) view r (fragment text)
    → IfOk r (λ x. IsTheFragment text (view x) × IsFragmentShaped (view x)) × IfErr r (λ error. RefusesFragment text error)
both_fragment view text (Ok x) t = ((fragment_found text t.0 (view x) t.1, fragment_nodes_shaped text t.0 (view x) t.1), tt)
both_fragment view text (Err error) t = (tt, told_no_fragment view text (Err error) t)
