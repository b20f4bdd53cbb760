-- Where a document ends in the bytes: behind the last `>`, so what follows is a text of its own. And what else a call
-- says of what it read.
use Rattle.std.proofs.Common.{◌≡◌, sym, ap, subst, ◌∙◌, arith, ℕ, ◌+◌, ◌≤◌, List, [], ◌∷◌, ◌++◌, append_assoc, length, length-append, drop, get_or, Ok, Err, IfOk}
use Rattle.std.proofs.Math.Seq.{get_or-append_seam}
use Rattle.std.specs.Prelude.{codes, Result, ⊤}
use Rattle.std.specs.Str.{IsUtf8, IsCharBoundary}
use Rattle.std.proofs.lemmas.Str.{IsUtf8-drop, IsCharBoundary-after_ascii}
use Rattle.html_tokens.specs.Grammar.{IsEndOf}
use Rattle.html_read.specs.declared.error.HtmlError.{HtmlError}
use Rattle.html_read.specs.Error.{Told}
use Rattle.html_read.specs.Values.{Node, TextAt, Whole}
use Rattle.html_read.specs.Grammar.{IsHtml, IsDocument}
use Rattle.html_read.specs.Answered.{IsTheDocument}
use Rattle.html_read.specs.Reading.{input, fragment}
use Rattle.html_read.specs.Shape.{AreTexts, IsInDocumentOrder, text_bytes}
use Rattle.html_read.proofs.AnsweredLaws.{document_found}
use Rattle.html_read.proofs.NodesLaws.{document_nodes}
use Rattle.html_read.proofs.OrderLaws.{nodes_in_order, fragment_in_order}
use Rattle.html_read.proofs.TextNodes.{document_texts, document_bytes, fragment_texts, fragment_bytes}
use Rattle.html_read.proofs.DocumentLaws.{fragment_takes}

-- a text that ends with `>`
abbrev IsClosed : List ℕ → Type 0
IsClosed text = (front : List ℕ) × (text ≡ front ++ codes ">")

closed_behind : (text front back : List ℕ) → text ≡ front ++ back → IsClosed back → IsClosed text
closed_behind text front back e c = (front ++ c.0, e ∙ ap (λ (s : List ℕ). front ++ s) c.1 ∙ sym (append_assoc front c.0 (codes ">")))

end_closed : (word text : List ℕ) (x : ⊤) → IsEndOf word text x → IsClosed text
end_closed word text x is =
    closed_behind text is.1 is.2 is.5
    (closed_behind is.2 is.4.1 is.4.2 is.4.5
    (closed_behind is.4.2 is.4.4.1 is.4.4.2 is.4.4.5 ([], is.4.4.4)))

html_closed : (size : ℕ) (text behind : List ℕ) (x : List Node × List TextAt) → IsHtml size text behind x → IsClosed text
html_closed size text behind x is =
    let head = is.4 in
    let sheets = head.4 in
    let body = sheets.4 in
    let end_ = body.4 in
    closed_behind text is.1 is.2 is.5
    (closed_behind is.2 head.1 head.2 head.5
    (closed_behind head.2 sheets.1 sheets.2 sheets.5
    (closed_behind sheets.2 body.1 body.2 body.5
    (closed_behind body.2 end_.1 end_.2 end_.5 (end_closed (codes "html") end_.2 end_.4.0 end_.4.1)))))

document_closed : (text behind : List ℕ) (document : Whole) → IsDocument text behind document → IsClosed text
document_closed text behind document is =
    closed_behind text is.parts.1 is.parts.2 is.parts.5 (html_closed (length (text ++ behind)) is.parts.2 behind (document.nodes, document.sheets) is.parts.4)

record IsEnd (bytes : List ℕ) (end_ : ℕ) : Type 0 where
  within : end_ ≤ length bytes
  utf8 : IsUtf8 (drop end_ bytes)

document_ends : (bytes : List ℕ) (document : Whole) → IsTheDocument bytes document → IsEnd bytes document.length
document_ends bytes document the =
    let c = document_closed the.text the.rest document the.is in
    let at = length c.0 in
    let whole : bytes ≡ c.0 ++ 62 ∷ the.rest = the.parts ∙ ap (λ (s : List ℕ). s ++ the.rest) c.1 ∙ append_assoc c.0 (codes ">") the.rest in
    let long : length bytes ≡ at + length (62 ∷ the.rest) = ap length whole ∙ length-append c.0 (62 ∷ the.rest) in
    let there : get_or bytes at 0 ≡ 62 = ap (λ (s : List ℕ). get_or s at 0) whole ∙ get_or-append_seam c.0 62 the.rest 0 in
    let utf8 : IsUtf8 bytes = subst (λ (s : List ℕ). IsUtf8 s) (sym the.parts) the.is.utf8 in
    let cut : IsCharBoundary bytes (at + 1) = IsCharBoundary-after_ascii bytes at utf8 (omega (arith, long)) (omega (arith, there)) in
    let ends : document.length ≡ at + 1 = the.is.ends ∙ ap length c.1 ∙ length-append c.0 (codes ">") in
    record {
      within = omega (arith, long, ends);
      utf8 = subst (λ (n : ℕ). IsUtf8 (drop n bytes)) (sym ends) (IsUtf8-drop bytes (at + 1) utf8 cut);
    }

-- ---- what a call says of the document that it read

pub told_within : {X : Type 0} (view : X → Whole) (bytes : List ℕ) (r : Result X HtmlError) → Told (length bytes) view r (input bytes) → IfOk r (λ x. (view x).length ≤ length bytes)
told_within view bytes (Ok x) t = (document_ends bytes (view x) (document_found bytes t.0 (view x) t.1)).within
told_within view bytes (Err error) t = tt

pub told_behind : {X : Type 0} (view : X → Whole) (bytes : List ℕ) (r : Result X HtmlError) → Told (length bytes) view r (input bytes) → IfOk r (λ x. IsUtf8 (drop (view x).length bytes))
told_behind view bytes (Ok x) t = (document_ends bytes (view x) (document_found bytes t.0 (view x) t.1)).utf8
told_behind view bytes (Err error) t = tt

pub told_ordered : {X : Type 0} (view : X → Whole) (bytes : List ℕ) (r : Result X HtmlError) → Told (length bytes) view r (input bytes) → IfOk r (λ x. IsInDocumentOrder (view x).nodes)
told_ordered view bytes (Ok x) t =
    let found = document_found bytes t.0 (view x) t.1 in
    nodes_in_order (view x).nodes (document_nodes found.text found.rest (view x) found.is)
told_ordered view bytes (Err error) t = tt

pub told_texts : {X : Type 0} (view : X → Whole) (bytes : List ℕ) (r : Result X HtmlError) → Told (length bytes) view r (input bytes) → IfOk r (λ x. AreTexts (view x).nodes)
told_texts view bytes (Ok x) t =
    let found = document_found bytes t.0 (view x) t.1 in
    document_texts found.text found.rest (view x) found.is
told_texts view bytes (Err error) t = tt

pub told_bytes : {X : Type 0} (view : X → Whole) (bytes : List ℕ) (r : Result X HtmlError) → Told (length bytes) view r (input bytes) → IfOk r (λ x. text_bytes (view x).nodes ≤ length bytes)
told_bytes view bytes (Ok x) t =
    let found = document_found bytes t.0 (view x) t.1 in
    omega (arith, document_bytes found.text found.rest (view x) found.is, ap length found.parts, length-append found.text found.rest)
told_bytes view bytes (Err error) t = tt

-- ---- and of a fragment

pub told_fragment_ordered : {X : Type 0} (view : X → List Node) (text : List ℕ) (r : Result X HtmlError) → Told (length text) view r (fragment text) → IfOk r (λ x. IsInDocumentOrder (view x))
told_fragment_ordered view text (Ok x) t = fragment_in_order text (view x) (fragment_takes text t.0 (view x) t.1)
told_fragment_ordered view text (Err error) t = tt

pub told_fragment_texts : {X : Type 0} (view : X → List Node) (text : List ℕ) (r : Result X HtmlError) → Told (length text) view r (fragment text) → IfOk r (λ x. AreTexts (view x))
told_fragment_texts view text (Ok x) t = fragment_texts text (view x) (fragment_takes text t.0 (view x) t.1)
told_fragment_texts view text (Err error) t = tt

pub told_fragment_bytes : {X : Type 0} (view : X → List Node) (text : List ℕ) (r : Result X HtmlError) → Told (length text) view r (fragment text) → IfOk r (λ x. text_bytes (view x) ≤ length text)
told_fragment_bytes view text (Ok x) t = fragment_bytes text (view x) (fragment_takes text t.0 (view x) t.1)
told_fragment_bytes view text (Err error) t = tt
