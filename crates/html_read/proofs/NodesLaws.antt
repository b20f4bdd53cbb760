-- The nodes of a document that was read are those of `html`, `body` and what stands in it.
use Rattle.std.proofs.Common.{ℕ, List, ◌++◌, length, Ok, Err, sym, subst, IfOk}
use Rattle.std.specs.Prelude.{Result}
use Rattle.html_read.specs.declared.error.HtmlError.{HtmlError}
use Rattle.html_read.specs.Error.{Told}
use Rattle.html_read.specs.Grammar.{IsBody, IsHtml, IsDocument}
use Rattle.html_read.specs.Reading.{input}
use Rattle.html_read.specs.Tree.{AreNodes}
use Rattle.html_read.specs.Values.{TextAt, Acting, Node, Whole}
use Rattle.html_read.proofs.AnsweredLaws.{document_found}

body_nodes : (size : ℕ) (html : Acting) (text_ behind : List ℕ) (nodes : List Node) → IsBody size html text_ behind nodes → AreNodes nodes
body_nodes size html text_ behind nodes r =
    let inner = r.4 in
    let is = inner.3 in
    let made : AreNodes inner.0 = record { html = html; body = r.0; first = is.letters; items = is.items; are = is.made } in
    subst (λ (l : List Node). AreNodes l) (sym inner.4.1) made

html_nodes : (size : ℕ) (text_ behind : List ℕ) (all : List Node × List TextAt) → IsHtml size text_ behind all → AreNodes all.0
html_nodes size text_ behind all r =
    let from_misc = r.4 in
    let from_head = from_misc.4 in
    let from_body = from_head.4 in
    let last = from_body.4 in
    let made = body_nodes size r.0 from_body.1 (from_body.2 ++ behind) from_body.0 from_body.3 in
    subst (λ (p : List Node × List TextAt). AreNodes p.0) (sym last.4.2) made

pub document_nodes : (text_ behind : List ℕ) (whole : Whole) → IsDocument text_ behind whole → AreNodes whole.nodes
document_nodes text_ behind whole is = html_nodes (length (text_ ++ behind)) is.parts.2 behind (whole.nodes, whole.sheets) is.parts.4

pub told_nodes : {X : Type 0} (view : X → Whole) (bytes : List ℕ) (r : Result X HtmlError) → Told (length bytes) view r (input bytes) → IfOk r (λ x. AreNodes (view x).nodes)
told_nodes view bytes (Ok x) t =
    let found = document_found bytes t.0 (view x) t.1 in
    document_nodes found.text found.rest (view x) found.is
told_nodes view bytes (Err error) t = tt
