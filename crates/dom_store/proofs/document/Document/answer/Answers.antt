use Rattle.std.proofs.Common.{List, subst, sym, arith, Err}
use Rattle.std.proofs.lemmas.List.{length-map}
use Rattle.html_read.specs.declared.node.ReadNode.{ReadNode}
use Rattle.html_read.specs.Values.{node_of, nodes_of}
use Rattle.dom_store.specs.Building.{FollowParents, JudgesDepths}
use Rattle.dom_store.proofs.DepthLaws.{refused_as}
use Rattle.dom_store.proofs.Places.{shape_follows}
use Rattle.dom_store.proofs.document.Document.answer.Goals as goal

pub check_depths-requires-clause-follow : goal.check_depths-requires-clause-follow
check_depths-requires-clause-follow c =
    let P : List ReadNode → Type 0 = λ reads. FollowParents (nodes_of reads) in
    subst P (sym c.deref.ensures.value) (shape_follows (nodes_of c.args.read.now.nodes.items) c.requires.shaped)

pub returns-in_err-check_depths : goal.returns-in_err-check_depths
returns-in_err-check_depths c =
    let P : List ReadNode → Type 0 = λ reads. JudgesDepths (nodes_of reads) (Err c.in_err-check_depths.field-0.0) in
    refused_as (nodes_of c.args.read.now.nodes.items) _ c.in_err-check_depths.field-0.0 c.from_residual.result c.from_residual.ensures.1
    (omega (arith, length-map c.args.read.now.nodes.items node_of)) (subst P c.deref.ensures.value c.in_err-check_depths.ensures)
