use Rattle.std.proofs.Common.{ℕ, Bool, List, is_some, ◌≡◌, ◌∙◌, ◌+◌, ◌++◌, ap, sym, drop, [], arith}
use Rattle.std.specs.Global.{Vec}
use Rattle.std.proofs.lemmas.List.{append-nil, drop_all, length-map}
use Rattle.html_read.specs.declared.node.ReadNode.{ReadNode}
use Rattle.html_read.specs.Values.{node_of, nodes_of}
use Rattle.dom_store.specs.Building.{tops_from}
use Rattle.dom_store.specs.Opening.{put_if}
use Rattle.dom_store.proofs.InsertLaws.{no_tops, tops_more}
use Rattle.dom_store.proofs.Places.{read_at}
use Rattle.dom_store.proofs.children.tops_of.Goals.{then-is_none+in_ok-push, else-is_none}
use Rattle.dom_store.proofs.children.tops_of.Goals as goal

pub loop-place-preserved : goal.loop-place-preserved
loop-place-preserved c =
    let nodes = nodes_of c.args.nodes.now in
    let place = c.loop-place.place in
    let before = c.loop-place.tops.items in
    let put = λ (b : Bool). before ++ put_if b (c.args.first + place) [] in
    let here = read_at c.args.nodes.now place c.index-nodes-place.result c.loop-place-test.true c.index-nodes-place.is in
    let is = ap (λ (read : ReadNode). is_some read.parent) c.index-nodes-place.is ∙ c.is_none.ensures in
    let more = tops_more c.args.first place nodes (node_of c.index-nodes-place.result) before (tops_from c.args.first nodes) c.is_none.result here is c.loop-place.invariant in
    let later = λ (l : List ℕ). l ++ tops_from (c.args.first + (place + 1)) (drop (place + 1) nodes) in
    elim c.if-is_none.branch [
      | then-is_none+in_ok-push w ↦ ap (λ (t : Vec ℕ). later t.items) w.tops-is ∙ (ap later (w.in_ok-push.ensures.items ∙ ap put (sym w.if-is_none.true)) ∙ more)
      | else-is_none w ↦ ap (λ (t : Vec ℕ). later t.items) w.tops-is ∙ (ap later (sym (append-nil before) ∙ ap put (sym w.if-is_none.false)) ∙ more)
    ]

pub returns : goal.returns
returns c =
    let all : drop c.loop-place.place (nodes_of c.args.nodes.now) ≡ [] = drop_all c.loop-place.place (nodes_of c.args.nodes.now) (omega (arith, length-map c.args.nodes.now node_of)) in
    sym (append-nil c.loop-place.tops.items) ∙ (ap (λ l. c.loop-place.tops.items ++ l) (sym (no_tops (c.args.first + c.loop-place.place)) ∙ ap (tops_from (c.args.first + c.loop-place.place)) (sym all)) ∙ c.loop-place.invariant)
