use Rattle.std.proofs.Common.{◌≡◌, ◌∙◌, ◌+◌, ◌++◌, ◌∷◌, ℕ, List, [], map, take, ap, sym}
use Rattle.std.proofs.lemmas.List.{map_more}
use Rattle.dom_store.specs.declared.exact.Numbered.{Numbered}
use Rattle.dom_store.specs.Edits.{without_nodes}
use Rattle.dom_store.specs.State.{state_of}
use Rattle.dom_store.proofs.RemoveLaws.{out_more}
use Rattle.dom_store.proofs.document.Document.take_each_out.Goals as goal

pub loop-node-preserved : goal.loop-node-preserved
loop-node-preserved c =
    let old = state_of c.args.self.now in
    let nodes = c.args.nodes.now in
    let at = c.loop-node.node-index in
    let node = c.node-item.result in
    let number = λ (n : Numbered). n.number in
    let more : map number (take (at + 1) nodes) ≡ map number (take at nodes) ++ node.number ∷ [] =
    map_more number nodes at node c.loop-node-test.true ∙ ap (λ (n : Numbered). map number (take at nodes) ++ n.number ∷ []) (sym c.node-item.is) in
    c.take_out.ensures ∙ (ap (without_nodes (node.number ∷ [])) c.loop-node.invariant ∙ (out_more (map number (take at nodes)) node.number old ∙ ap (λ (l : List ℕ). without_nodes l old) (sym more)))
