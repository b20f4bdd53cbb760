use Rattle.std.proofs.Common.{◌≡◌, ◌∙◌, refl, ap, sym, arith, ◌+◌, drop, [], ◌∷◌}
use Rattle.style_types.specs.declared.tree.StyledNode.TheViews.{out-StyledNode}
use Rattle.style_types.specs.Tree.{before, all_nodes_of}
use Rattle.box_gen.specs.Tree.{Boxes}
use Rattle.box_gen.specs.Parts as part
use Rattle.box_gen.specs.Parts.{has_block}
use Rattle.box_gen.specs.Building.{filling_of}
use Rattle.box_gen.proofs.Results.{ok_gives}
use Rattle.box_gen.proofs.Contents.{atom_content, block_content, break_content, nothing_content, words_no_block}
use Rattle.box_gen.proofs.NodeLines.{left_at, none_left}
use Rattle.box_gen.proofs.Puts.{puts_are, puts_nothing}
use Rattle.box_gen.proofs.Walks.{box_cut, box_put, container_is, cut_all, cut_more, put_all, put_more}
use Rattle.box_gen.proofs.generate.+container.Goals as goal

pub container-returns : goal.container-returns
container-returns t c =
    ok_gives c.finished.result _ _ c.finished.ensures (λ tree is.
    is ∙ container_is c.args.node.now c.deref-2.result.now c.deref-2.ensures.value (filling_of c.in_ok-filling.filling) (filling_of c.put_nodes.new.filling) c.in_ok-filling.ensures c.in_ok-put_nodes.ensures.put)

pub put_inline_box-returns-clause-put : goal.put_inline_box-returns-clause-put
put_inline_box-returns-clause-put t c =
    box_put c.args.node.now c.deref.result.now c.deref.ensures.value c.requires (filling_of c.args.filling.now) (filling_of c.start.new.self) (filling_of c.put_nodes.new.filling) (filling_of c.stop.new.self)
    c.in_ok-is_cut.is_cut c.in_ok-is_cut.ensures.cut c.in_ok-start.ensures c.in_ok-is_cut.ensures.put c.in_ok-stop.ensures

pub put_inline_box-returns-clause-cut : goal.put_inline_box-returns-clause-cut
put_inline_box-returns-clause-cut t c = box_cut c.args.node.now c.deref.result.now c.deref.ensures.value c.requires c.in_ok-is_cut.is_cut c.in_ok-is_cut.ensures.cut

pub put_node-returns-in-Nothing-clause-put : goal.put_node-returns-in-Nothing-clause-put
put_node-returns-in-Nothing-clause-put t c =
    puts_are (filling_of c.args.filling.now) (filling_of c.args.filling.now) [] _ (nothing_content c.args.node.now (sym c.role_of.ensures ∙ c.in-Nothing.is)) (puts_nothing (filling_of c.args.filling.now))

pub put_node-returns-in-Nothing-clause-cut : goal.put_node-returns-in-Nothing-clause-cut
put_node-returns-in-Nothing-clause-cut t c = sym (ap has_block (nothing_content c.args.node.now (sym c.role_of.ensures ∙ c.in-Nothing.is)))

pub put_node-returns-in_ok-put_words-in-Words-clause-cut : goal.put_node-returns-in_ok-put_words-in-Words-clause-cut
put_node-returns-in_ok-put_words-in-Words-clause-cut t c = sym (words_no_block c.args.node.now (sym c.role_of.ensures ∙ c.in-Words.is))

pub put_node-returns-in_ok-put_break-in-LineBreak-clause-put : goal.put_node-returns-in_ok-put_break-in-LineBreak-clause-put
put_node-returns-in_ok-put_break-in-LineBreak-clause-put t c =
    puts_are (filling_of c.args.filling.now) (filling_of c.put_break.new.self) _ _ (break_content c.args.node.now (sym c.role_of.ensures ∙ c.in-LineBreak.is)) c.in_ok-put_break-in-LineBreak.ensures

pub put_node-returns-in_ok-put_break-in-LineBreak-clause-cut : goal.put_node-returns-in_ok-put_break-in-LineBreak-clause-cut
put_node-returns-in_ok-put_break-in-LineBreak-clause-cut t c = sym (ap has_block (break_content c.args.node.now (sym c.role_of.ensures ∙ c.in-LineBreak.is)))

pub put_node-returns-in_ok-put_atom-in-Atom-clause-put : goal.put_node-returns-in_ok-put_atom-in-Atom-clause-put
put_node-returns-in_ok-put_atom-in-Atom-clause-put t c =
    let n = c.args.node.now in
    let own = atom_content n (sym c.role_of.ensures ∙ c.in-Atom.is) in
    puts_are (filling_of c.args.filling.now) (filling_of c.put_atom.new.self) _ _ (own ∙ ap (λ (b : Boxes). part.atom (out-StyledNode n).node b ∷ []) (sym c.in_ok-atom-in-Atom.ensures)) c.in_ok-put_atom-in-Atom.ensures

pub put_node-returns-in_ok-put_atom-in-Atom-clause-cut : goal.put_node-returns-in_ok-put_atom-in-Atom-clause-cut
put_node-returns-in_ok-put_atom-in-Atom-clause-cut t c = sym (ap has_block (atom_content c.args.node.now (sym c.role_of.ensures ∙ c.in-Atom.is)))

pub put_node-returns-in_ok-put_block-in-BlockLevel-clause-put : goal.put_node-returns-in_ok-put_block-in-BlockLevel-clause-put
put_node-returns-in_ok-put_block-in-BlockLevel-clause-put t c =
    let n = c.args.node.now in
    let own = block_content n (sym c.role_of.ensures ∙ c.in-BlockLevel.is) in
    puts_are (filling_of c.args.filling.now) (filling_of c.put_block.new.self) _ _ (own ∙ ap (λ (b : Boxes). part.block_level b ∷ []) (sym c.in_ok-block-in-BlockLevel.ensures)) c.in_ok-put_block-in-BlockLevel.ensures

pub put_node-returns-in_ok-put_block-in-BlockLevel-clause-cut : goal.put_node-returns-in_ok-put_block-in-BlockLevel-clause-cut
put_node-returns-in_ok-put_block-in-BlockLevel-clause-cut t c = sym (ap has_block (block_content c.args.node.now (sym c.role_of.ensures ∙ c.in-BlockLevel.is)))

pub put_nodes-loop-node-preserved : goal.put_nodes-loop-node-preserved
put_nodes-loop-node-preserved t c =
    let nodes = c.args.nodes.now in
    let i = c.loop-node.node-index in
    let n = c.node-item.result in
    let next = all_nodes_of (drop (i + 1) nodes) in
    let left : all_nodes_of (drop i nodes) ≡ before n next = left_at nodes i n (omega arith) c.node-item.is in (
      put_more (filling_of c.args.filling.now) (filling_of c.loop-node.filling) (filling_of c.put_node.new.filling) (all_nodes_of nodes) (all_nodes_of (drop i nodes)) next n left
          c.in_ok-is_cut.ensures.put c.loop-node.invariant.0,
      cut_more (all_nodes_of nodes) (all_nodes_of (drop i nodes)) next n c.loop-node.is_cut c.in_ok-is_cut.field-0 _ left c.in_ok-is_cut.ensures.cut refl c.loop-node.invariant.1,
    )

pub put_nodes-returns-clause-put : goal.put_nodes-returns-clause-put
put_nodes-returns-clause-put t c =
    let nodes = c.args.nodes.now in
    let i = c.loop-node.node-index in
    put_all (filling_of c.args.filling.now) (filling_of c.loop-node.filling) (all_nodes_of nodes) (all_nodes_of (drop i nodes)) (none_left nodes i (omega arith)) c.loop-node.invariant.0

pub put_nodes-returns-clause-cut : goal.put_nodes-returns-clause-cut
put_nodes-returns-clause-cut t c =
    let nodes = c.args.nodes.now in
    let i = c.loop-node.node-index in
    cut_all (all_nodes_of nodes) (all_nodes_of (drop i nodes)) c.loop-node.is_cut (none_left nodes i (omega arith)) c.loop-node.invariant.1
