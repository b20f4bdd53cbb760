use Rattle.std.proofs.Common.{◌≡◌, ◌∙◌, None, option_map, sym, ap, subst}
use Rattle.std.proofs.lemmas.Option.{same_Some}
use Rattle.slab.specs.Slab.{with_value}
use Rattle.box_arena.specs.declared.entry.Entry.{Entry}
use Rattle.box_arena.specs.declared.entry.Held.{Held}
use Rattle.box_arena.specs.Write.{WritesHeld}
use Rattle.box_arena.proofs.Writes.{writes_held}
use Rattle.box_arena.proofs.write.put_node.Goals as goal

pub returns-clause-new : goal.returns-clause-new
returns-clause-new g c = λ held is.
    let entry : Entry g.row.T.Denot = c.index_mut-entry.result.now in
    let same : entry.held ≡ held = same_Some _ _ (sym (ap (option_map (λ (e : Entry g.row.T.Denot). e.held)) c.index_mut-entry.ensures.value) ∙ is) in
    let P : Held g.row.T.Denot → Type 0 = λ put. WritesHeld c.args.boxes.now (with_value c.args.boxes.now c.args.key (record { links = entry.links; mark = entry.mark; held = c.replace_node.new.self })) c.args.key put in
    subst P (c.replace_node.ensures.new ∙ ap (λ (h : Held g.row.T.Denot). record h { node = c.args.node; text = None }) same) (writes_held c.args.boxes.now c.args.key entry c.replace_node.new.self c.index_mut-entry.ensures.value)
