use Rattle.std.proofs.Common.{◌≡◌, ◌∙◌, ◌+◌, ◌*◌, ◌≤◌, ◌^◌, ap, arith, sym, subst, false, length, List, w64}
use Rattle.std.specs.Prelude.{option_copied}
use Rattle.std.proofs.lemmas.Int.{to_z-of_z}
use Rattle.fragment_types.specs.declared.item.Item.{Item}
use Rattle.fragment_types.specs.Item.{entries_of}
use Rattle.fragment_types.specs.Fragment.{pieces_of}
use Rattle.block_flow.specs.Adjoining.{edges}
use Rattle.box_gen.specs.Tree.{Content, content_of, inline}
use Rattle.line_place.specs.Spread.{spread}
use Rattle.relayout.specs.Boxed.{block_box}
use Rattle.relayout.specs.Fit.{room_in}
use Rattle.relayout.proofs.ContentLaws.{filled_blocks, filled_paragraph}
use Rattle.relayout.proofs.flow_box.FlowBox.filled.Goals as goal

pub returns-in_ok-made-in-Inline-Some-clause-filled : goal.returns-in_ok-made-in-Inline-Some-clause-filled
returns-in_ok-made-in-Inline-Some-clause-filled g c = λ list are ready.
    let entries = entries_of c.deref-in-Inline-Some.result.now in
    let content : content_of c.args.self.now.node.now.content ≡ inline entries = ap content_of c.in-Inline-Some.is-0 ∙ sym (ap (λ (is : List Item). inline (entries_of is)) c.deref-in-Inline-Some.ensures.value) in
    filled_paragraph _ c.args.self.now.node.now.name c.args.self.now.node.now.style (edges (block_box c.args.self.now.containing c.args.self.now.node.now.style c.args.self.now.c false)) c.args.size _ (content_of c.args.self.now.node.now.content) entries (option_copied c.args.self.now.text) c.in-Inline-Some.text.now list
    c.in_ok-made-in-Inline-Some.made content (to_z-of_z w64 c.args.size c.ranges.size) (ap option_copied c.in-Inline-Some.is-1) ready (rw c.deref.ensures at (c.in_ok-made-in-Inline-Some.ensures.filled list are))

pub returns-in_ok-made-in-Inline-Some-clause-reach : goal.returns-in_ok-made-in-Inline-Some-clause-reach
returns-in_ok-made-in-Inline-Some-clause-reach g c = λ list reach are deep.
    let entries = entries_of c.deref-in-Inline-Some.result.now in
    let content : content_of c.args.self.now.node.now.content ≡ inline entries = ap content_of c.in-Inline-Some.is-0 ∙ sym (ap (λ (is : List Item). inline (entries_of is)) c.deref-in-Inline-Some.ensures.value) in
    let P : Content → Type 0 = λ x. spread (pieces_of c.in_ok-made-in-Inline-Some.made.parts.items) ≤ reach + room_in x + (length c.args.laid.boxes.now + 1) * 2 ^ 38 in
    let near = c.in_ok-made-in-Inline-Some.ensures.reach list reach are deep in
    subst P (sym content) (omega arith)

pub returns-in_ok-made-in-Inline-None-clause-reach : goal.returns-in_ok-made-in-Inline-None-clause-reach
returns-in_ok-made-in-Inline-None-clause-reach g c = λ list reach are deep. let near = c.in_ok-made-in-Inline-None.ensures.reach reach deep in omega arith

pub returns-in_ok-made-in-Blocks-default-clause-filled : goal.returns-in_ok-made-in-Blocks-default-clause-filled
returns-in_ok-made-in-Blocks-default-clause-filled g c = λ list are ready.
    filled_blocks _ c.args.self.now.node.now.name c.args.self.now.node.now.style (edges (block_box c.args.self.now.containing c.args.self.now.node.now.style c.args.self.now.c false)) c.args.size _ (content_of c.args.self.now.node.now.content) list c.in_ok-made-in-Blocks-default.made
    (ap content_of c.in-Blocks-default.is-0) (to_z-of_z w64 c.args.size c.ranges.size) (c.in_ok-made-in-Blocks-default.ensures.filled list are)

pub returns-in_ok-made-in-Blocks-default-clause-reach : goal.returns-in_ok-made-in-Blocks-default-clause-reach
returns-in_ok-made-in-Blocks-default-clause-reach g c = λ list reach are deep. let near = c.in_ok-made-in-Blocks-default.ensures.reach reach deep in omega arith
