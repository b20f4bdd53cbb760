use Rattle.std.proofs.Common.{◌+◌, ◌*◌, ◌≤◌, ◌^◌, sym, subst, length, w64, List, Option}
use Rattle.std.specs.Prelude.{option_copied}
use Rattle.std.proofs.lemmas.Int.{to_z-of_z}
use Rattle.face_api.specs.Table.{Table}
use Rattle.fragment_types.specs.Fragment.{Pieces}
use Rattle.box_arena.specs.At.{node_of}
use Rattle.box_gen.specs.Tree.{content_of}
use Rattle.line_place.specs.Spread.{spread}
use Rattle.relayout.specs.Fit.{room_in}
use Rattle.relayout.specs.Intrinsic.{IsTextOf}
use Rattle.relayout.proofs.StepLaws.{used_box_is}
use Rattle.relayout.proofs.flow_box.FlowBox.laid_under.Goals as goal

pub returns-clause-part : goal.returns-clause-part
returns-clause-part g c = λ outside members same ready laid.
    let own = c.args.self.now in
    let size = to_z-of_z w64 c.args.size c.ranges.size in
    let P : List (Option Table) → Type 0 = λ faces. IsTextOf faces own.node.now.style (content_of own.node.now.content) (option_copied own.text) in
    used_box_is outside _ own.containing (node_of own.node.now) own.c c.args.size _ _ c.args.children.boxes.now members c.in_ok-content.content _ same size size
    (λ list is. c.in_ok-content.ensures.filled list is (subst P same ready)) c.in_ok-made.ensures.part laid

pub returns-clause-reach : goal.returns-clause-reach
returns-clause-reach g c = λ list reach are deep.
    let P : Pieces → Type 0 = λ ps. spread ps ≤ reach + room_in (content_of c.args.self.now.node.now.content) + (length c.args.children.boxes.now + 1) * 2 ^ 38 in
    subst P (sym c.in_ok-made.ensures.inner) (c.in_ok-content.ensures.reach list reach are deep)
