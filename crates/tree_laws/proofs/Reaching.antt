-- Each node that lives is reached from `html`, in documents that are opened and after edits.
use Rattle.std.proofs.Common.{sym, subst}
use Rattle.dom_store.specs.State.{text}
use Rattle.dom_store.specs.Opening.{opened}
use Rattle.dom_store.specs.Edits.{set_text, set_style, set_class, insert, remove, move_to, with_classes, with_own}
use Rattle.dom_store.proofs.InsertLaws.{fragment_follows}
use Rattle.dom_store.proofs.SameLaws.{are_equal}
use Rattle.tree_laws.specs.Reached.{EditsKeepReached, IsReached, OpenedAreReached}
use Rattle.tree_laws.proofs.Entering.{inserted_reached, opened_reached}
use Rattle.tree_laws.proofs.Refusing.{insert_passes, insert_shallow, moves}
use Rattle.tree_laws.proofs.Staying.{moved_reached, removed_reached, what_reached}

pub opened_are_reached : OpenedAreReached
opened_are_reached nodes own state shaped order shallow same =
    subst IsReached (sym (are_equal state (opened nodes own) same)) (opened_reached nodes own shaped shallow)

pub edits_keep_reached : EditsKeepReached
edits_keep_reached state (set_text number letters) fitting rooted whole reached unrefused = what_reached state number (λ what. text letters) reached
edits_keep_reached state (set_style number own) fitting rooted whole reached unrefused = what_reached state number (with_own own) reached
edits_keep_reached state (set_class number words) fitting rooted whole reached unrefused = what_reached state number (with_classes words) reached
edits_keep_reached state (insert parent index nodes own) fitting rooted whole reached unrefused =
    let passes = insert_passes state parent index nodes own unrefused in
    inserted_reached state whole reached parent index nodes own passes.0 (fragment_follows nodes fitting.0) (insert_shallow state parent index nodes own unrefused)
edits_keep_reached state (remove number) fitting rooted whole reached unrefused = removed_reached state whole reached number
edits_keep_reached state (move_to number parent index) fitting rooted whole reached unrefused = moved_reached state whole reached number parent index (moves state number parent index unrefused)
