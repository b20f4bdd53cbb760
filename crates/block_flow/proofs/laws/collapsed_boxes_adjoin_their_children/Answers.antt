use Rattle.std.proofs.Common.{◌≡◌, Bool, true, false, ◌&&◌, not, refl}
use Rattle.std.proofs.lemmas.Bool.{false≢true}
use Rattle.block_flow.specs.Adjoining.{is_open, is_flat, is_as_contents}
use Rattle.block_flow.specs.declared.boxes.ParentEdges.{ParentEdges}
use Rattle.block_flow.proofs.laws.collapsed_boxes_adjoin_their_children.Goals as goal

both : (a b c d e f : Bool) → f ≡ e → (((((a && b) && c) && d) && e) && true) ≡ true → (a && b ≡ true) × ((a && c) && f ≡ true)
both false b c d e f same h = absurd (false≢true h)
both true false c d e f same h = absurd (false≢true h)
both true true false d e f same h = absurd (false≢true h)
both true true true false e f same h = absurd (false≢true h)
both true true true true false f same h = absurd (false≢true h)
both true true true true true f same h = (refl, same)

abbrev joining : Bool → Bool → ParentEdges
joining start finish = record { start_joins = start; end_joins = finish }

edges_are : (a b : Bool) → a ≡ true → b ≡ true → joining a b ≡ joining true true
edges_are a b ea eb = rw ea (rw eb refl)

pub returns : goal.returns
returns c box auto through =
    let are = both (not box.is_flow_root) (is_open box.start) (is_open box.end) (not box.has_lines) (is_flat box) (is_as_contents box) (rw auto refl) through in
    edges_are _ _ are.0 are.1
