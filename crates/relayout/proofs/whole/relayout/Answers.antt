use Rattle.std.proofs.Common.{◌≡◌, ◌<◌, ℕ, rules, sym, subst, arith, length}
use Rattle.std.specs.Prelude.{All}
use Rattle.face_api.specs.Faces.{faces_of}
use Rattle.box_arena.specs.At.{node_of}
use Rattle.relayout.specs.declared.flowed.LaidBox.{LaidBox}
use Rattle.relayout.specs.declared.row.Row.{Row}
use Rattle.relayout.specs.Counts.{AreFoundedUnder, ArrangedRise, IsAllKept, TextsRise}
use Rattle.relayout.specs.Flowing.{CanFlow}
use Rattle.relayout.specs.Near.{IsNearLaid}
use Rattle.relayout.specs.Row.{from_outside}
use Rattle.relayout.proofs.FlowCounts.{steady_follows}
use Rattle.relayout.proofs.RootCounts.{root_arranged, root_founded, root_kept, root_texts}
use Rattle.relayout.proofs.RowLaws.{Arena}
use Rattle.relayout.proofs.WholeLaws.{root_alone, root_can, root_layout, root_near}
use Rattle.relayout.proofs.whole.relayout.Goals as goal

pub flow-requires : goal.flow-requires
flow-requires g c =
    let faces = faces_of (λ vtable. (g.dyn-1.0.entry vtable).1) c.args.faces.now in
    let P : Row → Type 0 = λ row. CanFlow (from_outside faces c.page_of.result) c.args.arena.now.slots row in
    record {
      can = subst P (sym c.root_row-row.ensures)
          (root_can faces c.args.view c.page_of.result c.args.arena.now.slots c.args.root (node_of c.node-node.result.now) c.node-node.ensures.node (c.page_of.ensures.value faces) c.page_of.ensures.near c.requires.view
          c.requires.free (c.node-node.ensures.linked.alone c.args.root c.requires.free).0 c.requires.tree c.requires.right);
    }

pub index-requires : goal.index-requires
index-requires g c =
    let one : length c.in_ok-laid.laid.items ≡ 1 = (root_alone _ c.args.view c.page_of.result _ c.args.root (node_of c.node-node.result.now) c.node-node.ensures.node (c.page_of.ensures.value _) c.root_row-row.result c.in_ok-laid.laid.items
    c.root_row-row.ensures c.in_ok-laid.ensures.flowed (c.node-node.ensures.linked.alone c.args.root c.requires.free).0 c.requires.tree).0 in
    omega (arith, one)

pub in_view-requires-clause-near : goal.in_view-requires-clause-near
in_view-requires-clause-near g c =
    let all : (length c.in_ok-laid.laid.items ≡ 1) × All IsNearLaid c.in_ok-laid.laid.items = root_alone _ c.args.view c.page_of.result _ c.args.root (node_of c.node-node.result.now) c.node-node.ensures.node (c.page_of.ensures.value _) c.root_row-row.result c.in_ok-laid.laid.items
    c.root_row-row.ensures c.in_ok-laid.ensures.flowed (c.node-node.ensures.linked.alone c.args.root c.requires.free).0 c.requires.tree in
    let one : length c.in_ok-laid.laid.items ≡ 1 = all.0 in
    let some : 0 < length c.in_ok-laid.laid.items = omega (arith, one) in
    let P : LaidBox → Type 0 = λ x. IsNearLaid x in
    subst P (sym c.index.ensures) (all.1 0 c.index.result.now some)

pub returns-clause-near : goal.returns-clause-near
returns-clause-near g c =
    root_near _ c.args.view c.page_of.result _ c.args.root (node_of c.node-node.result.now) c.node-node.ensures.node (c.page_of.ensures.value _) c.root_row-row.result c.in_ok-laid.laid.items c.index.result.now _
    c.requires.view c.root_row-row.ensures c.in_ok-laid.ensures.flowed (c.node-node.ensures.linked.alone c.args.root c.requires.free).0 c.requires.tree c.index.ensures c.in_ok-made.ensures

pub returns-clause-layout : goal.returns-clause-layout
returns-clause-layout g c =
    root_layout _ c.args.view c.page_of.result _ c.args.root (node_of c.node-node.result.now) c.node-node.ensures.node (c.page_of.ensures.value _) c.root_row-row.result c.in_ok-laid.laid.items c.index.result.now _
    c.root_row-row.ensures c.in_ok-laid.ensures.flowed (c.node-node.ensures.linked.alone c.args.root c.requires.free).0 c.index.ensures c.in_ok-made.ensures

pub returns-in_err-laid-clause-prepares : goal.returns-in_err-laid-clause-prepares
returns-in_err-laid-clause-prepares g c =
    let faces = faces_of (λ vtable. (g.dyn-1.0.entry vtable).1) c.args.faces.now in
    let same : c.flow.new.self.texts.now ≡ c.prepared-1.given.0 = first_of (search rules, cc) in
    let P : ℕ → Type 0 = λ n. TextsRise c.args.arena.now.slots c.args.root c.args.prepared.now n in
    subst P same (root_texts faces c.args.view c.page_of.result _ _ c.args.root (node_of c.node-node.result.now) c.node-node.ensures.node (c.page_of.ensures.value _) c.root_row-row.result c.root_row-row.ensures
    (c.node-node.ensures.linked.alone c.args.root c.requires.free).0 _ _ c.in_err-laid.ensures.costs)

pub returns-in_err-laid-clause-arranges : goal.returns-in_err-laid-clause-arranges
returns-in_err-laid-clause-arranges g c =
    let faces = faces_of (λ vtable. (g.dyn-1.0.entry vtable).1) c.args.faces.now in
    let same : c.flow.new.self.arranged.now ≡ c.arranged-1.given.0 = first_of (search rules, cc) in
    let P : ℕ → Type 0 = λ n. ArrangedRise faces c.args.view c.args.arena.now.slots c.args.root c.args.arranged.now n in
    subst P same (root_arranged faces c.args.view c.page_of.result _ _ c.args.root (node_of c.node-node.result.now) c.node-node.ensures.node (c.page_of.ensures.value _) c.root_row-row.result c.root_row-row.ensures
    (c.node-node.ensures.linked.alone c.args.root c.requires.free).0 _ _ c.in_err-laid.ensures.costs)

pub returns-in_err-laid-clause-founded : goal.returns-in_err-laid-clause-founded
returns-in_err-laid-clause-founded g c =
    let faces = faces_of (λ vtable. (g.dyn-1.0.entry vtable).1) c.args.faces.now in
    let steady = c.in_err-laid.ensures.steady in
    let same : c.flow.new.self.arena.now ≡ c.arena-1.given.0 = first_of (search rules, cc) in
    let P : Arena → Type 0 = λ boxes. AreFoundedUnder faces c.args.view c.args.arena.now.slots c.args.root → AreFoundedUnder faces c.args.view boxes.slots c.args.root in
    subst P same (root_founded faces c.args.view c.page_of.result _ _ c.args.root (node_of c.node-node.result.now) c.node-node.ensures.node (c.page_of.ensures.value _) c.root_row-row.result c.root_row-row.ensures
    (c.node-node.ensures.linked.alone c.args.root c.requires.free).0 _ _ c.in_err-laid.ensures.costs steady.nodes)

pub returns-in_err-made-clause-prepares : goal.returns-in_err-made-clause-prepares
returns-in_err-made-clause-prepares g c =
    let faces = faces_of (λ vtable. (g.dyn-1.0.entry vtable).1) c.args.faces.now in
    let same : c.flow.new.self.texts.now ≡ c.prepared-1.given.0 = first_of (search rules, cc) in
    let P : ℕ → Type 0 = λ n. TextsRise c.args.arena.now.slots c.args.root c.args.prepared.now n in
    subst P same (root_texts faces c.args.view c.page_of.result _ _ c.args.root (node_of c.node-node.result.now) c.node-node.ensures.node (c.page_of.ensures.value _) c.root_row-row.result c.root_row-row.ensures
    (c.node-node.ensures.linked.alone c.args.root c.requires.free).0 _ _ c.in_ok-laid.ensures.costs)

pub returns-in_err-made-clause-arranges : goal.returns-in_err-made-clause-arranges
returns-in_err-made-clause-arranges g c =
    let faces = faces_of (λ vtable. (g.dyn-1.0.entry vtable).1) c.args.faces.now in
    let same : c.flow.new.self.arranged.now ≡ c.arranged-1.given.0 = first_of (search rules, cc) in
    let P : ℕ → Type 0 = λ n. ArrangedRise faces c.args.view c.args.arena.now.slots c.args.root c.args.arranged.now n in
    subst P same (root_arranged faces c.args.view c.page_of.result _ _ c.args.root (node_of c.node-node.result.now) c.node-node.ensures.node (c.page_of.ensures.value _) c.root_row-row.result c.root_row-row.ensures
    (c.node-node.ensures.linked.alone c.args.root c.requires.free).0 _ _ c.in_ok-laid.ensures.costs)

pub returns-in_err-made-clause-founded : goal.returns-in_err-made-clause-founded
returns-in_err-made-clause-founded g c =
    let faces = faces_of (λ vtable. (g.dyn-1.0.entry vtable).1) c.args.faces.now in
    let steady = c.in_ok-laid.ensures.steady in
    let same : c.flow.new.self.arena.now ≡ c.arena-1.given.0 = first_of (search rules, cc) in
    let P : Arena → Type 0 = λ boxes. AreFoundedUnder faces c.args.view c.args.arena.now.slots c.args.root → AreFoundedUnder faces c.args.view boxes.slots c.args.root in
    subst P same (root_founded faces c.args.view c.page_of.result _ _ c.args.root (node_of c.node-node.result.now) c.node-node.ensures.node (c.page_of.ensures.value _) c.root_row-row.result c.root_row-row.ensures
    (c.node-node.ensures.linked.alone c.args.root c.requires.free).0 _ _ c.in_ok-laid.ensures.costs steady.nodes)

pub returns-clause-prepares : goal.returns-clause-prepares
returns-clause-prepares g c =
    let faces = faces_of (λ vtable. (g.dyn-1.0.entry vtable).1) c.args.faces.now in
    let same : c.flow.new.self.texts.now ≡ c.prepared-1.given.0 = first_of (search rules, cc) in
    let P : ℕ → Type 0 = λ n. TextsRise c.args.arena.now.slots c.args.root c.args.prepared.now n in
    subst P same (root_texts faces c.args.view c.page_of.result _ _ c.args.root (node_of c.node-node.result.now) c.node-node.ensures.node (c.page_of.ensures.value _) c.root_row-row.result c.root_row-row.ensures
    (c.node-node.ensures.linked.alone c.args.root c.requires.free).0 _ _ c.in_ok-laid.ensures.costs)

pub returns-clause-arranges : goal.returns-clause-arranges
returns-clause-arranges g c =
    let faces = faces_of (λ vtable. (g.dyn-1.0.entry vtable).1) c.args.faces.now in
    let same : c.flow.new.self.arranged.now ≡ c.arranged-1.given.0 = first_of (search rules, cc) in
    let P : ℕ → Type 0 = λ n. ArrangedRise faces c.args.view c.args.arena.now.slots c.args.root c.args.arranged.now n in
    subst P same (root_arranged faces c.args.view c.page_of.result _ _ c.args.root (node_of c.node-node.result.now) c.node-node.ensures.node (c.page_of.ensures.value _) c.root_row-row.result c.root_row-row.ensures
    (c.node-node.ensures.linked.alone c.args.root c.requires.free).0 _ _ c.in_ok-laid.ensures.costs)

pub returns-clause-founded : goal.returns-clause-founded
returns-clause-founded g c =
    let faces = faces_of (λ vtable. (g.dyn-1.0.entry vtable).1) c.args.faces.now in
    let steady = c.in_ok-laid.ensures.steady in
    let same : c.flow.new.self.arena.now ≡ c.arena-1.given.0 = first_of (search rules, cc) in
    let P : Arena → Type 0 = λ boxes. AreFoundedUnder faces c.args.view c.args.arena.now.slots c.args.root → AreFoundedUnder faces c.args.view boxes.slots c.args.root in
    subst P same (root_founded faces c.args.view c.page_of.result _ _ c.args.root (node_of c.node-node.result.now) c.node-node.ensures.node (c.page_of.ensures.value _) c.root_row-row.result c.root_row-row.ensures
    (c.node-node.ensures.linked.alone c.args.root c.requires.free).0 _ _ c.in_ok-laid.ensures.costs steady.nodes)

pub returns-clause-kept : goal.returns-clause-kept
returns-clause-kept g c =
    let faces = faces_of (λ vtable. (g.dyn-1.0.entry vtable).1) c.args.faces.now in
    let same : c.flow.new.self.arena.now ≡ c.arena-1.given.0 = first_of (search rules, cc) in
    let P : Arena → Type 0 = λ boxes. AreFoundedUnder faces c.args.view c.args.arena.now.slots c.args.root → IsAllKept faces c.args.view boxes.slots c.args.root in
    subst P same (root_kept faces c.args.view c.page_of.result _ _ c.args.root (node_of c.node-node.result.now) c.node-node.ensures.node (c.page_of.ensures.value _) c.root_row-row.result c.root_row-row.ensures
    (c.node-node.ensures.linked.alone c.args.root c.requires.free).0 _ _ c.in_ok-laid.ensures.costs
    (steady_follows _ _ _ c.in_ok-laid.ensures.steady) c.node-node.ensures.linked c.requires.free c.in_ok-laid.ensures.done)
