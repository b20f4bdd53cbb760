use Rattle.std.proofs.Common.{◌∙◌, ◌≤◌, ◌++◌, ℕ, List, [], ◌∷◌, length, map, ap, subst, sym}
use Rattle.dom_store.specs.Edits.{changed, with_children, with_put, without_nodes}
use Rattle.dom_store.specs.Exact.{numbered_as, numbers_under, restore}
use Rattle.dom_store.specs.Exactly.{with_standing}
use Rattle.dom_store.specs.Standing.{children_at}
use Rattle.dom_store.specs.State.{State, state_of}
use Rattle.dom_store.proofs.ExactlyLaws.{not_done}
use Rattle.dom_store.proofs.RestoreLaws.{all_out, all_restored, numbers_as, parent_standing, same_standing}
use Rattle.dom_store.proofs.document.Document.restore.Goals as goal

pub place_restored-requires : goal.place_restored-requires
place_restored-requires c =
    let old = state_of c.args.self.now in
    let parent = c.args.parent in
    let nodes = map numbered_as c.args.nodes.now in
    let same = ap (λ (s : State). length (children_at s parent)) c.in_ok-restore_each.ensures.stand ∙ ap length (parent_standing old parent nodes c.requires.stand) in
    record { within = subst (λ (n : ℕ). c.args.index ≤ n) (sym same) c.requires.within }

pub returns-in_err-place_restored : goal.returns-in_err-place_restored
returns-in_err-place_restored c =
    let old = state_of c.args.self.now in
    let mid = state_of c.restore_each.new.self in
    let parent = c.args.parent in
    let nodes = map numbered_as c.args.nodes.now in
    let gone =
    c.in_err-place_restored.ensures.gone
    ∙ (ap (λ (l : List ℕ). without_nodes l mid) (sym (numbers_as c.args.nodes.now))
    ∙ (ap (without_nodes (map (λ node. node.number) nodes)) c.in_ok-restore_each.ensures.stand ∙ all_out old (parent ∷ []) nodes c.requires.stand (with_standing nodes old) (same_standing old nodes))) in
    not_done old (state_of c.place_restored.new.self) (restore parent c.args.index nodes) c.from_residual-in_err-place_restored.result c.from_residual-in_err-place_restored.ensures.0 gone

pub returns : goal.returns
returns c =
    let old = state_of c.args.self.now in
    let parent = c.args.parent in
    let nodes = map numbered_as c.args.nodes.now in
    let tops = c.in_ok-restore_each.ensures.tops ∙ ap (λ (l : List ℕ). l ++ numbers_under parent nodes) c.new-tops.ensures.items in
    let put : List ℕ → State → State = λ numbers state. changed state parent (with_children (with_put c.args.index numbers)) in (
      c.in_ok-place_restored.ensures.put
          ∙ (ap (λ (l : List ℕ). put l (state_of c.restore_each.new.self)) tops ∙ (ap (put (numbers_under parent nodes)) c.in_ok-restore_each.ensures.stand ∙ all_restored old parent nodes c.requires.stand c.args.index)),
      c.in_ok-elements.ensures,
    )
