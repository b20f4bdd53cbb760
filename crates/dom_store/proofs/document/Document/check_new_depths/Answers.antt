use Rattle.std.proofs.Common.{◌∙◌, ◌+◌, ℕ, option_map, ap, inr}
use Rattle.html_read.specs.Values.{nodes_of}
use Rattle.dom_store.specs.declared.error.EditError.TheVariants.{TooDeep}
use Rattle.dom_store.specs.State.{state_of}
use Rattle.dom_store.proofs.DepthLaws.{too_deep_at}
use Rattle.dom_store.proofs.document.Document.check_new_depths.Goals as goal

pub returns-in-Some : goal.returns-in-Some
returns-in-Some c =
    let state = state_of c.args.self.now in
    inr (too_deep_at state c.args.parent c.depth.result (nodes_of c.args.nodes.now) c.in_ok-place.field-0 c.depth.ensures.value c.in_ok-place.ensures.found ∙ ap (option_map (λ (p : ℕ). TooDeep (state.next + p))) c.in-Some.is)

pub returns-in-None : goal.returns-in-None
returns-in-None c =
    let state = state_of c.args.self.now in
    too_deep_at state c.args.parent c.depth.result (nodes_of c.args.nodes.now) c.in_ok-place.field-0 c.depth.ensures.value c.in_ok-place.ensures.found ∙ ap (option_map (λ (p : ℕ). TooDeep (state.next + p))) c.in-None.is
