use Rattle.std.proofs.Common.{◌∙◌, ℕ, List, [], ◌∷◌, ◌++◌, ap, sym}
use Rattle.std.proofs.lemmas.Result.{on_ok_weaker, on_err_weaker}
use Rattle.dom_store.specs.Edits.{with_children}
use Rattle.dom_store.specs.State.{Entry, entry_of, state_of}
use Rattle.dom_store.proofs.BackLaws.{unchanged}
use Rattle.dom_store.proofs.WriteLaws.{put_under}
use Rattle.dom_store.proofs.document.Document.put_last.Goals as goal

pub returns-in-Some-clause-put : goal.returns-in-Some-clause-put
returns-in-Some-clause-put c =
    let was = c.index_mut.result.now in
    let put : List ℕ → Entry = λ children. with_children (λ before. children) (entry_of was) in
    on_ok_weaker c.put_end.result (λ same. put_under c.args.self.now.nodes c.args.self.now.keys c.args.self.now.next c.args.n c.in-Some.key.now was _ (with_children (λ children. children ++ c.args.child ∷ [])) c.args.self.now.sound (sym c.in-Some.ensures.value) c.index_mut.ensures.value (ap put same)) c.put_end.ensures.put

pub returns-in-Some-clause-same : goal.returns-in-Some-clause-same
returns-in-Some-clause-same c =
    let was = c.index_mut.result.now in
    let put : List ℕ → Entry = λ children. with_children (λ before. children) (entry_of was) in
    on_err_weaker c.put_end.result (λ same.
    put_under c.args.self.now.nodes c.args.self.now.keys c.args.self.now.next c.args.n c.in-Some.key.now was _ (λ entry. entry) c.args.self.now.sound (sym c.in-Some.ensures.value) c.index_mut.ensures.value (ap put same)
    ∙ unchanged (state_of c.args.self.now) c.args.n) c.put_end.ensures.same
