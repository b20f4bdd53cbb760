use Rattle.std.proofs.Common.{◌≡◌, ◌∙◌, ℕ, ◌-◌, List, [], ◌++◌, ap, sym, arith, append_assoc}
use Rattle.std.specs.Prelude.{flat_map}
use Rattle.std.proofs.lemmas.List.{append-nil}
use Rattle.dom_store.specs.State.{state_of}
use Rattle.dom_store.specs.Standing.{below_levels, children_at, unless_skipped}
use Rattle.dom_store.proofs.StandLaws.{levels_at, no_level}
use Rattle.dom_store.proofs.document.Document.+collect.Goals as goal

pub collect-returns-then-levels-eq0 : goal.collect-returns-then-levels-eq0
collect-returns-then-levels-eq0 t c =
    let state = state_of c.args.self.now in
    let found = c.args.found.now.items in
    let none : below_levels c.args.skipped c.args.levels state c.args.n ≡ [] = ap (λ (levels : ℕ). below_levels c.args.skipped levels state c.args.n) c.if-levels-eq0.true ∙ no_level c.args.skipped state c.args.n in
    sym (append-nil found) ∙ ap (λ (l : List ℕ). found ++ l) (sym none)

pub collect-returns : goal.collect-returns
collect-returns t c =
    let state = state_of c.args.self.now in
    let found = c.args.found.now.items in
    let levels = c.args.levels - 1 in
    let own = unless_skipped c.args.skipped c.args.n in
    let f = below_levels (c.args.skipped - 1) levels state in
    let below : flat_map (below_levels c.saturating_sub.result levels state) c.children.result.now ≡ flat_map f (children_at state c.args.n) =
    ap (λ (skipped : ℕ). flat_map (below_levels skipped levels state) c.children.result.now) c.saturating_sub.ensures ∙ ap (flat_map f) c.children.ensures in
    c.in_ok-collect_all.ensures
    ∙ (ap (λ (l : List ℕ). c.put_unless_skipped.new.found.items ++ l) below
    ∙ (ap (λ (l : List ℕ). l ++ flat_map f (children_at state c.args.n)) c.in_ok-put_unless_skipped.ensures
    ∙ (append_assoc found own (flat_map f (children_at state c.args.n))
    ∙ ap (λ (l : List ℕ). found ++ l) (sym (levels_at c.args.skipped c.args.levels state c.args.n (omega (arith, c.if-levels-eq0.false)))))))
