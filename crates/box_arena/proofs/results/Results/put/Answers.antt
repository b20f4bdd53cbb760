use Rattle.std.proofs.Common.{◌≡◌, ◌∙◌, true, false, Option, Some, ap, sym, subst}
use Rattle.std.specs.Prelude.{ℤ}
use Rattle.std.specs.Map.{lookup}
use Rattle.std.specs.Ordering.{is_eq}
use Rattle.box_arena.specs.Results.{Results, result_for, sizes_cmp, stands_first, with_first}
use Rattle.box_arena.proofs.Firsts.{alike_behind, put_behind, put_first}
use Rattle.box_arena.proofs.Sizes.{sizes_apart}
use Rattle.box_arena.proofs.results.Results.put.Goals.{in-Some-1, in-None-1, in-Some-2, in-None-2}
use Rattle.box_arena.proofs.results.Results.put.Goals as goal

pub returns-then-stands_first-clause-others : goal.returns-then-stands_first-clause-others
returns-then-stands_first-clause-others c = λ other apart.
    let P : Option ℤ × Option ℤ → Type 0 = λ sizes. stands_first c.self.inside.first sizes ≡ true in
    let takes = subst P c.sizes_of-sizes.ensures (sym c.stands_first.ensures ∙ c.if-stands_first.true) in
    let as_before = put_first c.self.inside.first c.self.inside.others.entries c.args.c c.args.fragment takes other apart ∙ ap (λ (r : Results). result_for r other) c.self.view_is in
    let put = ap (λ (sizes : Option ℤ × Option ℤ). result_for (with_first (Some (sizes, c.args.fragment)) c.self.inside.others.entries) other) c.sizes_of-sizes.ensures in
    elim c.match-self.branch [
      | in-Some-1 w ↦ ap (λ (r : Results). result_for r other) w.self-is ∙ put ∙ as_before
      | in-None-1 w ↦ ap (λ (r : Results). result_for r other) w.self-is ∙ put ∙ as_before
    ]

pub returns-in_ok-insert-clause-here : goal.returns-in_ok-insert-clause-here
returns-in_ok-insert-clause-here c =
    let P : Option ℤ × Option ℤ → Type 0 = λ sizes. stands_first c.self.inside.first sizes ≡ false in
    let Q : Option ℤ × Option ℤ → Type 0 = λ key. lookup (λ sizes. is_eq (sizes_cmp key sizes)) c.insert.new.self.entries ≡ Some c.args.fragment in
    let passes = subst P c.sizes_of-sizes.ensures (sym c.stands_first.ensures ∙ c.if-stands_first.false) in
    let found = put_behind c.self.inside.first c.insert.new.self.entries c.args.c c.args.fragment passes (subst Q c.sizes_of-sizes.ensures c.in_ok-insert.ensures.updates.1) in
    elim c.match-branch-2.branch [
      | in-Some-2 w ↦ ap (λ (r : Results). result_for r c.args.c) w.self-is ∙ found
      | in-None-2 w ↦ ap (λ (r : Results). result_for r c.args.c) w.self-is ∙ found
    ]

pub returns-in_ok-insert-clause-others : goal.returns-in_ok-insert-clause-others
returns-in_ok-insert-clause-others c = λ other apart.
    let P : Option ℤ × Option ℤ → Type 0 = λ key. is_eq (sizes_cmp key (other.inline, other.block)) ≡ false in
    let alike = c.in_ok-insert.ensures.updates.2 (other.inline, other.block) (subst P (sym c.sizes_of-sizes.ensures) (sizes_apart c.args.c other apart)) in
    let as_before = alike_behind c.self.inside.first c.self.inside.others.entries c.insert.new.self.entries other alike ∙ ap (λ (r : Results). result_for r other) c.self.view_is in
    elim c.match-branch-2.branch [
      | in-Some-2 w ↦ ap (λ (r : Results). result_for r other) w.self-is ∙ as_before
      | in-None-2 w ↦ ap (λ (r : Results). result_for r other) w.self-is ∙ as_before
    ]
