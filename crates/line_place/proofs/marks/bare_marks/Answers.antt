use Rattle.std.proofs.Common.{◌∙◌, ap, sym, arith, map, ◌++◌, List, [], ◌∷◌, ℕ, length, subst, drop, ◌+◌, Option}
use Rattle.std.proofs.lemmas.List.{map_push}
use Rattle.line_place.specs.Runs.{runs}
use Rattle.line_place.specs.Marks.{Mark, marks_after, mark_of, shows}
use Rattle.line_place.specs.Reach.{IsBefore}
use Rattle.line_place.proofs.Chains.{run_within}
use Rattle.line_place.proofs.MarkLaws.{one_run}
use Rattle.line_place.proofs.marks.bare_marks.Goals as goal

pub pass-requires-clause-to : goal.pass-requires-clause-to
pass-requires-clause-to g c =
    let P : Option ℕ → Type 0 = λ o. IsBefore (length c.args.boxes.now) o in
    subst P (sym c.first_inside-next.ensures) (run_within (length c.args.boxes.now) c.loop-at.at _ c.args.leaves.now c.run_at-run.result c.requires.within c.run_at-run.ensures.is c.run_at-run.ensures.some)

pub loop-at-preserved : goal.loop-at-preserved
loop-at-preserved g c =
    let P : Option ℕ → Type 0 = λ o. IsBefore (length c.args.boxes.now) o in
    record {
      all =
          ap (λ (n : ℕ). map mark_of c.push.new.self.items ++ marks_after c.args.boxes.now c.first_inside-next.result (runs (drop (c.loop-at.at + n) c.args.leaves.now))) c.len-at.ensures
          ∙ ap (λ (done : List Mark). done ++ marks_after c.args.boxes.now c.first_inside-next.result (runs (drop (c.loop-at.at + length c.run_at-run.result) c.args.leaves.now)))
          (ap (map mark_of) c.in_ok-push.ensures.items ∙ map_push mark_of _ _ ∙ ap (λ (done : List Mark). done ++ shows c.run_at-run.result ∷ []) c.in_ok-pass.ensures)
          ∙ one_run c.args.boxes.now _ _ c.run_at-run.result _ _ _ _ c.run_at-run.ensures.runs c.first_inside-next.ensures c.loop-at.invariant.all;
      inside = subst P (sym c.first_inside-next.ensures) (run_within (length c.args.boxes.now) c.loop-at.at _ c.args.leaves.now c.run_at-run.result c.requires.within c.run_at-run.ensures.is c.run_at-run.ensures.some);
      at = omega (arith, c.len-at.ensures, c.run_at-run.ensures.within);
    }
