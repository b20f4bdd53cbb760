use Rattle.std.proofs.Common.{◌∙◌, ◌+◌, refl, sym, subst, arith, List, Option}
use Rattle.std.specs.Prelude.{IfSome}
use Rattle.relayout.specs.declared.flowed.LaidBox.{LaidBox}
use Rattle.relayout.specs.Flowing.{CanFlowBox}
use Rattle.relayout.specs.Inline.{Outside}
use Rattle.relayout.specs.Row.{AreFlowed, IsFlowedAt, outside_of}
use Rattle.relayout.proofs.BoxCounts.{so_far_costs}
use Rattle.relayout.proofs.Counting.{counting_costs, counting_ends, counting_first, kept_costs, kept_done}
use Rattle.relayout.proofs.FlowCounts.{begin_breaks, begins, contributes, contributions_break, finished_done, finishes, gone_of, inside_breaks, not_kept, puts, row_breaks_off, row_goes_on, there_of}
use Rattle.relayout.proofs.FlowingLaws.{Going, begun_on, flowed_on, going_box, going_ends, going_ends_late, going_first, going_next, none_late, sized_on}
use Rattle.relayout.proofs.RowLaws.{lives_there, steady_itself, steady_then}
use Rattle.relayout.proofs.flowing.Flow.+flow.Goals as goal
use Rattle.relayout.proofs.flowing.Flow.+flow.Goals.{else-loop-test, then-loop-test+in_default}

pub count_of-requires : goal.count_of-requires
count_of-requires g t c = c.requires.can.boxes

pub returns-in_err-laid-clause-steady : goal.returns-in_err-laid-clause-steady
returns-in_err-laid-clause-steady g t c = steady_itself (outside_of (λ vtable. (g.dyn-1.0.entry vtable).1) c.args.page) c.args.self.now.arena.now c.requires.can.right

pub returns-in_err-laid-clause-costs : goal.returns-in_err-laid-clause-costs
returns-in_err-laid-clause-costs g t c =
    let outside = outside_of (λ vtable. (g.dyn-1.0.entry vtable).1) c.args.page in
    counting_costs outside _ _ c.args.row.now c.args.row.now.from _ _ (counting_first outside c.args.self.now.arena.now.slots c.args.row.now _)

pub loop-init : goal.loop-init
loop-init g t c =
    let outside = outside_of (λ vtable. (g.dyn-1.0.entry vtable).1) c.args.page in
    let arena = c.args.self.now.arena.now in
    let P : List LaidBox → Type 0 = λ laid. Going outside arena arena c.args.row.now c.args.row.now.from 0 laid in
    record { arena = refl; texts = refl; arranged = refl; counting = counting_first outside arena.slots c.args.row.now _; going = subst P (sym c.in_ok-laid.ensures.items) (going_first outside arena c.args.row.now c.requires.can) }

pub next-next-requires : goal.next-next-requires
next-next-requires g t c =
    let has = (going_box _ _ _ _ _ _ _ c.in-Some.key _ c.loop.invariant.going c.in-Some.is refl).box in
    lives_there c.loop.self.arena.now c.in-Some.key has.node has.is

pub kept_box-requires : goal.kept_box-requires
kept_box-requires g t c = (going_box _ _ _ _ _ _ _ c.in-Some.key _ c.loop.invariant.going c.in-Some.is c.at-own.ensures).box

pub begin_box-requires : goal.begin_box-requires
begin_box-requires g t c = record { can = going_box _ _ _ _ _ _ _ c.in-Some.key _ c.loop.invariant.going c.in-Some.is c.at-own.ensures }

pub loop-preserved-in-Some-2 : goal.loop-preserved-in-Some-2
loop-preserved-in-Some-2 g t c =
    let outside = outside_of (λ vtable. (g.dyn-1.0.entry vtable).1) c.args.page in
    let now = c.loop.self.arena.now in
    let going = c.loop.invariant.going in
    let P : List LaidBox → Type 0 = λ laid. Going outside c.args.self.now.arena.now now c.args.row.now c.next-next.result (c.loop.counter + 1) laid in
    let Q : Option LaidBox → Type 0 = λ found. IfSome found (λ laid. (outside : Outside) → CanFlowBox outside now.slots c.at-own.result → IsFlowedAt outside now.slots c.at-own.result laid) in
    let flowed = (subst Q c.in-Some-2.is c.in_ok-kept.ensures.flowed) outside (going_box outside _ _ _ _ _ _ c.in-Some.key _ going c.in-Some.is c.at-own.ensures) in
    record {
      arena = c.loop.invariant.arena;
      texts = c.loop.invariant.texts;
      arranged = c.loop.invariant.arranged;
      counting = row_goes_on outside _ now now c.args.row.now c.loop.next c.in-Some.key c.at-own.result _ _ _ going.steady (steady_itself outside now going.steady.right) c.in_ok-kept.ensures.linked c.loop.invariant.counting
          c.in-Some.is c.at-own.ensures (kept_costs outside now.slots c.at-own.result _) c.next-next.result c.next-next.ensures
          (kept_done outside now.slots c.at-own.result _ (there_of now.slots c.at-own.result _ c.in-Some-2.kept c.in_ok-kept.ensures.kept c.in-Some-2.is));
      going = subst P (sym c.in_ok-push.ensures.items)
          (going_next outside _ now now c.args.row.now c.loop.next c.next-next.result c.loop.counter c.loop.laid.items c.in-Some.key c.at-own.result c.in-Some-2.kept going c.in-Some.is c.at-own.ensures c.next-next.ensures
          c.in_ok-kept.ensures.linked (steady_itself outside now going.steady.right) flowed);
    }

pub returns-in_err-kept-clause-steady : goal.returns-in_err-kept-clause-steady
returns-in_err-kept-clause-steady g t c = c.loop.invariant.going.steady

pub returns-in_err-push-clause-steady : goal.returns-in_err-push-clause-steady
returns-in_err-push-clause-steady g t c = c.loop.invariant.going.steady

pub returns-in_err-begun-clause-steady : goal.returns-in_err-begun-clause-steady
returns-in_err-begun-clause-steady g t c = steady_then _ _ _ _ c.loop.invariant.going.steady c.in_err-begun.ensures.steady

pub returns-in_err-contributing-clause-steady : goal.returns-in_err-contributing-clause-steady
returns-in_err-contributing-clause-steady g t c = steady_then _ _ _ _ (steady_then _ _ _ _ c.loop.invariant.going.steady c.in_ok-begun.ensures.steady) c.in_err-contributing.ensures.steady

pub size_box-requires-clause-begun : goal.size_box-requires-clause-begun
size_box-requires-clause-begun g t c = begun_on _ _ _ c.at-own.result c.in_ok-contributing.ensures.steady c.in_ok-begun.begun c.in_ok-begun.ensures.begun

pub size_box-requires-clause-flowed : goal.size_box-requires-clause-flowed
size_box-requires-clause-flowed g t c =
    let outside = outside_of (λ vtable. (g.dyn-1.0.entry vtable).1) c.args.page in
    let row = c.in_ok-begun.begun.contributing in
    let P : List LaidBox → Type 0 = λ laid. AreFlowed outside c.flow.new.self.arena.now.slots row.from row.containing row.c laid in
    subst P (sym c.deref.ensures.value) (flowed_on outside _ _ row _ c.in_ok-contributing.ensures.steady c.in_ok-contributing.ensures.flowed)

pub returns-in_err-sized-clause-steady : goal.returns-in_err-sized-clause-steady
returns-in_err-sized-clause-steady g t c = steady_then _ _ _ _ (steady_then _ _ _ _ c.loop.invariant.going.steady c.in_ok-begun.ensures.steady) c.in_ok-contributing.ensures.steady

pub returns-in_err-inside-clause-steady : goal.returns-in_err-inside-clause-steady
returns-in_err-inside-clause-steady g t c =
    steady_then _ _ _ _ (steady_then _ _ _ _ (steady_then _ _ _ _ c.loop.invariant.going.steady c.in_ok-begun.ensures.steady) c.in_ok-contributing.ensures.steady) c.in_err-inside.ensures.steady

pub finish_box-requires-clause-sized : goal.finish_box-requires-clause-sized
finish_box-requires-clause-sized g t c = sized_on _ _ _ c.at-own.result c.in_ok-inside.ensures.steady c.in_ok-sized.sized c.in_ok-sized.ensures.sized

pub finish_box-requires-clause-flowed : goal.finish_box-requires-clause-flowed
finish_box-requires-clause-flowed g t c =
    let outside = outside_of (λ vtable. (g.dyn-1.0.entry vtable).1) c.args.page in
    let row = c.in_ok-sized.sized.inside in
    let P : List LaidBox → Type 0 = λ laid. AreFlowed outside c.flow-in-loop.new.self.arena.now.slots row.from row.containing row.c laid in
    subst P (sym c.deref-in-loop.ensures.value) (flowed_on outside _ _ row _ c.in_ok-inside.ensures.steady c.in_ok-inside.ensures.flowed)

pub returns-in_err-made-clause-steady : goal.returns-in_err-made-clause-steady
returns-in_err-made-clause-steady g t c =
    steady_then _ _ _ _ (steady_then _ _ _ _ (steady_then _ _ _ _ (steady_then _ _ _ _ c.loop.invariant.going.steady c.in_ok-begun.ensures.steady) c.in_ok-contributing.ensures.steady) c.in_ok-inside.ensures.steady) c.in_err-made.ensures.steady

pub returns-in_err-push-2-clause-steady : goal.returns-in_err-push-2-clause-steady
returns-in_err-push-2-clause-steady g t c =
    steady_then _ _ _ _ (steady_then _ _ _ _ (steady_then _ _ _ _ (steady_then _ _ _ _ c.loop.invariant.going.steady c.in_ok-begun.ensures.steady) c.in_ok-contributing.ensures.steady) c.in_ok-inside.ensures.steady) c.in_ok-made.ensures.steady

pub loop-preserved : goal.loop-preserved
loop-preserved g t c =
    let outside = outside_of (λ vtable. (g.dyn-1.0.entry vtable).1) c.args.page in
    let steady = steady_then _ _ _ _ (steady_then _ _ _ _ (steady_then _ _ _ _ c.in_ok-begun.ensures.steady c.in_ok-contributing.ensures.steady) c.in_ok-inside.ensures.steady) c.in_ok-made.ensures.steady in
    let can = going_box outside _ _ _ _ _ _ c.in-Some.key _ c.loop.invariant.going c.in-Some.is c.at-own.ensures in
    let gone = gone_of _ c.at-own.result _ c.in_ok-kept.ensures.kept c.in_default-2.is in
    let far = begins outside _ _ c.at-own.result _ _ gone c.in_ok-begun.ensures.steady c.in_ok-begun.ensures.costs c.in_ok-begun.ensures.done in
    let far_contributed = contributes outside c.loop.self.arena.now _ _ c.at-own.result _ _ _ c.in_ok-kept.ensures.linked can far c.in_ok-contributing.ensures.steady c.in_ok-begun.begun c.in_ok-begun.ensures.begun c.in_ok-contributing.ensures.costs c.in_ok-contributing.ensures.done in
    let far_put = puts outside c.loop.self.arena.now _ _ c.at-own.result _ _ _ c.in_ok-kept.ensures.linked can far_contributed c.in_ok-inside.ensures.steady c.in_ok-sized.sized c.in_ok-sized.ensures.sized c.in_ok-inside.ensures.costs c.in_ok-inside.ensures.done in
    let P : List LaidBox → Type 0 = λ laid. Going outside c.args.self.now.arena.now c.finish_box.new.self.arena.now c.args.row.now c.next-next.result (c.loop.counter + 1) laid in
    record {
      arena = c.in_ok-made.ensures.arena ∙ c.in_ok-inside.ensures.arena ∙ c.in_ok-contributing.ensures.arena ∙ c.in_ok-begun.ensures.arena ∙ c.loop.invariant.arena;
      texts = c.in_ok-made.ensures.texts ∙ c.in_ok-inside.ensures.texts ∙ c.in_ok-contributing.ensures.texts ∙ c.in_ok-begun.ensures.texts ∙ c.loop.invariant.texts;
      arranged = c.in_ok-made.ensures.arranged ∙ c.in_ok-inside.ensures.arranged ∙ c.in_ok-contributing.ensures.arranged ∙ c.in_ok-begun.ensures.arranged ∙ c.loop.invariant.arranged;
      counting = row_goes_on outside _ _ _ c.args.row.now c.loop.next c.in-Some.key c.at-own.result _ _ _ c.loop.invariant.going.steady steady c.in_ok-kept.ensures.linked c.loop.invariant.counting c.in-Some.is c.at-own.ensures
          (finishes outside _ _ _ _ _ c.at-own.result c.in_ok-begun.begun c.in_ok-sized.sized _ _ _ _ _ _ c.in_ok-kept.ensures.linked far_put c.in_ok-begun.ensures.steady c.in_ok-contributing.ensures.steady c.in_ok-inside.ensures.steady c.in_ok-made.ensures.steady c.in_ok-begun.ensures.begun c.in_ok-contributing.ensures.done c.in_ok-sized.ensures.sized c.in_ok-inside.ensures.done c.in_ok-made.ensures.keeps c.in_ok-made.ensures.no_text c.in_ok-made.ensures.most.1) c.next-next.result c.next-next.ensures
          (finished_done outside _ _ _ _ _ c.at-own.result c.in_ok-begun.begun c.in_ok-sized.sized _ _ _ _ _ _ c.in_ok-kept.ensures.linked far_put c.in_ok-begun.ensures.steady c.in_ok-contributing.ensures.steady c.in_ok-inside.ensures.steady c.in_ok-made.ensures.steady c.in_ok-begun.ensures.begun c.in_ok-contributing.ensures.done c.in_ok-sized.ensures.sized c.in_ok-inside.ensures.done c.in_ok-made.ensures.keeps c.in_ok-made.ensures.no_text c.in_ok-made.ensures.most.1);
      going = subst P (sym c.in_ok-push-2.ensures.items)
          (going_next outside _ c.loop.self.arena.now _ c.args.row.now c.loop.next c.next-next.result c.loop.counter c.loop.laid.items c.in-Some.key c.at-own.result c.in_ok-made.made c.loop.invariant.going c.in-Some.is
          c.at-own.ensures c.next-next.ensures c.in_ok-kept.ensures.linked steady c.in_ok-made.ensures.flowed);
    }

pub returns-in_err-kept-clause-costs : goal.returns-in_err-kept-clause-costs
returns-in_err-kept-clause-costs g t c =
    let outside = outside_of (λ vtable. (g.dyn-1.0.entry vtable).1) c.args.page in
    counting_costs outside _ _ c.args.row.now c.loop.next _ _ c.loop.invariant.counting

pub returns-in_err-push-clause-costs : goal.returns-in_err-push-clause-costs
returns-in_err-push-clause-costs g t c =
    let outside = outside_of (λ vtable. (g.dyn-1.0.entry vtable).1) c.args.page in
    counting_costs outside _ _ c.args.row.now c.loop.next _ _ c.loop.invariant.counting

pub returns-in_err-begun-clause-costs : goal.returns-in_err-begun-clause-costs
returns-in_err-begun-clause-costs g t c =
    let outside = outside_of (λ vtable. (g.dyn-1.0.entry vtable).1) c.args.page in
    row_breaks_off outside _ _ _ c.args.row.now c.loop.next c.in-Some.key c.at-own.result _ _ _ c.loop.invariant.going.steady c.in_err-begun.ensures.steady c.in_ok-kept.ensures.linked c.loop.invariant.counting c.in-Some.is c.at-own.ensures
    (begin_breaks outside _ _ c.at-own.result _ _ c.in_err-begun.ensures.steady c.in_err-begun.ensures.costs)

pub returns-in_err-contributing-clause-costs : goal.returns-in_err-contributing-clause-costs
returns-in_err-contributing-clause-costs g t c =
    let outside = outside_of (λ vtable. (g.dyn-1.0.entry vtable).1) c.args.page in
    let can = going_box outside _ _ _ _ _ _ c.in-Some.key _ c.loop.invariant.going c.in-Some.is c.at-own.ensures in
    let gone = gone_of _ c.at-own.result _ c.in_ok-kept.ensures.kept c.in_default-2.is in
    let far = begins outside _ _ c.at-own.result _ _ gone c.in_ok-begun.ensures.steady c.in_ok-begun.ensures.costs c.in_ok-begun.ensures.done in
    row_breaks_off outside _ _ _ c.args.row.now c.loop.next c.in-Some.key c.at-own.result _ _ _ c.loop.invariant.going.steady (steady_then _ _ _ _ c.in_ok-begun.ensures.steady c.in_err-contributing.ensures.steady) c.in_ok-kept.ensures.linked c.loop.invariant.counting c.in-Some.is c.at-own.ensures
    (contributions_break outside c.loop.self.arena.now _ _ c.at-own.result _ _ _ c.in_ok-kept.ensures.linked can far c.in_err-contributing.ensures.steady c.in_ok-begun.begun c.in_ok-begun.ensures.begun c.in_err-contributing.ensures.costs)

pub returns-in_err-sized-clause-costs : goal.returns-in_err-sized-clause-costs
returns-in_err-sized-clause-costs g t c =
    let outside = outside_of (λ vtable. (g.dyn-1.0.entry vtable).1) c.args.page in
    let can = going_box outside _ _ _ _ _ _ c.in-Some.key _ c.loop.invariant.going c.in-Some.is c.at-own.ensures in
    let gone = gone_of _ c.at-own.result _ c.in_ok-kept.ensures.kept c.in_default-2.is in
    let far = begins outside _ _ c.at-own.result _ _ gone c.in_ok-begun.ensures.steady c.in_ok-begun.ensures.costs c.in_ok-begun.ensures.done in
    let far_contributed = contributes outside c.loop.self.arena.now _ _ c.at-own.result _ _ _ c.in_ok-kept.ensures.linked can far c.in_ok-contributing.ensures.steady c.in_ok-begun.begun c.in_ok-begun.ensures.begun c.in_ok-contributing.ensures.costs c.in_ok-contributing.ensures.done in
    row_breaks_off outside _ _ _ c.args.row.now c.loop.next c.in-Some.key c.at-own.result _ _ _ c.loop.invariant.going.steady (steady_then _ _ _ _ c.in_ok-begun.ensures.steady c.in_ok-contributing.ensures.steady) c.in_ok-kept.ensures.linked c.loop.invariant.counting c.in-Some.is c.at-own.ensures
    (so_far_costs outside _ _ c.at-own.result _ _ far_contributed)

pub returns-in_err-inside-clause-costs : goal.returns-in_err-inside-clause-costs
returns-in_err-inside-clause-costs g t c =
    let outside = outside_of (λ vtable. (g.dyn-1.0.entry vtable).1) c.args.page in
    let can = going_box outside _ _ _ _ _ _ c.in-Some.key _ c.loop.invariant.going c.in-Some.is c.at-own.ensures in
    let gone = gone_of _ c.at-own.result _ c.in_ok-kept.ensures.kept c.in_default-2.is in
    let far = begins outside _ _ c.at-own.result _ _ gone c.in_ok-begun.ensures.steady c.in_ok-begun.ensures.costs c.in_ok-begun.ensures.done in
    let far_contributed = contributes outside c.loop.self.arena.now _ _ c.at-own.result _ _ _ c.in_ok-kept.ensures.linked can far c.in_ok-contributing.ensures.steady c.in_ok-begun.begun c.in_ok-begun.ensures.begun c.in_ok-contributing.ensures.costs c.in_ok-contributing.ensures.done in
    row_breaks_off outside _ _ _ c.args.row.now c.loop.next c.in-Some.key c.at-own.result _ _ _ c.loop.invariant.going.steady (steady_then _ _ _ _ (steady_then _ _ _ _ c.in_ok-begun.ensures.steady c.in_ok-contributing.ensures.steady) c.in_err-inside.ensures.steady) c.in_ok-kept.ensures.linked c.loop.invariant.counting c.in-Some.is c.at-own.ensures
    (inside_breaks outside c.loop.self.arena.now _ _ c.at-own.result _ _ _ c.in_ok-kept.ensures.linked can far_contributed c.in_err-inside.ensures.steady c.in_ok-sized.sized c.in_ok-sized.ensures.sized c.in_err-inside.ensures.costs)

pub returns-in_err-made-clause-costs : goal.returns-in_err-made-clause-costs
returns-in_err-made-clause-costs g t c =
    let outside = outside_of (λ vtable. (g.dyn-1.0.entry vtable).1) c.args.page in
    let can = going_box outside _ _ _ _ _ _ c.in-Some.key _ c.loop.invariant.going c.in-Some.is c.at-own.ensures in
    let gone = gone_of _ c.at-own.result _ c.in_ok-kept.ensures.kept c.in_default-2.is in
    let far = begins outside _ _ c.at-own.result _ _ gone c.in_ok-begun.ensures.steady c.in_ok-begun.ensures.costs c.in_ok-begun.ensures.done in
    let far_contributed = contributes outside c.loop.self.arena.now _ _ c.at-own.result _ _ _ c.in_ok-kept.ensures.linked can far c.in_ok-contributing.ensures.steady c.in_ok-begun.begun c.in_ok-begun.ensures.begun c.in_ok-contributing.ensures.costs c.in_ok-contributing.ensures.done in
    let far_put = puts outside c.loop.self.arena.now _ _ c.at-own.result _ _ _ c.in_ok-kept.ensures.linked can far_contributed c.in_ok-inside.ensures.steady c.in_ok-sized.sized c.in_ok-sized.ensures.sized c.in_ok-inside.ensures.costs c.in_ok-inside.ensures.done in
    row_breaks_off outside _ _ _ c.args.row.now c.loop.next c.in-Some.key c.at-own.result _ _ _ c.loop.invariant.going.steady (steady_then _ _ _ _ (steady_then _ _ _ _ (steady_then _ _ _ _ c.in_ok-begun.ensures.steady c.in_ok-contributing.ensures.steady) c.in_ok-inside.ensures.steady) c.in_err-made.ensures.steady) c.in_ok-kept.ensures.linked c.loop.invariant.counting c.in-Some.is c.at-own.ensures
    (not_kept outside c.loop.self.arena.now _ _ c.at-own.result _ _ _ far_put c.in_err-made.ensures.unchanged c.in_err-made.ensures.no_text c.in_err-made.ensures.most.1)

pub returns-in_err-push-2-clause-costs : goal.returns-in_err-push-2-clause-costs
returns-in_err-push-2-clause-costs g t c =
    let outside = outside_of (λ vtable. (g.dyn-1.0.entry vtable).1) c.args.page in
    let can = going_box outside _ _ _ _ _ _ c.in-Some.key _ c.loop.invariant.going c.in-Some.is c.at-own.ensures in
    let gone = gone_of _ c.at-own.result _ c.in_ok-kept.ensures.kept c.in_default-2.is in
    let far = begins outside _ _ c.at-own.result _ _ gone c.in_ok-begun.ensures.steady c.in_ok-begun.ensures.costs c.in_ok-begun.ensures.done in
    let far_contributed = contributes outside c.loop.self.arena.now _ _ c.at-own.result _ _ _ c.in_ok-kept.ensures.linked can far c.in_ok-contributing.ensures.steady c.in_ok-begun.begun c.in_ok-begun.ensures.begun c.in_ok-contributing.ensures.costs c.in_ok-contributing.ensures.done in
    let far_put = puts outside c.loop.self.arena.now _ _ c.at-own.result _ _ _ c.in_ok-kept.ensures.linked can far_contributed c.in_ok-inside.ensures.steady c.in_ok-sized.sized c.in_ok-sized.ensures.sized c.in_ok-inside.ensures.costs c.in_ok-inside.ensures.done in
    row_breaks_off outside _ _ _ c.args.row.now c.loop.next c.in-Some.key c.at-own.result _ _ _ c.loop.invariant.going.steady (steady_then _ _ _ _ (steady_then _ _ _ _ (steady_then _ _ _ _ c.in_ok-begun.ensures.steady c.in_ok-contributing.ensures.steady) c.in_ok-inside.ensures.steady) c.in_ok-made.ensures.steady) c.in_ok-kept.ensures.linked c.loop.invariant.counting c.in-Some.is c.at-own.ensures
    (finishes outside _ _ _ _ _ c.at-own.result c.in_ok-begun.begun c.in_ok-sized.sized _ _ _ _ _ _ c.in_ok-kept.ensures.linked far_put c.in_ok-begun.ensures.steady c.in_ok-contributing.ensures.steady c.in_ok-inside.ensures.steady c.in_ok-made.ensures.steady c.in_ok-begun.ensures.begun c.in_ok-contributing.ensures.done c.in_ok-sized.ensures.sized c.in_ok-inside.ensures.done c.in_ok-made.ensures.keeps c.in_ok-made.ensures.no_text c.in_ok-made.ensures.most.1)

pub returns-clause-costs : goal.returns-clause-costs
returns-clause-costs g t c =
    let outside = outside_of (λ vtable. (g.dyn-1.0.entry vtable).1) c.args.page in
    counting_costs outside _ _ c.args.row.now c.loop.next _ _ c.loop.invariant.counting

pub returns-clause-done : goal.returns-clause-done
returns-clause-done g t c =
    let outside = outside_of (λ vtable. (g.dyn-1.0.entry vtable).1) c.args.page in
    elim c.loop-test.branch [
      | else-loop-test w ↦ counting_ends outside _ _ c.args.row.now c.loop.next _ _ c.loop.invariant.counting (none_late _ _ _ c.args.row.now c.loop.next c.loop.counter c.loop.laid.items c.loop.invariant.going (omega (arith, w.loop-test.false)))
      | then-loop-test+in_default w ↦ counting_ends outside _ _ c.args.row.now c.loop.next _ _ c.loop.invariant.counting w.in_default.is
    ]

pub returns-clause-steady : goal.returns-clause-steady
returns-clause-steady g t c = c.loop.invariant.going.steady

pub returns-clause-flowed : goal.returns-clause-flowed
returns-clause-flowed g t c =
    elim c.loop-test.branch [
      | else-loop-test w ↦ going_ends_late _ _ _ c.args.row.now c.loop.next c.loop.counter c.loop.laid.items c.loop.invariant.going (omega (arith, w.loop-test.false))
      | then-loop-test+in_default w ↦ going_ends _ _ _ c.args.row.now c.loop.next c.loop.counter c.loop.laid.items c.loop.invariant.going w.in_default.is
    ]
