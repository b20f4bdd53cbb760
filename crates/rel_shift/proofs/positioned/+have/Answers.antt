use Rattle.std.proofs.Common.{◌∙◌, ap, sym, refl, arith}
use Rattle.std.specs.List.{list_any}
use Rattle.rel_shift.specs.Positions.{has_insets}
use Rattle.rel_shift.proofs.Listed.{any_here, any_inside, any_later, any_none, any_own, of_hidden}
use Rattle.rel_shift.proofs.positioned.+have.Goals as goal

pub has_relative_in-returns-then-is_hidden : goal.has_relative_in-returns-then-is_hidden
has_relative_in-returns-then-is_hidden t c = λ parent holder.
    sym (ap (list_any has_insets) (of_hidden parent holder c.args.node.now c.role_of.result c.role_of.ensures (sym c.is_hidden.ensures ∙ c.if-is_hidden.true)))

pub has_relative_in-returns-then-is_some : goal.has_relative_in-returns-then-is_some
has_relative_in-returns-then-is_some t c = λ parent holder.
    c.if-is_some.true
    ∙ any_own parent holder c.args.node.now c.role_of.result c.insets_of.result _ c.role_of.ensures (sym c.is_hidden.ensures ∙ c.if-is_hidden.false) c.insets_of.ensures refl (sym c.is_some.ensures ∙ c.if-is_some.true)

pub has_relative_in-returns-else-is_some : goal.has_relative_in-returns-else-is_some
has_relative_in-returns-else-is_some t c = λ parent holder.
    any_inside parent holder c.args.node.now c.role_of.result c.insets_of.result c.deref.result.now c.role_of.ensures (sym c.is_hidden.ensures ∙ c.if-is_hidden.false) c.insets_of.ensures c.deref.ensures.value
    c.have_relative.result (sym c.is_some.ensures ∙ c.if-is_some.false) c.have_relative.ensures

pub have_relative-returns-then-has_relative_in : goal.have_relative-returns-then-has_relative_in
have_relative-returns-then-has_relative_in t c = λ parent holder.
    any_here parent holder c.args.nodes.now c.loop-node.node-index c.node-item.result _ (omega arith) c.node-item.is (sym c.if-has_relative_in.true ∙ c.has_relative_in.ensures parent holder) (c.loop-node.invariant parent holder)

pub have_relative-loop-node-preserved : goal.have_relative-loop-node-preserved
have_relative-loop-node-preserved t c = λ parent holder.
    any_later parent holder c.args.nodes.now c.loop-node.node-index c.node-item.result _ (omega arith) c.node-item.is (sym c.if-has_relative_in.false ∙ c.has_relative_in.ensures parent holder) (c.loop-node.invariant parent holder)

pub have_relative-returns : goal.have_relative-returns
have_relative-returns t c = λ parent holder. any_none parent holder c.args.nodes.now c.loop-node.node-index _ (omega arith) (c.loop-node.invariant parent holder)
