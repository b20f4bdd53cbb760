use Rattle.std.proofs.Common.{◌∙◌, ◌-◌, sym, arith, length}
use Rattle.std.proofs.lemmas.List.{length-take-le}
use Rattle.cascade.proofs.Shelving.{above_of_parts, above_of_none}
use Rattle.cascade.proofs.UpperNames.{named, unnamed}
use Rattle.cascade.proofs.shelves.upper_name.Goals as goal

pub returns-then-is_some : goal.returns-then-is_some
returns-then-is_some c other =
    sym (c.loop-left.invariant.same other) ∙ sym (above_of_parts c.loop-left.left.now c.nearest-item.result other c.in-len1-up.len_at_least c.nearest-item.is)
    ∙ c.name_in-name.ensures _ ∙ named c.name_in-name.result _ other (sym c.if-is_some.ensures)

pub loop-left-preserved : goal.loop-left-preserved
loop-left-preserved c = record {
  shorter = omega (arith, length-take-le (length c.loop-left.left.now - 1) c.loop-left.left.now (omega arith), c.loop-left.invariant.shorter);
  same = λ other. sym (unnamed c.name_in-name.result _ (sym c.if-is_some.ensures)) ∙ sym (c.name_in-name.ensures _)
      ∙ above_of_parts c.loop-left.left.now c.nearest-item.result other c.in-len1-up.len_at_least c.nearest-item.is ∙ c.loop-left.invariant.same other;
}

pub returns : goal.returns
returns c other = sym (c.loop-left.invariant.same other) ∙ sym (above_of_none c.loop-left.left.now other c.in_default.len_below)
