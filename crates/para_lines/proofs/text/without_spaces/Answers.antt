use Rattle.std.proofs.Common.{◌∙◌, ◌<◌, ◌-◌, ap, sym, arith, length}
use Rattle.std.proofs.lemmas.List.{get_or-map}
use Rattle.line_place.specs.Line.{Item}
use Rattle.para_lines.specs.Filling.{is_space}
use Rattle.para_lines.specs.Standing.{Standing, plain}
use Rattle.para_lines.specs.Text.{bare}
use Rattle.para_lines.proofs.TextLines.{one_space}
use Rattle.para_lines.proofs.text.without_spaces.Goals as goal

pub loop-count-preserved : goal.loop-count-preserved
loop-count-preserved c = (
  omega arith,
  one_space c.args.standings.now c.loop-count.count (plain c.at.result) (omega arith) c.loop-count.invariant.0 (c.at.ensures (plain c.at.result)) (sym c.is_space_here.ensures ∙ c.if-is_space_here.true) c.loop-count.invariant.1,
)

pub returns-else-is_space_here : goal.returns-else-is_space_here
returns-else-is_space_here c =
    let standings = c.args.standings.now in
    record {
      within = c.loop-count.invariant.0;
      last = λ some d.
          let lt : c.loop-count.count - 1 < length standings = omega (arith, some, c.loop-count.invariant.0) in
          ap (λ (i : Item). i.space) (get_or-map bare standings (c.loop-count.count - 1) (plain c.at.result) d lt)
          ∙ ap (λ (s : Standing). is_space s.item.what) (sym (c.at.ensures (plain c.at.result)))
          ∙ sym c.is_space_here.ensures ∙ c.if-is_space_here.false;
      spaces = c.loop-count.invariant.1;
    }
