use Rattle.wm_modes.specs.Sides.{side_of}
use Rattle.css_types.specs.Reach.{axis_of}
use Rattle.css_types.proofs.PairLaws.{one_physical_side, one_physical_axis, each_side, each_axis}
use Rattle.css_types.proofs.laws.flow_and_page_pair_up.Goals as goal

pub returns : goal.returns
returns c = record {
  one_side = λ mode dir family s. one_physical_side family (side_of mode dir s);
  one_axis = λ mode dir family a. one_physical_axis family (axis_of mode a);
  each_side = each_side;
  each_axis = each_axis;
}
