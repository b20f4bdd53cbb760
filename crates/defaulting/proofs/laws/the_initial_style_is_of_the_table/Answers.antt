use Rattle.std.proofs.Common.{refl}
use Rattle.style_types.specs.Initial.{initial}
use Rattle.defaulting.proofs.laws.the_initial_style_is_of_the_table.Goals as goal

pub returns : goal.returns
unfolding initial
returns c = record {
  display = (_, (_, ((0, refl, refl)), refl), refl);
  mode = (_, (_, ((1, refl, refl)), refl), refl);
  direction = (_, (_, ((2, refl, refl)), refl), refl);
  orientation = (_, (_, ((3, refl, refl)), refl), refl);
  combine = (_, (_, ((4, refl, refl)), refl), refl);
  bidi = (_, (_, ((5, refl, refl)), refl), refl);
  font_size = (_, (_, ((6, refl, refl)), refl), refl);
  face = (_, (7, refl, refl), refl);
  line_height = (_, (_, (8, refl, refl), refl), refl);
  align = (_, (_, (9, refl, refl), refl), refl);
  shift = (_, (_, (10, refl, refl), refl), refl);
  width = (_, (_, (11, refl, refl), refl), refl);
  height = (_, (_, (12, refl, refl), refl), refl);
  min_width = (_, (_, (15, refl, refl), refl), refl);
  min_height = (_, (_, (16, refl, refl), refl), refl);
  max_width = (_, (_, (19, refl, refl), refl), refl);
  max_height = (_, (_, (20, refl, refl), refl), refl);
  margin_top = (_, (_, (23, refl, refl), refl), refl);
  margin_right = (_, (_, (24, refl, refl), refl), refl);
  margin_bottom = (_, (_, (25, refl, refl), refl), refl);
  margin_left = (_, (_, (26, refl, refl), refl), refl);
  padding_top = (_, (_, (31, refl, refl), refl), refl);
  padding_right = (_, (_, (32, refl, refl), refl), refl);
  padding_bottom = (_, (_, (33, refl, refl), refl), refl);
  padding_left = (_, (_, (34, refl, refl), refl), refl);
  border_top = (_, _, (_, (47, refl, refl), refl), (_, (39, refl, refl), refl), refl);
  border_right = (_, _, (_, (48, refl, refl), refl), (_, (40, refl, refl), refl), refl);
  border_bottom = (_, _, (_, (49, refl, refl), refl), (_, (41, refl, refl), refl), refl);
  border_left = (_, _, (_, (50, refl, refl), refl), (_, (42, refl, refl), refl), refl);
  relative = (_, (_, (55, refl, refl), refl), refl);
  inset_top = (_, (_, (56, refl, refl), refl), refl);
  inset_right = (_, (_, (57, refl, refl), refl), refl);
  inset_bottom = (_, (_, (58, refl, refl), refl), refl);
  inset_left = (_, (_, (59, refl, refl), refl), refl);
}
