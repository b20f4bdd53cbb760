-- A node plays one role in each way.
use Rattle.std.proofs.Common.{◌≡◌, refl}
use Rattle.style_types.specs.declared.style.Style.{Style}
use Rattle.style_types.specs.Tree as styled
use Rattle.style_types.specs.Tree.{NodeKind}
use Rattle.box_gen.specs.Boxes.{role_of}
use Rattle.mode_ways.specs.Ways.{Way, style_in}

pub same_role : (way : Way) (kind : NodeKind) (style : Style) → role_of kind (style_in way style) ≡ role_of kind style
same_role way styled.element style = refl
same_role way styled.line_break style = refl
same_role way (styled.text letters) style = refl
