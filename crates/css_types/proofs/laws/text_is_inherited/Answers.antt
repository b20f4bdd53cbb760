use Rattle.std.proofs.Common.{refl}
use Rattle.css_types.proofs.laws.text_is_inherited.Goals as goal

pub returns : goal.returns
returns c = refl
