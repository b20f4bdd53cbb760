use Rattle.wm_chars.proofs.Standing.{upright_from_u_3000}
use Rattle.wm_chars.proofs.laws.upright_from_u_3000.Goals as goal

pub returns : goal.returns
returns c = upright_from_u_3000
