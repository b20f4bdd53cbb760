use Rattle.relayout.proofs.ReusedFound.{bare_is_founded, reused_is_found}
use Rattle.relayout.proofs.laws.what_is_reused_is_found.Goals as goal

pub returns : goal.returns
returns c = record { reused = reused_is_found; bare = bare_is_founded }
