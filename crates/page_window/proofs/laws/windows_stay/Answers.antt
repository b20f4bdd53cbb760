use Rattle.page_window.proofs.WindowLaws.{windows_stay}
use Rattle.page_window.proofs.laws.windows_stay.Goals as goal

pub returns : goal.returns
returns c = windows_stay
