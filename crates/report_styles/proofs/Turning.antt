-- Telling, turn by turn.
use Rattle.std.proofs.Common.{◌≡◌, Bool, true, ℕ, List, Err}
use Rattle.reading.proofs.Turns.{IsTurning, turning_stops}
use Rattle.report_styles.specs.declared.telling.Halt.{Halt}
use Rattle.report_styles.specs.declared.telling.Halt.TheVariants as halts
use Rattle.report_styles.specs.Told.{Told, Telling, Teller}
use Rattle.report_styles.specs.Views.{Goes}

pub telling_stops : (goes : List Told → List ℕ → Bool) (turn : Teller) (total : Telling) (told new : List Told) (rest : List ℕ) (halt : Halt) → IsTurning goes turn total told rest → goes told rest ≡ true
    → Goes (Err halt) new (turn told rest) → Goes (Err halt) new total
telling_stops goes turn total told new rest halts.End now g e = turning_stops new now g e
telling_stops goes turn total told new rest halts.Memory now g e = tt
