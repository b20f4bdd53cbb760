-- What follows from a result's value.
use Rattle.std.proofs.Common.{Result, Ok, Err, IfOk}

pub ok_gives : {A E : Type 0} (r : Result A E) (P Q : A → Type 0) → IfOk r P → ((x : A) → P x → Q x) → IfOk r Q
ok_gives (Ok x) P Q p f = f x p
ok_gives (Err e) P Q p f = p
