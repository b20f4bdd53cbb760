-- Options, beside what std has of them.
use Rattle.std.proofs.Common.{◌≡◌, Option, Some, None, refl, sym}
use Rattle.std.specs.Prelude.{option_map}
use Rattle.std.proofs.lemmas.Option.{none-some}

pub none_unmapped : {A B : Type 0} (f : A → B) (o : Option A) → option_map f o ≡ None → o ≡ None
none_unmapped f None is = refl
none_unmapped f (Some x) is = absurd (none-some (f x) (sym is))
