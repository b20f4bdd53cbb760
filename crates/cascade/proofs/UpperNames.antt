-- The name that an element above must have, compound by compound.
use Rattle.std.proofs.Common.{◌≡◌, true, false, refl}
use Rattle.std.specs.Prelude.{Option, Some, None, is_some}
use Rattle.std.proofs.lemmas.Bool.{false≢true, true≢false}
use Rattle.cascade.specs.declared.shelves.Upper.{Upper}
use Rattle.cascade.specs.declared.shelves.Upper.TheVariants.{Id, Class}
use Rattle.cascade.specs.Filing.{Heading}
use Rattle.cascade.specs.Shelves.{upper_heading}

-- where there is a name nothing else counts, and where there is none what else there is
pub named : (name : Option Upper) (one other : Heading) → is_some name ≡ true → upper_heading name one ≡ upper_heading name other
named None one other is = absurd (false≢true is)
named (Some (Id id)) one other is = refl
named (Some (Class class)) one other is = refl

pub unnamed : (name : Option Upper) (other : Heading) → is_some name ≡ false → upper_heading name other ≡ other
unnamed None other is = refl
unnamed (Some (Id id)) other is = absurd (true≢false is)
unnamed (Some (Class class)) other is = absurd (true≢false is)
