-- The headings of the names that an element above must have.
use Rattle.std.specs.Prelude.{Option, Some, None}
use Rattle.std.specs.String.{string_bytes}
use Rattle.cascade.specs.declared.shelves.Upper.{Upper}
use Rattle.cascade.specs.declared.shelves.Upper.TheVariants.{Id, Class}
use Rattle.cascade.specs.Filing.{Heading, of_upper_id, of_upper_class}

abbrev pub upper_heading : Option Upper → (other : Heading) → Heading
upper_heading None other = other
upper_heading (Some (Id id)) other = of_upper_id (string_bytes id.now)
upper_heading (Some (Class class)) other = of_upper_class (string_bytes class.now)
