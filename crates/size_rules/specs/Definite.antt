-- Which block sizes are known before the contents are laid out: a length, and a percentage of a size that is
-- known. CSS 2, 10.5.
use Rattle.std.specs.Prelude.{ℤ, Option}
use Rattle.style_types.specs.declared.style.Size.{Size}
use Rattle.size_rules.specs.Resolving.{resolved}

abbrev pub definite_block : Size → (containing : Option ℤ) → Option ℤ
definite_block = resolved
