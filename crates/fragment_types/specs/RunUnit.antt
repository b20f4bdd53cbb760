-- What is seen of a unit of a run, without how it is kept.
use Rattle.std.specs.Prelude.{ℕ, ◌-◌, ℤ, pos, List, [], ◌∷◌}
use Rattle.fragment_types.specs.declared.run_unit.KeptUnit.{KeptUnit}
use Rattle.fragment_types.specs.declared.run_unit.KeptUnit.TheVariants.{Single, Other}

-- the places of its first character in the node's text and after its last; its extent along the line; the characters of each
-- unit from line-left: of one, or of those inside a combined run
pub record RunUnit : Type 0 where
  pub first : ℕ
  pub end : ℕ
  pub extent : ℤ
  pub glyphs : List (List ℕ)

abbrev pub unit_in : KeptUnit → RunUnit
unit_in (Single end_ extent character) = record { first = end_ - 1; end = end_; extent = pos extent; glyphs = (character ∷ []) ∷ [] }
unit_in (Other unit) = record { first = unit.value.first; end = unit.value.end; extent = unit.value.extent; glyphs = unit.value.glyphs }
