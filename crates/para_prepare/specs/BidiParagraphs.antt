-- The bidi paragraphs of a paragraph, met part by part.
use Rattle.std.specs.Prelude.{ℕ, ◌+◌, List, [], ◌∷◌, ◌++◌, length, reverse, Option}
use Rattle.para_prepare.specs.declared.bidi_text.Around.{Around}
use Rattle.para_prepare.specs.declared.bidi_text.Character.{Character}
use Rattle.para_prepare.specs.declared.bidi_text.Role.{Role}
use Rattle.para_prepare.specs.declared.bidi_text.Role.TheVariants.{Begins, Continues, Divides}
use Rattle.para_prepare.specs.declared.standing.Standing.{Standing}
use Rattle.para_prepare.specs.BidiText.{in_front, texts_of}
use Rattle.para_prepare.specs.Parts.{Part}
use Rattle.para_prepare.specs.Standing.{standings}

-- what the standings come to, with what is read of the text, the boxes that are open, the innermost last, and the parts to come
abbrev pub wanted : (given : Option ℕ) → (container : Around) → List Character → (opened : List Around) → List Standing → List Part → List Standing
wanted given container text opened out parts = out ++ standings given (in_front text (texts_of container (reverse opened) parts))

-- how many items begin in a text
abbrev pub begins_at : Role → ℕ
begins_at Begins = 1
begins_at Continues = 0
begins_at Divides = 0

abbrev pub begins : List Character → ℕ
begins [] = 0
begins (c ∷ text) = begins_at c.role + begins text

-- how many items were met
abbrev pub met : (text : List Character) → List Standing → ℕ
met text out = length out + begins text
