-- What the answers of the public calls mean, in terms of the grammar.
use Rattle.std.specs.Prelude.{ℕ, ◌≢◌, List, [], ⊤}
use Rattle.css_types.specs.declared.value.Declaration.{Declaration}
use Rattle.css_types.specs.Value.{HasSayable, IsValueOf}
use Rattle.css_values.specs.declared.error.Refusal.TheVariants.{TooManyRules}
use Rattle.css_values.specs.declared.error.CssError.{CssError}
use Rattle.css_values.specs.declared.error.CssError.TheVariants as errors
use Rattle.css_values.specs.declared.within.Within.TheVariants.{Attribute}
use Rattle.css_values.specs.Grammar.{AreDeclarations}

-- what is kept is a value that its property takes, with numbers that a style sheet can say
abbrev pub IsKept : Declaration → Type 0
IsKept d = IsValueOf d.property d.value × HasSayable d.value

-- A refusal with its place says that the text of a style attribute is no declarations; want of memory says nothing.
abbrev pub RefusesAttribute : (end_ : ℕ) → (text : List ℕ) → CssError → Type 0
RefusesAttribute end_ text (errors.Refused kind place) = (all : List Declaration) → AreDeclarations Attribute end_ text [] all → ⊥
RefusesAttribute end_ text errors.Memory = ⊤

-- the limit on declarations isn't what refuses it
abbrev pub IsWithinLimit : CssError → Type 0
IsWithinLimit (errors.Refused kind place) = kind ≢ TooManyRules
IsWithinLimit errors.Memory = ⊤
