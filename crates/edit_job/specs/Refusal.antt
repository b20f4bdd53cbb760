-- The lines that tell what is refused (docs/PROFILE/commands.md).
use Rattle.std.specs.Prelude.{ℕ, List, ◌++◌, codes, decimal, ⊤}
use Rattle.session.specs.declared.error.ApplyError.{ApplyError}
use Rattle.session.specs.declared.error.ApplyError.TheVariants.{Document, NoFace, Fixed, Full, TooManyRules, NoRule, Limit, Memory}

-- the line of a refusal, with its place in bytes, the number of a node, or that of a line
unfoldable pub refusal : (kind : List ℕ) → (place : ℕ) → List ℕ
refusal kind place = codes "refused " ++ kind ++ codes " " ++ decimal place ++ codes "\n"

-- want of memory is no refusal
abbrev pub IsRefusal : ApplyError → Type 0
IsRefusal (Document error) = ⊤
IsRefusal NoFace = ⊤
IsRefusal Fixed = ⊤
IsRefusal Full = ⊤
IsRefusal TooManyRules = ⊤
IsRefusal NoRule = ⊤
IsRefusal (Limit limit) = ⊤
IsRefusal Memory = ⊥
