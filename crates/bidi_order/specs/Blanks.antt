-- The levels at the ends of a line and of its segments (UAX 9, rule L1).
use Rattle.std.specs.Prelude.{ℕ, Bool, true, false, ◌||◌, ◌&&◌, cond, List, [], ◌∷◌}
use Rattle.wm_chars.specs.Classes.{is_isolate_formatting, is_removed}
use Rattle.wm_chars.specs.declared.classes.BidiClass.{BidiClass}
use Rattle.wm_chars.specs.declared.classes.BidiClass.TheVariants.{B, S, WS}

-- segment separators and paragraph separators
abbrev pub separates : BidiClass → Bool
separates B = true
separates S = true
separates _ = false

-- what takes the base level before a separator or the line's end: white space, isolate formatting characters, and what
-- X9 removes
abbrev pub is_blank : BidiClass → Bool
is_blank WS = true
is_blank c = is_isolate_formatting c || is_removed c

-- whether nothing but blanks stands before the next separator or the end
abbrev pub leads_out : List BidiClass → Bool
leads_out [] = true
leads_out (c ∷ after) = separates c || (is_blank c && leads_out after)

-- L1: separators, and blanks before one or before the end, take the base level
unfoldable pub reset : ℕ → List ℕ → List BidiClass → List ℕ
reset base [] classes = []
reset base (level ∷ levels) [] = level ∷ levels
reset base (level ∷ levels) (c ∷ classes) = cond (leads_out (c ∷ classes)) base level ∷ reset base levels classes
