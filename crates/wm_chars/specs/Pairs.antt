-- Brackets (UAX 9, 3.1.3) and mirrors (UAX 9, rule L4), by the two tables of pairs in src/pairs.rt.
use Rattle.std.specs.Prelude.{ℕ, Bool, true, false, ◌||◌, cond, eqb, List, ◌++◌, find, Option, option_map}
use Rattle.wm_chars.specs.declared.classes.Bracket.{Bracket}
use Rattle.wm_chars.specs.declared.pairs.Pair.{Pair}
use Rattle.wm_chars.specs.declared.pairs.TheConstants.{BRACKETS, FURTHER_MIRRORS}

-- whether the character is a side of the pair
abbrev pub has : ℕ → Pair → Bool
has c pair = eqb pair.opening c || eqb pair.closing c

-- which of the two sides it is
abbrev pub side_of : ℕ → Pair → Bracket
side_of c pair = cond (eqb pair.opening c) (record { opens = true; partner = pair.closing }) (record { opens = false; partner = pair.opening })

-- what it is in the pair that has it
abbrev pub side_in : List Pair → ℕ → Option Bracket
side_in pairs c = option_map (side_of c) (find (has c) pairs)

unfoldable pub bracket : ℕ → Option Bracket
bracket c = side_in BRACKETS c

-- the other side, in a pair of brackets or of further mirrors
unfoldable pub mirror : ℕ → Option ℕ
mirror c = option_map (λ side. side.partner) (side_in (BRACKETS ++ FURTHER_MIRRORS) c)
