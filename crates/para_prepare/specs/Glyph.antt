-- What is seen of a unit, and the class by which the rules of a line take it (UAX 9, L1 and L4).
use Rattle.std.specs.Prelude.{ℕ, ◌%◌, ◌==◌, Bool, cond, List, [], ◌∷◌, map, Option, Some, None, unwrap_or}
use Rattle.wm_chars.specs.Pairs.{mirror}
use Rattle.wm_chars.specs.declared.classes.BidiClass.{BidiClass}
use Rattle.wm_chars.specs.declared.classes.BidiClass.TheVariants.{L, ON, B}
use Rattle.para_prepare.specs.declared.letter.Letter.{Letter}
use Rattle.para_prepare.specs.Parts.{Part, opens, closes, control, item, Raw, of_unit, of_combined, of_atom, of_break, class_in}

abbrev pub last_letter : List Letter → Option Letter
last_letter [] = None
last_letter (l ∷ []) = Some l
last_letter (l ∷ (m ∷ letters)) = last_letter (m ∷ letters)

abbrev pub class_at : (upright : Bool) → Option Letter → BidiClass
class_at upright None = class_in upright 0
class_at upright (Some l) = class_in upright l.char

abbrev pub last_class : (upright : Bool) → List Letter → BidiClass
last_class upright letters = class_at upright (last_letter letters)

-- the class by which L1 takes an item: that of a unit's last character
abbrev pub class_of : Raw → BidiClass
class_of (of_unit source node upright unit letters) = last_class upright letters
class_of (of_combined source node unit letters inside) = L
class_of (of_atom source name) = ON
class_of (of_break source node) = B

abbrev pub class_in_part : Part → Option BidiClass
class_in_part (opens bidi dir) = None
class_in_part closes = None
class_in_part (control c class) = None
class_in_part (item raw) = Some (class_of raw)

-- L4: what stands for the first character of a unit at this level
abbrev pub mirrored : (level : ℕ) → ℕ → ℕ
mirrored level c = cond (level % 2 == 1) (unwrap_or (mirror c) c) c

-- the characters of a unit at this level, as they are seen
abbrev pub glyph : (level : ℕ) → List Letter → List ℕ
glyph level [] = []
glyph level (l ∷ letters) = mirrored level l.char ∷ map (λ l. l.char) letters

abbrev pub letters_of : Raw → List Letter
letters_of (of_unit source node upright unit letters) = letters
letters_of (of_combined source node unit letters inside) = letters
letters_of (of_atom source name) = []
letters_of (of_break source node) = []
