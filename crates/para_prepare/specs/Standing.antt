-- How items stand in their bidi paragraphs: the level of the first character, the base level, and the least level of what stands
-- between an item and the one before it (UAX 9, X9 and L2).
use Rattle.std.specs.Prelude.{ℕ, ◌≤◌, min, Bool, true, false, cond, List, [], ◌∷◌, ◌++◌, map, Option, Some, None}
use Rattle.wm_chars.specs.declared.classes.BidiClass.{BidiClass}
use Rattle.wm_chars.specs.declared.classes.BidiClass.TheVariants.{B}
use Rattle.wm_chars.specs.Classes.{is_removed}
use Rattle.bidi_explicit.specs.Base.{base_of}
use Rattle.bidi_resolve.specs.Paragraph.{paragraph_levels}
use Rattle.para_prepare.specs.declared.bidi_text.Role.{Role}
use Rattle.para_prepare.specs.declared.bidi_text.Role.TheVariants.{Begins, Continues, Divides}
use Rattle.para_prepare.specs.declared.standing.Standing.{Standing}
use Rattle.para_prepare.specs.declared.bidi_text.Character.{Character}

abbrev pub classes_of : List Character → List BidiClass
classes_of = map (λ c. c.class)

abbrev pub chars_of : List Character → List ℕ
chars_of = map (λ c. c.char)

-- the base level that is given, or by the first strong character (UAX 9, P2 and P3)
abbrev pub base_in : (given : Option ℕ) → List Character → ℕ
base_in given text = base_of given (classes_of text)

-- all rules of UAX 9 from X1 to I2
abbrev pub levels_of : (base : ℕ) → List Character → List ℕ
levels_of base text = paragraph_levels (chars_of text) (classes_of text) base

-- the least level so far of what parts an item from the one before it
abbrev pub lesser : ℕ → Option ℕ → Option ℕ
lesser level None = Some level
lesser level (Some least) = Some (min level least)

-- what X9 removes parts nothing
abbrev pub parted : BidiClass → (level : ℕ) → Option ℕ → Option ℕ
parted class level apart = cond (is_removed class) apart (lesser level apart)

-- the bounds of a standing
pub record IsStanding (standing : Standing) : Type 0 where
  pub level : standing.level ≤ 126
  pub base : standing.base ≤ 1

abbrev pub standing : (base level : ℕ) → (begun : Bool) → (apart : Option ℕ) → Standing
standing base level begun apart = record { level = level; base = base; apart = cond begun apart None }

-- what stands before the place behind a character: whether an item, and what parts it from the next one
abbrev pub begun_past : Role → (begun : Bool) → Bool
begun_past Begins begun = true
begun_past Continues begun = begun
begun_past Divides begun = begun

abbrev pub apart_past : Role → BidiClass → (level : ℕ) → (apart : Option ℕ) → Option ℕ
apart_past Begins class level apart = None
apart_past Continues class level apart = apart
apart_past Divides class level apart = parted class level apart

-- the first character of an item stands for it
abbrev pub standing_at : Role → Standing → List Standing
standing_at Begins standing = standing ∷ []
standing_at Continues standing = []
standing_at Divides standing = []

-- the standings of the items of a text with these levels
abbrev pub standings_by : (base : ℕ) → (begun : Bool) → (apart : Option ℕ) → List Character → (levels : List ℕ) → List Standing
standings_by base begun apart [] levels = []
standings_by base begun apart (c ∷ text) [] = []
standings_by base begun apart (c ∷ text) (level ∷ levels) =
    standing_at c.role (standing base level begun apart)
    ++ standings_by base (begun_past c.role begun) (apart_past c.role c.class level apart) text levels

-- a line break behind a text: as a last character with the base level
abbrev pub line_break : Character
line_break = record { char = 0x2028; class = B; role = Begins }

abbrev pub ended : (given : Option ℕ) → List Character → List Standing
ended given text =
    standings_by (base_in given text) false None (text ++ line_break ∷ []) (levels_of (base_in given text) text ++ base_in given text ∷ [])

-- the standings of the items of these bidi paragraphs, each of which but the last ends with a line break
abbrev pub standings : (given : Option ℕ) → List (List Character) → List Standing
standings given [] = []
standings given (text ∷ []) = standings_by (base_in given text) false None text (levels_of (base_in given text) text)
standings given (text ∷ (next ∷ texts)) = ended given text ++ standings given (next ∷ texts)
