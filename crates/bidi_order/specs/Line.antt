-- The order of a line (UAX 9, 3.4): by the levels of its whole paragraph, which all rules up to I2 give, then by L1 and
-- L2 on the line alone. What X9 removes is not in the line.
use Rattle.std.specs.Prelude.{ℕ, ◌%◌, cond, eqb, List, Option, reverse}
use Rattle.std.specs.List.{slice_range}
use Rattle.wm_chars.specs.declared.classes.BidiClass.{BidiClass}
use Rattle.wm_chars.specs.declared.classes.BidiClass.TheVariants.{L}
use Rattle.bidi_explicit.specs.Explicit.{removed_marks}
use Rattle.bidi_explicit.specs.Sequences.{kept_from}
use Rattle.bidi_order.specs.Reversals.{order}
use Rattle.bidi_order.specs.Blanks.{reset}
use Rattle.bidi_explicit.specs.Base.{base_of}
use Rattle.bidi_resolve.specs.Paragraph.{classes_of, text_levels}
use Rattle.bidi_resolve.specs.Places.{gathered}

-- the line from `start` up to `stop`: the places in the paragraph of what X9 leaves in it
abbrev pub line_places : List BidiClass → (start stop : ℕ) → List ℕ
line_places classes start stop = kept_from start (removed_marks (slice_range classes start stop))

-- L1 at these places, by the levels and the original classes of the paragraph
abbrev pub levels_at : (base : ℕ) → (levels : List ℕ) → List BidiClass → (places : List ℕ) → List ℕ
levels_at base levels classes places = reset base (gathered 0 levels places) (gathered L classes places)

-- L2 on the levels that L1 gives: these places of a line from left to right
abbrev pub order_at : (base : ℕ) → (levels : List ℕ) → List BidiClass → (places : List ℕ) → List ℕ
order_at base levels classes places = gathered 0 places (order (levels_at base levels classes places))

-- the places of the line from left to right
unfoldable pub line_order : (base : ℕ) → (levels : List ℕ) → List BidiClass → (start stop : ℕ) → List ℕ
line_order base levels classes start stop = order_at base levels classes (line_places classes start stop)

-- places that all have the base level, from left to right
abbrev pub turned : (base : ℕ) → (places : List ℕ) → List ℕ
turned base places = cond (eqb (base % 2) 1) (reverse places) places

-- the whole algorithm, P2 to L2, for a line of a text that is one paragraph
unfoldable pub text_line_order : (chars : List ℕ) → (base : Option ℕ) → (start stop : ℕ) → List ℕ
text_line_order chars base start stop = line_order (base_of base (classes_of chars)) (text_levels chars base) (classes_of chars) start stop
