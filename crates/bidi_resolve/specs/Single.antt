-- A paragraph in which nothing embeds, overrides or isolates: one sequence on the base level.
use Rattle.std.specs.Prelude.{ℕ, Bool, true, false, List, length}
use Rattle.std.specs.List.{range_with_len}
use Rattle.wm_chars.specs.declared.classes.BidiClass.{BidiClass}
use Rattle.wm_chars.specs.declared.classes.BidiClass.TheVariants.{L, R, AL, EN, ES, ET, AN, CS, NSM, B, S, WS, ON}
use Rattle.bidi_resolve.specs.Neutral.{direction, i1_i2}
use Rattle.bidi_resolve.specs.Places.{gathered}
use Rattle.bidi_resolve.specs.Sequence.{resolved}

-- what neither embeds, overrides nor isolates
abbrev pub is_plain : BidiClass → Bool
is_plain L = true
is_plain R = true
is_plain AL = true
is_plain EN = true
is_plain ES = true
is_plain ET = true
is_plain AN = true
is_plain CS = true
is_plain NSM = true
is_plain B = true
is_plain S = true
is_plain WS = true
is_plain ON = true
is_plain c = false

abbrev pub all_places : (count : ℕ) → List ℕ
all_places count = range_with_len 0 count

-- all rules over the whole paragraph
unfoldable pub single_levels : (chars : List ℕ) → List BidiClass → (base : ℕ) → List ℕ
single_levels chars classes base =
    i1_i2 base (resolved base (direction base) (direction base) (gathered 0 chars (all_places (length classes))) (gathered L classes (all_places (length classes))) classes)
