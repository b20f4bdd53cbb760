-- Neutrals and isolates by their sides, and the levels: rules N1, N2, I1 and I2 of UAX 9, 3.3.5 and 3.3.6, each
-- over the classes of one whole isolating run sequence.
use Rattle.std.specs.Prelude.{ℕ, ◌+◌, ◌%◌, Bool, cond, eqb, List, [], ◌∷◌, map}
use Rattle.wm_chars.specs.Classes.{is_neutral}
use Rattle.wm_chars.specs.declared.classes.BidiClass.{BidiClass}
use Rattle.wm_chars.specs.declared.classes.BidiClass.TheVariants.{L, R, EN, AN}
use Rattle.bidi_resolve.specs.Passes.{each}

abbrev pub is_even : (level : ℕ) → Bool
is_even level = eqb (level % 2) 0

-- the embedding direction
abbrev pub direction : (level : ℕ) → BidiClass
direction level = cond (is_even level) L R

-- ---- N1: a run of neutrals takes the direction of its two sides where they agree; numbers count as R

-- the direction that a character shows, or else the one that was seen last
abbrev pub n1_after : (last : BidiClass) → BidiClass → BidiClass
n1_after last L = L
n1_after last R = R
n1_after last EN = R
n1_after last AN = R
n1_after last c = last

-- the nearest direction on one side; sos or eos at the edge
abbrev pub side : (edge : BidiClass) → List BidiClass → BidiClass
side edge [] = edge
side edge (c ∷ cs) = n1_after (side edge cs) c

abbrev pub n1_class : (before : BidiClass) → BidiClass → (after : BidiClass) → BidiClass
n1_class L c L = cond (is_neutral c) L c
n1_class R c R = cond (is_neutral c) R c
n1_class before c after = c

abbrev pub n1 : (sos eos : BidiClass) → List BidiClass → List BidiClass
n1 sos eos classes = each (λ before c after. n1_class (side sos before) c (side eos after)) [] classes

-- ---- N2: the neutrals that remain take the embedding direction

abbrev pub n2_class : (level : ℕ) → BidiClass → BidiClass
n2_class level c = cond (is_neutral c) (direction level) c

abbrev pub n2 : (level : ℕ) → List BidiClass → List BidiClass
n2 level classes = map (n2_class level) classes

-- ---- I1: on an even level R goes up by one, numbers by two. I2: on an odd level L and numbers go up by one.

abbrev pub i1 : BidiClass → ℕ
i1 R = 1
i1 AN = 2
i1 EN = 2
i1 c = 0

abbrev pub i2 : BidiClass → ℕ
i2 L = 1
i2 EN = 1
i2 AN = 1
i2 c = 0

abbrev pub raised : (level : ℕ) → BidiClass → ℕ
raised level c = level + cond (is_even level) (i1 c) (i2 c)

abbrev pub i1_i2 : (level : ℕ) → List BidiClass → List ℕ
i1_i2 level classes = map (raised level) classes
