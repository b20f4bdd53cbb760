-- The weak types: rules W1 to W7 of UAX 9, 3.3.4, each over the classes of one whole isolating run sequence.
use Rattle.std.specs.Prelude.{Bool, true, false, ◌||◌, cond, List, [], ◌∷◌, map}
use Rattle.wm_chars.specs.Classes.{is_isolate_formatting, is_strong}
use Rattle.wm_chars.specs.declared.classes.BidiClass.{BidiClass}
use Rattle.wm_chars.specs.declared.classes.BidiClass.TheVariants.{L, R, AL, EN, ES, ET, AN, CS, NSM, ON}
use Rattle.bidi_resolve.specs.Passes.{each}

-- ---- W1: a nonspacing mark takes the class of the character before it, or ON behind an isolate initiator or
-- PDI, or sos at the start

-- what a character hands to a mark behind it, where `last` was handed to itself
abbrev pub w1_after : (last : BidiClass) → BidiClass → BidiClass
w1_after last NSM = last
w1_after last c = cond (is_isolate_formatting c) ON c

-- looks back over further marks
abbrev pub w1_before : (sos : BidiClass) → (before : List BidiClass) → BidiClass
w1_before sos [] = sos
w1_before sos (c ∷ before) = w1_after (w1_before sos before) c

abbrev pub w1_class : (handed : BidiClass) → BidiClass → BidiClass
w1_class handed NSM = handed
w1_class handed c = c

abbrev pub w1 : (sos : BidiClass) → List BidiClass → List BidiClass
w1 sos classes = each (λ before c after. w1_class (w1_before sos before) c) [] classes

-- ---- W2: a European number becomes an Arabic one where the last L, R, AL or sos before it is AL

abbrev pub w2_after : (last : BidiClass) → BidiClass → BidiClass
w2_after last c = cond (is_strong c) c last

abbrev pub last_strong : (sos : BidiClass) → (before : List BidiClass) → BidiClass
last_strong sos [] = sos
last_strong sos (c ∷ before) = w2_after (last_strong sos before) c

abbrev pub w2_class : (last : BidiClass) → BidiClass → BidiClass
w2_class AL EN = AN
w2_class last c = c

abbrev pub w2 : (sos : BidiClass) → List BidiClass → List BidiClass
w2 sos classes = each (λ before c after. w2_class (last_strong sos before) c) [] classes

-- ---- W3: AL becomes R

abbrev pub w3_class : BidiClass → BidiClass
w3_class AL = R
w3_class c = c

abbrev pub w3 : List BidiClass → List BidiClass
w3 classes = map w3_class classes

-- ---- W4: one European separator between two European numbers becomes such a number; so does one common
-- separator between two numbers of one class become that class

-- the class of the neighbour; at an end none that is a number
abbrev pub next_to : List BidiClass → BidiClass
next_to [] = ON
next_to (c ∷ cs) = c

abbrev pub is_separator : BidiClass → Bool
is_separator ES = true
is_separator CS = true
is_separator c = false

abbrev pub w4_class : (before : BidiClass) → BidiClass → (after : BidiClass) → BidiClass
w4_class EN ES EN = EN
w4_class EN CS EN = EN
w4_class AN CS AN = AN
w4_class before c after = c

abbrev pub w4 : List BidiClass → List BidiClass
w4 classes = each (λ before c after. w4_class (next_to before) c (next_to after)) [] classes

-- ---- W5: a run of European terminators next to a European number becomes European numbers

abbrev pub w5_after : (last : BidiClass) → BidiClass → BidiClass
w5_after last ET = last
w5_after last c = c

-- what stands on this side of the run; at an end nothing that is a number
abbrev pub beside : List BidiClass → BidiClass
beside [] = ON
beside (c ∷ cs) = w5_after (beside cs) c

abbrev pub is_terminator : BidiClass → Bool
is_terminator ET = true
is_terminator c = false

abbrev pub is_european : BidiClass → Bool
is_european EN = true
is_european c = false

abbrev pub w5_class : (before : BidiClass) → BidiClass → (after : BidiClass) → BidiClass
w5_class before ET after = cond (is_european before || is_european after) EN ET
w5_class before c after = c

abbrev pub w5 : List BidiClass → List BidiClass
w5 classes = each (λ before c after. w5_class (beside before) c (beside after)) [] classes

-- ---- W6: the separators and terminators that remain become ON

abbrev pub w6_class : BidiClass → BidiClass
w6_class ES = ON
w6_class ET = ON
w6_class CS = ON
w6_class c = c

abbrev pub w6 : List BidiClass → List BidiClass
w6 classes = map w6_class classes

-- ---- W7: a European number becomes L where the last L, R or sos before it is L

abbrev pub w7_after : (last : BidiClass) → BidiClass → BidiClass
w7_after last L = L
w7_after last R = R
w7_after last c = last

abbrev pub last_direction : (sos : BidiClass) → (before : List BidiClass) → BidiClass
last_direction sos [] = sos
last_direction sos (c ∷ before) = w7_after (last_direction sos before) c

abbrev pub w7_class : (last : BidiClass) → BidiClass → BidiClass
w7_class L EN = L
w7_class last c = c

abbrev pub w7 : (sos : BidiClass) → List BidiClass → List BidiClass
w7 sos classes = each (λ before c after. w7_class (last_direction sos before) c) [] classes
