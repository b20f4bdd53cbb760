-- Some sequences and texts, computed.
use Rattle.std.specs.Prelude.{◌≡◌, refl, [], ◌∷◌, Some, None}
use Rattle.wm_chars.specs.Pairs.{bracket}
use Rattle.wm_chars.specs.Repertoire.{bidi_class, row_of}
use Rattle.wm_chars.specs.declared.classes.BidiClass.TheVariants.{L, R, AL, EN, ES, ET, AN, CS, NSM, B, S, WS, ON, LRI, PDI}
use Rattle.bidi_explicit.specs.Explicit.{explicit_levels, explicit_classes}
use Rattle.bidi_explicit.specs.Sequences.{isolating_runs}
use Rattle.bidi_resolve.specs.Brackets.{n0}
use Rattle.bidi_resolve.specs.Neutral.{n1, i1_i2}
use Rattle.bidi_resolve.specs.Paragraph.{paragraph_levels, text_levels}
use Rattle.bidi_resolve.specs.Sequence.{weak, resolved, sequence_classes, sequence_levels}
use Rattle.bidi_resolve.specs.Weak.{w1, w2, w4, w5, w7}

-- marks at the start, behind an isolate initiator, and behind a letter
marks : w1 L (NSM ∷ LRI ∷ NSM ∷ NSM ∷ AL ∷ NSM ∷ []) ≡ (L ∷ LRI ∷ ON ∷ ON ∷ AL ∷ AL ∷ [])
marks = refl

arabic_letter : w2 AL (EN ∷ ON ∷ AL ∷ ET ∷ EN ∷ L ∷ EN ∷ []) ≡ (AN ∷ ON ∷ AL ∷ ET ∷ AN ∷ L ∷ EN ∷ [])
arabic_letter = refl

-- one separator between two numbers, and two
separators : w4 (EN ∷ CS ∷ EN ∷ ES ∷ EN ∷ CS ∷ CS ∷ EN ∷ AN ∷ CS ∷ AN ∷ ES ∷ AN ∷ CS ∷ EN ∷ []) ≡ (EN ∷ EN ∷ EN ∷ EN ∷ EN ∷ CS ∷ CS ∷ EN ∷ AN ∷ AN ∷ AN ∷ ES ∷ AN ∷ CS ∷ EN ∷ [])
separators = refl

-- an Arabic number takes no terminators
terminators : w5 (ET ∷ ET ∷ EN ∷ ET ∷ ON ∷ ET ∷ AN ∷ ET ∷ L ∷ ET ∷ []) ≡ (EN ∷ EN ∷ EN ∷ EN ∷ ON ∷ ET ∷ AN ∷ ET ∷ L ∷ ET ∷ [])
terminators = refl

numbers_behind_l : w7 L (EN ∷ R ∷ EN ∷ ON ∷ L ∷ ON ∷ EN ∷ []) ≡ (L ∷ R ∷ EN ∷ ON ∷ L ∷ ON ∷ L ∷ [])
numbers_behind_l = refl

-- numbers count as R, and both ends of the sequence as sides
sides : n1 R L (ON ∷ R ∷ WS ∷ EN ∷ PDI ∷ L ∷ WS ∷ ON ∷ L ∷ S ∷ []) ≡ (R ∷ R ∷ R ∷ EN ∷ PDI ∷ L ∷ L ∷ L ∷ L ∷ L ∷ [])
sides = refl

even : i1_i2 2 (L ∷ R ∷ EN ∷ AN ∷ []) ≡ (2 ∷ 3 ∷ 4 ∷ 4 ∷ [])
even = refl

odd : i1_i2 1 (L ∷ R ∷ EN ∷ AN ∷ []) ≡ (2 ∷ 1 ∷ 2 ∷ 2 ∷ [])
odd = refl

-- R and L between the brackets on an odd level: the embedding direction
embedding : n0 1 L (0x28 ∷ 0x5D0 ∷ 0x61 ∷ 0x29 ∷ []) (ON ∷ R ∷ L ∷ ON ∷ []) (ON ∷ R ∷ L ∷ ON ∷ []) ≡ (R ∷ R ∷ L ∷ R ∷ [])
unfolding bracket
embedding = refl

-- L alone between them, and L before them
other_context : n0 1 L (0x28 ∷ 0x61 ∷ 0x29 ∷ []) (ON ∷ L ∷ ON ∷ []) (ON ∷ L ∷ ON ∷ []) ≡ (L ∷ L ∷ L ∷ [])
unfolding bracket
other_context = refl

-- L alone between them, but R before them
embedding_context : n0 1 L (0x5D0 ∷ 0x28 ∷ 0x61 ∷ 0x29 ∷ []) (R ∷ ON ∷ L ∷ ON ∷ []) (R ∷ ON ∷ L ∷ ON ∷ []) ≡ (R ∷ R ∷ L ∷ R ∷ [])
unfolding bracket
embedding_context = refl

-- the inner pair sees the outer one as it has become
nested_brackets : n0 1 L (0x5B ∷ 0x28 ∷ 0x61 ∷ 0x29 ∷ 0x5D ∷ []) (ON ∷ ON ∷ L ∷ ON ∷ ON ∷ []) (ON ∷ ON ∷ L ∷ ON ∷ ON ∷ []) ≡ (L ∷ L ∷ L ∷ L ∷ L ∷ [])
unfolding bracket
nested_brackets = refl

-- a bracket that closes one takes away all that lie on it
crossing_brackets : n0 0 R (0x28 ∷ 0x61 ∷ 0x5B ∷ 0x62 ∷ 0x29 ∷ 0x63 ∷ 0x5D ∷ []) (ON ∷ L ∷ ON ∷ L ∷ ON ∷ L ∷ ON ∷ []) (ON ∷ L ∷ ON ∷ L ∷ ON ∷ L ∷ ON ∷ []) ≡ (L ∷ L ∷ ON ∷ L ∷ L ∷ L ∷ ON ∷ [])
unfolding bracket
crossing_brackets = refl

-- marks behind a bracket change with it, as far as they stand without a gap
marks_behind : n0 1 R (0x28 ∷ 0x5D0 ∷ 0x29 ∷ 0x301 ∷ 0x301 ∷ 0x20 ∷ 0x301 ∷ []) (ON ∷ R ∷ ON ∷ NSM ∷ NSM ∷ WS ∷ NSM ∷ []) (ON ∷ R ∷ ON ∷ ON ∷ ON ∷ WS ∷ WS ∷ []) ≡ (R ∷ R ∷ R ∷ R ∷ R ∷ WS ∷ WS ∷ [])
unfolding bracket
marks_behind = refl

-- a bracket whose class is not ON is none
no_more_brackets : n0 1 R (0x28 ∷ 0x5D0 ∷ 0x29 ∷ []) (ON ∷ R ∷ ON ∷ []) (ON ∷ R ∷ R ∷ []) ≡ (ON ∷ R ∷ R ∷ [])
unfolding bracket
no_more_brackets = refl

-- 63 brackets are open, and the last pair comes too late
full : n0 0 R (0x28 ∷ 0x61 ∷ 0x29 ∷ 0x5B ∷ 0x5B ∷ 0x5B ∷ 0x5B ∷ 0x5B ∷ 0x5B ∷ 0x5B ∷ 0x5B ∷ 0x5B ∷ 0x5B ∷ 0x5B ∷ 0x5B ∷ 0x5B ∷ 0x5B ∷ 0x5B ∷ 0x5B ∷ 0x5B ∷ 0x5B ∷ 0x5B ∷ 0x5B ∷ 0x5B ∷ 0x5B ∷ 0x5B ∷ 0x5B ∷ 0x5B ∷ 0x5B ∷ 0x5B ∷ 0x5B ∷ 0x5B ∷ 0x5B ∷ 0x5B ∷ 0x5B ∷ 0x5B ∷ 0x5B ∷ 0x5B ∷ 0x5B ∷ 0x5B ∷ 0x5B ∷ 0x5B ∷ 0x5B ∷ 0x5B ∷ 0x5B ∷ 0x5B ∷ 0x5B ∷ 0x5B ∷ 0x5B ∷ 0x5B ∷ 0x5B ∷ 0x5B ∷ 0x5B ∷ 0x5B ∷ 0x5B ∷ 0x5B ∷ 0x5B ∷ 0x5B ∷ 0x5B ∷ 0x5B ∷ 0x5B ∷ 0x5B ∷ 0x5B ∷ 0x5B ∷ 0x5B ∷ 0x5B ∷ 0x28 ∷ 0x61 ∷ 0x29 ∷ []) (ON ∷ L ∷ ON ∷ ON ∷ ON ∷ ON ∷ ON ∷ ON ∷ ON ∷ ON ∷ ON ∷ ON ∷ ON ∷ ON ∷ ON ∷ ON ∷ ON ∷ ON ∷ ON ∷ ON ∷ ON ∷ ON ∷ ON ∷ ON ∷ ON ∷ ON ∷ ON ∷ ON ∷ ON ∷ ON ∷ ON ∷ ON ∷ ON ∷ ON ∷ ON ∷ ON ∷ ON ∷ ON ∷ ON ∷ ON ∷ ON ∷ ON ∷ ON ∷ ON ∷ ON ∷ ON ∷ ON ∷ ON ∷ ON ∷ ON ∷ ON ∷ ON ∷ ON ∷ ON ∷ ON ∷ ON ∷ ON ∷ ON ∷ ON ∷ ON ∷ ON ∷ ON ∷ ON ∷ ON ∷ ON ∷ ON ∷ ON ∷ L ∷ ON ∷ []) (ON ∷ L ∷ ON ∷ ON ∷ ON ∷ ON ∷ ON ∷ ON ∷ ON ∷ ON ∷ ON ∷ ON ∷ ON ∷ ON ∷ ON ∷ ON ∷ ON ∷ ON ∷ ON ∷ ON ∷ ON ∷ ON ∷ ON ∷ ON ∷ ON ∷ ON ∷ ON ∷ ON ∷ ON ∷ ON ∷ ON ∷ ON ∷ ON ∷ ON ∷ ON ∷ ON ∷ ON ∷ ON ∷ ON ∷ ON ∷ ON ∷ ON ∷ ON ∷ ON ∷ ON ∷ ON ∷ ON ∷ ON ∷ ON ∷ ON ∷ ON ∷ ON ∷ ON ∷ ON ∷ ON ∷ ON ∷ ON ∷ ON ∷ ON ∷ ON ∷ ON ∷ ON ∷ ON ∷ ON ∷ ON ∷ ON ∷ ON ∷ L ∷ ON ∷ []) ≡ (L ∷ L ∷ L ∷ ON ∷ ON ∷ ON ∷ ON ∷ ON ∷ ON ∷ ON ∷ ON ∷ ON ∷ ON ∷ ON ∷ ON ∷ ON ∷ ON ∷ ON ∷ ON ∷ ON ∷ ON ∷ ON ∷ ON ∷ ON ∷ ON ∷ ON ∷ ON ∷ ON ∷ ON ∷ ON ∷ ON ∷ ON ∷ ON ∷ ON ∷ ON ∷ ON ∷ ON ∷ ON ∷ ON ∷ ON ∷ ON ∷ ON ∷ ON ∷ ON ∷ ON ∷ ON ∷ ON ∷ ON ∷ ON ∷ ON ∷ ON ∷ ON ∷ ON ∷ ON ∷ ON ∷ ON ∷ ON ∷ ON ∷ ON ∷ ON ∷ ON ∷ ON ∷ ON ∷ ON ∷ ON ∷ ON ∷ ON ∷ L ∷ ON ∷ [])
unfolding bracket
full = refl

-- an isolate is a sequence of its own: the last digit comes behind the first letter
isolate : text_levels (0x78 ∷ 0x2067 ∷ 0x5D0 ∷ 0x5D1 ∷ 0x28 ∷ 0x31 ∷ 0x29 ∷ 0x2069 ∷ 0x32 ∷ []) (Some 0) ≡ (0 ∷ 0 ∷ 1 ∷ 1 ∷ 1 ∷ 2 ∷ 1 ∷ 0 ∷ 0 ∷ [])
unfolding bidi_class row_of bracket weak resolved sequence_classes sequence_levels explicit_levels explicit_classes isolating_runs paragraph_levels text_levels
isolate = refl

sum : text_levels (0x5D0 ∷ 0x20 ∷ 0x31 ∷ 0x2B ∷ 0x32 ∷ []) (Some 1) ≡ (1 ∷ 1 ∷ 2 ∷ 2 ∷ 2 ∷ [])
unfolding bidi_class row_of bracket weak resolved sequence_classes sequence_levels explicit_levels explicit_classes isolating_runs paragraph_levels text_levels
sum = refl

arabic_digit : text_levels (0x627 ∷ 0x31 ∷ []) (Some 1) ≡ (1 ∷ 2 ∷ [])
unfolding bidi_class row_of bracket weak resolved sequence_classes sequence_levels explicit_levels explicit_classes isolating_runs paragraph_levels text_levels
arabic_digit = refl

first_strong : text_levels (0x2068 ∷ 0x61 ∷ 0x2069 ∷ 0x28 ∷ 0x5D0 ∷ 0x29 ∷ []) None ≡ (1 ∷ 2 ∷ 1 ∷ 1 ∷ 1 ∷ 1 ∷ [])
unfolding bidi_class row_of bracket weak resolved sequence_classes sequence_levels explicit_levels explicit_classes isolating_runs paragraph_levels text_levels
first_strong = refl

-- text from left to right alone, with brackets, numbers and marks, and with an Arabic number
left_to_right : paragraph_levels (0x28 ∷ 0x31 ∷ 0x2B ∷ 0x32 ∷ 0x25 ∷ 0x29 ∷ 0x301 ∷ 0x0A ∷ 0x09 ∷ 0x20 ∷ 0x2C ∷ []) (ON ∷ EN ∷ ES ∷ EN ∷ ET ∷ ON ∷ NSM ∷ B ∷ S ∷ WS ∷ CS ∷ []) 0 ≡ (0 ∷ 0 ∷ 0 ∷ 0 ∷ 0 ∷ 0 ∷ 0 ∷ 0 ∷ 0 ∷ 0 ∷ 0 ∷ [])
unfolding bracket weak resolved sequence_classes sequence_levels explicit_levels explicit_classes isolating_runs paragraph_levels
left_to_right = refl

an_arabic_number : paragraph_levels (0x61 ∷ 0x661 ∷ 0x28 ∷ []) (L ∷ AN ∷ ON ∷ []) 0 ≡ (0 ∷ 2 ∷ 0 ∷ [])
unfolding bracket weak resolved sequence_classes sequence_levels explicit_levels explicit_classes isolating_runs paragraph_levels
an_arabic_number = refl
