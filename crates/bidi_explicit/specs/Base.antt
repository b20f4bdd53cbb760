-- The base level by the first strong character outside the isolates (UAX 9, P2 and P3), and X5c, which asks for it.
use Rattle.std.specs.Prelude.{ℕ, zero, suc, Bool, true, false, List, [], ◌∷◌, length, Option, Some, None}
use Rattle.std.specs.Option.{unwrap_or}
use Rattle.wm_chars.specs.declared.classes.BidiClass.{BidiClass}
use Rattle.bidi_explicit.specs.declared.isolates.Kind.{Kind}
use Rattle.bidi_explicit.specs.declared.isolates.Kind.TheVariants.{Strong, Opens}
use Rattle.bidi_explicit.specs.Isolates.{kind_of, inside}

-- at a character of this kind, which `after` follows: `from` looks on in that text, so many characters of it passed over
abbrev pub strong_at : Kind → (after : List BidiClass) → (from : ℕ → Option ℕ) → Option ℕ
strong_at (Strong level) after from = Some level
strong_at Opens after from = from (length (inside after))
strong_at _ after from = from 0

-- the level of the first strong character, where so many characters are still passed over; all that an isolate holds
-- is passed over
abbrev pub strong_from : List BidiClass → (passed : ℕ) → Option ℕ
strong_from [] passed = None
strong_from (c ∷ after) zero = strong_at (kind_of c) after (strong_from after)
strong_from (c ∷ after) (suc passed) = strong_from after passed

-- P2 and P3: 1 where the first L, R or AL outside the isolates is R or AL, 0 where it is L
abbrev pub first_strong : List BidiClass → Option ℕ
first_strong classes = strong_from classes 0

-- a base level that was given, or by P2 and P3
abbrev pub base_of : Option ℕ → List BidiClass → ℕ
base_of (Some base) classes = base
base_of None classes = unwrap_or (first_strong classes) 0

abbrev pub is_one : Option ℕ → Bool
is_one (Some (suc zero)) = true
is_one _ = false

-- X5c: whether an FSI is treated as an RLI, if this follows it
abbrev pub turns_right : List BidiClass → Bool
turns_right after = is_one (first_strong (inside after))
