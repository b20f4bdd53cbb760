-- What one pass from the end remembers for X5c, in place of reading each isolate again.
use Rattle.std.specs.Prelude.{ℕ, zero, suc, Bool, true, false, List, [], ◌∷◌, slice_index_or}
use Rattle.wm_chars.specs.declared.classes.BidiClass.{BidiClass}
use Rattle.wm_chars.specs.declared.classes.BidiClass.TheVariants.{FSI}
use Rattle.bidi_explicit.specs.declared.isolates.Kind.{Kind}
use Rattle.bidi_explicit.specs.declared.isolates.Kind.TheVariants.{Strong, Opens, Closes, Other}
use Rattle.bidi_explicit.specs.declared.ahead.Scan.{Scan}
use Rattle.bidi_explicit.specs.Base.{turns_right}
use Rattle.bidi_explicit.specs.Isolates.{kind_of}
use Rattle.bidi_explicit.specs.Stack.{stacked}

-- `found` is whether P2 and P3 give 1 for the text up to the PDI that closes it, and `pending` the same for the text
-- behind that PDI, behind the PDI that closes that one, and so on
pub record Ahead : Type 0 where
  pub found : Bool
  pub pending : List Bool

abbrev pub rest_of : List Bool → List Bool
rest_of [] = []
rest_of (found ∷ pending) = pending

abbrev pub is_right : ℕ → Bool
is_right (suc zero) = true
is_right _ = false

-- with one more character in front
abbrev pub ahead_at : Kind → Ahead → Ahead
ahead_at (Strong level) a = record { found = is_right level; pending = a.pending }
ahead_at Opens a = record { found = slice_index_or a.pending 0 false; pending = rest_of a.pending }
ahead_at Closes a = record { found = false; pending = a.found ∷ a.pending }
ahead_at Other a = a

abbrev pub ahead : List BidiClass → Ahead
ahead [] = record { found = false; pending = [] }
ahead (c ∷ after) = ahead_at (kind_of c) (ahead after)

-- what is found where characters that neither begin nor end isolates stand before what it was found in
abbrev pub found_at : Kind → Bool → Bool
found_at (Strong level) found = is_right level
found_at _ found = found

abbrev pub found_before : List BidiClass → Bool → Bool
found_before [] found = found
found_before (c ∷ between) found = found_at (kind_of c) (found_before between found)

-- whether each FSI is treated as an RLI, in their order
abbrev pub rights : List BidiClass → List Bool
rights [] = []
rights (FSI ∷ after) = turns_right after ∷ rights after
rights (_ ∷ after) = rights after

-- what the code holds
abbrev pub ahead_of : Scan → Ahead
ahead_of scan = record { found = scan.found; pending = stacked scan.pending }
