-- The code's reading of brackets, which keeps each opening bracket with the place that closes it, in place of a list of
-- pairs that is sorted; and what it keeps.
use Rattle.std.specs.Prelude.{◌≡◌, ℕ, ◌+◌, ◌<◌, ◌≤◌, Bool, true, false, cond, eqb, ltb, List, [], ◌∷◌, ◌++◌, set, length, get_or, All, Option, Some, None}
use Rattle.wm_chars.specs.declared.classes.BidiClass.{BidiClass}
use Rattle.wm_chars.specs.declared.classes.Bracket.{Bracket}
use Rattle.bidi_resolve.specs.Brackets.{bracket_of, resolve_pair}
use Rattle.bidi_resolve.specs.declared.pairing.Opened.{Opened}
use Rattle.bidi_resolve.specs.declared.pairing.Pairing.{Pairing}

-- how far the reading has come: the brackets that are open, the last one first, each with its number among the
-- opening brackets and the character that closes it; the places of the opening brackets so far, in their order;
-- for each of them the place of its closing bracket, where that has come; and whether the reading has stopped
-- for want of room
pub record Reading : Type 0 where
  pub opened : List Opened
  pub openings : List ℕ
  pub closings : List (Option ℕ)
  pub stopped : Bool

-- an opening bracket, where the stack of 63 places has room
abbrev pub open_ : (place partner : ℕ) → Reading → Reading
open_ place partner reading = cond (ltb (length reading.opened) 63)
    (record {
      opened = (record { number = length reading.openings; partner = partner }) ∷ reading.opened;
      openings = reading.openings ++ place ∷ [];
      closings = reading.closings ++ None ∷ [];
      stopped = false;
    })
    (record { opened = reading.opened; openings = reading.openings; closings = reading.closings; stopped = true })

-- the last one opened of this bracket's pair, and those that it lies on
pub record Found : Type 0 where
  pub number : ℕ
  pub below : List Opened

abbrev pub found : (char : ℕ) → List Opened → Option Found
found char [] = None
found char (last ∷ below) = cond (eqb last.partner char) (Some (record { number = last.number; below = below })) (found char below)

-- a closing bracket: its partner is popped with all that lies on it; without one it is passed over
abbrev pub close_with : (place : ℕ) → Option Found → Reading → Reading
close_with place None reading = reading
close_with place (Some found) reading =
    record { opened = found.below; openings = reading.openings; closings = set reading.closings found.number (Some place); stopped = false }

abbrev pub close : (place char : ℕ) → Reading → Reading
close place char reading = close_with place (found char reading.opened) reading

abbrev pub read_bracket : (place char : ℕ) → Option Bracket → Reading → Reading
read_bracket place char None reading = reading
read_bracket place char (Some b) reading = cond b.opens (open_ place b.partner reading) (close place char reading)

abbrev pub read_one : (place char : ℕ) → BidiClass → Reading → Reading
read_one place char class reading = cond reading.stopped reading (read_bracket place char (bracket_of class char) reading)

-- the characters from this place on
abbrev pub read : (place : ℕ) → (chars : List ℕ) → List BidiClass → Reading → Reading
read place [] classes reading = reading
read place (char ∷ chars) [] reading = reading
read place (char ∷ chars) (class ∷ classes) reading = read (place + 1) chars classes (read_one place char class reading)

abbrev pub begin : Reading
begin = record { opened = []; openings = []; closings = []; stopped = false }

abbrev pub read_all : (chars : List ℕ) → List BidiClass → Reading
read_all chars classes = read 0 chars classes begin

-- ---- what the pairs become

-- the pair of an opening bracket, if it was closed
abbrev pub resolve_at : (level : ℕ) → (sos : BidiClass) → (opening : ℕ) → (closing : Option ℕ) → (originals : List BidiClass) → List BidiClass → List BidiClass
resolve_at level sos opening None originals classes = classes
resolve_at level sos opening (Some closing) originals classes = resolve_pair level sos opening closing originals classes

-- all of them, in their order
abbrev pub resolve_read : (level : ℕ) → (sos : BidiClass) → (openings : List ℕ) → (closings : List (Option ℕ)) → (originals : List BidiClass) → List BidiClass → List BidiClass
resolve_read level sos [] closings originals classes = classes
resolve_read level sos (opening ∷ openings) [] originals classes = classes
resolve_read level sos (opening ∷ openings) (closing ∷ closings) originals classes =
    resolve_read level sos openings closings originals (resolve_at level sos opening closing originals classes)

-- ---- what the code keeps

abbrev pub reading_of : Pairing → Reading
reading_of pairing = record { opened = pairing.opened.items; openings = pairing.openings.items; closings = pairing.closings.items; stopped = pairing.stopped }

-- what was read stands before this place, the opening brackets in their order, and each closing bracket behind its
-- opening one
pub record IsWithin (place : ℕ) (reading : Reading) : Type 0 where
  pub many : length reading.closings ≡ length reading.openings
  pub opened : All (λ opened. opened.number < length reading.openings) reading.opened
  pub before : (k : ℕ) → k < length reading.openings → get_or reading.openings k 0 < place
  pub rises : (j k : ℕ) → j ≤ k → k < length reading.openings → get_or reading.openings j 0 ≤ get_or reading.openings k 0
  pub behind : (k closing : ℕ) → get_or reading.closings k None ≡ Some closing → get_or reading.openings k 0 < closing
  pub closed : (k closing : ℕ) → get_or reading.closings k None ≡ Some closing → closing < place
