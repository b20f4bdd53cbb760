-- Loops that read a text by pieces of more than one turn: whatever the turns come to from here, they come to from there.
use Rattle.std.specs.Prelude.{◌≡◌, ℕ, List, [], ◌∷◌, ◌++◌, ◌+◌, ◌*◌, Option, Some, None, Result, Ok, Err, Bool, true, false, ◌==◌, leb, not, ◌&&◌, ◌||◌, ◌<◌, length}
use Rattle.std.specs.Char.{IsScalar, digit_value, encode_utf8}
use denote.Bor.{Bor}
use Rattle.reading.specs.Readers.{ReadOr, mapped, next_is}
use Rattle.reading.proofs.Turns.{IsTurning}
use Rattle.html_tokens.specs.Error.{Stop}
use Rattle.html_tokens.specs.Error.{Fault, Judged}
use Rattle.reading.specs.Stop.{Stops}
use Rattle.html_tokens.specs.Lexing.{is_plain, may_follow}

-- the turns that read a text by its pieces
abbrev pub joining : Judged (List ℕ) → List ℕ → Judged (List ℕ)
joining f text = mapped (λ piece. text ++ piece) f

abbrev pub IsJoining : (test : List ℕ → Bool) → Judged (List ℕ) → ReadOr Fault (List ℕ) → (text rest : List ℕ) → Type 0
IsJoining test f total text rest = IsTurning (λ so_far bytes. test bytes) (joining f) total text rest

-- a piece of the text was read, and put behind the letters; or reading stopped
abbrev pub Joins : (test : List ℕ → Bool) → Judged (List ℕ) → (old new text : List ℕ) → Result (Bor (List ℕ)) Stop → Type 0
Joins test f old new text (Ok rest) = (total : ReadOr Fault (List ℕ)) → IsJoining test f total old text → IsJoining test f total new rest.now
Joins test f old new text (Err stop) = (total : ReadOr Fault (List ℕ)) → IsJoining test f total old text → Stops stop total

-- the same for a run of pieces that stand for themselves
abbrev pub JoinsRun : (test : List ℕ → Bool) → Judged (List ℕ) → (text rest : List ℕ) → Type 0
JoinsRun test f text rest = (front : List ℕ) × (text ≡ front ++ rest)
    × ((total : ReadOr Fault (List ℕ)) (so_far : List ℕ) → IsJoining test f total so_far text → IsJoining test f total (so_far ++ front) rest)

abbrev pub RunsOrStops : (test : List ℕ → Bool) → Judged (List ℕ) → (text : List ℕ) → Result (Bor (List ℕ)) Stop → Type 0
RunsOrStops test f text (Ok rest) = JoinsRun test f text rest.now
RunsOrStops test f text (Err stop) = (total : ReadOr Fault (List ℕ)) (so_far : List ℕ) → IsJoining test f total so_far text → Stops stop total

-- the reader's piece was put behind the letters
abbrev pub PutsPiece : Judged (List ℕ) → (old new text : List ℕ) → Result (Bor (List ℕ)) Stop → Type 0
PutsPiece f old new text (Ok rest) = (piece : List ℕ) × (f text ≡ Ok (piece, rest.now)) × (new ≡ old ++ piece)
PutsPiece f old new text (Err stop) = Stops stop (f text)

-- a byte comes next that is neither `<` nor `&`
abbrev pub is_letter_next : List ℕ → Bool
is_letter_next [] = false
is_letter_next (byte ∷ bytes) = not (byte == 60) && not (byte == 38)

-- a byte that is a character of the repertoire by itself, and neither `<` nor `&`
abbrev pub is_plain_letter : ℕ → Bool
is_plain_letter byte = byte == 10 || leb 32 byte && leb byte 126 && not (byte == 60) && not (byte == 38)

-- a character stands first, as the reader's piece
abbrev pub PutsLetter : Judged (List ℕ) → (text : List ℕ) → Result (Bor (List ℕ)) Stop → Type 0
PutsLetter f text (Ok rest) = (piece : List ℕ) × (f text ≡ Ok (piece, rest.now)) × (text ≡ piece ++ rest.now) × (0 < length piece)
PutsLetter f text (Err stop) = Stops stop (f text)

-- the first character, and what stands behind it
abbrev pub IsFirstChar : Option (ℕ × Bor (List ℕ)) → List ℕ → Type 0
IsFirstChar None text = text ≡ []
IsFirstChar (Some first) text = (text ≡ encode_utf8 first.0 ++ first.1.now) × IsScalar first.0

-- a byte of a value that stands for itself comes next
abbrev pub IsPlainNext : (quote : ℕ) → List ℕ → Type 0
IsPlainNext quote [] = ⊥
IsPlainNext quote (byte ∷ bytes) = is_plain quote byte ≡ true

-- the next digit of a number was read, where one may follow
abbrev pub GoesOnWith : (base left value : ℕ) → (text : List ℕ) → Option (ℕ × Bor (List ℕ)) → Type 0
GoesOnWith base left value text None = next_is (may_follow base left value) text ≡ false
GoesOnWith base left value text (Some d) = (byte : ℕ) × (text ≡ byte ∷ d.1.now) × (may_follow base left value byte ≡ true) × (d.0 ≡ base * value + digit_value byte)
