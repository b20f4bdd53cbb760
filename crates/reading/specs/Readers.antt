-- Readers of bytes, and the few ways to build one from others. The code of a reader is a chain of `?`; its contract
-- says by `Answers` that it gives what such a reader gives.
use Rattle.std.specs.Prelude.{◌≡◌, ◌≤◌, ◌<◌, ℕ, zero, suc, nat_lt, Bool, false, ◌==◌, if◌then◌else◌, List, [], ◌∷◌, ◌++◌, length, Option, Some, None, Result, Ok, Err, is_ok, ⊤}
use Rattle.std.specs.Char.{to_ascii_lowercase}
use denote.Bor.{Bor}

-- a value and the bytes behind it, or E
abbrev pub ReadOr : Type 0 → Type 0 → Type 0
ReadOr E A = Result (A × List ℕ) E

abbrev pub ReaderOr : Type 0 → Type 0 → Type 0
ReaderOr E A = List ℕ → ReadOr E A

-- a value and the bytes behind it, or what is left where the grammar doesn't go on
abbrev pub Read : Type 0 → Type 0
Read A = ReadOr (List ℕ) A

abbrev pub Reader : Type 0 → Type 0
Reader A = ReaderOr (List ℕ) A

infixl 10 ◌>>=◌
abbrev pub ◌>>=◌ : {E A B : Type 0} → ReadOr E A → (A × List ℕ → ReadOr E B) → ReadOr E B
(Ok x) >>= f = f x
(Err e) >>= f = Err e

-- reads nothing, and gives x
abbrev pub give : {E A : Type 0} → A → ReaderOr E A
give x bytes = Ok (x, bytes)

-- goes on with nothing
abbrev pub refuse : {A : Type 0} → Reader A
refuse bytes = Err bytes

-- one after the other: the second may depend on what the first gave
abbrev pub follow : {E A B : Type 0} → ReaderOr E A → (A → ReaderOr E B) → ReaderOr E B
follow f g bytes = f bytes >>= λ x. g x.0 x.1

-- with another view of what is read
abbrev pub mapped : {E A B : Type 0} → (A → B) → ReaderOr E A → ReaderOr E B
mapped view f = follow f (λ x. give (view x))

-- the first reader where the test of the next bytes says so, else the second
abbrev pub choice : {E A : Type 0} → (List ℕ → Bool) → ReaderOr E A → ReaderOr E A → ReaderOr E A
choice test f g bytes = if test bytes then f bytes else g bytes

-- what f reads where the test of the next bytes says so, else nothing
abbrev pub optional : {E A : Type 0} → (List ℕ → Bool) → ReaderOr E A → ReaderOr E (Option A)
optional test f = choice test (mapped Some f) (give None)

-- where f stops, E says so by the bytes that are left
abbrev pub read_or : {E A : Type 0} → (List ℕ → E) → Read A → ReadOr E A
read_or told (Ok x) = Ok x
read_or told (Err left) = Err (told left)

abbrev pub telling : {E A : Type 0} → (List ℕ → E) → Reader A → ReaderOr E A
telling told f bytes = read_or told (f bytes)

-- this text
unfoldable pub strip : List ℕ → Reader ⊤
strip [] bytes = Ok (tt, bytes)
strip (wanted ∷ text) [] = Err []
strip (wanted ∷ text) (byte ∷ bytes) = if byte == wanted then strip text bytes else Err (byte ∷ bytes)

-- this text of small letters, in which ASCII letters may stand in either case
unfoldable pub strip_either_case : List ℕ → Reader ⊤
strip_either_case [] bytes = Ok (tt, bytes)
strip_either_case (wanted ∷ text) [] = Err []
strip_either_case (wanted ∷ text) (byte ∷ bytes) = if to_ascii_lowercase byte == wanted then strip_either_case text bytes else Err (byte ∷ bytes)

-- do the bytes begin with this text?
unfoldable pub starts : List ℕ → List ℕ → Bool
starts text bytes = is_ok (strip text bytes)

-- the first byte of the bytes, and those behind it
abbrev pub IsFirst : Option (ℕ × Bor (List ℕ)) → List ℕ → Type 0
IsFirst None bytes = bytes ≡ []
IsFirst (Some first) bytes = bytes ≡ first.0 ∷ first.1.now

-- the first byte and those behind it where it is ASCII
abbrev pub IsAsciiFirst : Option (ℕ × Bor (List ℕ)) → List ℕ → Type 0
IsAsciiFirst None [] = ⊤
IsAsciiFirst None (byte ∷ bytes) = 128 ≤ byte
IsAsciiFirst (Some first) bytes = (bytes ≡ first.0 ∷ first.1.now) × (first.0 < 128)

-- one byte that passes the test
unfoldable pub one_of : (ℕ → Bool) → Reader ℕ
one_of test [] = Err []
one_of test (byte ∷ bytes) = if test byte then Ok (byte, bytes) else Err (byte ∷ bytes)

-- does a byte that passes the test come next?
abbrev pub next_is : (ℕ → Bool) → List ℕ → Bool
next_is test [] = false
next_is test (byte ∷ bytes) = test byte

-- a byte in front of the bytes that are read
abbrev pub with_byte : ℕ → Read (List ℕ) → Read (List ℕ)
with_byte byte (Ok x) = Ok (byte ∷ x.0, x.1)
with_byte byte (Err left) = Err left

-- the bytes up to the first one that doesn't pass the test
unfoldable pub run_of : (ℕ → Bool) → Reader (List ℕ)
run_of test [] = Ok ([], [])
run_of test (byte ∷ bytes) = if test byte then with_byte byte (run_of test bytes) else Ok ([], byte ∷ bytes)

-- over the bytes that pass the test
unfoldable pub skip : (ℕ → Bool) → Reader ⊤
skip test [] = Ok (tt, [])
skip test (byte ∷ bytes) = if test byte then skip test bytes else Ok (tt, byte ∷ bytes)

-- the bytes up to the first place where the test of the next bytes says so
unfoldable pub until : (List ℕ → Bool) → Reader (List ℕ)
until test [] = if test [] then Ok ([], []) else Err []
until test (byte ∷ bytes) = if test (byte ∷ bytes) then Ok ([], byte ∷ bytes) else with_byte byte (until test bytes)

-- the bytes up to the first place where f can read, and what f reads there
abbrev pub can_read : {A : Type 0} → Reader A → List ℕ → Bool
can_read f bytes = is_ok (f bytes)

unfoldable pub up_to : {A : Type 0} → Reader A → Reader (List ℕ)
up_to f = follow (until (can_read f)) (λ run. mapped (λ x. run) f)

-- the shorter of two ends of the bytes
abbrev pub shorter_of : List ℕ → List ℕ → List ℕ
shorter_of best left = if nat_lt (length left) (length best) then left else best

-- the first of these texts that the bytes begin with; where there is none, `best` or what is left behind a longer front that they share with one
abbrev pub word_or : {A : Type 0} → A → (List ℕ → Read A) → Read ⊤ → Read A
word_or x others (Ok there) = Ok (x, there.1)
word_or x others (Err left) = others left

unfoldable pub word_from : {A : Type 0} → List (List ℕ × A) → (best : List ℕ) → Reader A
word_from [] best bytes = Err best
word_from (word ∷ words) best bytes = word_or word.1 (λ left. word_from words (shorter_of best left) bytes) (strip word.0 bytes)

-- one of these texts; where there is none, what is left behind the longest front that the bytes share with one
unfoldable pub one_word : {A : Type 0} → List (List ℕ × A) → Reader A
one_word words bytes = word_from words bytes bytes

-- a text, then what f reads
unfoldable pub after : {A : Type 0} → List ℕ → Reader A → Reader A
after text f = follow (strip text) (λ _. f)

-- what f reads between two texts
unfoldable pub between : {A : Type 0} → List ℕ → Reader A → List ℕ → Reader A
between opening f closing = after opening (follow f (λ x. follow (strip closing) (λ _. give x)))

-- turns from one state to the next for as long as the test of the state and the next bytes says so, at most `fuel`
unfoldable pub turns : {E S : Type 0} → (S → List ℕ → Bool) → (S → ReaderOr E S) → ℕ → S → ReaderOr E S
turns goes turn zero state bytes = Ok (state, bytes)
turns goes turn (suc fuel) state bytes = if goes state bytes then follow (turn state) (turns goes turn fuel) bytes else Ok (state, bytes)

-- such turns to their end, where each takes a byte at least
unfoldable pub repeat : {E S : Type 0} → (S → List ℕ → Bool) → (S → ReaderOr E S) → S → ReaderOr E S
repeat goes turn state bytes = turns goes turn (suc (length bytes)) state bytes

-- what f reads, as often as the test of the next bytes says
unfoldable pub many : {E A : Type 0} → (List ℕ → Bool) → ReaderOr E A → ReaderOr E (List A)
many test f = repeat (λ items bytes. test bytes) (λ items. mapped (λ x. items ++ x ∷ []) f) []

-- pieces of text as often as the test of the next bytes says, joined
unfoldable pub joined : {E : Type 0} → (List ℕ → Bool) → ReaderOr E (List ℕ) → ReaderOr E (List ℕ)
joined test f = repeat (λ text bytes. test bytes) (λ text. mapped (λ piece. text ++ piece) f) []

-- What a function returned, seen by `view`, is what the reader gives; where it stops, the same bytes are left.
abbrev pub Answers : {X A : Type 0} → (X → A × List ℕ) → Result X (Bor (List ℕ)) → Read A → Type 0
Answers view (Ok x) read = read ≡ Ok (view x)
Answers view (Err left) read = read ≡ Err left.now
