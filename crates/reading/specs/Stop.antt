-- Refusals with their places, and how code tells them. A kind says what is wrong; one of the kinds, `syntax`, that the
-- bytes don't go on as their grammar does.
use Rattle.std.specs.Prelude.{◌≡◌, ℕ, ◌-◌, ◌+◌, min, ◌^◌, List, length, Result, Ok, Err, ⊤}
use Rattle.reading.specs.Readers.{ReadOr, ReaderOr, Reader, telling}
use Rattle.reading.specs.declared.stop.Stop.{Stop}
use Rattle.reading.specs.declared.stop.Stop.TheVariants as stops

-- what is wrong, and the bytes from its place on
abbrev pub Fault : Type 0 → Type 0
Fault K = K × List ℕ

abbrev pub Judged : Type 0 → Type 0 → Type 0
Judged K A = ReaderOr (Fault K) A

abbrev pub fault : {K : Type 0} → K → List ℕ → Fault K
fault kind left = (kind, left)

-- a reader that refuses by this kind alone
abbrev pub refusing_by : {K A : Type 0} → K → Reader A → Judged K A
refusing_by kind f = telling (fault kind) f

-- the code stopped there, since the grammar doesn't go on
abbrev pub IsStopAt : {K : Type 0} → (syntax : K) → List ℕ → Stop K → Type 0
IsStopAt syntax left (stops.Refused kind at) = (kind ≡ syntax) × (at.now ≡ left)
IsStopAt syntax left stops.Memory = ⊥

abbrev pub Stops : {K Y : Type 0} → Stop K → Result Y (Fault K) → Type 0
Stops (stops.Refused kind left) read = read ≡ Err (kind, left.now)
Stops stops.Memory read = ⊤

-- What a function returned, seen by `view`, is this, unless memory ran out.
abbrev pub Gives : {K X Y : Type 0} → (X → Y) → Result X (Stop K) → Result Y (Fault K) → Type 0
Gives view (Ok x) read = read ≡ Ok (view x)
Gives view (Err stop) read = Stops stop read

-- the same, where what stands behind the value isn't told
abbrev pub GivesFront : {K X A : Type 0} → (X → A) → Result X (Stop K) → ReadOr (Fault K) A → Type 0
GivesFront view (Ok x) read = (rest : List ℕ) × (read ≡ Ok (view x, rest))
GivesFront view (Err stop) read = Stops stop read

-- the place of the end of a text that begins at `start`, held at the last number of usize; places are counted back from it
abbrev pub end_of : (start : ℕ) → List ℕ → ℕ
end_of start text = min (start + length text) (2 ^ 64 - 1)

-- the place of what is left of a text that ends at `end`
abbrev pub place_before : (end_ : ℕ) → (left : List ℕ) → ℕ
place_before end_ left = end_ - length left
