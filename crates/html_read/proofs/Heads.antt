-- The head of a document, piece by piece.
use Rattle.std.proofs.Common.{◌≡◌, ℕ, ◌<◌, true, false, List, [], ◌∷◌, ◌++◌, length, codes, Ok, refl, sym, ap, ◌∙◌}
use Rattle.std.specs.Prelude.{not}
use Rattle.std.proofs.lemmas.List.{map-append}
use Rattle.reading.specs.Readers.{next_is, starts}
use Rattle.reading.proofs.Turns.{IsTurning, turning_starts, turning_goes_on, turning_stops, turning_ends}
use Rattle.html_read.specs.declared.node.PlacedText.{PlacedText}
use Rattle.html_tokens.specs.Error.{Stop}
use Rattle.reading.specs.declared.stop.Stop.TheVariants as stops
use Rattle.reading.specs.White.{is_white}
use Rattle.reading.specs.Stop.{Stops}
use Rattle.html_read.specs.Reading.{ahead, style, head_turn, head_items}
use Rattle.html_read.specs.Values.{TextAt, text_at, sheets_of}

-- ---- a style element

style_read : (size : ℕ) (sheets : List TextAt) (text rest : List ℕ) (sheet : TextAt) → next_is is_white text ≡ false → starts (codes "<!") text ≡ false → ahead (codes "<t") text ≡ false
    → ahead (codes "<m") text ≡ false → ahead (codes "<s") text ≡ true → style size text ≡ Ok (sheet, rest) → head_turn size sheets text ≡ Ok (sheets ++ sheet ∷ [], rest)
unfolding head_turn
style_read size sheets text rest sheet no_white no_comment no_title no_meta e read = rw (no_white, no_comment, no_title, no_meta, e, read) refl

pushed : (old new : List PlacedText) (sheet : PlacedText) → new ≡ old ++ sheet ∷ [] → sheets_of new ≡ sheets_of old ++ text_at sheet ∷ []
pushed old new sheet put = ap sheets_of put ∙ map-append text_at old (sheet ∷ [])

pub style_put : (size : ℕ) (old new : List PlacedText) (text rest : List ℕ) (sheet : PlacedText) → next_is is_white text ≡ false → starts (codes "<!") text ≡ false → ahead (codes "<t") text ≡ false
    → ahead (codes "<m") text ≡ false → ahead (codes "<s") text ≡ true → style size text ≡ Ok (text_at sheet, rest) → new ≡ old ++ sheet ∷ []
    → head_turn size (sheets_of old) text ≡ Ok (sheets_of new, rest)
style_put size old new text rest sheet no_white no_comment no_title no_meta e read put =
    style_read size (sheets_of old) text rest (text_at sheet) no_white no_comment no_title no_meta e read ∙ ap (λ (s : List TextAt). Ok (s, rest)) (sym (pushed old new sheet put))

-- ---- turns

abbrev pub IsInHead : (size : ℕ) → (text : List ℕ) → List TextAt → (rest : List ℕ) → Type 0
IsInHead size text sheets rest = IsTurning (λ (so_far : List TextAt) bytes. not (starts (codes "</") bytes)) (head_turn size) (head_items size text) sheets rest

pub head_starts : (size : ℕ) (text : List ℕ) (sheets : List PlacedText) → sheets ≡ [] → IsInHead size text (sheets_of sheets) text
unfolding head_items
head_starts size text sheets none = rw none (turning_starts (λ (so_far : List TextAt) bytes. not (starts (codes "</") bytes)) (head_turn size) [] text)

goes : (text : List ℕ) → starts (codes "</") text ≡ false → not (starts (codes "</") text) ≡ true
goes text e = rw e refl

ends : (text : List ℕ) → starts (codes "</") text ≡ true → not (starts (codes "</") text) ≡ false
ends text e = rw e refl

pub head_goes_on : (size : ℕ) (text rest after : List ℕ) (sheets later : List TextAt) → IsInHead size text sheets rest → starts (codes "</") rest ≡ false
    → head_turn size sheets rest ≡ Ok (later, after) → length after < length rest → IsInHead size text later after
head_goes_on size text rest after sheets later now e read lt = turning_goes_on later after now (goes rest e) read lt

pub head_stops : (size : ℕ) (text rest : List ℕ) (sheets : List TextAt) (stop_ : Stop) → IsInHead size text sheets rest → starts (codes "</") rest ≡ false
    → Stops stop_ (head_turn size sheets rest) → Stops stop_ (head_items size text)
head_stops size text rest sheets (stops.Refused kind left) now e read = turning_stops (kind, left.now) now (goes rest e) read
head_stops size text rest sheets stops.Memory now e read = tt

pub head_ends : (size : ℕ) (text rest : List ℕ) (sheets : List TextAt) → IsInHead size text sheets rest → starts (codes "</") rest ≡ true → head_items size text ≡ Ok (sheets, rest)
head_ends size text rest sheets now e = turning_ends now (ends rest e)
