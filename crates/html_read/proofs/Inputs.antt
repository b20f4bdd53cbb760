-- Inputs that are UTF-8.
use Rattle.std.proofs.Common.{◌≡◌, ℕ, List, length, Ok, refl, sym, subst, ◌∙◌}
use Rattle.std.specs.Str.{IsUtf8}
use Rattle.std.specs.Str.Lossy.{utf8_valid_len}
use Rattle.std.proofs.lemmas.Bool.{eq-eqb}
use Rattle.std.proofs.lemmas.Str.{utf8_valid_len-IsUtf8}
use Rattle.reading.specs.Readers.{ReadOr}
use Rattle.html_tokens.specs.Error.{Stop}
use Rattle.html_tokens.specs.Error.{Fault}
use Rattle.reading.specs.Stop.{Stops}
use Rattle.html_read.specs.Places.{placed_document, placed_input}
use Rattle.html_read.specs.Reading.{document, input}
use Rattle.html_read.specs.Values.{Whole}

input_is : (bytes text : List ℕ) → text ≡ bytes → IsUtf8 bytes → input bytes ≡ document (length text) text
unfolding input
input_is bytes text same is = rw (same, eq-eqb (utf8_valid_len bytes) (length bytes) (utf8_valid_len-IsUtf8 bytes is)) refl

pub input_read : (bytes text rest : List ℕ) (whole : Whole) → text ≡ bytes → IsUtf8 bytes → document (length text) text ≡ Ok (whole, rest) → (behind : List ℕ) × (input bytes ≡ Ok (whole, behind))
input_read bytes text rest whole same is e = (rest, input_is bytes text same is ∙ e)

pub input_stops : (bytes text : List ℕ) (stop_ : Stop) → text ≡ bytes → IsUtf8 bytes → Stops stop_ (document (length text) text) → Stops stop_ (input bytes)
input_stops bytes text stop_ same is e = subst (λ (r : ReadOr Fault Whole). Stops stop_ r) (sym (input_is bytes text same is)) e

-- ---- the same with the places of nodes

places_are : (bytes text : List ℕ) → text ≡ bytes → IsUtf8 bytes → placed_input bytes ≡ placed_document (length text) text
unfolding placed_input
places_are bytes text same is = rw (same, eq-eqb (utf8_valid_len bytes) (length bytes) (utf8_valid_len-IsUtf8 bytes is)) refl

pub places_read : (bytes text rest places : List ℕ) → text ≡ bytes → IsUtf8 bytes → placed_document (length text) text ≡ Ok (places, rest) → (behind : List ℕ) × (placed_input bytes ≡ Ok (places, behind))
places_read bytes text rest places same is e = (rest, places_are bytes text same is ∙ e)

pub places_stop : (bytes text : List ℕ) (stop_ : Stop) → text ≡ bytes → IsUtf8 bytes → Stops stop_ (placed_document (length text) text) → Stops stop_ (placed_input bytes)
places_stop bytes text stop_ same is e = subst (λ (r : ReadOr Fault (List ℕ)). Stops stop_ r) (sym (places_are bytes text same is)) e
