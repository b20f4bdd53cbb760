-- The attributes of a tag, one by one.
use Rattle.std.proofs.Common.{◌≡◌, ℕ, ◌<◌, ◌≤◌, true, false, List, [], ◌∷◌, ◌++◌, length, Ok, Err, refl, sym, ap, subst, ◌∙◌, map, arith}
use Rattle.std.proofs.lemmas.List.{map-append}
use Rattle.reading.specs.Readers.{Read, repeat, can_read, read_or}
use Rattle.reading.proofs.Turns.{IsTurning, turning_starts, turning_goes_on, turning_stops, turning_ends}
use Rattle.html_tokens.specs.Error.{Stop}
use Rattle.reading.specs.declared.stop.Stop.TheVariants as stops
use Rattle.html_tokens.specs.Error.{Fault, syntax, spelled}
use Rattle.reading.specs.Stop.{Stops}
use Rattle.html_tokens.specs.declared.written.WrittenAttribute.{WrittenAttribute}
use Rattle.html_tokens.specs.Written.{attribute_of}
use Rattle.html_tokens.specs.Written.{Attribute}
use Rattle.reading.specs.White.{spaces}
use Rattle.html_tokens.specs.Lexing.{attribute, attributes, next_attribute, name_ahead}

pub unspelled_ok : {A : Type 0} (r : Read A) (x : A × List ℕ) → read_or syntax r ≡ Ok x → r ≡ Ok x
unspelled_ok (Ok y) x e = cc
unspelled_ok (Err left) x e = absurd cc

pub unspelled_err : {A : Type 0} (r : Read A) (fault : Fault) → read_or syntax r ≡ Err fault → (left : List ℕ) × (r ≡ Err left) × (fault ≡ syntax left)
unspelled_err (Ok y) fault e = absurd cc
unspelled_err (Err left) fault e = (left, refl, cc)

abbrev pub IsAttributing : (text : List ℕ) → List Attribute → (rest : List ℕ) → Type 0
IsAttributing text list rest = IsTurning (λ (so_far : List Attribute) bytes. can_read name_ahead bytes) next_attribute (repeat (λ so_far bytes. can_read name_ahead bytes) next_attribute [] text) list rest

pub attributing_starts : (text : List ℕ) (list : List Attribute) → list ≡ [] → IsAttributing text list text
attributing_starts text list none =
    subst (λ (l : List Attribute). IsAttributing text l text) (sym none) (turning_starts (λ (so_far : List Attribute) bytes. can_read name_ahead bytes) next_attribute [] text)

next_ok : (list : List Attribute) (rest here after : List ℕ) (a : Attribute) → spaces rest ≡ Ok (tt, here) → attribute here ≡ Ok (a, after) → next_attribute list rest ≡ Ok (list ++ a ∷ [], after)
unfolding next_attribute
next_ok list rest here after a e f = rw (e, f) refl

next_err : (list : List Attribute) (rest here left : List ℕ) → spaces rest ≡ Ok (tt, here) → attribute here ≡ Err left → next_attribute list rest ≡ Err left
unfolding next_attribute
next_err list rest here left e f = rw (e, f) refl

pub attributing_goes_on : (text rest here after : List ℕ) (list : List Attribute) (a : Attribute) → IsAttributing text list rest → can_read name_ahead rest ≡ true → spaces rest ≡ Ok (tt, here)
    → spelled attribute here ≡ Ok (a, after) → length here ≤ length rest → length after < length here → IsAttributing text (list ++ a ∷ []) after
attributing_goes_on text rest here after list a now g e f le lt =
    turning_goes_on (list ++ a ∷ []) after now g (next_ok list rest here after a e (unspelled_ok (attribute here) (a, after) f)) (omega arith)

all_err : (text left : List ℕ) → repeat (λ (so_far : List Attribute) bytes. can_read name_ahead bytes) next_attribute [] text ≡ Err left → spelled attributes text ≡ Err (syntax left)
unfolding attributes
all_err text left e = rw e refl

all_ok : (text rest after : List ℕ) (list : List Attribute) → repeat (λ (so_far : List Attribute) bytes. can_read name_ahead bytes) next_attribute [] text ≡ Ok (list, rest) → spaces rest ≡ Ok (tt, after)
    → spelled attributes text ≡ Ok (list, after)
unfolding attributes
all_ok text rest after list e f = rw (e, f) refl

stops_by : (text rest here : List ℕ) (list : List Attribute) (fault : Fault) → IsAttributing text list rest → can_read name_ahead rest ≡ true → spaces rest ≡ Ok (tt, here)
    → spelled attribute here ≡ Err fault → spelled attributes text ≡ Err fault
stops_by text rest here list fault now g e f =
    let u = unspelled_err (attribute here) fault f in
    all_err text u.0 (turning_stops u.0 now g (next_err list rest here u.0 e u.1)) ∙ ap (λ (x : Fault). Err x) (sym u.2)

pub attributing_stops : (text rest here : List ℕ) (list : List Attribute) (stop_ : Stop) → IsAttributing text list rest → can_read name_ahead rest ≡ true → spaces rest ≡ Ok (tt, here)
    → Stops stop_ (spelled attribute here) → Stops stop_ (spelled attributes text)
attributing_stops text rest here list (stops.Refused kind left) now g e f = stops_by text rest here list (kind, left.now) now g e f
attributing_stops text rest here list stops.Memory now g e f = tt

pub attributing_ends : (text rest after : List ℕ) (list : List Attribute) → IsAttributing text list rest → can_read name_ahead rest ≡ false → spaces rest ≡ Ok (tt, after) → spelled attributes text ≡ Ok (list, after)
attributing_ends text rest after list now g e = all_ok text rest after list (turning_ends now g) e

pub attributing_pushed : (text rest here after : List ℕ) (old new : List WrittenAttribute) (a : WrittenAttribute) → IsAttributing text (map attribute_of old) rest → can_read name_ahead rest ≡ true → spaces rest ≡ Ok (tt, here)
    → spelled attribute here ≡ Ok (attribute_of a, after) → length here ≤ length rest → length after < length here → new ≡ old ++ a ∷ [] → IsAttributing text (map attribute_of new) after
attributing_pushed text rest here after old new a now g e f le lt made =
    let list : map attribute_of new ≡ map attribute_of old ++ attribute_of a ∷ [] = ap (map attribute_of) made ∙ map-append attribute_of old (a ∷ []) in
    subst (λ (l : List Attribute). IsAttributing text l after) (sym list) (attributing_goes_on text rest here after (map attribute_of old) (attribute_of a) now g e f le lt)
