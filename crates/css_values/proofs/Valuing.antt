-- Values, token by token, and their marks.
use Rattle.std.proofs.Common.{◌≡◌, ℕ, ◌<◌, ◌≤◌, ◌-◌, Bool, true, false, List, [], ◌∷◌, ◌++◌, length, map, take, Ok, Err, refl, sym, ap, subst, ◌∙◌, append_assoc, arith}
use Rattle.std.proofs.lemmas.List.{map-append, length-map, take-map}
use Rattle.reading.specs.Readers.{Read, ReadOr, ◌>>=◌, repeat, follow, read_or}
use Rattle.reading.proofs.SpellLaws.{told_ok}
use Rattle.reading.proofs.Turns.{IsTurning, turning_starts, turning_goes_on, turning_stops, turning_ends}
use Rattle.css_tokens.specs.declared.token.Token.{Token}
use Rattle.css_tokens.specs.Lexing.{gap}
use Rattle.css_tokens.specs.Tokens.{Lexeme, lexeme_of}
use Rattle.css_values.specs.declared.within.Within.{Within}
use Rattle.css_values.specs.Error.{Stop}
use Rattle.reading.specs.declared.stop.Stop.TheVariants as stops
use Rattle.css_values.specs.declared.error.Refusal.TheVariants.{CssSyntax}
use Rattle.reading.specs.Stop.{IsStopAt, Stops}
use Rattle.css_values.specs.Error.{Fault, spelled, syntax}
use Rattle.css_values.specs.Value.{Written, Begun, begun, goes_on, turn, finished, value, ends_important, is_important, without_mark}

-- ---- the mark

more : (first : Lexeme) (front : List Lexeme) (one other : Lexeme) → ends_important (first ∷ (front ++ (one ∷ (other ∷ [])))) ≡ ends_important (front ++ (one ∷ (other ∷ [])))
unfolding ends_important
more first [] one other = refl
more first (second ∷ []) one other = refl
more first (second ∷ (third ∷ front)) one other = refl

last_two : (front : List Lexeme) (one other : Lexeme) → ends_important (front ++ (one ∷ (other ∷ []))) ≡ is_important one other
unfolding ends_important
last_two [] one other = refl
last_two (first ∷ front) one other = more first front one other ∙ last_two front one other

pub mark_by : (tokens others front : List Token) (mark last : Token) → tokens ≡ others ++ last ∷ [] → others ≡ front ++ mark ∷ [] → is_important (lexeme_of mark) (lexeme_of last) ≡ ends_important (map lexeme_of tokens)
mark_by tokens others front mark last e f =
    let same : tokens ≡ front ++ (mark ∷ (last ∷ [])) = e ∙ ap (λ (r : List Token). r ++ last ∷ []) f ∙ append_assoc front (mark ∷ []) (last ∷ []) in
    sym (ap (λ (r : List Token). ends_important (map lexeme_of r)) same ∙ ap ends_important (map-append lexeme_of front (mark ∷ (last ∷ []))) ∙ last_two (map lexeme_of front) (lexeme_of mark) (lexeme_of last))

pub no_mark : (tokens : List Token) → length tokens ≡ 0 → false ≡ ends_important (map lexeme_of tokens)
unfolding ends_important
no_mark [] e = refl
no_mark (token ∷ tokens) e = absurd (omega arith)

pub one_token : (tokens others : List Token) (last : Token) → tokens ≡ others ++ last ∷ [] → length others ≡ 0 → false ≡ ends_important (map lexeme_of tokens)
unfolding ends_important
one_token tokens [] last e none = rw e refl
one_token tokens (token ∷ others) last e none = absurd (omega arith)

two_by : (lexemes : List Lexeme) → ends_important lexemes ≡ true → 2 ≤ length lexemes
unfolding ends_important
two_by [] e = absurd cc
two_by (one ∷ []) e = absurd cc
two_by (one ∷ (other ∷ lexemes)) e = omega arith

pub marked_length : (tokens : List Token) → ends_important (map lexeme_of tokens) ≡ true → 2 ≤ length tokens
marked_length tokens e = omega (arith, two_by (map lexeme_of tokens) e, length-map tokens lexeme_of)

cut_by : (lexemes : List Lexeme) → ends_important lexemes ≡ true → without_mark lexemes ≡ take (length lexemes - 2) lexemes
cut_by lexemes e = rw e refl

pub mark_taken : (shown old new : List Token) (count : ℕ) → shown ≡ old → ends_important (map lexeme_of shown) ≡ true → count ≡ length shown → new ≡ take (count - 2) old
    → map lexeme_of new ≡ without_mark (map lexeme_of old)
mark_taken shown old new count same e is cut =
    let marked : ends_important (map lexeme_of old) ≡ true = rw (← same) e in
    let long : count ≡ length (map lexeme_of old) = is ∙ ap length same ∙ sym (length-map old lexeme_of) in
    ap (map lexeme_of) cut ∙ sym (take-map lexeme_of (count - 2) old) ∙ ap (λ (n : ℕ). take (n - 2) (map lexeme_of old)) long ∙ sym (cut_by (map lexeme_of old) marked)

-- ---- the loop

pub record IsValuing (within : Within) (text : List ℕ) (b : Begun) (rest : List ℕ) : Type 0 where
  pub start : List ℕ
  pub white : Bool
  pub behind : gap text ≡ Ok (white, start)
  pub turning : IsTurning (goes_on within) turn (repeat (goes_on within) turn begun start) b rest

pub valuing_starts : (within : Within) (text start : List ℕ) (white : Bool) (b : Begun) → gap text ≡ Ok (white, start) → b ≡ begun → IsValuing within text b start
valuing_starts within text start white b e is = record {
  start = start;
  white = white;
  behind = e;
  turning = subst (λ (state : Begun). IsTurning (goes_on within) turn (repeat (goes_on within) turn begun start) state start) (sym is) (turning_starts (goes_on within) turn begun start);
}

pub valuing_goes_on : (within : Within) (text rest after : List ℕ) (b later : Begun) → IsValuing within text b rest → goes_on within b rest ≡ true → spelled (turn b) rest ≡ Ok (later, after) → length after < length rest
    → IsValuing within text later after
valuing_goes_on within text rest after b later now goes e lt = record {
  start = now.start;
  white = now.white;
  behind = now.behind;
  turning = turning_goes_on later after now.turning goes (told_ok syntax (turn b rest) (later, after) e) lt;
}

by_gap : (within : Within) (text start : List ℕ) (white : Bool) → gap text ≡ Ok (white, start) → value within text ≡ follow (repeat (goes_on within) turn begun) finished start
unfolding value
by_gap within text start white e = rw e refl

no_value : (within : Within) (text left : List ℕ) → gap text ≡ Err left → value within text ≡ Err left
unfolding value
no_value within text left e = rw e refl

pub gap_stops : (within : Within) (text left : List ℕ) (stop_ : Stop) → gap text ≡ Err left → IsStopAt CssSyntax left stop_ → Stops stop_ (spelled (value within) text)
gap_stops within text left (stops.Refused kind at) e is = rw (is.0, is.1) (ap (read_or syntax) (no_value within text left e))
gap_stops within text left stops.Memory e is = tt

-- what was told of where a reader stopped
told_err : {A : Type 0} (r : Read A) (fault : Fault) → read_or syntax r ≡ Err fault → (left : List ℕ) × (r ≡ Err left) × (syntax left ≡ fault)
told_err (Ok x) fault e = absurd cc
told_err (Err left) fault e = (left, refl, cc)

pub valuing_stops : (within : Within) (text rest : List ℕ) (b : Begun) (stop_ : Stop) → IsValuing within text b rest → goes_on within b rest ≡ true → Stops stop_ (spelled (turn b) rest) → Stops stop_ (spelled (value within) text)
valuing_stops within text rest b (stops.Refused kind left) now goes e =
    let t = told_err (turn b rest) (kind, left.now) e in
    let total : repeat (goes_on within) turn begun now.start ≡ Err t.0 = turning_stops t.0 now.turning goes t.1 in
    let whole : value within text ≡ Err t.0 = by_gap within text now.start now.white now.behind ∙ ap (λ (r : Read Begun). r >>= λ (x : Begun × List ℕ). finished x.0 x.1) total in
    ap (read_or syntax) whole ∙ ap (λ (fault : Fault). Err fault) t.2
valuing_stops within text rest b stops.Memory now goes e = tt

ends_by : (within : Within) (text rest : List ℕ) (b : Begun) → IsValuing within text b rest → goes_on within b rest ≡ false → value within text ≡ finished b rest
ends_by within text rest b now ends =
    let total : repeat (goes_on within) turn begun now.start ≡ Ok (b, rest) = turning_ends now.turning ends in
    by_gap within text now.start now.white now.behind ∙ ap (λ (r : Read Begun). r >>= λ (x : Begun × List ℕ). finished x.0 x.1) total

pub valuing_ends : (within : Within) (text rest : List ℕ) (b : Begun) (r : ReadOr Fault Written) → IsValuing within text b rest → goes_on within b rest ≡ false → spelled (finished b) rest ≡ r → spelled (value within) text ≡ r
valuing_ends within text rest b r now ends e = ap (read_or syntax) (ends_by within text rest b now ends) ∙ e

pub valuing_refused : (within : Within) (text rest : List ℕ) (b : Begun) (stop_ : Stop) → IsValuing within text b rest → goes_on within b rest ≡ false → Stops stop_ (spelled (finished b) rest) → Stops stop_ (spelled (value within) text)
valuing_refused within text rest b (stops.Refused kind left) now ends e = valuing_ends within text rest b (Err (kind, left.now)) now ends e
valuing_refused within text rest b stops.Memory now ends e = tt
