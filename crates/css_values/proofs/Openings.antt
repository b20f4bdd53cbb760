-- Brackets that are open, and their ends.
use Rattle.std.proofs.Common.{◌≡◌, ℕ, ◌<◌, Bool, true, false, cond, eqb, List, [], ◌∷◌, ◌++◌, length, Ok, Err, Some, None, refl, ap, ◌∙◌, arith}
use Rattle.std.specs.Prelude.{Option, IsSome, option_to_list, ⊤}
use Rattle.std.proofs.lemmas.List.{reverse-append}
use Rattle.std.proofs.lemmas.Bool.{eq-eqb}
use Rattle.reading.specs.Readers.{strip, one_of}
use Rattle.reading.proofs.SpellLaws.{ok, stop, strip_takes}
use Rattle.css_values.specs.declared.begun.Bracket.{Bracket}
use Rattle.css_values.specs.Error.{spelled}
use Rattle.css_values.specs.Reading.{closing_of, closings_of}
use Rattle.css_values.specs.Value.{Begun, closes, closed, behind_first, piece}

-- the innermost one stands last
innermost : (front : List Bracket) (bracket : Bracket) → closings_of (front ++ bracket ∷ []) ≡ closing_of bracket ∷ closings_of front
innermost front bracket = rw (reverse-append front (bracket ∷ [])) refl

closes_by : (closer : ℕ) (closers text rest : List ℕ) → strip (closer ∷ []) text ≡ Ok (tt, rest) → (byte : ℕ) × (closes (closer ∷ closers) text ≡ true) × (text ≡ byte ∷ rest)
closes_by closer closers text rest e =
    let first : text ≡ closer ∷ rest = strip_takes (closer ∷ []) text rest tt e in
    (closer, rw first (eq-eqb closer closer refl), first)

none_by : (closer byte : ℕ) (after left : List ℕ) (u : ⊤) (t : Bool) → eqb byte closer ≡ t → cond t (ok (u, after)) (stop (byte ∷ after)) ≡ stop left → eqb byte closer ≡ false
none_by closer byte after left u true is e = absurd cc
none_by closer byte after left u false is e = is

not_closed_by : (closer : ℕ) (closers text left : List ℕ) → strip (closer ∷ []) text ≡ Err left → closes (closer ∷ closers) text ≡ false
unfolding strip
not_closed_by closer closers [] left e = refl
not_closed_by closer closers (byte ∷ after) left e = none_by closer byte after left tt (eqb byte closer) refl e

pub closed_here : (open_ front : List Bracket) (bracket : Bracket) (closer text rest : List ℕ) → open_ ≡ front ++ bracket ∷ [] → closer ≡ closing_of bracket ∷ [] → strip closer text ≡ Ok (tt, rest)
    → (byte : ℕ) × (closes (closings_of open_) text ≡ true) × (text ≡ byte ∷ rest)
closed_here open_ front bracket closer text rest last is e =
    let read : strip (closing_of bracket ∷ []) text ≡ Ok (tt, rest) = rw is at e in
    rw (last, innermost front bracket) (closes_by (closing_of bracket) (closings_of front) text rest read)

pub not_closed : (open_ front : List Bracket) (bracket : Bracket) (closer text left : List ℕ) → open_ ≡ front ++ bracket ∷ [] → closer ≡ closing_of bracket ∷ [] → strip closer text ≡ Err left
    → closes (closings_of open_) text ≡ false
not_closed open_ front bracket closer text left last is e =
    let read : strip (closing_of bracket ∷ []) text ≡ Err left = rw is at e in
    rw (last, innermost front bracket) (not_closed_by (closing_of bracket) (closings_of front) text left read)

-- ---- the innermost one is taken away

pub popped : (old new : List Bracket) (result : Option Bracket) (text : List ℕ) → old ≡ new ++ option_to_list result → (0 < length old → IsSome result) → closes (closings_of old) text ≡ true
    → behind_first (closings_of old) ≡ closings_of new
popped old new (Some bracket) text e some c = rw (e, innermost new bracket) refl
popped [] new None text e some c = absurd cc
popped (bracket ∷ old) new None text e some c = absurd (cc (some (omega arith)))

pub closed_piece : (b : Begun) (text rest : List ℕ) (byte : ℕ) → closes b.closers text ≡ true → text ≡ byte ∷ rest → spelled (piece b) text ≡ Ok (closed b, rest)
unfolding one_of
closed_piece b text rest byte e first = rw (e, first) refl

pub closing_piece : (b : Begun) (shown old new : List Bracket) (result : Option Bracket) (text rest : List ℕ) → b.closers ≡ closings_of old → shown ≡ old → old ≡ new ++ option_to_list result → (0 < length old → IsSome result)
    → (byte : ℕ) × (closes (closings_of shown) text ≡ true) × (text ≡ byte ∷ rest)
    → spelled (piece b) text ≡ Ok (record { closers = closings_of new; lexemes = b.lexemes; has_var = b.has_var; at_sign = b.at_sign }, rest)
closing_piece b shown old new result text rest is same e some c =
    let here : closes (closings_of old) text ≡ true = rw (← same) c.1 in
    let there : closes b.closers text ≡ true = rw is here in
    let less : behind_first b.closers ≡ closings_of new = ap behind_first is ∙ popped old new result text e some here in
    closed_piece b text rest c.0 there c.2 ∙ ap (λ (closers : List ℕ). Ok (record { closers = closers; lexemes = b.lexemes; has_var = b.has_var; at_sign = b.at_sign }, rest)) less
