-- Declarations: what is kept is a value of its property, with numbers that a style sheet can say.
use Rattle.std.proofs.Common.{◌≡◌, ℕ, Bool, true, false, cond, List, [], ◌++◌, length, codes, Ok, Err, ap, subst}
use Rattle.std.specs.Prelude.{⊤, IfOk, Option, Some, None, Result}
use Rattle.std.specs.List.{All}
use Rattle.std.proofs.lemmas.List.Elements.{All-append, All-nil}
use Rattle.reading.specs.Readers.{give, follow, mapped, strip, starts, repeat}
use Rattle.reading.proofs.SpellLaws.{ok, bind_ok, same_answer, told_ok}
use Rattle.reading.proofs.Turns.{repeat_keeps}
use Rattle.css_types.specs.declared.value.Declaration.{Declaration}
use Rattle.css_tokens.specs.Lexing.{gap}
use Rattle.css_values.specs.declared.error.Refusal.TheVariants.{TooManyRules, Unsupported}
use Rattle.css_values.specs.declared.within.Within.{Within}
use Rattle.css_values.specs.Answered.{IsKept}
use Rattle.css_values.specs.Declarations.{Stated, are_too_many, at_rule_ahead, before_rest, counted, declaration, declarations, declared, goes_on, item, judged, refused_at, stated, turn, unless_at, unsupported, with_stated}
use Rattle.reading.specs.Stop.{Gives}
use Rattle.css_values.specs.Error.{Fault, Stop, spelled, syntax}
use Rattle.css_values.specs.Judging.{is_unsupported}
use Rattle.css_values.proofs.Declaring.{placed_are_kept}
use Rattle.css_values.proofs.Sayable.{AreSaid, stated_is_said}

abbrev AreKept : List Declaration → Type 0
AreKept all = All IsKept all

-- ---- one declaration

abbrev fine : List Declaration → Result (List Declaration) Fault
fine all = Ok all

same_ok : (one other : List Declaration) → fine one ≡ fine other → one ≡ other
same_ok one other e = cc

counted_by : (left : List ℕ) (all out : List Declaration) (t : Bool) → AreKept all → cond t (Err (TooManyRules, left)) (fine all) ≡ fine out → AreKept out
counted_by left all out true kept e = absurd cc
counted_by left all out false kept e = subst AreKept (same_ok all out e) kept

at_by : (at : Option (List ℕ)) (others : Result (List Declaration) Fault) (out : List Declaration) → (others ≡ fine out → AreKept out) → unless_at at others ≡ fine out → AreKept out
at_by (Some left) others out is e = absurd cc
at_by None others out is e = is e

unsupported_by : (left : List ℕ) (others : Result (List Declaration) Fault) (out : List Declaration) (t : Bool) → (others ≡ fine out → AreKept out) → cond t (Err (Unsupported, left)) others ≡ fine out → AreKept out
unsupported_by left others out true is e = absurd cc
unsupported_by left others out false is e = is e

with_stated_keeps : (within : Within) (end_ : ℕ) (all out : List Declaration) (s : Stated) → AreSaid s.value.lexemes → AreKept all → with_stated within end_ all s ≡ Ok out → AreKept out
with_stated_keeps within end_ all out s said kept e =
    let more : AreKept (all ++ declared end_ s) = All-append IsKept all (declared end_ s) kept (placed_are_kept _ s.name s.value.lexemes said) in
    unsupported_by s.left (unless_at (refused_at within s.value.at_sign) (counted within s.left (all ++ declared end_ s))) out (is_unsupported s.name s.value.has_var s.value.lexemes)
    (λ f. at_by (refused_at within s.value.at_sign) (counted within s.left (all ++ declared end_ s)) out
    (λ g. counted_by s.left (all ++ declared end_ s) out (are_too_many within (length (all ++ declared end_ s))) more g) f) e

before_by : (rest after : List ℕ) (out : List Declaration) (r : Result (List Declaration) Fault) → before_rest rest r ≡ ok (out, after) → r ≡ Ok out
before_by rest after out (Ok all) e = ap fine (same_answer {E = Fault} all out rest after e).0
before_by rest after out (Err fault) e = absurd cc

stated_keeps : (within : Within) (end_ : ℕ) (all out : List Declaration) (bytes rest : List ℕ) → AreKept all → follow (spelled (stated within)) (judged within end_ all) bytes ≡ ok (out, rest) → AreKept out
stated_keeps within end_ all out bytes rest kept e =
    let a = bind_ok (spelled (stated within) bytes) (λ (x : Stated × List ℕ). judged within end_ all x.0 x.1) (out, rest) e in
    let read = told_ok syntax (stated within bytes) a.0 a.1 in
    with_stated_keeps within end_ all out a.0.0 (stated_is_said within bytes a.0.1 a.0.0 read) kept (before_by a.0.1 rest out (with_stated within end_ all a.0.0) a.2)

declaration_by : (within : Within) (end_ : ℕ) (all out : List Declaration) (bytes rest : List ℕ) (t : Bool) → AreKept all
    → cond t (unsupported bytes) (follow (spelled (stated within)) (judged within end_ all) bytes) ≡ ok (out, rest) → AreKept out
declaration_by within end_ all out bytes rest true kept e = absurd cc
declaration_by within end_ all out bytes rest false kept e = stated_keeps within end_ all out bytes rest kept e

declaration_keeps : (within : Within) (end_ : ℕ) (all out : List Declaration) (bytes rest : List ℕ) → AreKept all → declaration within end_ all bytes ≡ ok (out, rest) → AreKept out
unfolding declaration
declaration_keeps within end_ all out bytes rest kept e = declaration_by within end_ all out bytes rest (at_rule_ahead within bytes) kept e

item_by : (within : Within) (end_ : ℕ) (all out : List Declaration) (bytes rest : List ℕ) (t : Bool) → AreKept all
    → cond t (mapped (λ (u : ⊤). all) (spelled (strip (codes ";"))) bytes) (declaration within end_ all bytes) ≡ ok (out, rest) → AreKept out
item_by within end_ all out bytes rest true kept e =
    let a = bind_ok (spelled (strip (codes ";")) bytes) (λ (x : ⊤ × List ℕ). give all x.1) (out, rest) e in
    subst AreKept (same_answer {E = Fault} all out a.0.1 rest a.2).0 kept
item_by within end_ all out bytes rest false kept e = declaration_keeps within end_ all out bytes rest kept e

turn_keeps : (within : Within) (end_ : ℕ) (all out : List Declaration) (bytes rest : List ℕ) → turn within end_ all bytes ≡ ok (out, rest) → AreKept all → AreKept out
turn_keeps within end_ all out bytes rest e kept =
    let a = bind_ok (item within end_ all bytes) (λ (x : List Declaration × List ℕ). mapped (λ (white : Bool). x.0) (spelled gap) x.1) (out, rest) e in
    let g = bind_ok (spelled gap a.0.1) (λ (x : Bool × List ℕ). give a.0.0 x.1) (out, rest) a.2 in
    subst AreKept (same_answer {E = Fault} a.0.0 out g.0.1 rest g.2).0 (item_by within end_ all a.0.0 bytes a.0.1 (starts (codes ";") bytes) kept a.1)

-- ---- all of them

pub declarations_are_kept : (within : Within) (end_ : ℕ) (bytes rest : List ℕ) (all : List Declaration) → declarations within end_ bytes ≡ Ok (all, rest) → All IsKept all
unfolding declarations
declarations_are_kept within end_ bytes rest all e =
    let a = bind_ok (spelled gap bytes) (λ (x : Bool × List ℕ). repeat (goes_on within) (turn within end_) [] x.1) (all, rest) e in
    repeat_keeps (goes_on within) (turn within end_) AreKept (λ s later x y t kept. turn_keeps within end_ s later x y t kept) [] all a.0.1 rest a.2 (All-nil IsKept)

-- what a call gave is kept
pub given_are_kept : {X : Type 0} (view : X → List Declaration) (behind : X → List ℕ) (within : Within) (end_ : ℕ) (text : List ℕ) (result : Result X Stop)
    → Gives (λ (x : X). (view x, behind x)) result (declarations within end_ text) → IfOk result (λ (x : X). All IsKept (view x))
given_are_kept view behind within end_ text (Ok x) e = declarations_are_kept within end_ text (behind x) (view x) e
given_are_kept view behind within end_ text (Err stop_) e = tt
