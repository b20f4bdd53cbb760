-- Where attributes stop.
use Rattle.std.proofs.Common.{◌≡◌, ℕ, zero, suc, ◌<◌, Bool, true, false, cond, eqb, List, [], ◌∷◌, ◌++◌, length, codes, Ok, Err, is_ok, refl, sym, ap, subst, ◌∙◌, append_assoc, length-append, arith}
use Rattle.std.specs.Prelude.{⊤}
use Rattle.std.specs.Char.{encode_utf8}
use Rattle.std.proofs.lemmas.List.{append_cancel_right}
use Rattle.reading.specs.Readers.{Read, Reader, ◌>>=◌, give, follow, mapped, one_of, next_is, can_read, run_of, skip, joined, turns, repeat}
use Rattle.reading.specs.Grammars.{AllPass}
use Rattle.reading.specs.Places.{SeesNext, IsLocal, StopsInPlace}
use Rattle.reading.proofs.SpellLaws.{ok, stop, bind_ok, same_answer, one_again, Stopped, at_first, at_second, bind_err}
use Rattle.reading.proofs.ManyLaws.{push_one}
use Rattle.reading.proofs.PlaceLaws.{same_behind, strip_local, one_of_local, follow_local, mapped_local, choice_local, give_local}
use Rattle.reading.proofs.TurnPlaces.{repeat_local}
use Rattle.reading.proofs.UpToPlaces.{skip_as_run, skip_never}
use Rattle.reading.proofs.RunPlaces.{run_never}
use Rattle.reading.proofs.RunLaws.{run_is}
use Rattle.reading.proofs.Turns.{turn_once, turn_none, turns_stop_back}
use Rattle.reading.proofs.StopPlaces.{Stays, local_stops, follow_stops, mapped_stops, choice_stops, TurnsStop, repeat_stops}
use Rattle.reading.proofs.PlacedLaws.{skip_again}
use Rattle.reading.specs.White.{is_white, spaces, white}
use Rattle.reading.specs.Names.{lowered}
use Rattle.html_tokens.specs.Characters.{is_letter, is_name_byte}
use Rattle.html_tokens.specs.Written.{Attribute}
use Rattle.html_tokens.specs.Lexing.{name, is_quote, is_plain, in_value, value_piece, value_in, quoted, equals, value, attribute, name_ahead, next_attribute, attributes}
use Rattle.html_tokens.specs.Grammar.{IsAttribute}
use Rattle.html_tokens.proofs.MiscLaws.{NoWhite, NoNameByte, spaces_spells, name_spells}
use Rattle.html_tokens.proofs.ValueLaws.{NoEquals, value_piece_spells, piece_some, equals_spells, no_equals}
use Rattle.html_tokens.proofs.AttributeLaws.{EndsAttribute, attribute_from, attribute_of, IsNamed, name_named, attribute_named, letter_not_white, letter_not_equals, some_blank, goes, ahead, next_again, white_next, blank_some, next_makes, next_shortens, attributes_takes}
use Rattle.html_tokens.proofs.PlaceLaws.{spaces_local, name_local, reference_local, starts_sees}

-- ---- values

piece_local : (quote : ℕ) → IsLocal (value_piece quote)
unfolding value_piece
piece_local quote = choice_local (starts_sees 38) (mapped_local (λ c. encode_utf8 c) reference_local) (mapped_local (λ (byte : ℕ). byte ∷ []) (one_of_local (is_plain quote)))

in_value_sees : (quote : ℕ) → SeesNext (in_value quote)
in_value_sees quote = record { sees = λ rest other s. rw (s.3, s.4) refl }

abbrev push : List ℕ → List ℕ → List ℕ
push so_far piece = so_far ++ piece

piece_shortens : (quote : ℕ) (so_far later x y : List ℕ) → push_one push (value_piece quote) so_far x ≡ ok (later, y) → length y < length x
piece_shortens quote so_far later x y e =
    let a = bind_ok (value_piece quote x) (λ (v : List ℕ × List ℕ). give (so_far ++ v.0) v.1) (later, y) e in
    let same = same_answer {E = List ℕ} (so_far ++ a.0.0) later a.0.1 y a.2 in
    let t = (value_piece_spells quote).takes x a.0.0 a.0.1 a.1 in
    let some = piece_some quote t.0 a.0.0 t.1 in
    omega (arith, ap (λ (b : List ℕ). length b) t.2, ap (λ (b : List ℕ). length b) same.1, length-append t.0 a.0.1, some)

pieces_local : (quote : ℕ) → IsLocal (joined (in_value quote) (value_piece quote))
unfolding joined
pieces_local quote =
    repeat_local (λ (so_far bytes : List ℕ). in_value quote bytes) (push_one push (value_piece quote)) [] (record {
      sees = λ so_far. record { sees = λ rest other s. (in_value_sees quote).sees rest other s };
      local = λ so_far. mapped_local (push so_far) (piece_local quote);
      shorter = λ so_far later x y e. piece_shortens quote so_far later x y e;
    })

quoted_local : IsLocal quoted
unfolding quoted value_in
quoted_local =
    follow_local (one_of_local is_quote) (λ quote. follow_local (pieces_local quote) (λ v. mapped_local (λ (byte : ℕ). v) (one_of_local (λ (byte : ℕ). eqb byte quote))))

equals_local : IsLocal equals
unfolding equals
equals_local = follow_local spaces_local (λ u. strip_local (codes "="))

abbrev behind_equals : Reader (List ℕ)
behind_equals = follow spaces (λ u. quoted)

abbrev valued : Reader (List ℕ)
valued = follow equals (λ u. behind_equals)

behind_local : IsLocal behind_equals
behind_local = follow_local spaces_local (λ u. quoted_local)

valued_local : IsLocal valued
valued_local = follow_local equals_local (λ u. behind_local)

equals_again : (text rest other : List ℕ) → Stopped (equals (text ++ rest)) (λ (x : ⊤ × List ℕ). behind_equals x.1) rest → can_read equals (text ++ rest) ≡ true → can_read equals (text ++ other) ≡ true
equals_again text rest other (at_first e) is =
    let clash : true ≡ false = sym is ∙ ap (λ (r : Read ⊤). is_ok r) e in
    absurd cc
equals_again text rest other (at_second x e h) is =
    let one = equals_spells.takes (text ++ rest) x.0 x.1 e in
    let two = behind_local.stopped x.1 rest h in
    let parts : text ≡ one.0 ++ two.0 =
    append_cancel_right text (one.0 ++ two.0) rest (one.2 ∙ ap (λ (b : List ℕ). one.0 ++ b) two.1 ∙ sym (append_assoc one.0 two.0 rest)) in
    let again = equals_spells.again one.0 x.0 (two.0 ++ other) one.1 tt in
    ap (λ (t : List ℕ). can_read equals (t ++ other)) parts ∙ ap (can_read equals) (append_assoc one.0 two.0 other) ∙ ap (λ (r : Read ⊤). is_ok r) again

equals_says : (text rest other : List ℕ) (t : Bool) → can_read equals (text ++ rest) ≡ t → cond t (valued (text ++ rest)) (give [] (text ++ rest)) ≡ stop rest → can_read equals (text ++ other) ≡ t
equals_says text rest other true is e = equals_again text rest other (bind_err (equals (text ++ rest)) (λ (x : ⊤ × List ℕ). behind_equals x.1) rest e) is
equals_says text rest other false is e = absurd cc

pub value_stops : StopsInPlace value
unfolding value
value_stops =
    choice_stops (can_read equals) (local_stops valued_local) (local_stops (give_local []))
    (λ text rest other s e. equals_says text rest other (can_read equals (text ++ rest)) refl e)

-- ---- one attribute

local_stays : {A B : Type 0} {f : Reader A} (g : A → Reader B) → IsLocal f → Stays f g
local_stays g p = λ text two rest other x s e h. p.ok text (two ++ rest) (two ++ other) x (same_behind two rest other s) e

from_stops : (left : List ℕ) → StopsInPlace (attribute_from left)
from_stops left = follow_stops (local_stops name_local) (λ n. mapped_stops (λ v. attribute_of left n v) value_stops) (local_stays (λ n. mapped (λ v. attribute_of left n v) value) name_local)

-- where it stops hangs not on what is said of the place
view_stopped : {A B C : Type 0} (view : A → B) (other : A → C) (r : Read A) (left : List ℕ) → (r >>= λ (x : A × List ℕ). give (view x.0) x.1) ≡ stop left → (r >>= λ (x : A × List ℕ). give (other x.0) x.1) ≡ stop left
view_stopped view other (Ok x) left e = absurd cc
view_stopped {A = A} {B = B} {C = C} view other (Err l) left e =
    let same : l ≡ left = cc in
    ap (λ (b : List ℕ). stop {A = C} b) same

from_other_by : (one two bytes left : List ℕ) → Stopped (name bytes) (λ (x : List ℕ × List ℕ). mapped (λ v. attribute_of one x.0 v) value x.1) left → attribute_from two bytes ≡ stop left
from_other_by one two bytes left (at_first e) = ap (λ (r : Read (List ℕ)). r >>= λ (x : List ℕ × List ℕ). mapped (λ v. attribute_of two x.0 v) value x.1) e
from_other_by one two bytes left (at_second x e h) =
    ap (λ (r : Read (List ℕ)). r >>= λ (x : List ℕ × List ℕ). mapped (λ v. attribute_of two x.0 v) value x.1) e
    ∙ view_stopped (λ v. attribute_of one x.0 v) (λ v. attribute_of two x.0 v) (value x.1) left h

from_other : (one two bytes left : List ℕ) → attribute_from one bytes ≡ stop left → attribute_from two bytes ≡ stop left
from_other one two bytes left e = from_other_by one two bytes left (bind_err (name bytes) (λ (x : List ℕ × List ℕ). mapped (λ v. attribute_of one x.0 v) value x.1) left e)

attribute_stops : StopsInPlace attribute
unfolding attribute
attribute_stops = record {
  front = λ bytes a rest e. (from_stops bytes).front bytes a rest e;
  stopped = λ bytes left e. (from_stops bytes).stopped bytes left e;
  err = λ text rest other s e. from_other (text ++ rest) (text ++ other) (text ++ other) other ((from_stops (text ++ rest)).err text rest other s e);
}

next_stops : (so_far : List Attribute) → StopsInPlace (next_attribute so_far)
unfolding next_attribute
next_stops so_far = follow_stops (local_stops spaces_local) (λ u. mapped_stops (λ a. so_far ++ a ∷ []) attribute_stops) (local_stays (λ u. mapped (λ a. so_far ++ a ∷ []) attribute) spaces_local)

-- ---- turns without what was read

abbrev forget : {A : Type 0} → Read A → Read ⊤
forget (Ok x) = Ok (tt, x.1)
forget (Err left) = Err left

abbrev bare : ⊤ → Reader ⊤
bare u bytes = forget (next_attribute [] bytes)

abbrev bare_goes : ⊤ → List ℕ → Bool
bare_goes u bytes = can_read name_ahead bytes

forget_ok : {A : Type 0} (r : Read A) (u : ⊤) (rest : List ℕ) → forget r ≡ ok (u, rest) → (x : A) × (r ≡ Ok (x, rest))
forget_ok {A = A} (Ok x) u rest e =
    let same = same_answer {E = List ℕ} tt u x.1 rest e in
    (x.0, ap (λ (b : List ℕ). ok (x.0, b)) same.1)
forget_ok (Err left) u rest e = absurd cc

forget_err : {A : Type 0} (r : Read A) (left : List ℕ) → forget r ≡ stop left → r ≡ stop left
forget_err (Ok x) left e = absurd cc
forget_err {A = A} (Err l) left e =
    let same : l ≡ left = cc in
    ap (λ (b : List ℕ). stop {A = A} b) same

same_view : {A B C : Type 0} (view : A → B) (other : A → C) (r : Read A) → forget (r >>= λ (x : A × List ℕ). give (view x.0) x.1) ≡ forget (r >>= λ (x : A × List ℕ). give (other x.0) x.1)
same_view view other (Ok x) = refl
same_view view other (Err left) = refl

same_next : {A B C : Type 0} (view : A → B) (other : A → C) (f : Reader A) (r : Read ⊤) → forget (r >>= λ (u : ⊤ × List ℕ). mapped view f u.1) ≡ forget (r >>= λ (u : ⊤ × List ℕ). mapped other f u.1)
same_next view other f (Ok x) = same_view view other (f x.1)
same_next view other f (Err left) = refl

next_bare : (so_far : List Attribute) (bytes : List ℕ) → forget (next_attribute so_far bytes) ≡ forget (next_attribute [] bytes)
unfolding next_attribute
next_bare so_far bytes = same_next (λ a. so_far ++ a ∷ []) (λ a. [] ++ a ∷ []) attribute (spaces bytes)

bare_stops : (u : ⊤) → StopsInPlace (bare u)
bare_stops u = record {
  front = λ bytes x rest e.
      let f = forget_ok (next_attribute [] bytes) x rest e in
      (next_stops []).front bytes f.0 rest f.1;
  stopped = λ bytes left e. (next_stops []).stopped bytes left (forget_err (next_attribute [] bytes) left e);
  err = λ text rest other s e. ap forget ((next_stops []).err text rest other s (forget_err (next_attribute [] (text ++ rest)) rest e));
}

-- ---- an attribute stands in the text

-- white space and a letter
record IsLettered (text : List ℕ) : Type 0 where
  blank : List ℕ
  letter : ℕ
  more : List ℕ
  some : 0 < length blank
  pass : AllPass is_white blank
  is : is_letter letter ≡ true
  parts : text ≡ blank ++ letter ∷ more

lettered_goes : (text rest : List ℕ) → IsLettered text → can_read name_ahead (text ++ rest) ≡ true
lettered_goes text rest l =
    ap (λ (t : List ℕ). can_read name_ahead (t ++ rest)) l.parts ∙ ap (can_read name_ahead) (append_assoc l.blank (l.letter ∷ l.more) rest) ∙ ahead l.blank (l.more ++ rest) l.letter l.some l.pass l.is

lettered_ends : (text rest : List ℕ) → IsLettered text → EndsAttribute (text ++ rest)
lettered_ends text rest l =
    let whole : text ++ rest ≡ l.blank ++ l.letter ∷ (l.more ++ rest) = ap (λ (t : List ℕ). t ++ rest) l.parts ∙ append_assoc l.blank (l.letter ∷ l.more) rest in (
      subst (λ (s : List ℕ). NoNameByte s) (sym whole) (some_blank l.blank (l.letter ∷ (l.more ++ rest)) l.some l.pass),
      subst (λ (s : List ℕ). NoEquals s) (sym whole) (no_equals l.blank (l.more ++ rest) l.letter l.pass (letter_not_white l.letter l.is) (letter_not_equals l.letter l.is)),
    )

-- from what was read: white space, something named, and what stands behind it
lettered : (text rest blank here back : List ℕ) → can_read name_ahead (text ++ rest) ≡ true → AllPass is_white blank → IsNamed here → text ++ rest ≡ blank ++ (here ++ (back ++ rest)) → IsLettered text
lettered text rest blank here back g pass n whole =
    let begins : next_is is_white (blank ++ (here ++ (back ++ rest))) ≡ true = subst (λ (s : List ℕ). next_is is_white s ≡ true) whole (white_next (text ++ rest) g) in
    let parts : text ≡ blank ++ (here ++ back) =
    append_cancel_right text (blank ++ (here ++ back)) rest (whole ∙ ap (λ (s : List ℕ). blank ++ s) (sym (append_assoc here back rest)) ∙ sym (append_assoc blank (here ++ back) rest)) in
    record {
      blank = blank;
      letter = n.byte;
      more = n.more ++ back;
      some = blank_some blank here (back ++ rest) begins n;
      pass = pass;
      is = n.letter;
      parts = parts ∙ ap (λ (s : List ℕ). blank ++ (s ++ back)) n.is;
    }

-- ---- where a turn stops

pub skip_ends : (test : ℕ → Bool) (bytes rest : List ℕ) (u : ⊤) → skip test bytes ≡ ok (u, rest) → next_is test rest ≡ false
skip_ends test bytes rest u e =
    let here : mapped (λ (run : List ℕ). tt) (run_of test) bytes ≡ ok (u, rest) = sym (skip_as_run test bytes) ∙ e in
    let a = bind_ok (run_of test bytes) (λ (x : List ℕ × List ℕ). give tt x.1) (u, rest) here in
    let same = same_answer {E = List ℕ} tt u a.0.1 rest a.2 in
    ap (next_is test) (sym same.1) ∙ (run_is test bytes a.0.0 a.0.1 a.1).ends

letter_by : (byte : ℕ) (bytes : List ℕ) (t : Bool) → is_ok (cond t (ok (byte, bytes)) (stop {A = ℕ} (byte ∷ bytes))) ≡ true → t ≡ true
letter_by byte bytes true e = refl
letter_by byte bytes false e = absurd cc

letter_first : (bytes : List ℕ) → is_ok (one_of is_letter bytes) ≡ true → next_is is_letter bytes ≡ true
unfolding one_of
letter_first [] e = absurd cc
letter_first (byte ∷ bytes) e = letter_by byte bytes (is_letter byte) e

behind_blank : (byte : ℕ) (blank bytes : List ℕ) → is_white byte ≡ true → AllPass is_white blank → NoWhite bytes → can_read name_ahead (byte ∷ (blank ++ bytes)) ≡ is_ok (one_of is_letter bytes)
unfolding name_ahead white spaces
behind_blank byte blank bytes is pass none = rw (one_again is_white byte (blank ++ bytes) is, skip_again is_white blank bytes pass none) refl

-- a letter stands where the name is to come
pub letter_there : (blank bytes : List ℕ) → AllPass is_white blank → NoWhite bytes → can_read name_ahead (blank ++ bytes) ≡ true → next_is is_letter bytes ≡ true
letter_there [] bytes pass none g =
    let clash : true ≡ false = sym (white_next bytes g) ∙ none in
    absurd cc
letter_there (byte ∷ blank) bytes pass none g = letter_first bytes (sym (behind_blank byte blank bytes pass.0 pass.1 none) ∙ g)

name_goes : (byte : ℕ) (bytes left : List ℕ) (r : Read (List ℕ)) → ((l : List ℕ) → r ≡ stop l → ⊥) → (r >>= λ (x : List ℕ × List ℕ). give (lowered (byte ∷ x.0)) x.1) ≡ stop {A = List ℕ} left → ⊥
name_goes byte bytes left (Ok x) never e = absurd cc
name_goes byte bytes left (Err l) never e = never l refl

name_never_by : (byte : ℕ) (bytes left : List ℕ) (t : Bool) → t ≡ true
    → (cond t (ok (byte, bytes)) (stop (byte ∷ bytes)) >>= λ (x : ℕ × List ℕ). mapped (λ more. lowered (x.0 ∷ more)) (run_of is_name_byte) x.1) ≡ stop {A = List ℕ} left → ⊥
name_never_by byte bytes left true is e = name_goes byte bytes left (run_of is_name_byte bytes) (λ l. run_never is_name_byte bytes l) e
name_never_by byte bytes left false is e = absurd cc

pub name_never : (bytes left : List ℕ) → next_is is_letter bytes ≡ true → name bytes ≡ stop left → ⊥
unfolding name one_of
name_never [] left is e = absurd cc
name_never (byte ∷ bytes) left is e = name_never_by byte bytes left (is_letter byte) is e

pub view_back : {A B : Type 0} (view : A → B) (r : Read A) (left : List ℕ) → (r >>= λ (x : A × List ℕ). give (view x.0) x.1) ≡ stop left → r ≡ stop left
view_back view (Ok x) left e = absurd cc
view_back {A = A} view (Err l) left e =
    let same : l ≡ left = cc in
    ap (λ (b : List ℕ). stop {A = A} b) same

named_by : (text rest blank mid : List ℕ) → can_read name_ahead (text ++ rest) ≡ true → AllPass is_white blank → NoWhite mid → text ++ rest ≡ blank ++ mid
    → Stopped (name mid) (λ (x : List ℕ × List ℕ). mapped (λ v. attribute_of mid x.0 v) value x.1) rest → IsLettered text
named_by text rest blank mid g pass none whole (at_first e) =
    absurd (name_never mid rest (letter_there blank mid pass none (ap (can_read name_ahead) (sym whole) ∙ g)) e)
named_by text rest blank mid g pass none whole (at_second x e h) =
    let t = name_spells.takes mid x.0 x.1 e in
    let back = value_stops.stopped x.1 rest (view_back (λ v. attribute_of mid x.0 v) (value x.1) rest h) in
    lettered text rest blank t.0 back.0 g pass (name_named t.0 x.0 t.1) (whole ∙ ap (λ (b : List ℕ). blank ++ b) (t.2 ∙ ap (λ (b : List ℕ). t.0 ++ b) back.1))

stop_by : (text rest : List ℕ) → can_read name_ahead (text ++ rest) ≡ true → Stopped (spaces (text ++ rest)) (λ (u : ⊤ × List ℕ). mapped (λ a. [] ++ a ∷ []) attribute u.1) rest → IsLettered text
unfolding spaces attribute
stop_by text rest g (at_first e) = absurd (skip_never is_white (text ++ rest) rest e)
stop_by text rest g (at_second x e h) =
    let t = spaces_spells.takes (text ++ rest) x.0 x.1 e in
    let none = skip_ends is_white (text ++ rest) x.1 x.0 e in
    let stopped : attribute_from x.1 x.1 ≡ stop rest = view_back (λ a. [] ++ a ∷ []) (attribute x.1) rest h in
    named_by text rest t.0 x.1 g t.1 none t.2 (bind_err (name x.1) (λ (v : List ℕ × List ℕ). mapped (λ w. attribute_of x.1 v.0 w) value v.1) rest stopped)

-- where a turn stops, the letter of its name was read
stop_lettered : (text rest : List ℕ) → can_read name_ahead (text ++ rest) ≡ true → next_attribute [] (text ++ rest) ≡ stop rest → IsLettered text
unfolding next_attribute
stop_lettered text rest g e = stop_by text rest g (bind_err (spaces (text ++ rest)) (λ (u : ⊤ × List ℕ). mapped (λ a. [] ++ a ∷ []) attribute u.1) rest e)

bare_left : (fuel : ℕ) (u : ⊤) (bytes left : List ℕ) → turns bare_goes bare fuel u bytes ≡ stop left → (text : List ℕ) × (bytes ≡ text ++ left)
bare_left fuel u bytes left e =
    turns_stop_back bare_goes bare (λ (u : ⊤) (b : List ℕ). (text : List ℕ) × (b ≡ text ++ left)) left
    (λ u x g stopped. (bare_stops u).stopped x left stopped)
    (λ u later x y g turned there.
    let one = (bare_stops u).front x later y turned in
    (one.0 ++ there.0, one.1 ∙ ap (λ (b : List ℕ). one.0 ++ b) there.1 ∙ sym (append_assoc one.0 there.0 left)))
    fuel u bytes e

later_stopped : (fuel : ℕ) (two rest : List ℕ) → can_read name_ahead (two ++ rest) ≡ true → Stopped (bare tt (two ++ rest)) (λ (x : ⊤ × List ℕ). turns bare_goes bare fuel x.0 x.1) rest → IsLettered two
later_stopped fuel two rest g (at_first e) = stop_lettered two rest g (forget_err (next_attribute [] (two ++ rest)) rest e)
later_stopped fuel two rest g (at_second x e h) =
    let f = forget_ok (next_attribute [] (two ++ rest)) x.0 x.1 e in
    let n = next_makes [] f.0 (two ++ rest) x.1 f.1 in
    let back = bare_left fuel x.0 x.1 rest h in
    lettered two rest n.blank n.here back.0 g n.pass (attribute_named n.here (n.here ++ x.1) n.one n.is) (n.parts ∙ ap (λ (b : List ℕ). n.blank ++ (n.here ++ b)) back.1)

later_by : (fuel : ℕ) (two rest : List ℕ) (t : Bool) → can_read name_ahead (two ++ rest) ≡ t → turns bare_goes bare (suc fuel) tt (two ++ rest) ≡ stop rest → IsLettered two
later_by fuel two rest true g e =
    later_stopped fuel two rest g (bind_err (bare tt (two ++ rest)) (λ (x : ⊤ × List ℕ). turns bare_goes bare fuel x.0 x.1) rest (sym (turn_once bare_goes bare fuel tt (two ++ rest) g) ∙ e))
later_by fuel two rest false g e =
    let clash : ok (tt, two ++ rest) ≡ stop rest = sym (turn_none bare_goes bare fuel tt (two ++ rest) g) ∙ e in
    absurd cc

later_lettered : (fuel : ℕ) (two rest : List ℕ) → turns bare_goes bare fuel tt (two ++ rest) ≡ stop rest → IsLettered two
unfolding turns
later_lettered zero two rest e = absurd cc
later_lettered (suc fuel) two rest e = later_by fuel two rest (can_read name_ahead (two ++ rest)) refl e

-- the same attribute with other bytes behind it
pub moved : (here rest other : List ℕ) (a : Attribute) → IsAttribute here rest a → (b : Attribute) × IsAttribute here other b
moved here rest other a r = (attribute_of (here ++ other) r.0 r.4.0, (r.0, r.1, r.2, r.3, (r.4.0, r.4.1, refl), r.5))

bare_again : (later : ⊤) (text two rest other : List ℕ) (fuel : ℕ) → can_read name_ahead (text ++ (two ++ rest)) ≡ true → bare tt (text ++ (two ++ rest)) ≡ ok (later, two ++ rest) → turns bare_goes bare fuel later (two ++ rest) ≡ stop rest
    → (can_read name_ahead (text ++ (two ++ other)) ≡ true) × (bare tt (text ++ (two ++ other)) ≡ ok (later, two ++ other))
bare_again later text two rest other fuel g e h =
    let f = forget_ok (next_attribute [] (text ++ (two ++ rest))) later (two ++ rest) e in
    let n = next_makes [] f.0 (text ++ (two ++ rest)) (two ++ rest) f.1 in
    let l = lettered text (two ++ rest) n.blank n.here [] g n.pass (attribute_named n.here (n.here ++ (two ++ rest)) n.one n.is) n.parts in
    let parts : text ≡ n.blank ++ n.here = append_cancel_right text (n.blank ++ n.here) (two ++ rest) (n.parts ∙ sym (append_assoc n.blank n.here (two ++ rest))) in
    let m = moved n.here (two ++ rest) (two ++ other) n.one n.is in
    let read = next_again [] n.blank n.here (two ++ other) m.0 n.pass m.1 (lettered_ends two other (later_lettered fuel two rest h)) in
    let whole : text ++ (two ++ other) ≡ n.blank ++ (n.here ++ (two ++ other)) = ap (λ (t : List ℕ). t ++ (two ++ other)) parts ∙ append_assoc n.blank n.here (two ++ other) in
    (lettered_goes text (two ++ other) l, ap (bare tt) whole ∙ ap forget read)

bare_turns : TurnsStop bare_goes bare
bare_turns = record {
  stops = λ u. bare_stops u;
  shorter = λ u later x y e.
      let f = forget_ok (next_attribute [] x) later y e in
      next_shortens [] f.0 x y (next_makes [] f.0 x y f.1);
  here = λ u text rest other s g e. lettered_goes text other (stop_lettered text rest g (forget_err (next_attribute [] (text ++ rest)) rest e));
  again = λ u later text two rest other fuel s g e h. bare_again later text two rest other fuel g e h;
}

-- ---- all attributes

turn_bare : (fuel : ℕ) (r : Read (List Attribute)) (b : Read ⊤) → forget r ≡ b → ((so_far : List Attribute) (bytes : List ℕ) → forget (turns goes next_attribute fuel so_far bytes) ≡ forget (turns bare_goes bare fuel tt bytes))
    → forget (r >>= λ (x : List Attribute × List ℕ). turns goes next_attribute fuel x.0 x.1) ≡ forget (b >>= λ (x : ⊤ × List ℕ). turns bare_goes bare fuel x.0 x.1)
turn_bare fuel (Ok x) b e later = later x.0 x.1 ∙ ap (λ (r : Read ⊤). forget (r >>= λ (v : ⊤ × List ℕ). turns bare_goes bare fuel v.0 v.1)) e
turn_bare fuel (Err left) b e later = ap (λ (r : Read ⊤). forget (r >>= λ (v : ⊤ × List ℕ). turns bare_goes bare fuel v.0 v.1)) e

turns_by : (fuel : ℕ) (so_far : List Attribute) (bytes : List ℕ) (t : Bool) → can_read name_ahead bytes ≡ t
    → ((so_far : List Attribute) (bytes : List ℕ) → forget (turns goes next_attribute fuel so_far bytes) ≡ forget (turns bare_goes bare fuel tt bytes))
    → forget (turns goes next_attribute (suc fuel) so_far bytes) ≡ forget (turns bare_goes bare (suc fuel) tt bytes)
turns_by fuel so_far bytes true g later =
    ap forget (turn_once goes next_attribute fuel so_far bytes g)
    ∙ turn_bare fuel (next_attribute so_far bytes) (bare tt bytes) (next_bare so_far bytes) later
    ∙ sym (ap forget (turn_once bare_goes bare fuel tt bytes g))
turns_by fuel so_far bytes false g later =
    ap forget (turn_none goes next_attribute fuel so_far bytes g) ∙ sym (ap forget (turn_none bare_goes bare fuel tt bytes g))

turns_bare : (fuel : ℕ) (so_far : List Attribute) (bytes : List ℕ) → forget (turns goes next_attribute fuel so_far bytes) ≡ forget (turns bare_goes bare fuel tt bytes)
unfolding turns
turns_bare zero so_far bytes = refl
turns_bare (suc fuel) so_far bytes = turns_by fuel so_far bytes (can_read name_ahead bytes) refl (turns_bare fuel)

all_bare : (bytes : List ℕ) → forget (repeat goes next_attribute [] bytes) ≡ forget (repeat bare_goes bare tt bytes)
unfolding repeat
all_bare bytes = turns_bare (suc (length bytes)) [] bytes

pub last_never : (all : List Attribute) (bytes left : List ℕ) → mapped (λ u. all) spaces bytes ≡ stop left → ⊥
unfolding spaces
last_never all bytes left e = skip_never is_white bytes left (view_back (λ (u : ⊤). all) (spaces bytes) left e)

to_bare_by : (bytes left : List ℕ) → Stopped (repeat goes next_attribute [] bytes) (λ (v : List Attribute × List ℕ). mapped (λ u. v.0) spaces v.1) left → repeat bare_goes bare tt bytes ≡ stop left
to_bare_by bytes left (at_first e) = forget_err (repeat bare_goes bare tt bytes) left (sym (all_bare bytes) ∙ ap forget e)
to_bare_by bytes left (at_second v e h) = absurd (last_never v.0 v.1 left h)

to_bare : (bytes left : List ℕ) → attributes bytes ≡ stop left → repeat bare_goes bare tt bytes ≡ stop left
unfolding attributes
to_bare bytes left e = to_bare_by bytes left (bind_err (repeat goes next_attribute [] bytes) (λ (v : List Attribute × List ℕ). mapped (λ u. v.0) spaces v.1) left e)

from_bare : (bytes left : List ℕ) → repeat bare_goes bare tt bytes ≡ stop left → attributes bytes ≡ stop left
unfolding attributes
from_bare bytes left e =
    let first : repeat goes next_attribute [] bytes ≡ stop left = forget_err (repeat goes next_attribute [] bytes) left (all_bare bytes ∙ ap forget e) in
    ap (λ (r : Read (List Attribute)). r >>= λ (v : List Attribute × List ℕ). mapped (λ u. v.0) spaces v.1) first

pub attributes_stop : StopsInPlace attributes
attributes_stop =
    let p = repeat_stops bare_goes bare tt bare_turns in
    record {
      front = λ bytes list rest e.
          let t = attributes_takes bytes rest list e in
          (t.0, t.2);
      stopped = λ bytes left e. p.stopped bytes left (to_bare bytes left e);
      err = λ text rest other s e. from_bare (text ++ other) other (p.err text rest other s (to_bare (text ++ rest) rest e));
    }
