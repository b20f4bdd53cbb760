-- Where attributes stop, what was read is the front of attributes.
use Rattle.std.proofs.Common.{◌≡◌, ℕ, suc, ◌<◌, true, eqb, List, [], ◌∷◌, ◌++◌, length, codes, refl, sym, ap, subst, ◌∙◌, append_assoc, arith}
use Rattle.std.specs.Prelude.{⊤}
use Rattle.std.specs.Char.{encode_utf8}
use Rattle.std.proofs.lemmas.Bool.{eq-eqb}
use Rattle.std.proofs.lemmas.List.{append-nil}
use Rattle.reading.proofs.ClosingPlaces.{fixed_some}
use Rattle.reading.specs.Readers.{mapped, starts, one_of, next_is, can_read, repeat}
use Rattle.reading.specs.Grammars.{Grammar, AllPass, OneOf, Joined, Mapped, Seq}
use Rattle.reading.specs.Places.{GoesOnFrom, IsViable}
use Rattle.reading.specs.Placed.{GoesOnInPlace, IsViableInPlace}
use Rattle.reading.proofs.SpellLaws.{stop, one_of_spells, Stopped, at_first, at_second, bind_err}
use Rattle.reading.proofs.ManyLaws.{joined_spells}
use Rattle.reading.proofs.PlaceLaws.{strip_viable, one_of_viable, follow_viable, mapped_viable, choice_viable, give_viable}
use Rattle.reading.proofs.Turns.{turns_stop_back}
use Rattle.reading.proofs.TurnPlaces.{joined_viable}
use Rattle.reading.proofs.UpToPlaces.{skip_never}
use Rattle.reading.specs.White.{is_white, spaces}
use Rattle.html_tokens.specs.Written.{Attribute}
use Rattle.html_tokens.specs.Lexing.{name, is_quote, is_plain, in_value, value_piece, value_in, quoted, equals, value, attribute, name_ahead, next_attribute, attributes}
use Rattle.html_tokens.specs.Grammar.{IsName, IsValuePiece, IsQuoted, IsEquals, IsValue, IsAttribute, AreAttributes}
use Rattle.html_tokens.proofs.MiscLaws.{NoWhite, spaces_spells, name_spells}
use Rattle.html_tokens.proofs.ValueLaws.{value_piece_spells, value_test, equals_spells}
use Rattle.html_tokens.proofs.AttributeLaws.{attribute_from, attribute_of, name_named, attribute_named, goes, white_next, blank_some, IsNext, next_makes}
use Rattle.html_tokens.proofs.PlaceLaws.{seq_some, spaces_some, spaces_viable, reference_viable}
use Rattle.html_tokens.proofs.AttributePlaces.{skip_ends, letter_there, name_never, view_back, last_never, moved}

-- ---- values

plain_letter : (quote : ℕ) → is_quote quote ≡ true → is_plain quote 97 ≡ true
plain_letter quote is = grind arith

piece_viable : (quote : ℕ) → is_quote quote ≡ true → IsViable (value_piece quote) (IsValuePiece quote)
unfolding value_piece
piece_viable quote is =
    choice_viable (starts (codes "&")) (mapped_viable (λ c. encode_utf8 c) reference_viable) (mapped_viable (λ (byte : ℕ). byte ∷ []) (one_of_viable (is_plain quote) 97 (plain_letter quote is)))

abbrev Closed : (quote : ℕ) (v : List ℕ) → Grammar (List ℕ)
Closed quote v = Mapped (λ byte. v) (OneOf (λ (byte : ℕ). eqb byte quote))

closed_some : (quote : ℕ) (v : List ℕ) → GoesOnFrom (Closed quote v) []
closed_some quote v = record { more = quote ∷ []; value = v; is = (quote, (refl, eq-eqb quote quote refl), refl) }

in_viable : (quote : ℕ) → is_quote quote ≡ true → IsViable (value_in quote) (Seq (Joined (IsValuePiece quote)) (Closed quote))
unfolding value_in
in_viable quote is =
    follow_viable (joined_spells (value_piece_spells quote) (value_test quote is)) (joined_viable (in_value quote) (value_piece_spells quote) (piece_viable quote is))
    (λ v. mapped_viable (λ (byte : ℕ). v) (one_of_viable (λ (byte : ℕ). eqb byte quote) quote (eq-eqb quote quote refl))) (closed_some quote)

in_some : (quote : ℕ) → GoesOnFrom (Seq (Joined (IsValuePiece quote)) (Closed quote)) []
in_some quote = seq_some (record { more = []; value = []; is = ([], refl, refl) }) (closed_some quote)

quoted_by : (bytes left : List ℕ) → Stopped (one_of is_quote bytes) (λ (x : ℕ × List ℕ). value_in x.0 x.1) left → (text : List ℕ) × GoesOnFrom IsQuoted text × (bytes ≡ text ++ left)
quoted_by bytes left (at_first e) =
    let v = (one_of_viable is_quote 34 refl).viable bytes left e in
    let s = in_some v.1.value in
    (v.0, record { more = v.1.more ++ s.more; value = s.value; is = (v.1.value, v.0 ++ v.1.more, s.more, v.1.is, s.is, sym (append_assoc v.0 v.1.more s.more)) }, v.2)
quoted_by bytes left (at_second x e h) =
    let t = (one_of_spells is_quote).takes bytes x.0 x.1 e in
    let v = (in_viable x.0 t.1.1).viable x.1 left h in (
      t.0 ++ v.0,
      record { more = v.1.more; value = v.1.value; is = (x.0, t.0, v.0 ++ v.1.more, t.1, v.1.is, append_assoc t.0 v.0 v.1.more) },
      t.2 ∙ ap (λ (b : List ℕ). t.0 ++ b) v.2 ∙ sym (append_assoc t.0 v.0 left),
    )

quoted_viable : IsViable quoted IsQuoted
unfolding quoted
quoted_viable = record { viable = λ bytes left e. quoted_by bytes left (bind_err (one_of is_quote bytes) (λ (x : ℕ × List ℕ). value_in x.0 x.1) left e) }

quoted_some : GoesOnFrom IsQuoted []
quoted_some =
    let s = in_some 34 in
    record { more = 34 ∷ s.more; value = s.value; is = (34, 34 ∷ [], s.more, (refl, refl), s.is, refl) }

equals_viable : IsViable equals IsEquals
unfolding equals
equals_viable = follow_viable spaces_spells spaces_viable (λ u. strip_viable (codes "=")) (λ u. fixed_some (codes "="))

value_viable : IsViable value IsValue
unfolding value
value_viable =
    choice_viable (can_read equals)
    (follow_viable equals_spells equals_viable (λ u. follow_viable spaces_spells spaces_viable (λ v. quoted_viable) (λ v. quoted_some)) (λ u. seq_some spaces_some (λ v. quoted_some)))
    (give_viable [])

-- ---- an attribute that isn't whole

record IsStopping (bytes left : List ℕ) : Type 0 where
  blank : List ℕ
  named : List ℕ
  n : List ℕ
  mid : List ℕ
  some : 0 < length blank
  pass : AllPass is_white blank
  is : IsName named n
  stops : value mid ≡ stop left
  parts : bytes ≡ blank ++ (named ++ mid)

named_stops : (bytes left blank mid : List ℕ) → goes [] bytes ≡ true → AllPass is_white blank → NoWhite mid → bytes ≡ blank ++ mid → Stopped (name mid) (λ (x : List ℕ × List ℕ). mapped (λ v. attribute_of mid x.0 v) value x.1) left → IsStopping bytes left
named_stops bytes left blank mid g pass none whole (at_first e) = absurd (name_never mid left (letter_there blank mid pass none (ap (can_read name_ahead) (sym whole) ∙ g)) e)
named_stops bytes left blank mid g pass none whole (at_second x e h) =
    let t = name_spells.takes mid x.0 x.1 e in
    let parts : bytes ≡ blank ++ (t.0 ++ x.1) = whole ∙ ap (λ (b : List ℕ). blank ++ b) t.2 in
    let begins : next_is is_white (blank ++ (t.0 ++ x.1)) ≡ true = subst (λ (s : List ℕ). next_is is_white s ≡ true) parts (white_next bytes g) in
    record {
      blank = blank;
      named = t.0;
      n = x.0;
      mid = x.1;
      some = blank_some blank t.0 x.1 begins (name_named t.0 x.0 t.1);
      pass = pass;
      is = t.1;
      stops = view_back (λ v. attribute_of mid x.0 v) (value x.1) left h;
      parts = parts;
    }

stops_by : (so_far : List Attribute) (bytes left : List ℕ) → goes [] bytes ≡ true → Stopped (spaces bytes) (λ (u : ⊤ × List ℕ). mapped (λ a. so_far ++ a ∷ []) attribute u.1) left → IsStopping bytes left
unfolding spaces attribute
stops_by so_far bytes left g (at_first e) = absurd (skip_never is_white bytes left e)
stops_by so_far bytes left g (at_second x e h) =
    let t = spaces_spells.takes bytes x.0 x.1 e in
    let stopped : attribute_from x.1 x.1 ≡ stop left = view_back (λ a. so_far ++ a ∷ []) (attribute x.1) left h in
    named_stops bytes left t.0 x.1 g t.1 (skip_ends is_white bytes x.1 x.0 e) t.2 (bind_err (name x.1) (λ (v : List ℕ × List ℕ). mapped (λ w. attribute_of x.1 v.0 w) value v.1) left stopped)

next_stops : (so_far : List Attribute) (bytes left : List ℕ) → goes [] bytes ≡ true → next_attribute so_far bytes ≡ stop left → IsStopping bytes left
unfolding next_attribute
next_stops so_far bytes left g e = stops_by so_far bytes left g (bind_err (spaces bytes) (λ (u : ⊤ × List ℕ). mapped (λ a. so_far ++ a ∷ []) attribute u.1) left e)

-- ---- a front of attributes

record IsFront (left bytes : List ℕ) : Type 0 where
  text : List ℕ
  goes_on : GoesOnInPlace AreAttributes text
  parts : bytes ≡ text ++ left

front_here : (bytes left : List ℕ) → IsStopping bytes left → IsFront left bytes
front_here bytes left s =
    let v = value_viable.viable s.mid left s.stops in
    let here = s.named ++ (v.0 ++ v.1.more) in
    record {
      text = s.blank ++ (s.named ++ v.0);
      goes_on = record {
        more = v.1.more;
        is = λ behind.
            let a = attribute_of (here ++ behind) s.n v.1.value in
            let one : IsAttribute here behind a = (s.n, s.named, v.0 ++ v.1.more, s.is, (v.1.value, v.1.is, refl), refl) in
            let whole : (s.blank ++ (s.named ++ v.0)) ++ v.1.more ≡ s.blank ++ (here ++ []) =
            append_assoc s.blank (s.named ++ v.0) v.1.more ∙ ap (λ (b : List ℕ). s.blank ++ b) (append_assoc s.named v.0 v.1.more ∙ sym (append-nil here)) in
            (a ∷ [], (s.blank, here, [], s.some, s.pass, one, tt, whole));
      };
      parts = s.parts ∙ ap (λ (b : List ℕ). s.blank ++ (s.named ++ b)) v.2 ∙ ap (λ (b : List ℕ). s.blank ++ b) (sym (append_assoc s.named v.0 left)) ∙ sym (append_assoc s.blank (s.named ++ v.0) left);
    }

front_back : (so_far later : List Attribute) (x y left : List ℕ) → goes [] x ≡ true → IsNext so_far later x y → IsFront left y → IsFront left x
front_back so_far later x y left g n f =
    let named = attribute_named n.here (n.here ++ y) n.one n.is in
    let begins : next_is is_white (n.blank ++ (n.here ++ y)) ≡ true = subst (λ (s : List ℕ). next_is is_white s ≡ true) n.parts (white_next x g) in
    record {
      text = n.blank ++ (n.here ++ f.text);
      goes_on = record {
        more = f.goes_on.more;
        is = λ behind.
            let r = f.goes_on.is behind in
            let back = f.text ++ f.goes_on.more in
            let m = moved n.here y (back ++ behind) n.one n.is in
            let whole : (n.blank ++ (n.here ++ f.text)) ++ f.goes_on.more ≡ n.blank ++ (n.here ++ back) =
            append_assoc n.blank (n.here ++ f.text) f.goes_on.more ∙ ap (λ (b : List ℕ). n.blank ++ b) (append_assoc n.here f.text f.goes_on.more) in
            (m.0 ∷ r.0, (n.blank, n.here, back, blank_some n.blank n.here y begins named, n.pass, m.1, r.1, whole));
      };
      parts = n.parts ∙ ap (λ (b : List ℕ). n.blank ++ (n.here ++ b)) f.parts ∙ ap (λ (b : List ℕ). n.blank ++ b) (sym (append_assoc n.here f.text left)) ∙ sym (append_assoc n.blank (n.here ++ f.text) left);
    }

front_by : (bytes left : List ℕ) → Stopped (repeat goes next_attribute [] bytes) (λ (v : List Attribute × List ℕ). mapped (λ u. v.0) spaces v.1) left → IsFront left bytes
unfolding repeat
front_by bytes left (at_first e) =
    turns_stop_back goes next_attribute (λ (s : List Attribute) (x : List ℕ). IsFront left x) left
    (λ s x g stopped. front_here x left (next_stops s x left g stopped))
    (λ s later x y g turned f. front_back s later x y left g (next_makes s later x y turned) f)
    (suc (length bytes)) [] bytes e
front_by bytes left (at_second v e h) = absurd (last_never v.0 v.1 left h)

pub attributes_viable : IsViableInPlace attributes AreAttributes
unfolding attributes
attributes_viable = record {
  viable = λ bytes left e.
      let f = front_by bytes left (bind_err (repeat goes next_attribute [] bytes) (λ (v : List Attribute × List ℕ). mapped (λ u. v.0) spaces v.1) left e) in
      (f.text, f.goes_on, f.parts);
}
